-- The net of one unit is typed for a tree whose root is a `seq` node.
use Rattle.std.proofs.Common.{◌≡◌, ℕ, ◌<◌, ◌≤◌, zero, suc, length, Some, slice_get, refl, sym, subst, arith}
use Rattle.p3l_skel.specs.declared.tree.Form.TheVariants.{Seq}
use Rattle.p3l_skel.specs.declared.tree.Tree.{Tree}
use Rattle.p3l_skel.specs.Tree.{node_at}
use Rattle.p3l_firing.specs.declared.process.Proc.{Proc}
use Rattle.p3l_firing.specs.declared.process.ProcKind.TheVariants.{Source, Sink}
use Rattle.p3l_firing.specs.Token.{most_tags}
use Rattle.p3l_firing.specs.Process.{kind_at}
use Rattle.p3l_firing.specs.Widths.{Widths}
use Rattle.p3l_firing.specs.Typed.{FitsKind, FitsChannel, IsTyped}
use Rattle.p3l_skel.specs.Lawful.{IsLawfulTree}
use Rattle.p3l_firing.specs.kinds.Run.{Takes}
use Rattle.p3l_firing.specs.Single.{unit_net, the_source, the_sink, the_run}

module _ (tree : Tree) (cap : ℕ) (room : 0 < cap) (lawful : IsLawfulTree tree) (some : 0 < length tree.nodes) (form : (node_at tree 0).form ≡ Seq) where
  -- channel 0 carries the root's in words, and channel 1 its out words
  words : ℕ → ℕ
  words zero = (node_at tree 0).ins
  words (suc c) = (node_at tree 0).outs

  widths : Widths
  widths = record { words = words; tags = λ _. 0 }

  channel : (c : ℕ) → c < 2 → FitsChannel (unit_net cap) widths c
  channel zero h = record { room = room; credits = omega arith; written = refl; read = refl; bare = λ none. absurd (omega arith) }
  channel (suc zero) h = record { room = room; credits = omega arith; written = refl; read = refl; bare = λ none. absurd (omega arith) }
  channel (suc (suc c)) h = absurd (omega arith)

  process : (p : ℕ) (q : Proc) → slice_get (unit_net cap).procs p ≡ Some q → FitsKind q.kind tree widths q
  unfolding widths words
  process zero q h = let e : the_source ≡ q = cc in subst (λ x. FitsKind x.kind tree widths x) e (record { node = refl; arg = refl; ins = refl; outs = refl; gives = record { words = refl; tags = refl } })
  process (suc zero) q h = let e : the_sink ≡ q = cc in subst (λ x. FitsKind x.kind tree widths x) e (record { node = refl; arg = refl; ins = refl; outs = refl; takes = record { words = refl; tags = refl } })
  process (suc (suc zero)) q h = let e : the_run ≡ q = cc in subst (λ x. FitsKind x.kind tree widths x) e (record { node = some; ins = refl; outs = refl; takes = subst (λ f. Takes f (node_at tree 0).ins 0 (node_at tree 0).ins) (sym form) (refl, refl); gives = record { words = refl; tags = refl } })
  process (suc (suc (suc p))) q h = cc

  one_source : (p : ℕ) → kind_at (unit_net cap) p ≡ Some Source → p ≡ 0
  one_source zero h = refl
  one_source (suc zero) h = cc
  one_source (suc (suc zero)) h = cc
  one_source (suc (suc (suc p))) h = cc

  one_sink : (p : ℕ) → kind_at (unit_net cap) p ≡ Some Sink → p ≡ 1
  one_sink zero h = cc
  one_sink (suc zero) h = refl
  one_sink (suc (suc zero)) h = cc
  one_sink (suc (suc (suc p))) h = cc

  no_tags : (c : ℕ) → widths.tags c ≤ most_tags
  unfolding widths
  no_tags c = omega arith

  pub unit_net_typed : IsTyped tree (unit_net cap)
  unit_net_typed = record {
    lawful = lawful;
    few_procs = omega arith;
    few_chans = omega arith;
    source = refl;
    sink = refl;
    one_source = one_source;
    one_sink = one_sink;
    reads = (omega arith, (omega arith, tt));
    writes = (omega arith, (omega arith, tt));
    widths = widths;
    few_tags = no_tags;
    channels = λ c h. channel c h;
    processes = process;
  }
