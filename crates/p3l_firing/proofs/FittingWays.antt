-- In whichever way a process of a typed net fires, the words, the tags and the room of all tokens are kept.
use Rattle.std.proofs.Common.{◌≡◌, inl, inr, ℕ, Option, Some, None, slice_get, slice_index, refl, sym, subst}
use Rattle.std.proofs.lemmas.Bool.{and_from}
use Rattle.p3l_skel.specs.declared.tree.Tree.{Tree}
use Rattle.p3l_skel.specs.Tree.{GivesOuts}
use Rattle.p3l_firing.specs.declared.process.Proc.{Proc}
use Rattle.p3l_firing.specs.declared.process.ProcKind.{ProcKind}
use Rattle.p3l_firing.specs.declared.process.ProcKind.TheVariants as kinds
use Rattle.p3l_firing.specs.declared.net.Net.{Net}
use Rattle.p3l_firing.specs.Nodes.{Leaf}
use Rattle.p3l_firing.specs.State.{LocalState, State}
use Rattle.p3l_firing.specs.Typed.{FitsKind, FitsOwn, IsTyped, IsFitting}
use Rattle.p3l_firing.specs.Ways.{eyes_of, row_ways, IsStrict, MayFire}
use Rattle.p3l_firing.specs.kinds.Tail.{can_release}
use Rattle.p3l_firing.proofs.Places.{has-nth}
use Rattle.p3l_firing.proofs.WaysLaw.{strict_row, strict_source, strict_sink, strict_run, strict_scatter, strict_gather, strict_split, strict_fold_gather, strict_join, ways_at, no_way}
use Rattle.p3l_firing.proofs.row.{fits_row, tail_apart}
use Rattle.p3l_firing.proofs.row.Emit as emit
use Rattle.p3l_firing.proofs.row.Collect as collect
use Rattle.p3l_firing.proofs.row.Head as head
use Rattle.p3l_firing.proofs.row.Tail as tail

module _ (tree : Tree) (leaf : Leaf) (gives : GivesOuts tree leaf) (net : Net) (typed : IsTyped tree net) (s : State) (fit : IsFitting tree net typed.widths s) where
  strict_fits : (p : ℕ) (o : LocalState) (q : Proc) (k : ProcKind) (t : State) → slice_get net.procs p ≡ Some q → q.kind ≡ k →
      FitsKind k tree typed.widths q → FitsOwn k tree typed.widths q o → IsStrict k →
      row_ways k tree leaf (eyes_of net s) s p o q t → IsFitting tree net typed.widths t
  strict_fits p o q k t stands kind fits keeps strict w =
      let r = strict_row net tree leaf s t p o q k strict w in
      subst (IsFitting tree net typed.widths) (sym r.1) (fits_row tree leaf gives net typed s fit p o q k stands kind fits keeps r.0)

  ways_fit : (p : ℕ) (o : LocalState) (q : Proc) (k : ProcKind) (t : State) → slice_get net.procs p ≡ Some q → q.kind ≡ k →
      FitsKind k tree typed.widths q → FitsOwn k tree typed.widths q o → row_ways k tree leaf (eyes_of net s) s p o q t →
      IsFitting tree net typed.widths t
  unfolding row_ways can_release
  ways_fit p o q kinds.Source t stands kind fits keeps w = strict_fits p o q kinds.Source t stands kind fits keeps strict_source w
  ways_fit p o q kinds.Sink t stands kind fits keeps w = strict_fits p o q kinds.Sink t stands kind fits keeps strict_sink w
  ways_fit p o q kinds.Run t stands kind fits keeps w = strict_fits p o q kinds.Run t stands kind fits keeps strict_run w
  ways_fit p o q kinds.Emit t stands kind fits keeps w =
      subst (IsFitting tree net typed.widths) (sym w.is)
      (emit.sent_fits s p o q fit stands kind fits (slice_index q.outs w.at) w.full (has-nth q.outs w.at w.below) w.room keeps)
  ways_fit p o q kinds.Collect t stands kind fits keeps w =
      subst (IsFitting tree net typed.widths) (sym w.is)
      (collect.taken_fits s p o q fit stands kind fits (slice_index q.ins w.at) (has-nth q.ins w.at w.below) w.full w.room keeps)
  ways_fit p o q kinds.Scatter t stands kind fits keeps w = strict_fits p o q kinds.Scatter t stands kind fits keeps strict_scatter w
  ways_fit p o q kinds.Gather t stands kind fits keeps w = strict_fits p o q kinds.Gather t stands kind fits keeps strict_gather w
  ways_fit p o q kinds.Split t stands kind fits keeps w = strict_fits p o q kinds.Split t stands kind fits keeps strict_split w
  ways_fit p o q kinds.FoldGather t stands kind fits keeps w =
      strict_fits p o q kinds.FoldGather t stands kind fits keeps strict_fold_gather w
  ways_fit p o q kinds.Join t stands kind fits keeps w = strict_fits p o q kinds.Join t stands kind fits keeps strict_join w
  ways_fit p o q kinds.Head t stands kind fits keeps (inl w) =
      subst (IsFitting tree net typed.widths) (sym w.is) (head.round_fits s p o q fit stands kind fits w.room w.back)
  ways_fit p o q kinds.Head t stands kind fits keeps (inr w) =
      subst (IsFitting tree net typed.widths) (sym w.is) (head.in_fits s p o q fit stands kind fits w.room w.full keeps)
  ways_fit p o q kinds.Tail t stands kind fits keeps (inl w) =
      subst (IsFitting tree net typed.widths) (sym w.is)
      (tail.released_fits leaf s p o q fit stands kind fits
      (tail_apart tree leaf gives net typed p q stands fits) (and_from _ _ w.holds (and_from _ _ w.room w.credits)) keeps)
  ways_fit p o q kinds.Tail t stands kind fits keeps (inr w) =
      subst (IsFitting tree net typed.widths) (sym w.is)
      (tail.taken_fits leaf s p o q fit stands kind fits w.full w.room keeps)

  ways_fit_at : (p : ℕ) (t : State) (x : Option Proc) → slice_get net.procs p ≡ x → MayFire tree leaf net s p t →
      IsFitting tree net typed.widths t
  ways_fit_at p t None e way = absurd (no_way tree leaf net (eyes_of net s) s p t e way)
  ways_fit_at p t (Some q) e way =
      ways_fit p (s.own p) q q.kind t e refl (typed.processes p q e) (fit.owns p q e) (ways_at tree leaf net s p t q e (eyes_of net s) way)

  -- a firing keeps that a state fits its net, in whichever way it goes
  pub fitting_way : (p : ℕ) (t : State) → MayFire tree leaf net s p t → IsFitting tree net typed.widths t
  fitting_way p t way = ways_fit_at p t (slice_get net.procs p) refl way
