-- The net of a lawful tree is in its ranges.
use Rattle.std.proofs.Common.{◌≡◌, ℕ, suc, ◌<◌, ◌≤◌, ◌^◌, true, List, [], ◌∷◌, ◌++◌, length, Some, refl, ap, arith}
use Rattle.std.specs.Prelude.{slice_get}
use Rattle.std.specs.List.{AllByRecursion, list_all}
use Rattle.std.proofs.lemmas.Bool.{leb-true}
use Rattle.p3l_skel.specs.declared.tree.Tree.{Tree}
use Rattle.p3l_skel.specs.Tree.{node_at}
use Rattle.p3l_firing.specs.declared.net.Net.{Net}
use Rattle.p3l_firing.specs.declared.process.Proc.{Proc}
use Rattle.p3l_firing.specs.declared.process.ProcKind.{ProcKind}
use Rattle.p3l_firing.specs.declared.process.ProcKind.TheVariants.{Source, Sink, Run, Emit, Collect, Scatter, Gather, Split, FoldGather, Join, Head, Tail}
use Rattle.p3l_firing.specs.Process.{all_ins, all_outs}
use Rattle.p3l_firing.specs.Typed.{FitsKind, IsTyped}
use Rattle.p3l_firing.specs.Widths.{Widths}
use Rattle.p3l_format.specs.Format.{as_form, pair, coded}
use Rattle.p3l_format.specs.Numbers.{u8_format, u32_format, u32_below, one_of}
use Rattle.p3l_format.specs.laws.Parts.{both_true, first_true, second_true}
use Rattle.p3l_tree_format.specs.Tree.{indices_format}
use Rattle.p3l_image.specs.Net.{chan_format, chans_format, net_format, proc_format, proc_kind_format, procs_format}
use Rattle.p3l_load.proofs.Ranges.{fits_below, list_fits, u32_fits}
use Rattle.p3l_load.proofs.Below.{count_range}
use Rattle.p3l_load.proofs.Pieces.{IsFine, is_small}

-- the node of a process is there, and it has few channels
record IsWell (tree : Tree) (q : Proc) : Type 0 where
  node : q.node < length tree.nodes
  ins : length q.ins ≤ 512
  outs : length q.outs ≤ 512

well : (kind : ProcKind) (tree : Tree) (widths : Widths) (q : Proc) → 0 < length tree.nodes → FitsKind kind tree widths q → IsWell tree q
well Source tree widths q some f = record { node = omega (arith, some, f.node); ins = omega (arith, ap length f.ins); outs = omega (arith, ap length f.outs) }
well Sink tree widths q some f = record { node = omega (arith, some, f.node); ins = omega (arith, ap length f.ins); outs = omega (arith, ap length f.outs) }
well Run tree widths q some f = record { node = f.node; ins = omega (arith, ap length f.ins); outs = omega (arith, ap length f.outs) }
well Emit tree widths q some f = record { node = f.node; ins = omega (arith, ap length f.ins); outs = (count_range (node_at tree q.node).form (length q.outs) f.count.1).1 }
well Collect tree widths q some f = record { node = f.node; ins = (count_range (node_at tree q.node).form (length q.ins) f.count.1).1; outs = omega (arith, ap length f.outs) }
well Scatter tree widths q some f = record { node = f.node; ins = omega (arith, ap length f.ins); outs = (count_range (node_at tree q.node).form (length q.outs) f.count.1).1 }
well Gather tree widths q some f = record { node = f.node; ins = (count_range (node_at tree q.node).form (length q.ins) f.count.1).1; outs = omega (arith, ap length f.outs) }
well Split tree widths q some f = record { node = f.node; ins = omega (arith, ap length f.ins); outs = (count_range (node_at tree q.node).form (length q.outs) f.count.1).1 }
well FoldGather tree widths q some f = record { node = f.node; ins = (count_range (node_at tree q.node).form (length q.ins) f.count.1).1; outs = omega (arith, ap length f.outs) }
well Join tree widths q some f = record { node = f.node; ins = omega (arith, ap length f.ins); outs = omega (arith, ap length f.outs) }
well Head tree widths q some f = record { node = f.node; ins = omega (arith, ap length f.ins); outs = omega (arith, ap length f.outs) }
well Tail tree widths q some f = record { node = f.node; ins = omega (arith, ap length f.ins); outs = omega (arith, ap length f.outs) }

kind_fits : (kind : ProcKind) → proc_kind_format.fits kind ≡ true
unfolding one_of coded u8_format
kind_fits Source = refl
kind_fits _ = refl

module _ (m : ℕ) (small : m < 2 ^ 32) where
  abbrev IsBelow : ℕ → Type 0
  IsBelow c = c < m

  split_all : (xs ys : List ℕ) → AllByRecursion IsBelow (xs ++ ys) → AllByRecursion IsBelow xs × AllByRecursion IsBelow ys
  split_all [] ys all = (tt, all)
  split_all (x ∷ xs) ys all = let rest = split_all xs ys all.1 in ((all.0, rest.0), rest.1)

  all_below : (cs : List ℕ) → AllByRecursion IsBelow cs → list_all (u32_below m).fits cs ≡ true
  all_below [] all = refl
  all_below (c ∷ cs) all =
      both_true ((u32_below m).fits c) (list_all (u32_below m).fits cs) (fits_below m c all.0 (omega (arith, all.0, small))) (all_below cs all.1)

  indices_fit : (cs : List ℕ) → length cs ≤ 512 → AllByRecursion IsBelow cs → (indices_format m).fits cs ≡ true
  indices_fit cs few all = list_fits 0 (u32_below m) cs (omega arith) (omega (arith, few)) (all_below cs all)

  module _ (tree : Tree) (few : length tree.nodes ≤ 128) where
    proc_fits : (q : Proc) → IsWell tree q → AllByRecursion IsBelow q.ins → AllByRecursion IsBelow q.outs → is_small q ≡ true
        → (proc_format (length tree.nodes) m).fits q ≡ true
    unfolding proc_format as_form pair
    proc_fits q is ins outs low =
        let arg = leb-true q.arg 65536 low in
        both_true (proc_kind_format.fits q.kind) _ (kind_fits q.kind)
        (both_true ((u32_below (length tree.nodes)).fits q.node) _ (fits_below (length tree.nodes) q.node is.node (omega (arith, is.node, few)))
        (both_true (u32_format.fits q.arg) _ (u32_fits q.arg (omega (arith, arg)))
        (both_true ((indices_format m).fits q.ins) ((indices_format m).fits q.outs) (indices_fit q.ins is.ins ins) (indices_fit q.outs is.outs outs))))

    procs_fit : (ps : List Proc) → ((p : ℕ) (q : Proc) → slice_get ps p ≡ Some q → IsWell tree q)
        → AllByRecursion IsBelow (all_ins ps) → AllByRecursion IsBelow (all_outs ps) → list_all is_small ps ≡ true
        → list_all (proc_format (length tree.nodes) m).fits ps ≡ true
    procs_fit [] each ins outs low = refl
    procs_fit (q ∷ ps) each ins outs low =
        let reads = split_all q.ins (all_ins ps) ins in
        let writes = split_all q.outs (all_outs ps) outs in
        both_true ((proc_format (length tree.nodes) m).fits q) (list_all (proc_format (length tree.nodes) m).fits ps)
        (proc_fits q (each 0 q refl) reads.0 writes.0 (first_true (is_small q) (list_all is_small ps) low))
        (procs_fit ps (λ p r at. each (suc p) r at) reads.1 writes.1 (second_true (is_small q) (list_all is_small ps) low))

pub net_fits : (tree : Tree) (net : Net) → 0 < length tree.nodes → IsTyped tree net → IsFine net.procs net.chans → (net_format (length tree.nodes)).fits net ≡ true
unfolding net_format procs_format as_form pair
net_fits tree net some typed fine =
    let m = length net.chans in
    let small : m < 2 ^ 32 = omega (arith, typed.few_chans) in
    both_true (chans_format.fits net.chans) ((procs_format (length tree.nodes) m).fits net.procs)
    (list_fits 0 chan_format net.chans (omega arith) small fine.fits)
    (list_fits 0 (proc_format (length tree.nodes) m) net.procs (omega arith) (omega (arith, typed.few_procs))
    (procs_fit m small tree typed.lawful.few_nodes net.procs (λ p q at. well q.kind tree typed.widths q some (typed.processes p q at)) typed.reads typed.writes fine.small))
