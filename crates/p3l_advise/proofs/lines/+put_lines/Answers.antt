use Rattle.std.proofs.Common.{◌≡◌, ℕ, List, ◌++◌, ◌-◌, ◌<◌, refl, ap, ◌∙◌, arith, append_assoc}
use Rattle.std.specs.Prelude.{string_bytes}
use Rattle.std.specs.List.{flat_map}
use Rattle.p3l_skel.specs.Counts.{outside_parts}
use Rattle.p3l_skel.specs.Tree.{node_at}
use Rattle.p3l_alloc.proofs.Outside.{first_outside, outside_inside, part_outside}
use Rattle.p3l_advise.specs.Lines.{lines_from, node_line}
use Rattle.p3l_advise.proofs.Nodes.{lines_from-step, lines_from-zero}
use Rattle.p3l_advise.proofs.lines.+put_lines.Goals as goal

pub returns-in_default : goal.returns-in_default
returns-in_default t c =
    let inside = outside_inside c.args.tree.now c.args.number c.requires.tree (c.requires.outside c.args.number (first_outside c.args.tree.now c.args.levels c.args.number)) in
    absurd (omega (arith, inside, c.in_default.ensures.past))

pub put_line-requires-clause-outside : goal.put_line-requires-clause-outside
put_line-requires-clause-outside t c = c.requires.outside c.args.number (first_outside c.args.tree.now c.args.levels c.args.number)

pub returns-then-levels-eq0 : goal.returns-then-levels-eq0
returns-then-levels-eq0 t c =
    let tree = c.args.tree.now in
    let deep : c.saturating_sub-depth.result ≡ 6 - c.args.levels = c.saturating_sub-depth.ensures in
    let root : c.saturating_sub-depth.result ≡ 6 = omega (arith, deep, c.if-levels-eq0.true) in
    rw (c.if-levels-eq0.true, lines_from-zero)
    (c.in_ok-put_line.ensures ∙ ap (λ (d : ℕ). string_bytes c.args.text.now ++ node_line tree c.args.costs.now c.args.counts.now.list d c.args.number) root)

pub loop-part-init : goal.loop-part-init
loop-part-init t c =
    let tree = c.args.tree.now in
    let some : 0 < c.args.levels = omega (arith, c.if-levels-eq0.false) in
    let below : ℕ → List ℕ = lines_from tree c.args.costs.now c.args.counts.now.list (c.args.levels - 1) in
    let parts = c.outside_parts-part-items.result.now in
    let line : List ℕ = node_line tree c.args.costs.now c.args.counts.now.list c.saturating_sub-depth.result c.args.number in
    let split : lines_from tree c.args.costs.now c.args.counts.now.list c.args.levels c.args.number ≡ line ++ flat_map below parts =
    rw (lines_from-step tree c.args.costs.now c.args.counts.now.list c.args.levels c.args.number some, ← c.in-Some.ensures.found, ← c.outside_parts-part-items.ensures, ← c.saturating_sub-depth.ensures) refl in
    rw split
    (ap (λ (text : List ℕ). text ++ flat_map below parts) c.in_ok-put_line.ensures ∙ append_assoc (string_bytes c.args.text.now) line (flat_map below parts))

pub put_lines-requires : goal.put_lines-requires
put_lines-requires t c =
    let tree = c.args.tree.now in
    let parts = c.outside_parts-part-items.result.now in
    let some : 0 < c.args.levels = omega (arith, c.if-levels-eq0.false) in
    let are : parts ≡ outside_parts (node_at tree c.args.number).form (node_at tree c.args.number).parts = rw (← c.in-Some.ensures.found) c.outside_parts-part-items.ensures in (
      omega (arith, c.decreases, some),
      (
        c.requires.tree,
        (
          c.requires.costs,
          (
            c.requires.counts,
            (
              c.requires.worst,
              λ node there. c.requires.outside node (part_outside tree c.args.levels c.args.number c.loop-part.part-index node parts some are c.loop-part-test.true there),
            ),
          ),
        ),
      ),
    )
