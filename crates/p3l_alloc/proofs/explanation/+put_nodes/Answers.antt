use Rattle.std.proofs.Common.{◌≡◌, ℕ, List, ◌∷◌, ◌++◌, ◌-◌, ◌<◌, refl, sym, ap, ◌∙◌, arith, append_assoc}
use Rattle.std.specs.Prelude.{string_bytes}
use Rattle.std.specs.List.{flat_map}
use Rattle.std.proofs.lemmas.List.{append-nil}
use Rattle.p3l_skel.specs.Counts.{outside_from, outside_parts}
use Rattle.p3l_skel.specs.Tree.{node_at}
use Rattle.p3l_skel.proofs.Below.{outside_from-step, outside_from-zero}
use Rattle.p3l_alloc.specs.Explanation.{node_line}
use Rattle.p3l_alloc.proofs.Outside.{first_outside, outside_inside, part_outside, parts_lines}
use Rattle.p3l_alloc.proofs.explanation.+put_nodes.Goals as goal

pub returns-in_default : goal.returns-in_default
returns-in_default t c =
    let inside = outside_inside c.args.tree.now c.args.number c.requires.tree (c.requires.outside c.args.number (first_outside c.args.tree.now c.args.levels c.args.number)) in
    absurd (omega (arith, inside, c.in_default.ensures.past))

pub put_node-requires-clause-outside : goal.put_node-requires-clause-outside
put_node-requires-clause-outside t c = c.requires.outside c.args.number (first_outside c.args.tree.now c.args.levels c.args.number)

pub returns-then-levels-eq0 : goal.returns-then-levels-eq0
returns-then-levels-eq0 t c =
    let line : List ℕ = node_line c.args.tree.now c.args.costs.now c.args.counts.now.list c.args.number in
    rw (c.if-levels-eq0.true, outside_from-zero)
    (c.in_ok-put_node.ensures ∙ ap (λ words. string_bytes c.args.text.now ++ words) (sym (append-nil line)))

pub loop-part-init : goal.loop-part-init
loop-part-init t c =
    let tree = c.args.tree.now in
    let some : 0 < c.args.levels = omega (arith, c.if-levels-eq0.false) in
    let below : ℕ → List ℕ = outside_from tree (c.args.levels - 1) in
    let parts = c.outside_parts-part-items.result.now in
    let line : List ℕ = node_line tree c.args.costs.now c.args.counts.now.list c.args.number in
    let lines : List ℕ = parts_lines tree c.args.costs.now c.args.counts.now.list below parts in
    let split : outside_from tree c.args.levels c.args.number ≡ c.args.number ∷ flat_map below parts =
    rw (outside_from-step tree c.args.levels c.args.number some, ← c.in-Some.ensures.found, ← c.outside_parts-part-items.ensures) refl in
    rw split
    (ap (λ text. text ++ lines) c.in_ok-put_node.ensures ∙ append_assoc (string_bytes c.args.text.now) line lines)

pub put_nodes-requires : goal.put_nodes-requires
put_nodes-requires t c =
    let tree = c.args.tree.now in
    let parts = c.outside_parts-part-items.result.now in
    let some : 0 < c.args.levels = omega (arith, c.if-levels-eq0.false) in
    let are : parts ≡ outside_parts (node_at tree c.args.number).form (node_at tree c.args.number).parts = rw (← c.in-Some.ensures.found) c.outside_parts-part-items.ensures in (
      omega (arith, c.decreases, some),
      (
        c.requires.tree,
        (
          c.requires.costs,
          (
            c.requires.counts,
            λ node there. c.requires.outside node (part_outside tree c.args.levels c.args.number c.loop-part.part-index node parts some are c.loop-part-test.true there),
          ),
        ),
      ),
    )
