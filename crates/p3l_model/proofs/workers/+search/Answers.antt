use Rattle.std.proofs.Common.{ℕ, List, ◌-◌, ◌<◌, ◌++◌, refl, arith}
use Rattle.std.specs.List.{flat_map}
use Rattle.p3l_skel.specs.Counts.{counted_from, outside_parts}
use Rattle.p3l_skel.proofs.Below.{counted_from-zero, counted_from-past, counted_from-parts}
use Rattle.p3l_model.proofs.workers.+search.Goals as goal

pub returns-then-levels-eq0 : goal.returns-then-levels-eq0
returns-then-levels-eq0 t c = λ more. rw (c.if-levels-eq0.true, counted_from-zero) refl

pub returns-in_default : goal.returns-in_default
returns-in_default t c = λ more.
    rw (counted_from-past c.args.tree.now c.args.levels c.args.number c.in_default.ensures.past) refl

pub returns-in-Found : goal.returns-in-Found
returns-in-Found t c = λ more.
    let some : 0 < c.args.levels = omega arith in
    let node = c.in-Some.node.now in
    let rest : List ℕ = flat_map (counted_from c.args.tree.now (c.args.levels - 1)) (outside_parts node.form node.parts) in
    rw (counted_from-parts c.args.tree.now c.args.levels c.args.number more some, ← c.in-Some.ensures.found) (c.in-Found.ensures (rest ++ more))

pub loop-part-init : goal.loop-part-init
loop-part-init t c = λ more.
    let some : 0 < c.args.levels = omega arith in
    let node = c.in-Some.node.now in
    let rest : List ℕ = flat_map (counted_from c.args.tree.now (c.args.levels - 1)) (outside_parts node.form node.parts) in
    rw (counted_from-parts c.args.tree.now c.args.levels c.args.number more some, ← c.in-Some.ensures.found, c.outside_parts-part-items.ensures) (c.in-After.ensures (rest ++ more))
