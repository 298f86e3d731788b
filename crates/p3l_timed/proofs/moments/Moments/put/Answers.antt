use Rattle.std.proofs.Common.{◌+◌, drop, set, ap, ◌∙◌, arith}
use Rattle.std.proofs.lemmas.List.{drop-set-add, with_items_is}
use Rattle.std.specs.Vec.{with_item}
use Rattle.p3l_timed.proofs.moments.Moments.put.Goals as goal

pub returns : goal.returns
returns c =
    let long = c.self.inside.cells.ok.0 in
    ap (drop c.self.inside.size) (with_items_is (with_item c.self.inside.cells (c.self.inside.size + c.args.p) c.args.due) c.mend.new.cells
    (omega (arith, long, c.mend.ensures.tree.long, c.self.invariant.tree.long)))
    ∙ c.mend.ensures.numbers ∙ ap (drop c.self.inside.size) c.as_mut_slice.ensures.value
    ∙ drop-set-add c.self.inside.size c.self.inside.cells.items c.args.p c.args.due
    ∙ ap (λ xs. set xs c.args.p c.args.due) c.self.view_is
