use Rattle.std.proofs.Common.{subst, sym, ◌∙◌, arith}
use Rattle.p3l_alloc.specs.Need.{IsLeastProcs}
use Rattle.p3l_alloc.proofs.Fewest.{least_procs_are, least_small}
use Rattle.p3l_alloc.proofs.need.least_procs.Goals as goal

pub returns : goal.returns
returns c =
    let small = least_small c.args.tree.now c.requires in
    subst (IsLeastProcs c.args.tree.now) (sym (c.least_from.ensures ∙ omega arith)) (least_procs_are c.args.tree.now c.requires)
