use Rattle.std.proofs.Common.{◌≤◌, arith}
use Rattle.p3l_alloc.proofs.Chosen.{root_row, root_best, best_of_run, none_fit}
use Rattle.p3l_alloc.proofs.allocation.best_within.Goals as goal

pub returns-then-service-ge-NEVER-clause-none : goal.returns-then-service-ge-NEVER-clause-none
returns-then-service-ge-NEVER-clause-none c =
    let row = root_row c.args.tree.now c.args.costs.now c.args.most c.args.processors c.args.rows.now c.row_in-row.result.now c.requires.tree c.requires.costs c.requires.rows c.requires.within c.row_in-row.ensures in
    none_fit c.args.tree.now c.args.costs.now c.args.processors c.soonest-service.result c.row_in-row.result.now c.requires.tree c.requires.costs row c.soonest-service.ensures c.if-service-ge-NEVER.true

pub overflow_cast-used : goal.overflow_cast-used
overflow_cast-used c =
    let best = root_best c.args.tree.now c.args.costs.now c.args.most c.args.processors c.soonest-service.result c.first_within-used.result c.args.rows.now c.row_in-row.result.now c.requires.tree c.requires.costs c.requires.rows c.requires.within c.row_in-row.ensures c.soonest-service.ensures c.if-service-ge-NEVER.false c.first_within-used.ensures in
    let small = best.small in
    let few : c.first_within-used.result ≤ 512 = omega arith in
    omega arith

pub returns-clause-best : goal.returns-clause-best
returns-clause-best c =
    let best = root_best c.args.tree.now c.args.costs.now c.args.most c.args.processors c.soonest-service.result c.first_within-used.result c.args.rows.now c.row_in-row.result.now c.requires.tree c.requires.costs c.requires.rows c.requires.within c.row_in-row.ensures c.soonest-service.ensures c.if-service-ge-NEVER.false c.first_within-used.ensures in
    best_of_run c.args.tree.now c.args.costs.now c.args.processors c.soonest-service.result c.first_within-used.result c.requires.tree c.requires.costs best

pub returns-clause-within : goal.returns-clause-within
returns-clause-within c =
    let best = root_best c.args.tree.now c.args.costs.now c.args.most c.args.processors c.soonest-service.result c.first_within-used.result c.args.rows.now c.row_in-row.result.now c.requires.tree c.requires.costs c.requires.rows c.requires.within c.row_in-row.ensures c.soonest-service.ensures c.if-service-ge-NEVER.false c.first_within-used.ensures in
    best.small
