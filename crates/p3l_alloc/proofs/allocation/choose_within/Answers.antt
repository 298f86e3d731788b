use Rattle.std.proofs.Common.{◌∙◌, sym}
use Rattle.p3l_model.specs.Costed.{costed}
use Rattle.p3l_model.proofs.Bounds.{slowest-root}
use Rattle.p3l_model.proofs.Whole.{procs_whole}
use Rattle.p3l_alloc.proofs.Chosen.{best_run, first_alone, chosen, fits, service_is}
use Rattle.p3l_alloc.proofs.allocation.choose_within.Goals as goal

pub first_counts-requires-clause-slow : goal.first_counts-requires-clause-slow
first_counts-requires-clause-slow c = slowest-root c.args.tree.now c.args.costs.now c.requires.tree c.requires.costs

pub first_counts-requires-clause-can : goal.first_counts-requires-clause-can
first_counts-requires-clause-can c =
    let best = best_run c.args.tree.now c.args.costs.now c.args.processors c.in-Some.best c.requires.tree c.requires.costs c.in-Some.ensures.best in best.can

pub returns-clause-chosen : goal.returns-clause-chosen
returns-clause-chosen c =
    let best = best_run c.args.tree.now c.args.costs.now c.args.processors c.in-Some.best c.requires.tree c.requires.costs c.in-Some.ensures.best in
    let first = first_alone (costed c.args.tree.now c.args.costs.now 0) c.in-Some.best.service c.in-Some.best.used c.in_ok-used.used c.new-list.result c.first_counts.new.counts c.new-list.ensures c.in_ok-used.ensures in
    chosen c.args.tree.now c.args.costs.now c.requires.tree c.requires.costs c.args.processors c.in-Some.best.service c.in-Some.best.used c.first_counts.new.counts best first.0.serves first.0.few first.0.first

pub returns-clause-service : goal.returns-clause-service
returns-clause-service c =
    let best = best_run c.args.tree.now c.args.costs.now c.args.processors c.in-Some.best c.requires.tree c.requires.costs c.in-Some.ensures.best in
    let first = first_alone (costed c.args.tree.now c.args.costs.now 0) c.in-Some.best.service c.in-Some.best.used c.in_ok-used.used c.new-list.result c.first_counts.new.counts c.new-list.ensures c.in_ok-used.ensures in
    service_is c.args.tree.now c.args.costs.now c.requires.tree c.requires.costs c.args.processors c.in-Some.best.service c.in-Some.best.used c.first_counts.new.counts best first.0.serves first.0.few

pub returns-clause-used : goal.returns-clause-used
returns-clause-used c =
    let best = best_run c.args.tree.now c.args.costs.now c.args.processors c.in-Some.best c.requires.tree c.requires.costs c.in-Some.ensures.best in
    let first = first_alone (costed c.args.tree.now c.args.costs.now 0) c.in-Some.best.service c.in-Some.best.used c.in_ok-used.used c.new-list.result c.first_counts.new.counts c.new-list.ensures c.in_ok-used.ensures in
    let fit = fits c.args.tree.now c.args.costs.now c.requires.tree c.requires.costs c.args.processors c.in-Some.best.service c.in-Some.best.used c.first_counts.new.counts best first.0.serves first.0.few in
    first.1 ∙ sym (procs_whole c.args.tree.now c.args.costs.now c.requires.tree c.requires.costs c.first_counts.new.counts fit.lawful)
