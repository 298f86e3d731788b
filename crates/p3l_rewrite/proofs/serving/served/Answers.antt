use Rattle.std.proofs.Common.{sym, subst}
use Rattle.p3l_ast.specs.Tree.{program_tree}
use Rattle.p3l_cost.specs.Costs.{AreCostsOf}
use Rattle.p3l_rewrite.specs.Rewriting.{IsServed}
use Rattle.p3l_rewrite.specs.Serving.{HasTree, IsAcceptedTree, IsServiceTime}
use Rattle.p3l_rewrite.proofs.Few.{given_or}
use Rattle.p3l_rewrite.proofs.Served.{by_time, own_costs}
use Rattle.p3l_rewrite.proofs.serving.served.Goals as goal

pub service_time-requires-clause-costs : goal.service_time-requires-clause-costs
service_time-requires-clause-costs c =
    let other = program_tree c.args.other.now in
    let own = c.in-Some.own in
    let has : HasTree other own = subst (IsAcceptedTree other) c.in-Some.is c.in_ok-own.ensures in
    subst (AreCostsOf own) (sym c.in_ok-costs.ensures) (own_costs c.args.tree.now c.args.costs.now c.args.processors other own has c.requires.keeps)

pub returns : goal.returns
returns c =
    let tree = c.args.tree.now in
    let costs = c.args.costs.now in
    let processors = c.args.processors in
    let other = program_tree c.args.other.now in
    let own = c.in-Some.own in
    let has : HasTree other own = subst (IsAcceptedTree other) c.in-Some.is c.in_ok-own.ensures in
    given_or c.service_time.result (IsServiceTime own c.in_ok-costs.costs processors) (IsServed tree costs processors other) _
    (λ time best. by_time tree costs processors other own has time (subst (λ t. IsServiceTime own t processors time) c.in_ok-costs.ensures best))
    c.service_time.ensures
