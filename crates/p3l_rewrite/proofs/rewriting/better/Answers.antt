use Rattle.std.proofs.Common.{◌≤◌, None, option_map, sym, subst, arith}
use Rattle.p3l_ast.specs.Tree.{program_tree}
use Rattle.p3l_rewrite.specs.Rewriting.{Serves, StaysBest, IsServed}
use Rattle.p3l_rewrite.proofs.Best.{serves_soonest, stays, overtakes}
use Rattle.p3l_rewrite.proofs.rewriting.better.Goals as goal

pub returns-in_default-2 : goal.returns-in_default-2
returns-in_default-2 c =
    let tree = c.args.tree.now in
    let costs = c.args.costs.now in
    let processors = c.args.processors in
    let best = program_tree c.args.best.program in
    let time = c.args.best.service in
    let program = program_tree c.in-Some.program in
    let none : IsServed tree costs processors program None = subst (IsServed tree costs processors program) c.in_default-2.is c.in_ok-service.ensures in
    subst (λ o. StaysBest tree costs processors best time (option_map program_tree o) best time) (sym c.in-Some.is)
    (stays tree costs processors best program time (λ n s. absurd (none n s)))

pub returns-then-service-best : goal.returns-then-service-best
returns-then-service-best c =
    let tree = c.args.tree.now in
    let costs = c.args.costs.now in
    let processors = c.args.processors in
    let best = program_tree c.args.best.program in
    let time = c.args.best.service in
    let program = program_tree c.in-Some.program in
    let sooner = c.in-Some-2.service in
    let serves : Serves tree costs processors program sooner = subst (IsServed tree costs processors program) c.in-Some-2.is c.in_ok-service.ensures in
    subst (λ o. StaysBest tree costs processors best time (option_map program_tree o) program sooner) (sym c.in-Some.is)
    (overtakes tree costs processors best program time sooner c.if-service-best.true serves)

pub returns : goal.returns
returns c =
    let tree = c.args.tree.now in
    let costs = c.args.costs.now in
    let processors = c.args.processors in
    let best = program_tree c.args.best.program in
    let time = c.args.best.service in
    let program = program_tree c.in-Some.program in
    let later = c.in-Some-2.service in
    let serves : Serves tree costs processors program later = subst (IsServed tree costs processors program) c.in-Some-2.is c.in_ok-service.ensures in
    let no_sooner : time ≤ later = c.if-service-best.false in
    subst (λ o. StaysBest tree costs processors best time (option_map program_tree o) best time) (sym c.in-Some.is)
    (stays tree costs processors best program time
    (λ n s. let least = serves_soonest tree costs processors program later n serves s in omega (arith, no_sooner, least)))
