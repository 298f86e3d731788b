use Rattle.std.proofs.Common.{◌∙◌, sym}
use Rattle.p3l_run.proofs.ComparisonSteps as comparison
use Rattle.p3l_run.proofs.FeedSteps.{open_or_ended}
use Rattle.p3l_run.proofs.comparison.Comparison.pass.Goals as goal

pub feed-requires-clause-wide : goal.feed-requires-clause-wide
feed-requires-clause-wide g c = let way = c.requires.network in comparison.wide way.network way.first (g.S.Source.observed c.args.input.now) way.walked c.args.self.now way.walks.passed

pub feed-requires-clause-open : goal.feed-requires-clause-open
feed-requires-clause-open g c = open_or_ended c.requires.network.walks.passed.gives

pub returns-then-not-agrees : goal.returns-then-not-agrees
returns-then-not-agrees g c =
    λ n first walked leaf_is d.
    (c.in_ok-feed.ensures n first walked d.passed, λ agrees. let yes = c.agrees.ensures.machine.1 agrees in let no = c.if-not-agrees.true in absurd cc)

pub step-requires-clause-count : goal.step-requires-clause-count
step-requires-clause-count g c =
    let way = c.requires.network in
    comparison.fired_fits way.network way.first (g.S.Source.observed c.feed.new.input) way.walked c.feed.new.self (c.in_ok-feed.ensures way.network way.first way.walked way.walks.passed).passed

pub step-requires-clause-tree : goal.step-requires-clause-tree
step-requires-clause-tree g c =
    let way = c.requires.network in
    c.requires.tree ∙ way.walks.passed.stands.runs.tree ∙ sym (c.in_ok-feed.ensures way.network way.first way.walked way.walks.passed).passed.stands.runs.tree

pub returns : goal.returns
returns g c =
    λ n first walked leaf_is d.
    comparison.stepped n first (g.S.Source.observed c.feed.new.input) walked c.feed.new.self (c.in_ok-feed.ensures n first walked d.passed) c.args.line.now (c.agrees.ensures.machine.0 c.if-not-agrees.false) _ leaf_is c.step.new.self c.in_ok-step.ensures
