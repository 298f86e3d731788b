use Rattle.p3l_run.proofs.ComparisonSteps.{feeds_on}
use Rattle.p3l_run.proofs.comparison.Comparison.feed.Goals as goal

pub returns : goal.returns
returns g c = feeds_on c.args.self.now _ _ _ _ _ c.feed.ensures.does c.feed.ensures.wants
