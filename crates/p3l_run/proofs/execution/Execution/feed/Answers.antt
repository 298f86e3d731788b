use Rattle.p3l_run.proofs.ExecutionSteps.{feeds_on}
use Rattle.p3l_run.proofs.ReplaySteps.{fills_on}
use Rattle.p3l_run.proofs.execution.Execution.feed.Goals as goal

pub returns-clause-feeds : goal.returns-clause-feeds
returns-clause-feeds g c = feeds_on c.args.self.now _ _ _ _ _ c.feed.ensures.does

pub returns-clause-fills : goal.returns-clause-fills
returns-clause-fills g c = fills_on c.args.self.now _ _ _ _ _ c.feed.ensures.does
