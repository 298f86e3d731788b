use Rattle.p3l_ready.proofs.Counting.{gap-empty}
use Rattle.p3l_ready.proofs.ready.ReadySet.gap.Goals as goal

pub returns-then-index-eq0-clause-none : goal.returns-then-index-eq0-clause-none
returns-then-index-eq0-clause-none c =
    gap-empty _ _ _ _ c.self.view_is c.self.invariant c.args.p _ c.requires c.if-p-eq0.true c.index.ensures c.if-index-eq0.true
