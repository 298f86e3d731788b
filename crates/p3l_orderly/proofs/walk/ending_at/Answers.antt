use Rattle.std.proofs.Common.{sym, ◌∙◌}
use Rattle.p3l_orderly.proofs.WalkSteps.{ending_some, ending_none}
use Rattle.p3l_orderly.proofs.walk.ending_at.Goals as goal

pub returns-in-Some : goal.returns-in-Some
returns-in-Some c = λ f e. ending_some c.in-Some.pending f c.args.proc c.args.chan (sym c.in-Some.is ∙ e)

pub returns-in-None : goal.returns-in-None
returns-in-None c = λ f e. ending_none f c.args.proc c.args.chan (sym c.in-None.is ∙ e)
