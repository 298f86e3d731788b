-- By the law of the loop.
use Rattle.p3l_loop.specs.laws.ViewLaw.{rounds_turns}
use Rattle.p3l_loop.proofs.loops.goes_round_as_said.Goals as goal

pub returns : goal.returns
returns c l o some = rounds_turns l o some
