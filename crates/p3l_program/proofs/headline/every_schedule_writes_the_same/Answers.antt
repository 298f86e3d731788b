use Rattle.p3l_program.proofs.HeadlineSteps.{same_written}
use Rattle.p3l_program.proofs.headline.every_schedule_writes_the_same.Goals as goal

pub returns : goal.returns
returns c = same_written
