use Rattle.p3l_resume.proofs.Writing.{few_written}
use Rattle.p3l_resume.proofs.ranges.what_has_few_items_can_be_written.Goals as goal

pub returns : goal.returns
returns c = few_written
