use Rattle.p3l_link.proofs.LinkedLaws.{run_begins}
use Rattle.p3l_link.proofs.laws.every_run_begins_the_meaning.Goals as goal

pub returns : goal.returns
returns c = run_begins
