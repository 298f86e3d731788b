use Rattle.p3l_program.proofs.TextSteps.{no_canonical}
use Rattle.p3l_program.proofs.fmt.canonical_of.Goals as goal

pub returns-in-Err-clause-refused : goal.returns-in-Err-clause-refused
returns-in-Err-clause-refused c = no_canonical c.args.text.now c.in-Err.refusal c.requires (c.in-Err.ensures.only c.requires) c.in-Err.ensures.first
