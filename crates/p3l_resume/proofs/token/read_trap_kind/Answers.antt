use Rattle.p3l_resume.specs.Token.{trap_number}
use Rattle.p3l_resume.proofs.token.read_trap_kind.Goals as goal

pub returns : goal.returns
returns c = c.read_one_of.ensures trap_number
