use Rattle.p3l_load.proofs.Entries.{program_named}
use Rattle.p3l_load.proofs.laws.every_module_has_a_name.Goals as goal

pub returns : goal.returns
returns c = λ bytes program r spelled keeps. (program_named program r (c.every_entry_has_a_name.ensures bytes program spelled) keeps).names
