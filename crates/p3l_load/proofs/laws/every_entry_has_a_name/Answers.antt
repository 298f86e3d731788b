use Rattle.p3l_load.proofs.Spelled.{entries_named}
use Rattle.p3l_load.proofs.laws.every_entry_has_a_name.Goals as goal

pub returns : goal.returns
returns c = entries_named
