use Rattle.p3l_opts.proofs.OneCommand.{spells_one_at_most}
use Rattle.p3l_opts.proofs.laws.one_command_at_most.Goals as goal

pub returns : goal.returns
returns c = spells_one_at_most
