use Rattle.p3l_opts.specs.Table.{entries, entry_named}
use Rattle.p3l_opts.proofs.table.entry_named.Goals as goal

pub returns : goal.returns
unfolding entry_named entries
returns c = c.entry_in.ensures
