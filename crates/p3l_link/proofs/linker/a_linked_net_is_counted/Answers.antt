use Rattle.p3l_link.proofs.Size.{net_procs, net_chans}
use Rattle.p3l_link.proofs.linker.a_linked_net_is_counted.Goals as goal

pub returns-clause-procs : goal.returns-clause-procs
returns-clause-procs c = net_procs

pub returns-clause-chans : goal.returns-clause-chans
returns-clause-chans c = net_chans
