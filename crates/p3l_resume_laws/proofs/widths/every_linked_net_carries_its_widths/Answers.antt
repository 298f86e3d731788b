use Rattle.p3l_resume_laws.proofs.Forced.{net_forced}
use Rattle.p3l_resume_laws.proofs.widths.every_linked_net_carries_its_widths.Goals as goal

pub returns : goal.returns
returns c = net_forced
