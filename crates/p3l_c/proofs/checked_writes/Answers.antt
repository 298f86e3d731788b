use Rattle.p3l_c.proofs.checked_writes.Goals as goal
use Rattle.p3l_c.proofs.Checked.{checked_writes}

pub returns : goal.returns
returns c = checked_writes
