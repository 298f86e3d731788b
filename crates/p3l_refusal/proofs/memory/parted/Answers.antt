use Rattle.p3l_refusal.specs.Memory.{refused_by_std}
use Rattle.p3l_refusal.proofs.memory.parted.Goals as goal

pub returns-clause-refused : goal.returns-clause-refused
returns-clause-refused g c = refused_by_std
