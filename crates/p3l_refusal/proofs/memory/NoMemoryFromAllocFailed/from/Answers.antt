use Rattle.p3l_refusal.specs.Memory.{refused_by_std}
use Rattle.p3l_refusal.proofs.memory.NoMemoryFromAllocFailed.from.Goals as goal

pub returns : goal.returns
returns c failed = refused_by_std
