use Rattle.p3l_refusal.specs.Memory.{refused_by_std}
use Rattle.p3l_refusal.proofs.memory.NoMemoryFromAllocError.from.Goals as goal

pub returns : goal.returns
returns c = refused_by_std
