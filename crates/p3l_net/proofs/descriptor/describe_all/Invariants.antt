use Rattle.std.proofs.Common.{◌≡◌, map, take}
use Rattle.p3l_net.specs.Descriptor.{descriptor_of}
use Rattle.p3l_net.proofs.descriptor.describe_all.Given as goal

abbrev pub invariant-loop-process : goal.invariant-loop-process
invariant-loop-process l = l.descriptors.items ≡ map descriptor_of (take l.process-index l.procs)
