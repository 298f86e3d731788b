use Rattle.std.proofs.Common.{arith}
use Rattle.p3l_skel.proofs.Sizes.{array_size-bound}
use Rattle.p3l_skel.proofs.cut.slice_len.Goals as goal

pub array_len-requires : goal.array_len-requires
array_len-requires c = let small = array_size-bound c.args.slice.now.dims 3 c.requires.0 c.requires.1 in rw c.as_slice.ensures (omega arith)

pub returns-clause-bound : goal.returns-clause-bound
returns-clause-bound c = let small = array_size-bound c.args.slice.now.dims 3 c.requires.0 c.requires.1 in rw (c.array_len.ensures, c.as_slice.ensures) (omega arith)
