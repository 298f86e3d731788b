use Rattle.std.proofs.Common.{arith}
use Rattle.p3l_skel.proofs.Sizes.{cut_size-bound}
use Rattle.p3l_skel.proofs.cut.slice_cut_len.Goals as goal

pub cut_len-requires : goal.cut_len-requires
cut_len-requires c = let small = cut_size-bound c.args.slice.now.dims 3 c.requires.0 c.requires.1 in rw c.as_slice.ensures (omega arith)

pub returns-clause-bound : goal.returns-clause-bound
returns-clause-bound c = let small = cut_size-bound c.args.slice.now.dims 3 c.requires.0 c.requires.1 in rw (c.cut_len.ensures, c.as_slice.ensures) (omega arith)
