use Rattle.std.proofs.Common.{◌≡◌, ◌*◌, ◌%◌, ◌^◌, drop}
use Rattle.p3l_base.specs.Slice.{cut_size}
use Rattle.p3l_base.proofs.cut.cut_len.Given as goal

abbrev pub invariant-loop-dim : goal.invariant-loop-dim
invariant-loop-dim l = (l.product * cut_size (drop l.dim-index l.dims)) % 2 ^ 64 ≡ cut_size l.dims % 2 ^ 64
