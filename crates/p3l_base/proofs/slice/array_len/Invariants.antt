use Rattle.std.proofs.Common.{◌≡◌, ◌*◌, ◌%◌, ◌^◌, drop}
use Rattle.p3l_base.specs.Slice.{array_size}
use Rattle.p3l_base.proofs.slice.array_len.Given as goal

abbrev pub invariant-loop-dim : goal.invariant-loop-dim
invariant-loop-dim l = (l.product * array_size (drop l.dim-index l.dims)) % 2 ^ 64 ≡ array_size l.dims % 2 ^ 64
