use Rattle.std.proofs.Common.{◌≡◌, ◌-◌, ◌<◌, true, length, take}
use Rattle.std.specs.List.{list_all}
use Rattle.p3l_stream.specs.Long.{is_zero}
use Rattle.p3l_stream.proofs.long.leading_zeros.Given as goal

abbrev pub invariant-loop-count : goal.invariant-loop-count
invariant-loop-count l = record {
  before : l.count < length l.digits;
  zeros : list_all is_zero (take l.count l.digits) ≡ true;
}

abbrev pub decreases-loop-count : goal.decreases-loop-count
decreases-loop-count l = length l.digits - l.count
