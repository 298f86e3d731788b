use Rattle.std.proofs.Common.{◌≡◌, ◌-◌, ◌^◌, min, take, sum_by}
use Rattle.p3l_alloc.specs.Walk.{least_of}
use Rattle.p3l_alloc.proofs.walk.least_of_all.Given as goal

-- the sum of the stages so far
abbrev pub invariant-loop-part : goal.invariant-loop-part
invariant-loop-part l = l.sum ≡ min (sum_by (least_of l.tree l.rows l.time) (take l.part-index l.parts)) (2 ^ 64 - 1)
