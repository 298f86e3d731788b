-- The slots so far with those to come are all.
use Rattle.std.proofs.Common.{◌≡◌, ◌≤◌, ◌+◌, ◌-◌, ◌++◌}
use Rattle.p3l_template.specs.Pipe.{stage_slots}
use Rattle.p3l_template.proofs.pipe.stage_slots.Given as goal

abbrev pub invariant-loop-part : goal.invariant-loop-part
invariant-loop-part l = record {
  few : l.part ≤ l.last;
  all : l.slots ++ stage_slots l.part l.input (l.chan + l.part) l.to (l.last - l.part) ≡ stage_slots 0 l.from l.chan l.to l.last;
}
