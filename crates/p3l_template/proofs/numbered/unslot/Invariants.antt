use Rattle.std.proofs.Common.{◌≡◌, ◌++◌, Some, map}
use Rattle.p3l_template.proofs.numbered.unslot.Given as goal

abbrev pub invariant-loop-slot : goal.invariant-loop-slot
invariant-loop-slot l = record {
  same : map Some l.list ≡ l.yielded;
  left : l.fn.slots.items ≡ l.yielded ++ l.slot-iterator.rest.items;
}
