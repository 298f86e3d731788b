use Rattle.std.proofs.Common.{◌≡◌, length, take}
use Rattle.p3l_template.specs.Numbered.{AreSlotted}
use Rattle.p3l_template.proofs.numbered.in_order.Given as goal

abbrev pub invariant-loop-token : goal.invariant-loop-token
invariant-loop-token l = record {
  many : length l.slots.items ≡ length l.tokens;
  are : AreSlotted l.from l.slots.items (take l.token-index l.tokens);
}
