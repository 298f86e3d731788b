use Rattle.std.proofs.Common.{◌≡◌, drop}
use Rattle.p3l_template.specs.Bag.{all_within}
use Rattle.p3l_template.proofs.numbered.lie_within.Given as goal

abbrev pub invariant-loop-token : goal.invariant-loop-token
invariant-loop-token l = all_within l.from l.to l.tokens ≡ all_within l.from l.to (drop l.token-index l.tokens)
