use Rattle.std.proofs.Common.{◌≡◌, map, take}
use Rattle.p3l_cert.specs.Rule.{key}
use Rattle.p3l_cert.proofs.keys.stage_keys.Given as goal

abbrev pub invariant-loop-part : goal.invariant-loop-part
invariant-loop-part l = l.keys ≡ map (λ p. key p l.bound l.cap) (take l.part-index l.parts)
