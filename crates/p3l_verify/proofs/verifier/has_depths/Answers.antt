use Rattle.std.proofs.Common.{◌≡◌, length, ap, subst, refl, arith}
use Rattle.p3l_verify.specs.Known.{IsSound}
use Rattle.p3l_verify.proofs.Places.{has_depths}
use Rattle.p3l_verify.proofs.verifier.has_depths.Goals as goal

pub returns : goal.returns
returns c =
    let ended : c.loop-place.place ≡ length c.args.code.now.instrs = omega (arith, ap length c.as_slice-instrs.ensures) in
    (λ t. has_depths c.args.code.now c.loop-place.known.items (subst (IsSound c.args.code.now c.loop-place.known.items) ended c.loop-place.invariant), λ h. refl)
