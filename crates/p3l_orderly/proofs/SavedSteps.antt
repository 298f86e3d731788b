-- A saved state has few tags on each token if it is held.
use Rattle.std.proofs.Common.{◌≡◌, ℕ, zero, suc, ◌<◌, List, [], ◌∷◌, length, get_or, refl, subst, arith}
use Rattle.std.specs.List.{All}
use Rattle.p3l_firing.specs.declared.net.Net.{Net}
use Rattle.p3l_firing.specs.Shot.{HasFewTags, HaveFewTags}
use Rattle.p3l_firing.specs.declared.shot.SavedToken.{SavedToken}
use Rattle.p3l_firing.specs.declared.shot.Shot.{Shot}
use Rattle.p3l_net.specs.Shot.{IsHeld}

or-same : (xs : List (List SavedToken)) (i : ℕ) (a b : List SavedToken) → i < length xs → get_or xs i a ≡ get_or xs i b
or-same [] i a b l = absurd (omega (arith, l))
or-same (x ∷ xs) zero a b l = refl
or-same (x ∷ xs) (suc i) a b l = or-same xs i a b (omega (arith, l))

pub few_of_held : (net : Net) (shot : Shot) → IsHeld net shot → HaveFewTags shot
few_of_held net shot held = record {
  chans = λ c d there.
      let here = held.chans c (subst (λ n. c < n) held.lists there) in
      subst (All HasFewTags) (or-same shot.chans c [] d there) here.tags;
  owns = held.owns;
}
