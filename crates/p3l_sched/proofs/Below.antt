-- Picks that were read are numbers of processes.
use Rattle.std.proofs.Common.{◌≡◌, ℕ, ◌+◌, ◌<◌, Bool, true, false, nat_lt, List, [], ◌∷◌, count_by, Option, Some, None, Result, Ok, Err, refl, if◌then◌else◌}
use Rattle.std.specs.List.{AllByRecursion}
use Rattle.std.proofs.lemmas.Bool.{ltb-true}
use Rattle.p3l_sched.specs.declared.refusal.PickRefusal.{PickRefusal}
use Rattle.p3l_sched.specs.declared.refusal.PickRefusal.TheVariants as refusal
use Rattle.p3l_sched.specs.Picks.{AreRead, is_feed, number_of, pick_from}

tested : (count line n pick : ℕ) (b : Bool) → nat_lt n count ≡ b → ◌≡◌ {A = Result ℕ PickRefusal} (if b then Ok n else Err (refusal.NoSuchProcess line n count)) (Ok pick) → pick < count
tested count line n pick true below is = (let same : n ≡ pick = cc in rw (← same) (ltb-true n count below))
tested count line n pick false below is = absurd cc

below : (count line pick : ℕ) (number : Option ℕ) → pick_from count line number ≡ Ok pick → pick < count
below count line pick None is = absurd cc
below count line pick (Some n) is = tested count line n pick _ refl is

-- each of them
pub read_below : (count line : ℕ) (text picks : List ℕ) (last : ℕ) (rest : List ℕ) → AreRead count line text picks last rest → AllByRecursion (λ pick. pick < count) picks
read_below count line text [] last rest was = tt
read_below count line text (pick ∷ picks) last rest was =
    (below count (line + count_by is_feed was.0) pick (number_of was.1) was.4, read_below count (line + count_by is_feed was.0) was.2 picks last rest was.5)
