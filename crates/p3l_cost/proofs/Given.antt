-- Consequences of a rule's answer for the rules after it.
use Rattle.std.proofs.Common.{◌≡◌, Result, Ok, Err, refl}
use Rattle.p3l_cost.specs.declared.refusal.CostRefusal.{CostRefusal}
use Rattle.p3l_cost.specs.declared.refusal.CostRefusal.TheVariants.{NotToml, BadKey, BadValue, Missing, NoMemory}
use Rattle.p3l_cost.specs.File.{Gives, given}

-- a rule that is broken is the first that is
pub broken_first : {A B : Type 0} (e : CostRefusal) (meant : Result A CostRefusal) (go : A → Result B CostRefusal) → Gives (Err e) meant → Gives (Err e) (given meant go)
broken_first NotToml meant go h = h
broken_first (BadKey key) meant go h = rw h refl
broken_first (BadValue key) meant go h = rw h refl
broken_first (Missing name) meant go h = rw h refl
broken_first NoMemory meant go h = h

-- one that is kept leaves the others
pub kept_first : {A B : Type 0} (x : A) (meant : Result A CostRefusal) (go : A → Result B CostRefusal) → meant ≡ Ok x → given meant go ≡ go x
kept_first x meant go h = rw h refl
