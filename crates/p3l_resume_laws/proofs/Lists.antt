-- Properties of all elements of a list.
use Rattle.std.proofs.Common.{ℕ, zero, suc, List, [], ◌∷◌, ◌++◌, map, replicate, take, drop}
use Rattle.std.specs.List.{AllByRecursion}

module _ {A : Type 0} (P : A → Type 0) where
  pub all_append : (xs ys : List A) → AllByRecursion P xs → AllByRecursion P ys → AllByRecursion P (xs ++ ys)
  all_append [] ys all more = more
  all_append (x ∷ xs) ys all more = (all.0, all_append xs ys all.1 more)

  pub all_take : (n : ℕ) (xs : List A) → AllByRecursion P xs → AllByRecursion P (take n xs)
  all_take zero xs all = tt
  all_take (suc n) [] all = tt
  all_take (suc n) (x ∷ xs) all = (all.0, all_take n xs all.1)

  pub all_drop : (n : ℕ) (xs : List A) → AllByRecursion P xs → AllByRecursion P (drop n xs)
  all_drop zero xs all = all
  all_drop (suc n) [] all = tt
  all_drop (suc n) (x ∷ xs) all = all_drop n xs all.1

  pub all_same : (n : ℕ) (x : A) → P x → AllByRecursion P (replicate n x)
  all_same zero x h = tt
  all_same (suc n) x h = (h, all_same n x h)

  pub all_map : {B : Type 0} (f : B → A) → ((x : B) → P (f x)) → (xs : List B) → AllByRecursion P (map f xs)
  all_map f each [] = tt
  all_map f each (x ∷ xs) = (each x, all_map f each xs)

  -- a property that follows for each element holds of all
  pub all_so : (Q : A → Type 0) → ((x : A) → P x → Q x) → (xs : List A) → AllByRecursion P xs → AllByRecursion Q xs
  all_so Q each [] all = tt
  all_so Q each (x ∷ xs) all = (each x all.0, all_so Q each xs all.1)
