-- Counts of the occurrences of a number in a list. Over an append the counts add up (`times_append`,
-- `times_cons`); the numbers from c on, and the channels of slots, are such lists
-- (`numbers_append`, `fan_ins`, `fan_outs`).
use Rattle.std.proofs.Common.{◌≡◌, ℕ, zero, suc, ◌+◌, ◌<◌, List, [], ◌∷◌, ◌++◌, cond, refl, ap, ap₂, ◌∙◌, subst, arith}
use Rattle.std.specs.Prelude.{◌==◌}
use Rattle.std.specs.List.{AllByRecursion}
use Rattle.std.proofs.lemmas.List.Sums.{sum_by-append}
use Rattle.p3l_firing.specs.Process.{times}
use Rattle.p3l_template.specs.Shape.{numbers_from, fan_slots}
use Rattle.p3l_template.specs.Typing.{slot_ins, slot_outs}

pub times_append : (c : ℕ) (xs ys : List ℕ) → times c (xs ++ ys) ≡ times c xs + times c ys
times_append c xs ys = sum_by-append (λ d. cond (d == c) 1 0) xs ys

pub times_cons : (c x : ℕ) (xs : List ℕ) → times c (x ∷ xs) ≡ times c (x ∷ []) + times c xs
times_cons c x xs = times_append c (x ∷ []) xs

pub times_none : (c : ℕ) → times c [] ≡ 0
times_none c = refl

pub numbers_append : (c n k : ℕ) → numbers_from c (n + k) ≡ numbers_from c n ++ numbers_from (c + n) k
unfolding numbers_from
numbers_append c zero k = ap₂ numbers_from {x = c} {y = c + 0} (omega arith) (omega arith)
numbers_append c (suc n) k =
    let e : suc n + k ≡ suc (n + k) = omega arith in
    ap (numbers_from c) e
    ∙ ap (λ z. c ∷ z)
    (numbers_append (suc c) n k ∙ ap (λ z. numbers_from (suc c) n ++ numbers_from z k) (omega arith))

pub fan_ins : (i o n : ℕ) → slot_ins (fan_slots i o n) ≡ numbers_from i n
unfolding fan_slots numbers_from
fan_ins i o zero = refl
fan_ins i o (suc n) = ap (λ z. i ∷ z) (fan_ins (suc i) (suc o) n)

pub fan_outs : (i o n : ℕ) → slot_outs (fan_slots i o n) ≡ numbers_from o n
unfolding fan_slots numbers_from
fan_outs i o zero = refl
fan_outs i o (suc n) = ap (λ z. o ∷ z) (fan_outs (suc i) (suc o) n)

-- a property of each of the n numbers from c on holds of all
pub all_numbers : (P : ℕ → Type 0) (c n : ℕ) → ((k : ℕ) → k < n → P (c + k)) → AllByRecursion P (numbers_from c n)
unfolding numbers_from
all_numbers P c zero h = tt
all_numbers P c (suc n) h = (
  let e : c + 0 ≡ c = omega arith in subst P e (h 0 (omega arith)),
  all_numbers P (suc c) n (λ k l. let e : c + suc k ≡ suc c + k = omega arith in subst P e (h (suc k) (omega arith))),
)
