-- Tokens held, by their numbers: the first with a number.
use Rattle.std.proofs.Common.{◌≡◌, ℕ, suc, ◌+◌, ◌<◌, ◌≤◌, ◌||◌, nat_eq, true, false, List, [], ◌∷◌, ◌++◌, length, take, drop, get_or, refl, sym, ap, ◌∙◌, arith, length-drop}
use Rattle.std.proofs.lemmas.Bool.{cond-true, cond-false}
use Rattle.std.proofs.lemmas.List.{take_more, append_assoc}
use Rattle.std.proofs.Math.Seq.{drop-cons}
use Rattle.p3l_firing.specs.declared.token.Token.{Token}
use Rattle.p3l_firing.specs.Token.{credit, second_tag}
use Rattle.p3l_firing.specs.kinds.Tail.{has_number, pick_number, drop_number}
use Rattle.p3l_net.specs.Turns.{IsDue}

-- the first k tokens have another number
pub record Passed (n : ℕ) (xs : List Token) (k : ℕ) : Type 0 where
  pub has : has_number n (drop k xs) ≡ has_number n xs
  pub token : pick_number n (drop k xs) ≡ pick_number n xs
  pub rest : take k xs ++ drop_number n (drop k xs) ≡ drop_number n xs

pub none_passed : (n : ℕ) (xs : List Token) → Passed n xs 0
none_passed n xs = record { has = refl; token = refl; rest = refl }

module _ (n : ℕ) (xs : List Token) (k : ℕ) (inside : k < length xs) where
  here : drop k xs ≡ get_or xs k credit ∷ drop (k + 1) xs
  here = let up : suc k ≡ k + 1 = omega arith in drop-cons xs k credit inside ∙ ap (λ j. get_or xs k credit ∷ drop j xs) up

  pub one_passed : nat_eq (second_tag (get_or xs k credit)) n ≡ false → Passed n xs k → Passed n xs (k + 1)
  unfolding has_number pick_number drop_number
  one_passed other passed = record {
    has = sym (ap (has_number n) here ∙ ap (λ b. b || has_number n (drop (k + 1) xs)) other) ∙ passed.has;
    token = sym (ap (pick_number n) here ∙ cond-false _ _ _ other) ∙ passed.token;
    rest = ap (λ ys. ys ++ drop_number n (drop (k + 1) xs)) (take_more xs k credit inside)
        ∙ append_assoc (take k xs) (get_or xs k credit ∷ []) (drop_number n (drop (k + 1) xs))
        ∙ ap (λ ys. take k xs ++ ys) (sym (ap (drop_number n) here ∙ cond-false _ _ _ other))
        ∙ passed.rest;
  }

  pub due_here : nat_eq (second_tag (get_or xs k credit)) n ≡ true → Passed n xs k → IsDue n xs k
  unfolding has_number pick_number drop_number
  due_here due passed = record {
    inside = inside;
    has = sym passed.has ∙ ap (has_number n) here ∙ ap (λ b. b || has_number n (drop (k + 1) xs)) due;
    token = sym passed.token ∙ ap (pick_number n) here ∙ cond-true _ _ _ due;
    rest = sym passed.rest ∙ ap (λ ys. take k xs ++ ys) (ap (drop_number n) here ∙ cond-true _ _ _ due);
  }

pub all_passed : (n : ℕ) (xs : List Token) (k : ℕ) → length xs ≤ k → Passed n xs k → has_number n xs ≡ false
unfolding has_number
all_passed n xs k past passed = sym passed.has ∙ ap (has_number n) (none (drop k xs) (length-drop k xs ∙ omega arith))
  where
    none : (ys : List Token) → length ys ≡ 0 → ys ≡ []
    none [] h = refl
    none (y ∷ ys) h = absurd (omega (arith, h))
