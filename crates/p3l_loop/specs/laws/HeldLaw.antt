-- The tokens that Tail holds. If one has the number n, the one that Tail picks has this number,
-- and the others are unchanged (`found`).
-- If none has it, it is not among the numbered tokens (`not_found`).
use Rattle.std.proofs.Common.{◌≡◌, ℕ, inl, inr, ◌||◌, cond, nat_eq, true, false, List, [], ◌∷◌, ◌++◌, map, sym, ap, ◌∙◌, eqb-true, eq-eqb}
use Rattle.std.proofs.lemmas.Bool.{cases_Bool, cond-true, cond-false}
use Rattle.p3l_firing.specs.Token.{untagged, second_tag}
use Rattle.p3l_firing.specs.declared.token.Token.{Token}
use Rattle.p3l_firing.specs.kinds.Tail.{has_number, pick_number, drop_number}
use Rattle.p3l_template.specs.Bag.{look}
use Rattle.p3l_template.specs.laws.BagLaw.{look_there, look_empty}

pub record Found (n : ℕ) (held : List Token) : Type 0 where
  pub before : List Token
  pub after : List Token
  pub whole : held ≡ before ++ pick_number n held ∷ after
  pub others : drop_number n held ≡ before ++ after
  pub right : second_tag (pick_number n held) ≡ n

pub found : (n : ℕ) (held : List Token) → has_number n held ≡ true → Found n held
unfolding has_number pick_number drop_number
found n [] h = cc
found n (x ∷ xs) h =
    elim (cases_Bool (nat_eq (second_tag x) n)) [
      | inl e ↦
          let p : cond (nat_eq (second_tag x) n) x (pick_number n xs) ≡ x = cond-true _ _ _ e in
          record {
            before = [];
            after = xs;
            whole = ap (λ z. z ∷ xs) (sym p);
            others = cond-true _ _ _ e;
            right = ap second_tag p ∙ eqb-true _ _ e;
          }
      | inr e ↦
          let r = found n xs (sym (ap (λ b. b || has_number n xs) e) ∙ h) in
          let p : cond (nat_eq (second_tag x) n) x (pick_number n xs) ≡ pick_number n xs = cond-false _ _ _ e in
          record {
            before = x ∷ r.before;
            after = r.after;
            whole = ap (λ z. x ∷ z) (r.whole ∙ ap (λ z. r.before ++ z ∷ r.after) (sym p));
            others = cond-false _ _ _ e ∙ ap (λ z. x ∷ z) r.others;
            right = ap second_tag p ∙ r.right;
          }
    ]

pub not_found : (n : ℕ) (held : List Token) → has_number n held ≡ false → look n (map untagged held) ≡ []
unfolding has_number
not_found n [] h = look_empty n
not_found n (x ∷ xs) h =
    elim (cases_Bool (nat_eq (second_tag x) n)) [
      | inl e ↦ let z : true ≡ false = sym (ap (λ b. b || has_number n xs) e) ∙ h in cc
      | inr e ↦
          look_there n (untagged x) (map untagged xs) (λ d. let z : true ≡ false = sym (eq-eqb _ _ d) ∙ e in cc)
          ∙ not_found n xs (sym (ap (λ b. b || has_number n xs) e) ∙ h)
    ]
