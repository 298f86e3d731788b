-- Texts before and after values are lawful.
use Rattle.std.proofs.Common.{◌≡◌, ℕ, ◌+◌, Bool, true, false, cond, eqb, List, [], ◌∷◌, ◌++◌, length, take, drop, Option, Some, None, Result, Ok, refl, sym, ap, subst, ◌∙◌, append_assoc, Bor, inl, inr}
use Rattle.std.specs.Str.{bytes_eq}
use Rattle.std.specs.Option.{MatchOption, option_map}
use Rattle.std.proofs.lemmas.Bool.{eqb-true, eq-eqb, ne_eqb, cases_eq}
use Rattle.p3l_format.specs.declared.fault.FieldFault.{FieldFault}
use Rattle.p3l_format.specs.Format.{Format}
use Rattle.p3l_format.specs.Lawful.{IsLawful, IsLawfulBefore}
use Rattle.p3l_format.specs.Text.{after_text, go_on, text_then, then_text}
use Rattle.p3l_format.specs.laws.Parts.{bind_ok, ok_is, some_is, chosen_some}
use Rattle.p3l_format.specs.laws.Formats.{Taken, lawful_from, joined}

pub lawful_before_from : {A : Type 0} (fine : List ℕ → Bool) (format : Format ℕ A)
    → ((v : A) (rest : List ℕ) → format.fits v ≡ true → fine rest ≡ true → format.read (format.spell v ++ rest) ≡ Ok (v, rest))
    → ((s : List ℕ) (x : A × List ℕ) → format.read s ≡ Ok x → Taken format s x) → IsLawfulBefore fine format
lawful_before_from fine format again take = record {
  again = again;
  fitting = λ s v rest e. (take s (v, rest) e).fits;
  spelled = λ s v rest e. (take s (v, rest) e).is;
}

pub before_any : {A : Type 0} (fine : List ℕ → Bool) (format : Format ℕ A) → IsLawful format → IsLawfulBefore fine format
before_any fine format law = record { again = λ v rest fits ok. law.again v rest fits; fitting = law.fitting; spelled = law.spelled }

pub taken_before : {A : Type 0} (fine : List ℕ → Bool) (format : Format ℕ A) → IsLawfulBefore fine format → (s : List ℕ) (x : A × List ℕ) → format.read s ≡ Ok x → Taken format s x
taken_before fine format law s x e = record { fits = law.fitting s x.0 x.1 e; is = law.spelled s x.0 x.1 e }

-- ---- texts

-- the rest after a text is found again
pub after_again : (text rest : List ℕ) → after_text text (text ++ rest) ≡ Some rest
after_again [] rest = refl
after_again (b ∷ bs) rest = rw (eq-eqb b b refl) (after_again bs rest)

pub after_is : (text s rest : List ℕ) → after_text text s ≡ Some rest → s ≡ text ++ rest
after_is [] s rest e = some_is s rest e
after_is (b ∷ bs) [] rest e = absurd cc
after_is (b ∷ bs) (c ∷ s) rest e =
    let h = chosen_some (eqb b c) (after_text bs s) rest e in
    let same : b ≡ c = eqb-true b c h.0 in
    let more : s ≡ bs ++ rest = after_is bs s rest h.1 in
    cc

went_on : {A : Type 0} (read : List ℕ → Result A FieldFault) (s : List ℕ) (o : Option (List ℕ)) (x : A) → go_on read s o ≡ Ok x → (rest : List ℕ) × (o ≡ Some rest) × (read rest ≡ Ok x)
went_on read s None x e = absurd cc
went_on read s (Some rest) x e = (rest, refl, e)

text_then_takes : {A : Type 0} (fine : List ℕ → Bool) (text : List ℕ) (inner : Format ℕ A) → IsLawfulBefore fine inner → (s : List ℕ) (x : A × List ℕ) → (text_then text inner).read s ≡ Ok x → Taken (text_then text inner) s x
unfolding text_then
text_then_takes fine text inner law s x e =
    let w = went_on inner.read s (after_text text s) x e in
    let t = taken_before fine inner law w.0 x w.2 in
    record { fits = t.fits; is = joined s text w.0 (inner.spell x.0) x.1 (after_is text s w.0 w.1) t.is }

text_then_again : {A : Type 0} (fine : List ℕ → Bool) (text : List ℕ) (inner : Format ℕ A) → IsLawfulBefore fine inner → (v : A) (rest : List ℕ) → (text_then text inner).fits v ≡ true → fine rest ≡ true
    → (text_then text inner).read ((text_then text inner).spell v ++ rest) ≡ Ok (v, rest)
unfolding text_then
text_then_again fine text inner law v rest fits ok =
    ap (text_then text inner).read (append_assoc text (inner.spell v) rest)
    ∙ rw (after_again text (inner.spell v ++ rest)) (law.again v rest fits ok)

pub text_then_before : {A : Type 0} (fine : List ℕ → Bool) (text : List ℕ) (inner : Format ℕ A) → IsLawfulBefore fine inner → IsLawfulBefore fine (text_then text inner)
text_then_before fine text inner law = lawful_before_from fine (text_then text inner) (text_then_again fine text inner law) (text_then_takes fine text inner law)

-- every rest is fine
abbrev pub any_rest : List ℕ → Bool
any_rest s = true

pub from_before : {A : Type 0} (format : Format ℕ A) → IsLawfulBefore any_rest format → IsLawful format
from_before format law = record { again = λ v rest fits. law.again v rest fits refl; fitting = law.fitting; spelled = law.spelled }

pub lawful_text_then : {A : Type 0} (text : List ℕ) (inner : Format ℕ A) → IsLawful inner → IsLawful (text_then text inner)
lawful_text_then text inner law = from_before (text_then text inner) (text_then_before any_rest text inner (before_any any_rest inner law))

then_text_takes : {A : Type 0} (fine : List ℕ → Bool) (inner : Format ℕ A) (text : List ℕ) → IsLawfulBefore fine inner → (s : List ℕ) (x : A × List ℕ) → (then_text inner text).read s ≡ Ok x → Taken (then_text inner text) s x
unfolding then_text
then_text_takes fine inner text law s x e =
    let a = bind_ok (inner.read s) (λ y. go_on (λ rest. Ok (y.0, rest)) y.1 (after_text text y.1)) x e in
    let w = went_on (λ rest. Ok (a.0.0, rest)) a.0.1 (after_text text a.0.1) x a.2 in
    let t = taken_before fine inner law s a.0 a.1 in
    subst (λ y. Taken (then_text inner text) s y) (ok_is (a.0.0, w.0) x w.2)
    (record { fits = t.fits; is = joined s (inner.spell a.0.0) a.0.1 text w.0 t.is (after_is text a.0.1 w.0 w.1) })

-- the text that follows is fine
then_text_again : {A : Type 0} (fine : List ℕ → Bool) (inner : Format ℕ A) (text : List ℕ) → ((rest : List ℕ) → fine (text ++ rest) ≡ true) → IsLawfulBefore fine inner → (v : A) (rest : List ℕ) → (then_text inner text).fits v ≡ true
    → (then_text inner text).read ((then_text inner text).spell v ++ rest) ≡ Ok (v, rest)
unfolding then_text
then_text_again fine inner text ok law v rest fits =
    ap (then_text inner text).read (append_assoc (inner.spell v) text rest)
    ∙ rw (law.again v (text ++ rest) fits (ok rest), after_again text rest) refl

pub lawful_then_text : {A : Type 0} (fine : List ℕ → Bool) (inner : Format ℕ A) (text : List ℕ) → ((rest : List ℕ) → fine (text ++ rest) ≡ true) → IsLawfulBefore fine inner → IsLawful (then_text inner text)
lawful_then_text fine inner text ok law = lawful_from (then_text inner text) (then_text_again fine inner text ok law) (then_text_takes fine inner text law)

-- a text in front, by its length
pub after_by_take : (text s : List ℕ) → after_text text s ≡ cond (bytes_eq (take (length text) s) text) (Some (drop (length text) s)) None
after_by_take [] s = refl
after_by_take (b ∷ bs) [] = refl
after_by_take (b ∷ bs) (c ∷ s) =
    elim (cases_eq b c) [
      | inl same ↦ rw (same, eq-eqb c c refl) (after_by_take bs s)
      | inr other ↦ rw (ne_eqb b c other, ne_eqb c b (λ e. other (sym e))) refl
    ]

-- stripping a text gives the rest after it, if it is there
pub stripped : (text s : List ℕ) (r : Option (Bor (List ℕ))) → MatchOption r (bytes_eq (take (length text) s) text ≡ false)
    (λ x. (bytes_eq (take (length text) s) text ≡ true) × (x.now ≡ drop (length text) s) × (length x.now + length text ≡ length s))
    → option_map (λ x. x.now) r ≡ after_text text s
stripped text s None h = sym (after_by_take text s ∙ rw h refl)
stripped text s (Some x) h = sym (after_by_take text s ∙ rw (h.0, ← h.1) refl)
