-- The results that a gather holds, made one.
use Rattle.std.proofs.Common.{◌≡◌, ℕ, ℤ, zero, suc, ◌+◌, ◌<◌, List, [], ◌∷◌, ◌++◌, length, drop, get_or, refl, sym, ap, ap₂, ◌∙◌, subst, arith, append_assoc}
use Rattle.std.proofs.Math.Seq.{drop-cons}
use Rattle.std.specs.List.{AllByRecursion}
use Rattle.std.proofs.lemmas.List.{append-nil}
use Rattle.p3l_base.specs.declared.outcome.Outcome.{Outcome}
use Rattle.p3l_base.specs.declared.outcome.Outcome.TheVariants.{Value, Trapped}
use Rattle.p3l_base.specs.declared.outcome.Trap.{Trap}
use Rattle.p3l_skel.specs.Item.{gathered}
use Rattle.p3l_firing.specs.declared.token.Token.{Token}
use Rattle.p3l_firing.specs.Token.{bodies}

module _ {X : Type 0} where
  -- a fact on all items holds for each
  pub all_at : (P : X → Type 0) (xs : List X) → AllByRecursion P xs → (k : ℕ) (x : X) → k < length xs → x ≡ get_or xs k x → P x
  all_at P [] all k x inside is = absurd (omega (arith, inside))
  all_at P (y ∷ ys) all zero x inside is = subst P (sym is) all.0
  all_at P (y ∷ ys) all (suc k) x inside is = all_at P ys all.1 k x (omega (arith, inside)) is

  -- the first of those that are left
  pub left_first : (xs : List X) (k : ℕ) (x : X) → k < length xs → x ≡ get_or xs k x → drop k xs ≡ x ∷ drop (k + 1) xs
  left_first xs k x inside is =
      let up : suc k ≡ k + 1 = omega arith in
      drop-cons xs k x inside ∙ ap₂ (λ y z. y ∷ drop z xs) (sym is) up

-- the words of the results so far, and the tokens that are left, made one
unfoldable pub gathered_from : (List (List ℤ) → List ℤ) → List (List ℤ) → List Token → Outcome
gathered_from join results tokens = gathered (λ more. join (results ++ more)) (bodies tokens)

module _ (join : List (List ℤ) → List ℤ) where
  pub from_start : (tokens : List Token) → gathered_from join [] tokens ≡ gathered join (bodies tokens)
  unfolding gathered_from
  from_start tokens = refl

  pub from_value : (results : List (List ℤ)) (words : List ℤ) (token : Token) (tokens : List Token) → token.body ≡ Value words → gathered_from join results (token ∷ tokens) ≡ gathered_from join (results ++ words ∷ []) tokens
  unfolding gathered_from bodies
  from_value results words token tokens is =
      ap (λ body. gathered (λ more. join (results ++ more)) (body ∷ bodies tokens)) is
      ∙ (λ i. gathered (λ more. join (sym (append_assoc results (words ∷ []) more) i)) (bodies tokens))

  pub from_trap : (results : List (List ℤ)) (trap : Trap) (token : Token) (tokens : List Token) → token.body ≡ Trapped trap → gathered_from join results (token ∷ tokens) ≡ Trapped trap
  unfolding gathered_from bodies
  from_trap results trap token tokens is = ap (λ body. gathered (λ more. join (results ++ more)) (body ∷ bodies tokens)) is

  pub from_end : (results : List (List ℤ)) → gathered_from join results [] ≡ Value (join results)
  unfolding gathered_from bodies
  from_end results = ap (λ all. Value (join all)) (append-nil results)
