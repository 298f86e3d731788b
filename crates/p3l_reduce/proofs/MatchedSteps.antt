-- The steps of whether two lists of tokens match.
use Rattle.std.proofs.Common.{◌≡◌, ◌≢◌, ℕ, ◌+◌, ◌<◌, ◌≤◌, ◌&&◌, inl, inr, true, false, List, drop, length, get_or, sym, ap₂, arith}
use Rattle.std.proofs.lemmas.Bool.{cases_Bool}
use Rattle.p3l_firing.specs.Token.{same_tags}
use Rattle.p3l_firing.specs.declared.token.Token.{Token}
use Rattle.p3l_template.proofs.Within.{drop-next, drop-all}
use Rattle.p3l_reduce.specs.JoinTree.{matched}
use Rattle.p3l_reduce.specs.laws.JoinView.{matched_length}

pub lengths_differ : (xs ys : List Token) → length xs ≢ length ys → false ≡ matched xs ys
lengths_differ xs ys e =
    elim (cases_Bool (matched xs ys)) [
      | inl h ↦ absurd (e (matched_length xs ys h))
      | inr h ↦ sym h
    ]

pub matched_left : (xs ys : List Token) (k : ℕ) (x y : Token) → k < length xs → length xs ≡ length ys →
    x ≡ get_or xs k x → y ≡ get_or ys k y →
    matched (drop k xs) (drop k ys) ≡ (same_tags x.tags y.tags && matched (drop (k + 1) xs) (drop (k + 1) ys))
unfolding matched
matched_left xs ys k x y l e h i =
    let m : k < length ys = omega (arith, l, e) in
    ap₂ matched (drop-next xs k x l h) (drop-next ys k y m i)

pub matched_end : (xs ys : List Token) (k : ℕ) → length xs ≤ k → length xs ≡ length ys → matched (drop k xs) (drop k ys) ≡ true
unfolding matched
matched_end xs ys k l e =
    let m : length ys ≤ k = omega (arith, l, e) in
    ap₂ matched (drop-all xs k l) (drop-all ys k m)
