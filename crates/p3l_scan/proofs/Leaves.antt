-- Effects of the steps of a plan on blocks of elements.
use Rattle.std.proofs.Common.{◌≡◌, ℕ, ℤ, ◌*◌, ◌/◌, ◌<◌, ◌≤◌, true, false, Ok, Err, List, ◌++◌, take, drop, length, refl, arith, ap, ap₂, sym, ◌∙◌, subst, length-append}
use Rattle.std.specs.Prelude.{nat_eq, nat_le}
use Rattle.std.proofs.lemmas.Bool.Decides.{nat_tests}
use Rattle.std.proofs.Math.Seq.{take-append_seam, drop-append_seam}
use Rattle.p3l_base.specs.declared.outcome.Outcome.{Outcome}
use Rattle.p3l_base.specs.declared.outcome.Outcome.TheVariants.{Value, Trapped}
use Rattle.p3l_skel.specs.Item.{elements}
use Rattle.p3l_skel.specs.Tree.{HasLength}
use Rattle.p3l_scan.specs.Scan.{Scanned, in_words, merged, scan}
use Rattle.p3l_scan.specs.Step.{fitted, merged_halves, step_leaf, stepped}
use Rattle.p3l_scan.proofs.Scans.{Combines, Fits, merged-fits, scan-fits}
use Rattle.p3l_scan.proofs.Sized.{Sized, elements-flat, flat, flat-append, flat-length, sized-append}

pub fitted-is : (n home : ℕ) (outcome : Outcome) → HasLength n outcome → fitted n home outcome ≡ outcome
fitted-is n home (Value words) h = let test : nat_eq (length words) n ≡ true = search (arith, nat_tests) in rw test refl
fitted-is n home (Trapped trap) h = refl

pub words-length : (n elem : ℕ) (r : Scanned) → Fits n elem r → HasLength (n * elem) (in_words r)
unfolding Fits
words-length n elem (Ok folds) h = flat-length elem folds h.1 ∙ ap (λ z. z * elem) h.0
words-length n elem (Err trap) h = tt

module _ (elem : ℕ) (some : 0 < elem) (operator : List ℤ → Outcome) (keeps : Combines elem operator) where
  -- the step of the first stage
  pub first-step : (xs : List (List ℤ)) → Sized elem xs → step_leaf elem operator 2 (flat xs) ≡ in_words (scan operator xs)
  unfolding step_leaf
  first-step xs h =
      let long : length (flat xs) ≡ length xs * elem = flat-length elem xs h in
      ap (λ ys. fitted (length (flat xs)) 2 (in_words (scan operator ys))) (elements-flat elem xs some h)
      ∙ fitted-is (length (flat xs)) 2 (in_words (scan operator xs))
      (subst (λ n. HasLength n (in_words (scan operator xs))) (sym long)
      (words-length (length xs) elem (scan operator xs) (scan-fits elem operator keeps xs h)))

  -- the step of a later stage
  pub later-step : (home n : ℕ) (xs ys : List (List ℤ)) → 2 < home → 1 ≤ n → length xs ≡ n → length ys ≡ n → Sized elem xs →
      Sized elem ys → step_leaf elem operator home (flat xs ++ flat ys) ≡ in_words (merged operator xs ys)
  unfolding step_leaf
  later-step home n xs ys late some_n a b h k =
      let all : List (List ℤ) = xs ++ ys in
      let words : flat xs ++ flat ys ≡ flat all = sym (flat-append xs ys) in
      let sized : Sized elem all = sized-append elem xs ys h k in
      let long : length (flat all) ≡ length all * elem = flat-length elem all sized in
      let test : nat_le home 2 ≡ false = search (arith, nat_tests) in
      let half : length all / 2 ≡ length xs = omega (arith, length-append xs ys, a, b) in
      let halves : merged_halves operator all ≡ merged operator xs ys =
      ap₂ (merged operator)
      (ap (λ m. take m all) half ∙ take-append_seam xs ys)
      (ap (λ m. drop m all) half ∙ drop-append_seam xs ys) in
      let step : stepped operator home all ≡ merged operator xs ys = rw test halves in
      let fits : Fits (length all) elem (merged operator xs ys) =
      subst (λ m. Fits m elem (merged operator xs ys)) (sym (length-append xs ys))
      (merged-fits elem operator keeps xs ys (omega (arith, a, some_n)) h k) in
      ap (λ ws. fitted (length ws) home (in_words (stepped operator home (elements elem ws)))) words
      ∙ ap (λ es. fitted (length (flat all)) home (in_words (stepped operator home es))) (elements-flat elem all some sized)
      ∙ ap (λ r. fitted (length (flat all)) home (in_words r)) step
      ∙ fitted-is (length (flat all)) home (in_words (merged operator xs ys))
      (subst (λ m. HasLength m (in_words (merged operator xs ys))) (sym long)
      (words-length (length all) elem (merged operator xs ys) fits))
