-- The first `*/` of a text.
use Rattle.std.proofs.Common.{◌≡◌, ◌≢◌, ℕ, suc, ◌+◌, ◌<◌, ◌≤◌, true, false, ◌&&◌, List, [], ◌∷◌, length, drop, get_or, Some, None, refl, sym, ap, ◌∙◌, arith, add-one}
use Rattle.std.specs.Prelude.{nat_eq}
use Rattle.std.proofs.lemmas.Bool.Decides.{nat_tests}
use Rattle.std.proofs.lemmas.List.{length-drop}
use Rattle.std.proofs.Math.Seq.{drop-cons}
use Rattle.p3l_lexer.specs.Piece.{after_close}

-- the next two bytes
two : (body : List ℕ) (n : ℕ) → n + 1 < length body → drop n body ≡ get_or body n 0 ∷ get_or body (n + 1) 0 ∷ drop (n + 2) body
two body n h =
    let a : n < length body = omega arith in
    let e : n + 2 ≡ suc (n + 1) = omega arith in
    drop-cons body n 0 a ∙ ap (λ x. get_or body n 0 ∷ x) (ap (λ k. drop k body) (sym (add-one n)) ∙ drop-cons body (n + 1) 0 h ∙ ap (λ k. get_or body (n + 1) 0 ∷ drop k body) (sym e))

one : (body : List ℕ) (n : ℕ) → n + 1 < length body → drop (n + 1) body ≡ get_or body (n + 1) 0 ∷ drop (n + 2) body
one body n h =
    let e : n + 2 ≡ suc (n + 1) = omega arith in
    drop-cons body (n + 1) 0 h ∙ ap (λ k. get_or body (n + 1) 0 ∷ drop k body) (sym e)

test_yes : (a b : ℕ) → a ≡ 42 → b ≡ 47 → (nat_eq a 42 && nat_eq b 47) ≡ true
test_yes a b p q = rw (p, q) refl

test_no_first : (a b : ℕ) → a ≢ 42 → (nat_eq a 42 && nat_eq b 47) ≡ false
test_no_first a b p = grind (arith, nat_tests)

test_no_second : (a b : ℕ) → b ≢ 47 → (nat_eq a 42 && nat_eq b 47) ≡ false
test_no_second a b p = grind (arith, nat_tests)

pub close_found : (body : List ℕ) (n : ℕ) → n + 1 < length body → get_or body n 0 ≡ 42 → get_or body (n + 1) 0 ≡ 47 → after_close (drop n body) ≡ Some (drop (n + 2) body)
unfolding after_close
close_found body n h p q = rw (two body n h, test_yes (get_or body n 0) (get_or body (n + 1) 0) p q) refl

pub close_on_first : (body : List ℕ) (n : ℕ) → n + 1 < length body → get_or body n 0 ≢ 42 → after_close (drop n body) ≡ after_close (drop (n + 1) body)
unfolding after_close
close_on_first body n h p = rw (two body n h, one body n h, test_no_first (get_or body n 0) (get_or body (n + 1) 0) p) refl

pub close_on_second : (body : List ℕ) (n : ℕ) → n + 1 < length body → get_or body (n + 1) 0 ≢ 47 → after_close (drop n body) ≡ after_close (drop (n + 1) body)
unfolding after_close
close_on_second body n h p = rw (two body n h, one body n h, test_no_second (get_or body n 0) (get_or body (n + 1) 0) p) refl

short : (xs : List ℕ) → length xs ≤ 1 → after_close xs ≡ None
unfolding after_close
short [] h = refl
short (a ∷ []) h = refl
short (a ∷ b ∷ xs) h = absurd (omega arith)

pub close_end : (body : List ℕ) (n : ℕ) → length body ≤ n + 1 → after_close (drop n body) ≡ None
close_end body n h = short (drop n body) (omega (arith, length-drop n body))
