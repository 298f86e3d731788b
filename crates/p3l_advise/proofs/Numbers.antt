-- The lines of the numbers of processors, one number more at a time.
use Rattle.std.proofs.Common.{◌≡◌, ℕ, zero, suc, ◌+◌, ◌-◌, ◌==◌, ◌<◌, ◌++◌, List, [], ◌∷◌, true, false, refl, sym, ap, ◌∙◌, arith, append_assoc}
use Rattle.std.specs.List.{flat_map, range_with_len}
use Rattle.std.proofs.lemmas.Bool.Decides.{nat_tests}
use Rattle.std.proofs.lemmas.List.{append-nil}
use Rattle.std.proofs.lemmas.List.Concat.{flat_map-append}
use Rattle.p3l_alloc.specs.declared.allocation.Best.{Best}
use Rattle.p3l_advise.specs.Falls.{change_line, fall_line, line_at}

pub range_more : (a n : ℕ) → range_with_len a (suc n) ≡ range_with_len a n ++ (a + n) ∷ []
range_more a zero = let e : a + 0 ≡ a = omega arith in rw e refl
range_more a (suc n) =
    let e : a + suc n ≡ a + 1 + n = omega arith in
    rw e (ap (λ (xs : List ℕ). a ∷ xs) (range_more (a + 1) n))

pub lines_more : (f : ℕ → List ℕ) (a n p : ℕ) → a + n ≡ p → flat_map f (range_with_len a (suc n)) ≡ flat_map f (range_with_len a n) ++ f p
lines_more f a n p is =
    ap (flat_map f) (range_more a n) ∙ flat_map-append f (range_with_len a n) ((a + n) ∷ [])
    ∙ ap (λ (xs : List ℕ). flat_map f (range_with_len a n) ++ xs) (append-nil (f (a + n)) ∙ ap f is)

same_number : (n : ℕ) → (n == n) ≡ true
same_number n = grind (arith, nat_tests)

other_number : (p n : ℕ) → n < p → (p == n) ≡ false
other_number p n more = grind (arith, nat_tests)

line_first : (best : ℕ → Best) (least : ℕ) → line_at best least least ≡ fall_line (best least).service least (best least)
line_first best least = rw (same_number least) refl

line_later : (best : ℕ → Best) (least p : ℕ) → least < p → line_at best least p ≡ change_line (best least).service (best (p - 1)).service p (best p)
line_later best least p more = rw (other_number p least more) refl

-- the lines of the numbers from the least on, up to another
abbrev pub lines_to : (ℕ → Best) → (least p : ℕ) → List ℕ
lines_to best least p = flat_map (line_at best least) (range_with_len least (p - least))

pub first_line : (best : ℕ → Best) (least : ℕ) (first : Best) (text put : List ℕ) → first ≡ best least → put ≡ text ++ fall_line first.service least first → put ≡ text ++ lines_to best least (least + 1)
first_line best least first text put is made =
    let one : least + 1 - least ≡ 1 = omega arith in
    let words : fall_line first.service least first ≡ line_at best least least = ap (λ (b : Best). fall_line b.service least b) is ∙ sym (line_first best least) in
    rw one (made ∙ ap (λ (xs : List ℕ). text ++ xs) (words ∙ sym (append-nil (line_at best least least))))

pub next_line : (best : ℕ → Best) (least p before : ℕ) (first here : Best) (text old put : List ℕ) → least < p → first ≡ best least → here ≡ best p → before ≡ (best (p - 1)).service → old ≡ text ++ lines_to best least p → put ≡ old ++ change_line first.service before p here → put ≡ text ++ lines_to best least (p + 1)
next_line best least p before first here text old put more is at last so made =
    let size : p + 1 - least ≡ suc (p - least) = omega arith in
    let words : change_line first.service before p here ≡ line_at best least p =
    ap (λ (b : Best). change_line b.service before p here) is ∙ ap (λ (b : Best). change_line (best least).service before p b) at
    ∙ ap (λ t. change_line (best least).service t p (best p)) last ∙ sym (line_later best least p more) in
    let grown : lines_to best least (p + 1) ≡ lines_to best least p ++ line_at best least p =
    ap (λ n. flat_map (line_at best least) (range_with_len least n)) size ∙ lines_more (line_at best least) least (p - least) p (omega arith) in
    made ∙ ap (λ (xs : List ℕ). xs ++ change_line first.service before p here) so ∙ append_assoc text (lines_to best least p) (change_line first.service before p here)
    ∙ ap (λ (xs : List ℕ). text ++ (lines_to best least p ++ xs)) words ∙ ap (λ (xs : List ℕ). text ++ xs) (sym grown)
