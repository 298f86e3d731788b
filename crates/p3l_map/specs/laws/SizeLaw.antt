-- Numbers of tokens in a map, and of the groups and firings that these stand for. The outcomes to come are at most the
-- tokens with Scatter and Gather and on the lines (`come_bound`), since each stands for a group or for one token.
-- `all_bound` adds up the firings that the lines, Scatter and Gather still need.
use Rattle.std.proofs.Common.{◌≡◌, ℕ, zero, suc, ◌+◌, ◌-◌, ◌*◌, ◌≤◌, inl, inr, nat_eq, List, [], ◌∷◌, ◌++◌, length, refl, ap, ◌∙◌, arith, length-append, eqb-true}
use Rattle.std.proofs.lemmas.Bool.{cases_Bool, cases_lt, cond-true, cond-false}
use Rattle.std.proofs.lemmas.List.{length-map}
use Rattle.p3l_firing.specs.Lists.{rest_of}
use Rattle.p3l_firing.specs.At.{at}
use Rattle.p3l_firing.specs.declared.token.Token.{Token}
use Rattle.p3l_map.specs.Map.{Pieces, View, joined, unsent, under_way, whole, to_come, spot}
use Rattle.p3l_map.specs.Places.{read_by, total, groups, left}
use Rattle.p3l_map.specs.laws.MapView.{Kept, pieces_length}
use Rattle.p3l_template.specs.Sum.{sum_of}
use Rattle.p3l_template.specs.laws.Inside.{times_le}

-- TOKENS
pub total_sum : (L : ℕ → List Token) (n : ℕ) → total L n ≡ sum_of (λ w. length (L w)) n
unfolding sum_of total
total_sum L zero = refl
total_sum L (suc n) = ap (λ z. length (L n) + z) (total_sum L n)

-- GROUPS
groups_count : (n : ℕ) (acc xs : List Token) →
    n * length (groups n acc xs) + length (left n acc xs) ≡ length acc + length xs
unfolding groups left
groups_count n acc [] = omega arith
groups_count n acc (x ∷ xs) =
    elim (cases_Bool (nat_eq (suc (length acc)) n)) [
      | inl e ↦
          let a = ap length (cond-true _ ((acc ++ x ∷ []) ∷ groups n [] xs) (groups n (acc ++ x ∷ []) xs) e) in
          let b = ap length (cond-true _ (left n [] xs) (left n (acc ++ x ∷ []) xs) e) in
          let r = groups_count n [] xs in
          let d = eqb-true (suc (length acc)) n e in
          let c : n * suc (length (groups n [] xs)) ≡ n + n * length (groups n [] xs) = omega arith in
          let f = ap (λ z. n * z) a in
          omega (arith, b, c, d, f, r)
      | inr e ↦
          let a = ap length (cond-false _ ((acc ++ x ∷ []) ∷ groups n [] xs) (groups n (acc ++ x ∷ []) xs) e) in
          let b = ap length (cond-false _ (left n [] xs) (left n (acc ++ x ∷ []) xs) e) in
          let r = groups_count n (acc ++ x ∷ []) xs in
          let d = length-append acc (x ∷ []) in
          let f = ap (λ z. n * z) a in
          omega (arith, b, d, f, r)
    ]

pub read_count : (f : ℕ → ℕ) (m c : ℕ) (L : ℕ → List Token) → length (read_by L f c m) ≡ m
unfolding read_by
read_count f zero c L = refl
read_count f (suc m) c L = ap suc (read_count f m (suc c) (at L (f c) (rest_of (L (f c)))))

unsent_bound : (q : Pieces) (ts : List Token) (k : ℕ) → length (unsent q ts k) ≤ q.number * length ts
unfolding unsent
unsent_bound q [] k = omega arith
unsent_bound q (x ∷ xs) k = let a = pieces_length q k (q.number - k) x in
    let b : q.number * suc (length xs) ≡ q.number + q.number * length xs = omega arith in omega (arith, a, b)

-- m groups, each of n + 1 of x pieces or of those of one of y tokens
few : (n g x y : ℕ) → suc n * g ≤ x + suc n * y → g ≤ x + y
few n g x y h =
    elim (cases_lt (x + y) g) [
      | inl l ↦
          let a = times_le (suc n) (suc (x + y)) g l in
          let b : suc n * suc (x + y) ≡ ((x + n * x) + suc n * y) + suc n = omega arith in
          absurd (omega (arith, a, b, h))
      | inr l ↦ l
    ]

-- the number of tokens to come is at most that held by Gather and Scatter and under way
pub come_bound : (q : Pieces) (n : ℕ) (v : View) → q.number ≡ suc n → Kept q v →
    length (to_come q v) ≤ (length v.sending + length v.held) + under_way q v
unfolding to_come whole
come_bound q n v e k =
    let a = length-map
    (groups q.number []
    (v.held ++ (read_by v.lines (spot q) (length v.held) (under_way q v) ++ unsent q v.sending v.sent))) (joined q) in
    let b = groups_count q.number []
    (v.held ++ (read_by v.lines (spot q) (length v.held) (under_way q v) ++ unsent q v.sending v.sent)) in
    let c = length-append v.held
    (read_by v.lines (spot q) (length v.held) (under_way q v) ++ unsent q v.sending v.sent) in
    let d = length-append (read_by v.lines (spot q) (length v.held) (under_way q v)) (unsent q v.sending v.sent) in
    let r = read_count (spot q) (under_way q v) (length v.held) v.lines in
    let u = unsent_bound q v.sending v.sent in
    let f = ap (λ z. z * length v.sending) e in
    let g = ap (λ z. z
    * length (groups q.number []
    (v.held ++ (read_by v.lines (spot q) (length v.held) (under_way q v) ++ unsent q v.sending v.sent)))) e in
    let m = few n (length
    (groups q.number []
    (v.held ++ (read_by v.lines (spot q) (length v.held) (under_way q v) ++ unsent q v.sending v.sent))))
    (length v.held + under_way q v) (length v.sending) (omega (arith, b, c, d, r, u, f, g)) in
    omega (arith, a, m)

pub le_times : (a b g : ℕ) → a ≤ b → a * g ≤ b * g
le_times a b g l = let e : b ≡ a + (b - a) = omega arith in
    let d : b * g ≡ a * g + (b - a) * g = ap (λ z. z * g) e ∙ omega arith in omega (arith, d)

-- the lines need t, Scatter's token w, and g are to come
pub all_bound : (f x s h a t w g i : ℕ) → t ≤ (1 + f) * a → w ≤ s * (x + (f + 2)) → g ≤ (s + h) + a → (s + h) + a ≤ i →
    t + (w + g) ≤ (2 + (x + (f + 2))) * i
all_bound f x s h a t w g i l m n o =
    let y = times_le (2 + (x + (f + 2))) ((s + h) + a) i o in
    let b : (2 + (x + (f + 2))) * ((s + h) + a)
    ≡ ((x * s + x * h) + x * a) + (((f * s + f * h) + f * a) + (((4 * s) + (4 * h)) + 4 * a)) = omega arith in
    let c : (1 + f) * a ≡ a + f * a = omega arith in
    let d : s * (x + (f + 2)) ≡ (x * s + f * s) + 2 * s = omega arith in
    omega (arith, y, b, c, d, l, m, n)
