-- The heap of places: m - 1 joins, then the places of m segments, where m is a power of two. `deep_from` says where
-- the levels below a place lie. Every place is below place 1 (`reach`),
-- and there are m - 1 joins (`join_count_is`).
use Rattle.std.proofs.Common.{◌≡◌, ℕ, zero, suc, ◌+◌, ◌*◌, ◌/◌, ◌^◌, ◌≤◌, ◌<◌, ◌⊎◌, inl, inr, refl, sym, ◌∙◌, subst, arith}
use Rattle.std.proofs.Math.Nat.{pow-succ'}
use Rattle.std.proofs.lemmas.Bool.{cases_eq}
use Rattle.std.proofs.lemmas.Nat.{pow_pos}

-- d levels of joins from place r down, and below them segments
unfoldable pub Deep : ℕ → ℕ → ℕ → Type 0
Deep m zero r = (m ≤ r) × (r < m + m)
Deep m (suc d) r = (0 < r) × (r < m) × Deep m d (r + r) × Deep m d (suc (r + r))

-- place q is at r, or at most d levels below it
unfoldable pub Below : ℕ → ℕ → ℕ → Type 0
Below zero r q = q ≡ r
Below (suc d) r q = (q ≡ r) ⊎ (Below d (r + r) q ⊎ Below d (suc (r + r)) q)

times_more : (z r : ℕ) → 0 < z → suc r ≤ z * suc r
times_more zero r h = absurd (omega arith)
times_more (suc z) r h = omega arith

pub deep_from : (m d r : ℕ) → 0 < r → m ≤ 2 ^ d * r → 2 ^ d * suc r ≤ m + m → Deep m d r
unfolding Deep
deep_from m zero r pos low high =
    let one : 2 ^ 0 ≡ 1 = refl in
    let a : m ≤ 1 * r = subst (λ z. m ≤ z * r) one low in
    let b : 1 * suc r ≤ m + m = subst (λ z. z * suc r ≤ m + m) one high in
    (omega arith, omega arith)
deep_from m (suc d) r pos low high =
    let two : 2 ^ suc d ≡ 2 * 2 ^ d = pow-succ' 2 d in
    let some : 0 < 2 ^ d = pow_pos d in
    let a : m ≤ (2 * 2 ^ d) * r = subst (λ z. m ≤ z * r) two low in
    let b : (2 * 2 ^ d) * suc r ≤ m + m = subst (λ z. z * suc r ≤ m + m) two high in
    let c : suc r ≤ 2 ^ d * suc r = times_more (2 ^ d) r some in (
      pos,
      omega arith,
      deep_from m d (r + r) (omega arith) (omega arith) (omega arith),
      deep_from m d (suc (r + r)) (omega arith) (omega arith) (omega arith),
    )

-- a place above place q is above those below q too
grow : (d r q : ℕ) → Below d r q → Below (suc d) r (q + q) × Below (suc d) r (suc (q + q))
unfolding Below
grow zero r q e = (inr (inl (omega (arith, e))), inr (inr (omega (arith, e))))
grow (suc d) r q (inl e) = (inr (inl (inl (omega (arith, e)))), inr (inr (inl (omega (arith, e)))))
grow (suc d) r q (inr (inl b)) = let g = grow d (r + r) q b in (inr (inl g.0), inr (inl g.1))
grow (suc d) r q (inr (inr b)) = let g = grow d (suc (r + r)) q b in (inr (inr g.0), inr (inr g.1))

-- every place of the heap is below place 1
pub reach : (d q : ℕ) → 0 < q → q < 2 ^ suc d → Below d 1 q
unfolding Below
reach zero q pos low = let two : 2 ^ 1 ≡ 2 = refl in omega (arith, two, subst (λ z. q < z) two low)
reach (suc d) q pos low =
    let two : 2 ^ suc (suc d) ≡ 2 * 2 ^ suc d = pow-succ' 2 (suc d) in
    elim (cases_eq q 1) [
      | inl e ↦ inl e
      | inr n ↦
          let b : Below d 1 (q / 2) = reach d (q / 2) (omega arith) (omega (arith, subst (λ z. q < z) two low)) in
          let up = grow d 1 (q / 2) b in
          elim (cases_eq q (q / 2 + q / 2)) [
            | inl e ↦ subst (λ z. Below (suc d) 1 z) (sym e) up.0
            | inr o ↦ let e : q ≡ suc (q / 2 + q / 2) = omega arith in subst (λ z. Below (suc d) 1 z) (sym e) up.1
          ]
    ]

-- the number of joins from a place of depth d down
unfoldable pub join_count : ℕ → ℕ
join_count zero = 0
join_count (suc d) = suc (join_count d + join_count d)

pub join_count_is : (d : ℕ) → 2 ^ d ≡ suc (join_count d)
unfolding join_count
join_count_is zero = refl
join_count_is (suc d) = pow-succ' 2 d ∙ omega (arith, join_count_is d)
