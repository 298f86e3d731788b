-- Powers of two.
use Rattle.std.proofs.Common.{◌≡◌, ℕ, zero, suc, ◌*◌, ◌^◌, ◌<◌, ◌≤◌, ◌⊎◌, refl, arith, inl, inr}
use Rattle.std.proofs.Math.Nat.{pow-succ'}
use Rattle.std.proofs.Math.Pow.{pow-lt, pow_mono}
use Rattle.std.proofs.lemmas.Bool.{cases_lt}
use Rattle.std.proofs.lemmas.Bool.Decides.{leb_tells}
use Rattle.std.specs.Int.{IsPowerOfTwo}
use Rattle.p3l_skel.specs.Numbers.{power_up_to}

-- the exponent of a power of two that lies between another one and its double
pub log-unique : (r k : ℕ) → 2 ^ r ≤ 2 ^ k → 2 ^ k < 2 * 2 ^ r → k ≡ r
log-unique r k low high =
    elim (cases_lt k r) [
      | inl below ↦ let h : 2 ^ k < 2 ^ r = pow-lt below in omega arith
      | inr above ↦ elim (cases_lt r k) [
        | inl more ↦ let h : 2 ^ suc r ≤ 2 ^ k = pow_mono more in let e : 2 ^ suc r ≡ 2 * 2 ^ r = pow-succ' 2 r in omega arith
        | inr same ↦ omega arith
      ]
    ]

-- the greatest power up to n, where it is known between which powers n lies
pub power_up_to-is : (k r n : ℕ) → r ≤ k → (2 ^ r ≤ n) ⊎ (r ≡ 0) → (r < k → n < 2 * 2 ^ r) → power_up_to k n ≡ 2 ^ r
unfolding power_up_to
power_up_to-is zero r n small low high = let e : r ≡ 0 = omega arith in rw e refl
power_up_to-is (suc k) r n small low high =
    elim (leb_tells (2 ^ suc k) n) [
      | inl fits ↦ elim (cases_lt r (suc k)) [
        | inl below ↦ let more : 2 ^ suc r ≤ 2 ^ suc k = pow_mono below in
            let twice : 2 ^ suc r ≡ 2 * 2 ^ r = pow-succ' 2 r in
            let over : n < 2 * 2 ^ r = high below in
            absurd (omega (arith, fits.1))
        | inr above ↦ let e : r ≡ suc k = omega arith in rw (fits.0, e) refl
      ]
      | inr past ↦ let smaller : r ≤ k = elim (cases_lt k r) [
        | inl more ↦ let e : r ≡ suc k = omega arith in
            elim low [ inl fits ↦ let f : 2 ^ suc k ≤ n = rw e at fits in absurd (omega (arith, past.1)) | inr none ↦ absurd (omega arith) ]
        | inr less ↦ less
      ] in
          rw past.0 (power_up_to-is k r n smaller low (λ below. high (omega arith)))
    ]

-- it is a power
pub power_up_to-power : (k n : ℕ) → IsPowerOfTwo (power_up_to k n)
unfolding power_up_to
power_up_to-power zero n = (0, refl)
power_up_to-power (suc k) n =
    elim (leb_tells (2 ^ suc k) n) [ inl fits ↦ rw fits.0 (suc k, refl) | inr past ↦ rw past.0 (power_up_to-power k n) ]

-- at most n
pub power_up_to-fits : (k n : ℕ) → 1 ≤ n → power_up_to k n ≤ n
unfolding power_up_to
power_up_to-fits zero n some = some
power_up_to-fits (suc k) n some =
    elim (leb_tells (2 ^ suc k) n) [ inl fits ↦ rw fits.0 fits.1 | inr past ↦ rw past.0 (power_up_to-fits k n some) ]

-- and of the exponents up to the greatest
pub power_up_to-small : (k n : ℕ) → power_up_to k n ≤ 2 ^ k
unfolding power_up_to
power_up_to-small zero n = omega arith
power_up_to-small (suc k) n =
    elim (leb_tells (2 ^ suc k) n) [
      | inl fits ↦ rw fits.0 (omega arith)
      | inr past ↦ let less : 2 ^ k ≤ 2 ^ suc k = pow_mono (omega arith) in
          let here = power_up_to-small k n in rw past.0 (omega arith)
    ]

-- no power of these exponents up to n is greater
pub power_up_to-most : (k e n : ℕ) → e ≤ k → 2 ^ e ≤ n → 2 ^ e ≤ power_up_to k n
unfolding power_up_to
power_up_to-most zero e n small fits = let z : e ≡ 0 = omega arith in rw z (omega arith)
power_up_to-most (suc k) e n small fits =
    elim (leb_tells (2 ^ suc k) n) [
      | inl within ↦ rw within.0 (pow_mono small)
      | inr past ↦
          let less : e ≤ k = elim (cases_lt e (suc k)) [
            | inl below ↦ omega arith
            | inr same ↦ let is : e ≡ suc k = omega arith in
                let f : 2 ^ suc k ≤ n = rw is at fits in absurd (omega (arith, past.1))
          ] in
          rw past.0 (power_up_to-most k e n less fits)
    ]

pub small_exponent : (e : ℕ) → 2 ^ e ≤ 512 → e ≤ 9
small_exponent e h =
    elim (cases_lt 9 e) [
      | inl past ↦ let more : 2 ^ 10 ≤ 2 ^ e = pow_mono past in absurd (omega arith)
      | inr small ↦ small
    ]
