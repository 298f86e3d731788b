-- Powers of two, as the stages of a plan use them.
use Rattle.std.proofs.Common.{◌≡◌, ℕ, zero, suc, ◌-◌, ◌*◌, ◌^◌, ◌<◌, ◌≤◌, arith, ap, sym, ◌∙◌}
use Rattle.std.proofs.Math.Nat.{mul_assoc, mul_comm, pow-succ'}

pub power_pos : (n : ℕ) → 0 < 2 ^ n
power_pos zero = omega arith
power_pos (suc n) = let h = power_pos n in omega (arith, h, pow-succ' 2 n)

-- half as many blocks of twice the words are as many words
pub doubled : (n words : ℕ) → 2 ^ n * (2 * words) ≡ 2 ^ suc n * words
doubled n words =
    sym (mul_assoc (2 ^ n) 2 words) ∙ ap (λ z. z * words) (mul_comm (2 ^ n) 2 ∙ sym (pow-succ' 2 n))

-- the blocks of stage s have twice the words of those before
pub grown : (s words : ℕ) → 2 * (2 ^ s * words) ≡ 2 ^ suc s * words
grown s words = sym (mul_assoc 2 (2 ^ s) words) ∙ ap (λ z. z * words) (sym (pow-succ' 2 s))

-- the blocks of each stage together are an item
pub whole_words : (d s words : ℕ) → s ≤ d → 2 ^ (d - s) * (2 ^ s * words) ≡ 2 ^ d * words
whole_words d zero words l = let e : d - 0 ≡ d = omega arith in let one : 1 * words ≡ words = omega arith in
    ap (λ z. 2 ^ z * (1 * words)) e ∙ ap (λ z. 2 ^ d * z) one
whole_words d (suc s) words l =
    let e : suc (d - suc s) ≡ d - s = omega (arith, l) in
    ap (λ z. 2 ^ (d - suc s) * z) (sym (grown s words)) ∙ doubled (d - suc s) (2 ^ s * words)
    ∙ ap (λ z. 2 ^ z * (2 ^ s * words)) e ∙ whole_words d s words (omega (arith, l))
