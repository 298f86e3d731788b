-- Small powers of two.
use Rattle.std.proofs.Common.{◌≡◌, ℕ, ◌*◌, ◌%◌, ◌^◌, ◌<◌, ◌≤◌, arith}
use Rattle.std.proofs.Math.Pow.{pow_mono}

pub shifted : (k : ℕ) → k < 10 → (1 * 2 ^ k % 4294967296 ≡ 2 ^ k) × (2 ^ k ≤ 512)
shifted k small =
    let few : 2 ^ k ≤ 2 ^ 9 = pow_mono {i = k} {j = 9} (omega arith) in
    (omega (arith, few), omega (arith, few))
