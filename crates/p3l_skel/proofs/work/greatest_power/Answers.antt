use Rattle.std.proofs.Common.{◌≡◌, ℕ, suc, ◌*◌, ◌^◌, ◌<◌, ◌≤◌, ◌⊎◌, arith, inl, inr, ◌∙◌, sym}
use Rattle.std.proofs.Math.Nat.{mod-eq_of_lt, pow-succ'}
use Rattle.std.proofs.Math.Pow.{pow_mono}
use Rattle.std.proofs.lemmas.Bool.{cases_lt}
use Rattle.p3l_skel.proofs.Powers.{power_up_to-is}
use Rattle.p3l_skel.proofs.work.greatest_power.Goals as goal

pub returns : goal.returns
returns c =
    let r : ℕ = c.ilog2.result in
    let low : 2 ^ r ≤ c.clamp.result = c.ilog2.ensures.power_le in
    let high : c.clamp.result < 2 * 2 ^ r = c.ilog2.ensures.next_power_gt in
    let below : 1 * 2 ^ r < 4294967296 = omega arith in
    let small : r ≤ 9 = elim (cases_lt 9 r) [ inl more ↦ let h : 2 ^ 10 ≤ 2 ^ r = pow_mono more in absurd (omega arith) | inr less ↦ less ] in
    let fits : (2 ^ r ≤ c.args.len) ⊎ (r ≡ 0) = elim (cases_lt 0 c.args.len) [
      | inl some ↦ inl (omega arith)
      | inr none ↦ elim (cases_lt 0 r) [ inl more ↦ let h : 2 ^ 1 ≤ 2 ^ r = pow_mono more in absurd (omega arith) | inr less ↦ inr (omega arith) ]
    ] in
    let ends : r < 9 → c.args.len < 2 * 2 ^ r = (λ below. let h : 2 ^ suc r ≤ 2 ^ 9 = pow_mono below in let e : 2 ^ suc r ≡ 2 * 2 ^ r = pow-succ' 2 r in omega arith) in
    mod-eq_of_lt below ∙ (omega arith ∙ sym (power_up_to-is 9 r c.args.len small fits ends))
