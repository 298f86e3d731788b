-- Work counted up to the limit is the work, as far as it counts.
use Rattle.std.proofs.Common.{◌≡◌, ℕ, zero, suc, ◌+◌, ◌-◌, ◌*◌, ◌≤◌, refl, arith, inl, inr}
use Rattle.std.proofs.Math.Nat.{mul-le-mul_left}
use Rattle.std.proofs.lemmas.Bool.{cases_lt}
use Rattle.p3l_base.specs.Cut.{element_count}
use Rattle.p3l_skel.specs.declared.tree.Form.{Form}
use Rattle.p3l_skel.specs.declared.tree.Form.TheVariants.{Seq, Comp, Pipe, Farm, Map, Reduce, Loop}
use Rattle.p3l_skel.specs.Numbers.{firings_row, runs_row}
use Rattle.p3l_skel.specs.Work.{capped}

-- a product with a number that is capped
pub capped-mul : (n s more : ℕ) → capped (n * capped s + more) ≡ capped (n * s + more)
capped-mul zero s more = omega arith
capped-mul (suc n) s more =
    elim (cases_lt s 134217729) [
      | inl below ↦ let e : capped s ≡ s = omega arith in rw e refl
      | inr past ↦ let e : capped s ≡ 134217729 = omega arith in
          let one : suc n * 134217729 ≤ suc n * s = mul-le-mul_left (suc n) past in
          let some : 134217729 ≤ suc n * 134217729 = omega arith in
          rw e (omega arith)
    ]

pub firings_row-capped : (reduce : ℕ → ℕ) (form : Form) (n s : ℕ) → capped (firings_row reduce form n (capped s)) ≡ capped (firings_row reduce form n s)
firings_row-capped reduce Seq n s = refl
firings_row-capped reduce Comp n s = refl
firings_row-capped reduce Pipe n s = omega arith
firings_row-capped reduce (Farm w) n s = omega arith
firings_row-capped reduce (Map w cut) n s =
    let e = capped-mul (element_count cut) s (2 + 2 * element_count cut) in omega arith
firings_row-capped reduce (Reduce w len elem) n s = refl
firings_row-capped reduce (Loop turns tokens) n s = let e = capped-mul turns s (2 * turns + 1) in omega arith

pub runs_row-capped : (form : Form) (s : ℕ) → capped (runs_row form (capped s)) ≡ capped (runs_row form s)
runs_row-capped Seq s = refl
runs_row-capped Comp s = omega arith
runs_row-capped Pipe s = omega arith
runs_row-capped (Farm w) s = omega arith
runs_row-capped (Map w cut) s = let e = capped-mul (element_count cut) s 0 in omega arith
runs_row-capped (Reduce w len elem) s = let e = capped-mul (len - 1) s 0 in omega arith
runs_row-capped (Loop turns tokens) s = let e = capped-mul turns s 0 in omega arith
