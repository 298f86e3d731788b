-- Numbers as far as 64 bits count them.
use Rattle.std.proofs.Common.{◌≡◌, ℕ, zero, suc, ◌+◌, ◌*◌, ◌≤◌, refl, arith, inl, inr}
use Rattle.std.proofs.Math.Nat.{mul-le-mul_left}
use Rattle.std.proofs.lemmas.Bool.{cases_lt}
use Rattle.p3l_skel.specs.declared.tree.Form.{Form}
use Rattle.p3l_skel.specs.declared.tree.Form.TheVariants.{Seq, Comp, Pipe, Farm, Map, Reduce, Loop}
use Rattle.p3l_skel.specs.Numbers.{procs_row}
use Rattle.p3l_model.specs.Fitted.{fitted}

-- a product with a number that may not fit
fitted-mul : (n s more : ℕ) → fitted (n * fitted s + more) ≡ fitted (n * s + more)
fitted-mul zero s more = omega arith
fitted-mul (suc n) s more =
    elim (cases_lt s 18446744073709551615) [
      | inl below ↦ let e : fitted s ≡ s = omega arith in rw e refl
      | inr past ↦ let e : fitted s ≡ 18446744073709551615 = omega arith in
          let one : suc n * 18446744073709551615 ≤ suc n * s = mul-le-mul_left (suc n) past in
          let some : 18446744073709551615 ≤ suc n * 18446744073709551615 = omega arith in
          rw e (omega arith)
    ]

pub procs_row-fitted : (form : Form) (n s : ℕ) → fitted (procs_row form n (fitted s)) ≡ fitted (procs_row form n s)
procs_row-fitted Seq n s = refl
procs_row-fitted Comp n s = refl
procs_row-fitted Pipe n s = omega arith
procs_row-fitted (Farm w) n s = let e = fitted-mul n s 2 in omega arith
procs_row-fitted (Map w cut) n s = let e = fitted-mul n s 2 in omega arith
procs_row-fitted (Reduce w len elem) n s = refl
procs_row-fitted (Loop turns tokens) n s = omega arith
