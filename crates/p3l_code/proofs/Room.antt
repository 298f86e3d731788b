-- The stack at a place has no more words than there are places before it.
use Rattle.std.proofs.Common.{◌≡◌, ℕ, zero, suc, ◌+◌, ◌<◌, ◌≤◌, Some, inl, inr, sym, ◌∙◌, subst, arith}
use Rattle.std.specs.Prelude.{slice_get}
use Rattle.std.proofs.lemmas.Bool.{cases_lt}
use Rattle.std.proofs.lemmas.Option.{slice_get_within}
use Rattle.p3l_code.specs.declared.instr.Instr.{Instr}
use Rattle.p3l_code.specs.declared.instr.Instr.TheVariants.{Push}
use Rattle.p3l_code.specs.declared.instr.Code.{Code}
use Rattle.p3l_code.specs.Safe.{depth_after, next_of, Agrees, AreDepths, IsReached}
use Rattle.p3l_code.specs.Run.{IsAt}
use Rattle.p3l_code.specs.Stacked.{HasRoom}
use Rattle.p3l_code.proofs.Fine.{depth_at, fine}

-- an instruction puts at most one word more there
one_more : (depth : ℕ) (i : Instr) → depth_after depth i ≤ depth + 1
one_more depth (Push v) = omega arith
one_more depth _ = omega arith

module _ (code : Code) (depths : _) (are : AreDepths code depths) where
  -- a place that is reached from one with no more words than places before it is another such place
  step_low : (from place : ℕ) (i : Instr) (d : ℕ) → from < place → slice_get code.instrs from ≡ Some i → ((e : ℕ) → slice_get depths from ≡ Some e → e ≤ from) →
      ((e : ℕ) → slice_get depths from ≡ Some e → slice_get depths place ≡ Some (depth_after e i)) → slice_get depths place ≡ Some d → d ≤ place
  step_low from place i d before at low leads here =
      let e = depth_at code depths from i are at in
      let same : d ≡ depth_after e.0 i = let both = sym here ∙ leads e.0 e.1 in cc in
      omega (arith, same, one_more e.0 i, low e.0 e.1)

  low_by : (n place d : ℕ) → place < n → slice_get depths place ≡ Some d → d ≤ place
  low_by zero place d below here = absurd (omega arith)
  low_by (suc n) place d below here = elim (cases_lt place d) as (λ _. d ≤ place) [
    | inl deep ↦ let zero_deep : d ≡ 0 = are.unreached place d here (λ reached. by (λ p e first at. low_by n p e (omega arith) at) reached deep) in omega arith
    | inr low ↦ low
  ]
    where
      by : ((p e : ℕ) → p < place → slice_get depths p ≡ Some e → e ≤ p) → IsReached code.instrs place → place < d → ⊥
      by go (inl r) deep =
          let low = step_low r.0 place r.1 d (omega (arith, r.2)) r.3 (λ e at. go r.0 e (omega (arith, r.2)) at)
          (λ e at. let next = (are.each r.0 e r.1 r.3 at).next in
          let there : slice_get depths (r.0 + 1) ≡ Some (depth_after e r.1) = subst (λ b. Agrees depths (depth_after e r.1) (next_of r.0 b)) r.4 next in
          subst (λ p. slice_get depths p ≡ Some (depth_after e r.1)) (sym r.2) there) here in
          omega arith
      by go (inr r) deep =
          let low = step_low r.0 place r.1 d r.2 r.3 (λ e at. go r.0 e r.2 at)
          (λ e at. subst (λ o. Agrees depths (depth_after e r.1) o) r.4 (are.each r.0 e r.1 r.3 at).jumps) here in
          omega arith

-- so there is room for a word that an instruction puts there
pub room_left : (code : Code) (pc depth : ℕ) (i : Instr) (room : ℕ) → slice_get code.instrs pc ≡ Some i → IsAt code pc depth →
    depth_after depth i ≡ depth + 1 → HasRoom code room → depth < room
room_left code pc depth i room at here more has =
    let shallow = (fine code pc depth i at here).shallow in
    let low = low_by code here.0 here.1 (suc pc) pc depth (omega arith) here.2 in
    let inside = slice_get_within code.instrs pc i at in
    omega (arith, shallow, low, inside, more, has)
