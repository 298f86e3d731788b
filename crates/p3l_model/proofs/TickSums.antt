-- Ticks, level by level, and as far as they count.
use Rattle.std.proofs.Common.{◌≡◌, ℕ, zero, suc, ◌+◌, ◌-◌, ◌*◌, ◌^◌, ◌<◌, ◌≤◌, min, max, length, sum_by, refl, arith, inl, inr}
use Rattle.std.specs.Prelude.{slice_index}
use Rattle.std.proofs.Math.Nat.{mul-le-mul_left}
use Rattle.std.proofs.lemmas.Bool.{cases_lt}
use Rattle.p3l_base.specs.Cut.{element_count}
use Rattle.p3l_skel.specs.declared.tree.Form.{Form}
use Rattle.p3l_skel.specs.declared.tree.Form.TheVariants.{Seq, Comp, Pipe, Farm, Map, Reduce, Loop}
use Rattle.p3l_skel.specs.declared.tree.Tree.{Tree}
use Rattle.p3l_skel.specs.Tree.{node_at, by_parts}
use Rattle.p3l_skel.proofs.Below.{by_parts-step, node_at-past}
use Rattle.p3l_cost.specs.declared.costs.Costs.{Costs}
use Rattle.p3l_model.specs.NodeCost.{timed, never}
use Rattle.p3l_model.specs.Service.{ticks_to, ticks_row}

pub ticks_to-zero : (tree : Tree) (costs : Costs) (k : ℕ) → ticks_to tree costs 0 k ≡ 0
unfolding ticks_to by_parts
ticks_to-zero tree costs k = refl

pub ticks_to-step : (tree : Tree) (costs : Costs) (d k : ℕ) → 0 < d → ticks_to tree costs d k ≡ ticks_row (node_at tree k).form (slice_index costs.ticks (node_at tree k).module) (sum_by (ticks_to tree costs (d - 1)) (node_at tree k).parts)
unfolding ticks_to
ticks_to-step tree costs d k some = by_parts-step _ _ d k some

pub ticks_to-past : (tree : Tree) (costs : Costs) (d k : ℕ) → 0 < d → length tree.nodes ≤ k → ticks_to tree costs d k ≡ 0
ticks_to-past tree costs d k some past = rw (ticks_to-step tree costs d k some, node_at-past tree k past) refl

-- a product with a number that is counted so far
pub timed-mul : (n s more : ℕ) → timed (n * timed s + more) ≡ timed (n * s + more)
timed-mul zero s more = omega arith
timed-mul (suc n) s more =
    elim (cases_lt s never) [
      | inl below ↦ let e : timed s ≡ s = omega arith in rw e refl
      | inr past ↦ let e : timed s ≡ never = omega arith in
          let one : suc n * never ≤ suc n * s = mul-le-mul_left (suc n) past in
          let some : never ≤ suc n * never = omega arith in
          rw e (omega arith)
    ]

pub ticks_row-timed : (form : Form) (own s : ℕ) → timed (ticks_row form own (timed s)) ≡ timed (ticks_row form own s)
ticks_row-timed Seq own s = refl
ticks_row-timed Comp own s = omega arith
ticks_row-timed Pipe own s = refl
ticks_row-timed (Farm w) own s = refl
ticks_row-timed (Map w cut) own s = let e = timed-mul (element_count cut) s 0 in omega arith
ticks_row-timed (Reduce w len elem) own s = let e = timed-mul (len - 1) s 0 in omega arith
ticks_row-timed (Loop turns tokens) own s = refl

-- the times of a loop's ends, of which each step is counted so far
pub loop_ends-timed : (turns token taken test counted sum admits tests ends result : ℕ) → taken < 2 ^ 97 → taken ≡ token → counted ≡ timed test → sum ≡ min (counted + 2 * taken) (2 ^ 128 - 1) → admits ≡ min (2 * turns * taken) (2 ^ 128 - 1) → tests ≡ min (turns * sum) (2 ^ 128 - 1) → ends ≡ max admits tests → result ≡ min ends never → result ≡ timed (max (2 * (turns * token)) (turns * (test + 2 * token)))
loop_ends-timed turns token taken test counted sum admits tests ends result small same a b c d e f =
    let whole : sum ≡ timed test + 2 * token = omega arith in
    let product : turns * sum ≡ turns * timed test + turns * (2 * token) = rw whole (omega arith) in
    let first : admits ≡ min (2 * (turns * token)) (2 ^ 128 - 1) = rw (← same) (omega arith) in
    let g = timed-mul turns test (turns * (2 * token)) in
    omega (arith, product, g)
