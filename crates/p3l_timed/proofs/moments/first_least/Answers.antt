-- Each step down goes to the first of the two cells that has the root's moment.
use Rattle.std.proofs.Common.{◌≡◌, ℕ, suc, ◌+◌, ◌^◌, ◌<◌, inl, inr, Option, List, sym, subst, arith}
use Rattle.std.proofs.lemmas.Bool.{cases_lt}
use Rattle.std.proofs.Math.Nat.{two-pow-succ}
use Rattle.p3l_timed.specs.Moments.{IsDown}
use Rattle.p3l_timed.proofs.Tree.{down_left, down_right, power_le}
use Rattle.p3l_timed.proofs.moments.first_least.Goals as goal

-- a cell above the last level is no number's
inside : (cells : List (Option ℕ)) (levels k i : ℕ) → k < levels → IsDown cells k i → i < 2 ^ levels
inside cells levels k i l way = omega (arith, way.high, two-pow-succ k, power_le (suc k) levels (omega (arith, l)))

pub down-i-requires : goal.down-i-requires
down-i-requires c =
    let l = inside c.args.cells.now c.args.levels c.loop-level._level c.loop-level.i c.loop-level-test.true
    c.loop-level.invariant in
    omega (arith, l, c.requires.tree.long)

pub loop-level-preserved : goal.loop-level-preserved
loop-level-preserved c =
    let cells = c.args.cells.now in
    let k = c.loop-level._level in
    let i = c.loop-level.i in
    let way = c.loop-level.invariant in
    let l = inside cells c.args.levels k i c.loop-level-test.true way in
    let more : suc k ≡ k + 1 = omega arith in
    let down = c.down-i.ensures in
    elim (cases_lt (i + i) c.down-i.result) [
      | inl right ↦
          let e : c.down-i.result ≡ suc (i + i) = omega (arith, right, down.either.1) in
          subst (λ z. IsDown cells z c.down-i.result) more
          (subst (IsDown cells (suc k)) (sym e)
          (down_right (2 ^ c.args.levels) cells c.requires.tree k i l way (down.right e)))
      | inr left ↦
          let e : c.down-i.result ≡ i + i = omega (arith, left, down.either.0) in
          subst (λ z. IsDown cells z c.down-i.result) more
          (subst (IsDown cells (suc k)) (sym e)
          (down_left (2 ^ c.args.levels) cells c.requires.tree k i l way (down.left e)))
    ]
