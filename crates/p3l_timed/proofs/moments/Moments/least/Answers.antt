use Rattle.std.proofs.Common.{◌≡◌, ◌≢◌, ◌-◌, None, refl, subst, arith}
use Rattle.p3l_timed.specs.Moments.{IsDown, IsLeast, IsNeverDue, due_at}
use Rattle.p3l_timed.proofs.Tree.{down_end, never_due, power_le}
use Rattle.p3l_timed.proofs.moments.Moments.least.Goals as goal

pub returns-then-not-is_due-clause-none : goal.returns-then-not-is_due-clause-none
returns-then-not-is_due-clause-none c =
    λ _. subst IsNeverDue c.self.view_is
    (never_due c.self.inside.size c.self.inside.cells.items c.self.invariant.tree
    (subst (λ xs. due_at xs 1 ≡ None) c.as_slice.ensures.value (c.if-not-is_due.ensures.no refl)))

pub returns-clause-least : goal.returns-clause-least
returns-clause-least c =
    subst (λ xs. IsLeast xs (c.first_least-cell.result - c.self.inside.size)) c.self.view_is
    (down_end c.self.inside.levels c.self.inside.size c.self.inside.cells.items c.first_least-cell.result c.self.invariant
    (subst (λ xs. IsDown xs c.self.inside.levels c.first_least-cell.result) c.as_slice-2.ensures.value c.first_least-cell.ensures)
    (subst (λ xs. due_at xs 1 ≢ None) c.as_slice.ensures.value (c.if-not-is_due.ensures.yes refl)))

pub overflow_cast-result : goal.overflow_cast-result
overflow_cast-result c =
    omega (
      arith,
      c.first_least-cell.ensures.high,
      c.self.invariant.power,
      power_le c.self.inside.levels 32 c.self.invariant.few,
    )
