use Rattle.std.proofs.Common.{◌≡◌, ℕ, ◌<◌, Some, slice_get}
use Rattle.p3l_firing.specs.declared.process.Proc.{Proc}
use Rattle.p3l_firing.specs.Shot.{own_saved_at}
use Rattle.p3l_fitting.specs.Decided.{OwnFits}
use Rattle.p3l_fitting.proofs.owns.owns_fit.Given as goal

abbrev pub invariant-loop-p : goal.invariant-loop-p
invariant-loop-p l =
    (p : ℕ) → p < l.p → (q : Proc) → slice_get l.net.procs p ≡ Some q → OwnFits q.kind l.tree l.net l.row l.shot q (own_saved_at l.shot p)
