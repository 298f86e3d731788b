use Rattle.std.proofs.Common.{◌≡◌, length}
use Rattle.p3l_sched.specs.Picker.{HasPlace}
use Rattle.p3l_nesting_tests.proofs.running.saved_after.Given as goal

abbrev pub invariant-loop-pick : goal.invariant-loop-pick
invariant-loop-pick g l = (l.machine.tree ≡ l.units.tree) × HasPlace (length l.machine.net.procs) l.picker
