use Rattle.std.proofs.Common.{◌≡◌, ◌≤◌, ◌<◌, length, drop}
use Rattle.p3l_timed.specs.Moments.{IsTreeBut}
use Rattle.p3l_timed.proofs.moments.mend.Given as goal

abbrev pub decreases-loop-i : goal.decreases-loop-i
decreases-loop-i l = l.i

-- only the cell above cell i is still to be mended
abbrev pub invariant-loop-i : goal.invariant-loop-i
invariant-loop-i l =
    IsTreeBut l.size l.i l.cells × (1 ≤ l.i) × (l.i < length l.cells) × (drop l.size l.cells ≡ drop l.size l.fn.cells)
