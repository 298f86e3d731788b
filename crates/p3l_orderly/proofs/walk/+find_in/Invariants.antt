use Rattle.p3l_skel.specs.Counts.{count_of}
use Rattle.p3l_firing.specs.Shot.{state_of}
use Rattle.p3l_orderly.proofs.WalkSteps.{IsLeft}
use Rattle.p3l_orderly.proofs.walk.+find_in.Given as goal

abbrev pub decreases-find_in : goal.decreases-find_in
decreases-find_in l = l.levels

-- with what is found of the parts that are left, what was found is all
abbrev pub invariant-loop-slot : goal.invariant-loop-slot
invariant-loop-slot l =
    IsLeft l.tree (count_of l.tree l.counts.list) l.levels l.number l.place (state_of l.shot) l.slot-index l.proc l.chan l.inner
