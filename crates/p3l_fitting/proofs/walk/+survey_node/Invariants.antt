use Rattle.p3l_skel.specs.Counts.{count_of}
use Rattle.p3l_fitting.proofs.Surveying.{IsSurveyed}
use Rattle.p3l_fitting.proofs.walk.+survey_node.Given as goal

abbrev pub decreases-survey_node : goal.decreases-survey_node
decreases-survey_node l = l.levels

-- the survey so far, with that of the parts that are left, is the whole
abbrev pub invariant-loop-slot : goal.invariant-loop-slot
invariant-loop-slot l = IsSurveyed l.tree (count_of l.tree l.counts.list) l.levels l.number l.tags l.at l.fn.survey l.survey l.slot-index
