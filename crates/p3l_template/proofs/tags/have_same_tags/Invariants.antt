use Rattle.std.proofs.Common.{◌≡◌, length}
use Rattle.p3l_firing.specs.Token.{same_tags}
use Rattle.p3l_template.proofs.tags.have_same_tags.Given as goal

abbrev pub invariant-loop-ones : goal.invariant-loop-ones
invariant-loop-ones l = same_tags l.one.tags l.other.tags ≡ same_tags l.ones l.others

abbrev pub decreases-loop-ones : goal.decreases-loop-ones
decreases-loop-ones l = length l.ones
