use Rattle.p3l_firing.proofs.SingleInvariants.{unit_invariants, unit_has_invariants}
use Rattle.p3l_firing.proofs.laws.the_net_of_one_unit_has_invariants.Goals as goal

pub returns : goal.returns
returns c = λ tree leaf cap counts room form. (unit_invariants tree leaf, unit_has_invariants tree leaf cap counts room form)
