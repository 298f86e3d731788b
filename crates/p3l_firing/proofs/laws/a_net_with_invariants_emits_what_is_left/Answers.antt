use Rattle.p3l_firing.proofs.EmitsLaw.{emits}
use Rattle.p3l_firing.proofs.laws.a_net_with_invariants_emits_what_is_left.Goals as goal

pub returns : goal.returns
returns c = λ tree leaf net firings invariants s picks laws orderly untrapped. emits tree leaf net firings invariants laws s picks orderly untrapped
