use Rattle.p3l_firing.proofs.InvariantsLaw.{run_with_invariants, invariants_begin, invariants_finish, invariants_bound, invariants_sent, invariants_end}
use Rattle.p3l_firing.proofs.laws.a_net_with_invariants_means_its_items.Goals as goal

pub returns-clause-begins : goal.returns-clause-begins
returns-clause-begins c = λ tree leaf net firings invariants items picks laws long. invariants_begin tree leaf net firings invariants laws items long _ (run_with_invariants tree leaf net firings invariants laws items long picks)

pub returns-clause-finished : goal.returns-clause-finished
returns-clause-finished c = λ tree leaf net firings invariants items picks laws long stuck. invariants_finish tree leaf net firings invariants laws items long _ (run_with_invariants tree leaf net firings invariants laws items long picks) stuck

pub returns-clause-bounded : goal.returns-clause-bounded
returns-clause-bounded c = λ tree leaf net firings invariants items picks laws long. invariants_bound tree leaf net firings invariants laws items long _ (run_with_invariants tree leaf net firings invariants laws items long picks)

pub returns-clause-sent : goal.returns-clause-sent
returns-clause-sent c = λ tree leaf net firings invariants items picks laws long. invariants_sent tree leaf net firings invariants laws items long _ (run_with_invariants tree leaf net firings invariants laws items long picks)

pub returns-clause-ends : goal.returns-clause-ends
returns-clause-ends c = λ tree leaf net firings invariants items laws long some. invariants_end tree leaf net firings invariants laws items long some
