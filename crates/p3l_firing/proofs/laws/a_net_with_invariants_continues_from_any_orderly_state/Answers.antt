use Rattle.p3l_firing.proofs.OrderlyLaw.{kept_balanced, kept_begins, kept_ends, kept_finished, kept_going, kept_run}
use Rattle.p3l_firing.proofs.laws.a_net_with_invariants_continues_from_any_orderly_state.Goals as goal

pub returns-clause-going : goal.returns-clause-going
returns-clause-going c = λ tree leaf net firings invariants s picks laws going.
    kept_going tree leaf net firings invariants laws s _ (kept_run tree leaf net firings invariants laws s going.orderly picks) going.emitted

pub returns-clause-balanced : goal.returns-clause-balanced
returns-clause-balanced c = λ tree leaf net firings invariants s picks laws orderly balanced.
    kept_balanced tree leaf net firings invariants laws s _ (kept_run tree leaf net firings invariants laws s orderly picks) balanced

pub returns-clause-begins : goal.returns-clause-begins
returns-clause-begins c = λ tree leaf net firings invariants s picks laws going.
    kept_begins tree leaf net firings invariants laws s _ (kept_run tree leaf net firings invariants laws s going.orderly picks) going.emitted

pub returns-clause-finished : goal.returns-clause-finished
returns-clause-finished c = λ tree leaf net firings invariants s picks laws going stuck.
    kept_finished tree leaf net firings invariants laws s _ (kept_run tree leaf net firings invariants laws s going.orderly picks) going.emitted stuck

pub returns-clause-bounded : goal.returns-clause-bounded
returns-clause-bounded c = λ tree leaf net firings invariants s picks laws orderly.
    (kept_run tree leaf net firings invariants laws s orderly picks).work

pub returns-clause-sent : goal.returns-clause-sent
returns-clause-sent c = λ tree leaf net firings invariants s picks laws orderly.
    (kept_run tree leaf net firings invariants laws s orderly picks).count

pub returns-clause-ends : goal.returns-clause-ends
returns-clause-ends c = λ tree leaf net firings invariants s most from laws orderly there enough.
    kept_ends tree leaf net firings invariants laws s orderly most from there enough
