use Rattle.p3l_timed.proofs.FollowLaw.{firing_keeps, in_time, offer_keeps, starts}
use Rattle.p3l_timed.proofs.laws.a_filled_machine_follows_the_timed_run.Goals as goal

pub returns-clause-starts : goal.returns-clause-starts
returns-clause-starts c = starts

pub returns-clause-offered : goal.returns-clause-offered
returns-clause-offered c = offer_keeps

pub returns-clause-filled : goal.returns-clause-filled
returns-clause-filled c = in_time

pub returns-clause-fired : goal.returns-clause-fired
returns-clause-fired c =
    λ m n outcomes rest t k new leaf p outcome typed f filled is can fires inbox tells.
    firing_keeps m outcomes rest t k f filled is n new leaf p outcome typed can fires inbox tells
