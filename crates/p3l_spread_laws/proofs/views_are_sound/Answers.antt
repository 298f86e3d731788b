use Rattle.p3l_spread_laws.proofs.SpreadLaw.{net_begins, stays_sound, view_true, delivered_quiet, quiet_stuck}
use Rattle.p3l_spread_laws.proofs.Taking.{way_taken}
use Rattle.p3l_spread_laws.proofs.views_are_sound.Goals as goal

pub returns-clause-begins : goal.returns-clause-begins
returns-clause-begins c = net_begins

pub returns-clause-sound : goal.returns-clause-sound
returns-clause-sound c = stays_sound

pub returns-clause-ways : goal.returns-clause-ways
returns-clause-ways c = view_true

pub returns-clause-taken : goal.returns-clause-taken
returns-clause-taken c = way_taken

pub returns-clause-delivered : goal.returns-clause-delivered
returns-clause-delivered c = delivered_quiet

pub returns-clause-quiet : goal.returns-clause-quiet
returns-clause-quiet c = quiet_stuck
