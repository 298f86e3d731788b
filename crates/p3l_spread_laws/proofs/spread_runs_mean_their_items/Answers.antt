use Rattle.p3l_spread_laws.proofs.SpreadLaw.{spread_means, linked_spread_means, spread_fits}
use Rattle.p3l_spread_laws.proofs.spread_runs_mean_their_items.Goals as goal

pub returns-clause-has_invariants : goal.returns-clause-has_invariants
returns-clause-has_invariants c = spread_means

pub returns-clause-linked : goal.returns-clause-linked
returns-clause-linked c = linked_spread_means

pub returns-clause-words : goal.returns-clause-words
returns-clause-words c = spread_fits
