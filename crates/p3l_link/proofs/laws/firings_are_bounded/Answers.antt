use Rattle.p3l_link.proofs.LinkedLaws.{run_bounded, owed_bounded}
use Rattle.p3l_link.proofs.laws.firings_are_bounded.Goals as goal

pub returns-clause-run : goal.returns-clause-run
returns-clause-run c = run_bounded

pub returns-clause-tokens : goal.returns-clause-tokens
returns-clause-tokens c = owed_bounded
