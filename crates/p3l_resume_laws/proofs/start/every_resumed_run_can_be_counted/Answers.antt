use Rattle.p3l_resume_laws.proofs.StartLaw.{firings_few, run_counted, tokens_few}
use Rattle.p3l_resume_laws.proofs.start.every_resumed_run_can_be_counted.Goals as goal

pub returns-clause-firings : goal.returns-clause-firings
returns-clause-firings c = firings_few

pub returns-clause-tokens : goal.returns-clause-tokens
returns-clause-tokens c = tokens_few

pub returns-clause-counted : goal.returns-clause-counted
returns-clause-counted c = run_counted
