use Rattle.p3l_link.proofs.LinkedLaws.{run_begun, fired, way_keeps, first_fitting, fired_fitting}
use Rattle.p3l_link.proofs.laws.every_firing_keeps_the_list.Goals as goal

pub returns-clause-begins : goal.returns-clause-begins
returns-clause-begins c = run_begun

pub returns-clause-step : goal.returns-clause-step
returns-clause-step c = fired

pub returns-clause-way : goal.returns-clause-way
returns-clause-way c = way_keeps

pub returns-clause-first_words : goal.returns-clause-first_words
returns-clause-first_words c = first_fitting

pub returns-clause-words : goal.returns-clause-words
returns-clause-words c = fired_fitting
