use Rattle.p3l_resume_laws.proofs.LinkedLaw.{every_rest_resumes, every_run_resumes, run_balanced, start_balanced, start_resumes}
use Rattle.p3l_resume_laws.proofs.linked.every_run_can_be_resumed.Goals as goal

pub returns-clause-starts : goal.returns-clause-starts
returns-clause-starts c = start_resumes

pub returns-clause-starts_balanced : goal.returns-clause-starts_balanced
returns-clause-starts_balanced c = start_balanced

pub returns-clause-runs : goal.returns-clause-runs
returns-clause-runs c = every_run_resumes

pub returns-clause-runs_balanced : goal.returns-clause-runs_balanced
returns-clause-runs_balanced c = run_balanced

pub returns-clause-rest : goal.returns-clause-rest
returns-clause-rest c = every_rest_resumes
