use Rattle.std.proofs.Common.{false, subst, sym}
use Rattle.p3l_program.specs.Wants.{Wants}
use Rattle.p3l_program.proofs.WantSteps.{run_wants}
use Rattle.p3l_program.proofs.text.write_text.Goals as goal

pub returns-in-Err-clause-wants : goal.returns-in-Err-clause-wants
returns-in-Err-clause-wants g c = λ files. subst (λ v. Wants files v) (sym c.fault_verdict.ensures) (run_wants false files c.in-Err.fault (c.in-Err.ensures.wants false))
