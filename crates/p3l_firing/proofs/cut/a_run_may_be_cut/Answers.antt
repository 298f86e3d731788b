use Rattle.p3l_firing.proofs.CutLaw.{run-append}
use Rattle.p3l_firing.proofs.cut.a_run_may_be_cut.Goals as goal

pub returns : goal.returns
returns c = run-append
