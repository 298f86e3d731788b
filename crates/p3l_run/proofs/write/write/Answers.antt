use Rattle.p3l_run.proofs.WriteSteps.{put_failed}
use Rattle.p3l_run.proofs.write.write.Goals as goal

pub returns-in-Err-clause-begun : goal.returns-in-Err-clause-begun
returns-in-Err-clause-begun g c = put_failed _ _ _ c.in-Err.ensures.bytes
