use Rattle.p3l_report.proofs.Puts.{fronts_said}
use Rattle.p3l_report.proofs.report.put_report.Goals as goal

pub returns-clause-begun : goal.returns-clause-begun
returns-clause-begun g c = λ said known. fronts_said _ _ _ said _ _ known c.put_line.ensures.begun c.put_line-2.ensures.begun
