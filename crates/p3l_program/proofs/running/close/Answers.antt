use Rattle.p3l_io.specs.Change.{change}
use Rattle.p3l_program.proofs.RecordSteps.{closed_err}
use Rattle.p3l_program.proofs.running.close.Goals as goal

pub returns-in-Err-clause-closed : goal.returns-in-Err-clause-closed
returns-in-Err-clause-closed g c = closed_err (change (g.F.Files.observed c.args.files.now) (g.F.Files.observed c.record.new.files)) c.args.ran c.args.trace c.args.reported c.in-Err.verdict c.in-Err.ensures.recorded
