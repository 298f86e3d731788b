use Rattle.p3l_io.specs.Change.{change}
use Rattle.p3l_program.proofs.TimeSteps.{closed_time_err}
use Rattle.p3l_program.proofs.time.close.Goals as goal

pub returns-clause-closed : goal.returns-clause-closed
returns-clause-closed g c = closed_time_err (change (g.F.Files.observed c.args.files.now) (g.F.Files.observed c.save_picks.new.files)) c.args.end.ran c.args.end.timer c.args.picks c.in-Err.verdict c.in-Err.ensures.saved
