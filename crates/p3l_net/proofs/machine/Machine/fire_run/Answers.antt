use Rattle.p3l_net.proofs.Kept.{fired_locally, fired_refresh}
use Rattle.p3l_net.proofs.machine.Machine.fire_run.Goals as goal

pub refresh_run-requires-clause-can : goal.refresh_run-requires-clause-can
refresh_run-requires-clause-can g c =
    fired_refresh c.self.invariant c.self.view_is c.in-Ok.ensures.done c.requires.can c.requires.units (g.met.U.Units.gives_outs c.args.units.now)

pub returns-in-Ok-clause-ok : goal.returns-in-Ok-clause-ok
returns-in-Ok-clause-ok g c = fired_locally c.self.invariant c.self.view_is c.in-Ok.ensures.done
