use Rattle.std.proofs.Common.{subst, sym}
use Rattle.p3l_net.specs.Steps.{CanRefresh}
use Rattle.p3l_net.proofs.Kept.{fired_locally, fired_refresh}
use Rattle.p3l_net.proofs.machine.Machine.fire_sink.Goals as goal

pub refresh-requires : goal.refresh-requires
refresh-requires g c =
    subst (CanRefresh c.fire_sink-outcome.new.self c.self.inside.sides c.self.inside.ready c.args.p) (sym c.as_slice-touched.ensures)
    (fired_refresh c.self.invariant c.self.view_is (c.fire_sink-outcome.ensures (g.U.Units.leaf c.args.units.now)) c.requires.can c.requires.units (g.met.U.Units.gives_outs c.args.units.now))

pub returns : goal.returns
returns g c = fired_locally c.self.invariant c.self.view_is (c.fire_sink-outcome.ensures (g.U.Units.leaf c.args.units.now))
