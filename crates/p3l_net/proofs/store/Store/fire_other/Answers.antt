use Rattle.std.proofs.Common.{refl}
use Rattle.p3l_firing.specs.Fire.{row_wants_memory}
use Rattle.p3l_net.proofs.Standing.{on_err, wants_as}
use Rattle.p3l_net.proofs.Given.{or_so}
use Rattle.p3l_net.proofs.store.Store.fire_other.Goals as goal

pub returns-in-Source-clause-done : goal.returns-in-Source-clause-done
returns-in-Source-clause-done g c = c.fire_source.ensures (g.U.Units.leaf c.args.units.now)

pub returns-in-Emit-clause-done : goal.returns-in-Emit-clause-done
returns-in-Emit-clause-done g c = c.fire_emit.ensures (g.U.Units.leaf c.args.units.now)

pub returns-in-Collect-clause-done : goal.returns-in-Collect-clause-done
returns-in-Collect-clause-done g c = c.fire_collect.ensures (g.U.Units.leaf c.args.units.now)

pub returns-in-Head-clause-done : goal.returns-in-Head-clause-done
returns-in-Head-clause-done g c = c.fire_head.ensures (g.U.Units.leaf c.args.units.now)

pub returns-in-Scatter-clause-done : goal.returns-in-Scatter-clause-done
returns-in-Scatter-clause-done g c = or_so _ c.fire_scatter.result c.fire_scatter.ensures.done (λ touched done. done (g.U.Units.leaf c.args.units.now))

pub returns-in-Gather-clause-done : goal.returns-in-Gather-clause-done
returns-in-Gather-clause-done g c = or_so _ c.fire_gather.result c.fire_gather.ensures.done (λ touched done. done (g.U.Units.leaf c.args.units.now))

pub returns-in-Split-clause-done : goal.returns-in-Split-clause-done
returns-in-Split-clause-done g c = or_so _ c.fire_split.result c.fire_split.ensures.done (λ touched done. done (g.U.Units.leaf c.args.units.now))

pub returns-in-Scatter-clause-memory : goal.returns-in-Scatter-clause-memory
unfolding row_wants_memory
returns-in-Scatter-clause-memory g c = on_err c.fire_scatter.result (wants_as c.args.self.now c.args.p c.process.ensures c.in-Scatter.is refl)

pub returns-in-Gather-clause-memory : goal.returns-in-Gather-clause-memory
unfolding row_wants_memory
returns-in-Gather-clause-memory g c = on_err c.fire_gather.result (wants_as c.args.self.now c.args.p c.process.ensures c.in-Gather.is refl)

pub returns-in-Split-clause-memory : goal.returns-in-Split-clause-memory
unfolding row_wants_memory
returns-in-Split-clause-memory g c = on_err c.fire_split.result (wants_as c.args.self.now c.args.p c.process.ensures c.in-Split.is refl)

pub returns-in-FoldGather-clause-memory : goal.returns-in-FoldGather-clause-memory
unfolding row_wants_memory
returns-in-FoldGather-clause-memory g c = on_err c.fire_fold_gather.result (wants_as c.args.self.now c.args.p c.process.ensures c.in-FoldGather.is refl)

pub returns-in-Join-clause-memory : goal.returns-in-Join-clause-memory
unfolding row_wants_memory
returns-in-Join-clause-memory g c = on_err c.fire_join.result (wants_as c.args.self.now c.args.p c.process.ensures c.in-Join.is refl)
