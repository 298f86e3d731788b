use Rattle.std.proofs.Common.{sym, ◌∙◌}
use Rattle.p3l_net.proofs.Standing.{on_err}
use Rattle.p3l_net.proofs.step.Tail.{wants}
use Rattle.p3l_net.proofs.store.Store.fire_tail.Goals as goal

pub process-process-requires : goal.process-process-requires
process-process-requires g c = c.requires.may.there

pub returns-then-can_release-clause-done : goal.returns-then-can_release-clause-done
returns-then-can_release-clause-done g c = c.let_token_out.ensures (g.U.Units.leaf c.args.units.now)

pub returns-else-can_release-clause-memory : goal.returns-else-can_release-clause-memory
returns-else-can_release-clause-memory g c =
    on_err c.take_turn.result (wants c.requires.may c.process-process.ensures (sym c.can_release.ensures ∙ c.if-can_release.false))
