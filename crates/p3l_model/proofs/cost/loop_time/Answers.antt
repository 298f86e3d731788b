use Rattle.std.proofs.Common.{◌≡◌, ◌+◌, ◌*◌, ◌≤◌, ℕ}
use Rattle.std.specs.Prelude.{slice_index}
use Rattle.p3l_model.specs.NodeCost.{timed}
use Rattle.p3l_model.specs.Service.{transfer, ticks}
use Rattle.p3l_model.proofs.TickSums.{loop_ends-timed}
use Rattle.p3l_model.proofs.cost.loop_time.Goals as goal

pub returns : goal.returns
returns c =
    let token : ℕ = transfer c.args.costs.now c.args.node.now.ins in
    let test : c.ticks.result ≡ timed (ticks c.args.tree.now c.args.costs.now (slice_index c.args.node.now.parts 1)) = rw (← c.part.ensures) c.ticks.ensures in
    loop_ends-timed c.args.turns token c.token_time-token.result _ c.ticks.result c.saturating_add-test.result c.saturating_mul-admits.result c.saturating_mul-tests.result c.max.result c.min.result c.token_time-token.ensures.small c.token_time-token.ensures.value test c.saturating_add-test.ensures c.saturating_mul-admits.ensures c.saturating_mul-tests.ensures c.max.ensures c.min.ensures
