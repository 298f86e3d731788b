use Rattle.std.proofs.Common.{subst, sym}
use Rattle.p3l_model.specs.declared.cost.NodeCost.{NodeCost}
use Rattle.p3l_alloc.specs.Soonest.{IsSoonest, HasPart, over_part}
use Rattle.p3l_alloc.proofs.Soonest.{empty_soonest}
use Rattle.p3l_alloc.proofs.entry.entry.Goals as goal

pub returns-in-Stages : goal.returns-in-Stages
returns-in-Stages c = λ a part.
    subst (λ (n : NodeCost). IsSoonest (over_part n a) c.args.processes 0) (sym c.in-Stages.is) (empty_soonest c.args.processes)

pub returns-in-Loop : goal.returns-in-Loop
returns-in-Loop c = λ a part.
    subst (λ (n : NodeCost). IsSoonest (over_part n a) c.args.processes c.loop_entry.result) (sym c.in-Loop.is)
    (c.loop_entry.ensures a (subst (λ (n : NodeCost). HasPart n a c.args.processes c.args.part.now) c.in-Loop.is part))
