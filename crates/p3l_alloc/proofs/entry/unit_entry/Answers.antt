use Rattle.std.proofs.Common.{subst, sym, arith}
use Rattle.p3l_model.specs.NodeCost.{never}
use Rattle.p3l_model.specs.Costed.{Leaf}
use Rattle.p3l_alloc.specs.Soonest.{IsSoonest}
use Rattle.p3l_alloc.proofs.Soonest.{leaf_soonest, leaf_late}
use Rattle.p3l_alloc.proofs.entry.unit_entry.Goals as goal

pub returns-then-processes-eq0 : goal.returns-then-processes-eq0
returns-then-processes-eq0 c = subst (λ p. IsSoonest (Leaf c.args.service) p never) (sym c.if-processes-eq0.true) (leaf_late c.args.service)

pub returns : goal.returns
returns c = subst (IsSoonest (Leaf c.args.service) c.args.processes) (sym c.min.ensures) (leaf_soonest c.args.service c.args.processes (omega arith))
