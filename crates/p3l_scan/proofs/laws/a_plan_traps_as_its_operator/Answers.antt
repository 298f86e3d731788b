use Rattle.std.proofs.Common.{sym, subst}
use Rattle.p3l_skel.specs.Item.{item}
use Rattle.p3l_scan.specs.Staged.{TrapsAsTheOperator}
use Rattle.p3l_scan.specs.Step.{step_leaf}
use Rattle.p3l_scan.proofs.Combining.{combines}
use Rattle.p3l_scan.proofs.Staging.{traps-as-the-operator}
use Rattle.p3l_scan.proofs.laws.a_plan_traps_as_its_operator.Goals as goal

pub returns : goal.returns
returns g c =
    let s = c.args._units.now in
    let tree = g.U.Units.tree s.inner in
    let leaf = g.U.Units.leaf s.inner in
    let kept = c.look.ensures in
    let operator = item tree leaf s.op in
    let some = let o = kept.operator in o.some in
    subst (λ w. TrapsAsTheOperator s.levels w s.elem (step_leaf s.elem operator) operator) (sym kept.sized)
    (traps-as-the-operator s.levels kept.size s.elem kept.some_size some operator
    (combines tree leaf (g.met.U.Units.gives_outs s.inner) s.op s.elem kept.operator))
