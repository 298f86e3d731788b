use Rattle.std.proofs.Common.{ap, ◌∙◌, ◌*◌, ◌^◌}
use Rattle.p3l_skel.specs.Item.{item}
use Rattle.p3l_scan.proofs.Combining.{combines}
use Rattle.p3l_scan.proofs.Staging.{never-guards}
use Rattle.p3l_scan.proofs.laws.a_step_never_guards.Goals as goal

pub returns : goal.returns
returns g c = λ k block low long.
    let s = c.args._units.now in
    let tree = g.U.Units.tree s.inner in
    let leaf = g.U.Units.leaf s.inner in
    let kept = c.look.ensures in
    let operator = item tree leaf s.op in
    let some = let o = kept.operator in o.some in
    never-guards kept.size s.elem kept.some_size some operator
    (combines tree leaf (g.met.U.Units.gives_outs s.inner) s.op s.elem kept.operator) k block
    (long ∙ ap (λ w. 2 ^ k * w) kept.sized)
