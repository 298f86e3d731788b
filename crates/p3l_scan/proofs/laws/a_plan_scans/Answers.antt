use Rattle.std.proofs.Common.{◌≡◌, ◌*◌, ◌^◌, ap, sym, ◌∙◌, subst, length}
use Rattle.std.proofs.Math.Nat.{mul_assoc}
use Rattle.p3l_skel.specs.Item.{elements, item}
use Rattle.p3l_scan.specs.Plan.{plan_tree}
use Rattle.p3l_scan.specs.Scan.{in_words, scan}
use Rattle.p3l_scan.specs.Step.{step_leaf}
use Rattle.p3l_scan.specs.Value.{Agree}
use Rattle.p3l_scan.proofs.Combining.{combines}
use Rattle.p3l_scan.proofs.Merging.{elements-are, elements-count}
use Rattle.p3l_scan.proofs.Values.{root-agrees}
use Rattle.p3l_scan.proofs.laws.a_plan_scans.Goals as goal

pub returns : goal.returns
returns g c = λ ws long.
    let s = c.args._units.now in
    let tree = g.U.Units.tree s.inner in
    let leaf = g.U.Units.leaf s.inner in
    let kept = c.look.ensures in
    let operator = item tree leaf s.op in
    let some = let o = kept.operator in o.some in
    let count : length ws ≡ 2 ^ s.levels * kept.size * s.elem =
    long ∙ ap (λ w. 2 ^ s.levels * w) kept.sized ∙ sym (mul_assoc (2 ^ s.levels) kept.size s.elem) in
    let are = elements-are (2 ^ s.levels * kept.size) s.elem ws some count in
    subst (λ w. Agree (item (plan_tree s.levels w) (step_leaf s.elem operator) 0 ws) (in_words (scan operator (elements s.elem ws))))
    (sym kept.sized)
    (root-agrees s.levels kept.size s.elem kept.some_size some operator
    (combines tree leaf (g.met.U.Units.gives_outs s.inner) s.op s.elem kept.operator) (elements s.elem ws) are.1
    (elements-count (2 ^ s.levels * kept.size) s.elem ws some count) ws are.0
    (long ∙ ap (λ w. 2 ^ s.levels * w) kept.sized))
