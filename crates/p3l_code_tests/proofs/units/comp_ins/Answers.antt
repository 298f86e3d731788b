use Rattle.std.proofs.Common.{◌≡◌, ◌<◌, ◌-◌, refl, sym, ap, ◌∙◌, slice_index, arith}
use Rattle.p3l_skel.specs.declared.tree.Form.TheVariants.{Comp}
use Rattle.p3l_skel.specs.declared.tree.Node.{Node}
use Rattle.p3l_skel.specs.Tree.{node_at, sequential_to, sequential_row}
use Rattle.p3l_skel.proofs.Below.{sequential_to-step}
use Rattle.p3l_code_tests.proofs.units.comp_ins.Goals as goal

pub returns-in-Comp-clause-unit : goal.returns-in-Comp-clause-unit
returns-in-Comp-clause-unit c =
    let tree = c.args.tree.now in
    let form : (node_at tree 0).form ≡ Comp = ap (λ (n : Node). n.form) (sym c.in-Some.ensures.found) ∙ c.in-Comp.is in
    let some : 0 < 6 = omega arith in
    record {
      in_tree = c.in-Some.ensures.there.0 refl;
      sequential = sequential_to-step tree 6 0 some ∙ ap (λ f. sequential_row f (sequential_to tree (6 - 1) (slice_index (node_at tree 0).parts 0))) form;
    }
