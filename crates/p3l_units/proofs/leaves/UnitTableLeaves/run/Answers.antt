use Rattle.std.proofs.Common.{◌≡◌, ◌∙◌, ap, sym}
use Rattle.p3l_skel.specs.declared.tree.Form.TheVariants.{Seq}
use Rattle.p3l_skel.specs.declared.tree.Node.{Node}
use Rattle.p3l_skel.specs.declared.tree.Tree.{Tree}
use Rattle.p3l_skel.specs.Tree.{node_at, rescue_of}
use Rattle.p3l_skel.specs.Item.{rescued}
use Rattle.p3l_skel.proofs.Parts.{row_at}
use Rattle.p3l_walk.proofs.Given.{given-alone}
use Rattle.p3l_units.specs.Table.{leaf}
use Rattle.p3l_units.proofs.leaves.UnitTableLeaves.run.Goals as goal

pub returns-clause-item : goal.returns-clause-item
returns-clause-item c =
    let served = c.args.self.now in
    let words = c.args.words.now in
    let node = c.in-Some.found.now in
    let found : node ≡ node_at served.tree c.args.node = c.in-Some.ensures.found ∙ ap (λ (tr : Tree). node_at tr c.args.node) c.tree-tree.ensures.tree in
    let form : node.form ≡ Seq = ap (λ (n : Node). n.form) found ∙ c.requires.form in
    given-alone _ c.rescue.result _ _
    (ap (λ (tr : Tree). rescued (rescue_of tr node.module) node.outs c.in_ok-outcome.outcome) c.tree-tree.ensures.tree
    ∙ (ap (rescued (rescue_of served.tree node.module) node.outs) (c.in_ok-outcome.ensures ∙ ap (λ (n : Node). leaf served n.module words) (sym found))
    ∙ row_at served.tree c.requires.lawful (leaf served) node c.args.node Seq words found c.requires.there form))
    c.rescue.ensures
