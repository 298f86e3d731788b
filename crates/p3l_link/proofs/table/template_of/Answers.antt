use Rattle.std.proofs.Common.{length, sym, ap, ◌∙◌, subst, arith}
use Rattle.p3l_skel.specs.declared.tree.Node.{Node}
use Rattle.p3l_skel.specs.Counts.{count_of}
use Rattle.p3l_link.specs.Node.{IsFit, Serves}
use Rattle.p3l_link.specs.declared.node.NodeTemplate.{NodeTemplate}
use Rattle.p3l_link.proofs.Counted.{few_parts, row_at, template_fit}
use Rattle.p3l_link.proofs.AnyKind.{kind_is}
use Rattle.p3l_link.proofs.Typing.{template_serves}
use Rattle.p3l_link.proofs.table.template_of.Goals as goal

pub overflow_cast-parts : goal.overflow_cast-parts
overflow_cast-parts c =
    let few = few_parts c.args.tree.now c.args.number c.requires.lawful c.requires.there in
    omega (arith, few, c.len-parts.ensures, ap (λ (n : Node). length n.parts) c.in-Some.ensures.found)

pub returns-clause-kind : goal.returns-clause-kind
returns-clause-kind c =
    kind_is c.args.tree.now (count_of c.args.tree.now c.args.counts.now.list) c.args.number c.row.result
    (c.row.ensures ∙ row_at c.args.tree.now (count_of c.args.tree.now c.args.counts.now.list) c.args.number c.in-Some.node.now
    c.in-Some.ensures.found _ _ c.len-parts.ensures c.workers-n.ensures)

pub returns-clause-fit : goal.returns-clause-fit
returns-clause-fit c =
    subst IsFit
    (sym (c.row.ensures ∙ row_at c.args.tree.now (count_of c.args.tree.now c.args.counts.now.list) c.args.number c.in-Some.node.now
    c.in-Some.ensures.found _ _ c.len-parts.ensures c.workers-n.ensures))
    (template_fit c.args.tree.now (count_of c.args.tree.now c.args.counts.now.list) c.args.number c.requires.lawful c.requires.there
    c.requires.count)

pub returns-clause-serves : goal.returns-clause-serves
returns-clause-serves c =
    subst (λ (t : NodeTemplate). Serves t c.args.tree.now c.args.number)
    (sym (c.row.ensures ∙ row_at c.args.tree.now (count_of c.args.tree.now c.args.counts.now.list) c.args.number c.in-Some.node.now
    c.in-Some.ensures.found _ _ c.len-parts.ensures c.workers-n.ensures))
    (template_serves c.args.tree.now (count_of c.args.tree.now c.args.counts.now.list) c.args.number c.requires.lawful c.requires.there
    c.requires.count)
