use Rattle.std.proofs.Common.{List, sym, ◌∙◌, ap, Some, None}
use Rattle.std.proofs.lemmas.List.{drop_all}
use Rattle.p3l_skel.specs.declared.tree.Node.{Node}
use Rattle.p3l_cost.specs.Standard.{turns_or}
use Rattle.p3l_cost.proofs.Turns.{turns_or-at}
use Rattle.p3l_cost.proofs.costs.turns_or.Goals as goal

pub returns-in-Some : goal.returns-in-Some
returns-in-Some c =
    sym (turns_or-at c.args.other c.args.nodes.now c.loop-node.node-index c.args.home c.node-item.result (Some c.in-Some.turns) c.loop-node-test.true c.loop-node.invariant c.node-item.is c.in-Some.ensures)

pub loop-node-preserved : goal.loop-node-preserved
loop-node-preserved c =
    turns_or-at c.args.other c.args.nodes.now c.loop-node.node-index c.args.home c.node-item.result None c.loop-node-test.true c.loop-node.invariant c.node-item.is c.in-None.ensures

pub returns : goal.returns
returns c = sym (c.loop-node.invariant ∙ ap (λ (ns : List Node). turns_or c.args.other ns c.args.home) (drop_all c.loop-node.node-index c.args.nodes.now c.loop-node-test.false))
