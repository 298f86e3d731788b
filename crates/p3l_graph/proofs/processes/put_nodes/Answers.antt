use Rattle.std.proofs.Common.{◌≡◌, ℕ, ◌+◌, ◌<◌, ◌≤◌, List, ◌++◌, drop, get_or, length, subst, sym, ap, ◌∙◌}
use Rattle.std.specs.Prelude.{string_bytes}
use Rattle.p3l_skel.specs.declared.tree.Node.{Node}
use Rattle.p3l_graph.specs.Numbered.{numbered}
use Rattle.p3l_graph.specs.Processes.{node_line}
use Rattle.p3l_graph.proofs.NumberedSteps.{numbered_end, numbered_step}
use Rattle.p3l_graph.proofs.processes.put_nodes.Goals as goal

pub loop-number-preserved : goal.loop-number-preserved
loop-number-preserved c =
    let items = c.args.tree.now.nodes in
    let line = node_line c.args.tree.now c.args.net.now in
    let number = c.loop-number.number in
    let item = c.index-nodes-number.result in
    let there : item ≡ get_or items number item = c.index-nodes-number.is ∙ ap (λ (xs : List Node). get_or xs number item) c.as_slice-nodes.ensures in
    let inside : number < length items = subst (λ (xs : List Node). number < length xs) c.as_slice-nodes.ensures c.loop-number-test.true in
    let text : List ℕ = string_bytes c.loop-number.text in
    ap (λ bytes. bytes ++ numbered line (number + 1) (drop (number + 1) items))
    (c.in_ok-put_node.ensures ∙ ap (λ (x : Node). text ++ line number x) there)
    ∙ (numbered_step line items number item text inside ∙ c.loop-number.invariant)

pub returns : goal.returns
returns c =
    let items = c.args.tree.now.nodes in
    let past : length items ≤ c.loop-number.number = subst (λ (xs : List Node). length xs ≤ c.loop-number.number) c.as_slice-nodes.ensures c.loop-number-test.false in
    sym (numbered_end (node_line c.args.tree.now c.args.net.now) items c.loop-number.number (string_bytes c.loop-number.text) past) ∙ c.loop-number.invariant
