use Rattle.std.proofs.Common.{◌≡◌, None, refl, sym, ◌∙◌}
use Rattle.p3l_cert.specs.Rule.{rule, cost_at}
use Rattle.p3l_cert.proofs.Nodes.{table_at, usable_at}
use Rattle.p3l_cert.proofs.table.rule.Goals as goal

pub returns-in_default : goal.returns-in_default
unfolding rule
returns-in_default c =
    let none : cost_at c.args.tree.now c.args.costs.now c.args.row.now.node ≡ None = sym (table_at c.args.tree.now c.args.costs.now c.args.table.now c.args.row.now.node c.requires.table) ∙ sym c.in_default.ensures in
    rw none refl

pub rule_of-requires-clause-cost : goal.rule_of-requires-clause-cost
rule_of-requires-clause-cost c =
    usable_at c.args.tree.now c.args.costs.now c.requires.tree c.requires.costs c.args.row.now.node c.in-Some.cost.now (sym (table_at c.args.tree.now c.args.costs.now c.args.table.now c.args.row.now.node c.requires.table) ∙ sym c.in-Some.ensures)
