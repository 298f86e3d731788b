use Rattle.std.proofs.Common.{◌≡◌, None, sym, ◌∙◌}
use Rattle.p3l_cert.specs.Rule.{cost_at}
use Rattle.p3l_cert.specs.Keys.{depends_on}
use Rattle.p3l_cert.proofs.Nodes.{table_at, usable_at}
use Rattle.p3l_cert.proofs.keys.depends_on.Goals as goal

pub returns-in_default : goal.returns-in_default
unfolding depends_on
returns-in_default c =
    let none : cost_at c.args.tree.now c.args.costs.now c.args.key.node ≡ None = sym (table_at c.args.tree.now c.args.costs.now c.args.table.now c.args.key.node c.requires.table) ∙ sym c.in_default.ensures in
    rw none c.new.ensures

pub dependencies_of-requires-clause-cost : goal.dependencies_of-requires-clause-cost
dependencies_of-requires-clause-cost c =
    usable_at c.args.tree.now c.args.costs.now c.requires.tree c.requires.costs c.args.key.node c.in-Some.cost.now (sym (table_at c.args.tree.now c.args.costs.now c.args.table.now c.args.key.node c.requires.table) ∙ sym c.in-Some.ensures)
