use Rattle.std.proofs.Common.{◌≡◌, true, false, sym, ◌∙◌}
use Rattle.p3l_cert.proofs.Nodes.{cost_none}
use Rattle.p3l_cert.proofs.table.cost_at.Goals as goal

pub returns : goal.returns
returns c =
    cost_none c.args.tree.now c.args.costs.now c.args.node (λ h. let both : true ≡ false = sym (c.is_outside.ensures.1 h) ∙ c.if-is_outside.false in absurd cc)
