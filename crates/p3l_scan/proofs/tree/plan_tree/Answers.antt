use Rattle.std.proofs.Common.{ap, ap₂, ◌∙◌, ◌∷◌, ◌++◌, []}
use Rattle.p3l_scan.specs.Plan.{plan_tree, stages_from}
use Rattle.p3l_scan.proofs.tree.plan_tree.Goals as goal

pub returns : goal.returns
unfolding plan_tree
returns c =
    ap₂ (λ nodes modules. record { nodes = nodes; modules = modules })
    (c.in_ok-add_stages.ensures
    ∙ ap (λ nodes. nodes ++ stages_from 0 c.args.levels c.args.words)
    (c.in_ok-push.ensures.ok ∙ ap₂ (λ nodes node. nodes ++ node ∷ []) c.new-nodes.ensures c.in_ok-root.ensures))
    c.in_ok-modules.ensures
