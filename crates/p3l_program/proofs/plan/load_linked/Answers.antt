use Rattle.std.proofs.Common.{refl, subst, sym, ◌∙◌}
use Rattle.p3l_cost.specs.Costs.{AreCostsOf}
use Rattle.p3l_program.specs.Plan.{network_in}
use Rattle.p3l_program.proofs.OnceSteps.{program_network}
use Rattle.p3l_program.proofs.TimeSteps.{loaded_prices}
use Rattle.p3l_program.proofs.plan.load_linked.Goals as goal

pub returns-in-Ok-clause-loaded : goal.returns-in-Ok-clause-loaded
returns-in-Ok-clause-loaded g c =
    let loads = c.in_ok-allotted.ensures.loaded in
    let linked = c.in-Ok.linked in
    let same = c.in-Ok.ensures.network loads.r loads.is.comes.compiled in
    let tree = c.in-Ok.ensures.tree in
    let costs = c.in-Ok.ensures.costs in record {
      network = program_network (g.F.Files.observed c.args.files.now).content c.args.build loads.r c.in_ok-allotted.allotted loads.is (network_in linked.network) same;
      priced = loaded_prices (g.F.Files.observed c.args.files.now).content c.args.build c.in_ok-allotted.allotted loads.r loads.is (network_in linked.network) linked.network.tree linked.network.net linked.costs same refl refl costs;
      lawful = subst (λ t. AreCostsOf t linked.costs) (sym (tree ∙ loads.is.comes.compiled.tree_is)) (subst (λ x. AreCostsOf loads.r.tree x) (sym costs) loads.is.lawful);
    }
