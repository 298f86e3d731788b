use Rattle.p3l_advise.proofs.Terms.{farm_term, map_term, fold_term, loop_term}
use Rattle.p3l_advise.proofs.bottleneck.term_of.Goals as goal

pub returns-in-Farm : goal.returns-in-Farm
returns-in-Farm c =
    farm_term c.args.tree.now c.args.costs.now c.args.number c.args.node.now c.args.time c.args.count c.node_cost-cost.result c.requires.node c.requires.time c.node_cost-cost.ensures
    c.in-Farm.workers c.token_time-reading.result c.ends_of.result c.at_once.result c.in-Farm.is c.token_time-reading.ensures.value c.ends_of.ensures c.at_once.ensures

pub returns-in-Map : goal.returns-in-Map
returns-in-Map c =
    map_term c.args.tree.now c.args.costs.now c.args.number c.args.node.now c.args.time c.args.count c.node_cost-cost.result c.requires.node c.requires.time c.node_cost-cost.ensures
    c.in-Map.workers c.in-Map.cut c.part_ins-each.result c.scatter_time-scatters.result c.ends_of-in-Map.result c.at_once-in-Map.result c.in-Map.is c.part_ins-each.ensures c.scatter_time-scatters.ensures c.ends_of-in-Map.ensures c.at_once-in-Map.ensures

pub returns-in-Reduce : goal.returns-in-Reduce
returns-in-Reduce c =
    fold_term c.args.tree.now c.args.costs.now c.args.number c.args.node.now c.args.time c.args.count c.node_cost-cost.result c.requires.node c.requires.time c.node_cost-cost.ensures
    c.in-Reduce.workers c.in-Reduce.len c.in-Reduce.elem c.reduce_term.result c.in-Reduce.is c.reduce_term.ensures

pub returns-in-Loop : goal.returns-in-Loop
returns-in-Loop c =
    loop_term c.args.tree.now c.args.costs.now c.args.number c.args.node.now c.args.time c.args.count c.node_cost-cost.result c.requires.node c.requires.time c.node_cost-cost.ensures
    c.in-Loop.turns c.in-Loop.tokens c.head_time.result c.ends_of-in-Loop.result c.at_once-in-Loop.result c.in-Loop.is c.head_time.ensures c.ends_of-in-Loop.ensures c.at_once-in-Loop.ensures
