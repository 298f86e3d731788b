use Rattle.std.proofs.Common.{◌≤◌, [], arith}
use Rattle.p3l_skel.specs.Tree.{node_at}
use Rattle.p3l_skel.specs.Counts.{count_of, counted}
use Rattle.p3l_skel.specs.Numbers.{firings_by, joined_firings, segments_at}
use Rattle.p3l_model.proofs.Count.{count_lawful}
use Rattle.p3l_model.proofs.Monotone.{firings_by-mono, bounded}
use Rattle.p3l_model.proofs.firing.firings.Goals as goal

-- the root fires no more often than with the most segments
light : (c : goal.After-firings_from) → firings_by joined_firings c.args.tree.now (count_of c.args.tree.now c.args.counts.now.list) 6 0 ≤ 134217728
light c =
    let tree = c.args.tree.now in
    let counts = c.args.counts.now.list in
    let least = firings_by-mono tree (count_of tree counts) (segments_at tree) 6 0 (λ k inside. bounded (node_at tree k).form (count_of tree counts k) (count_lawful tree (counted tree) counts [] k c.requires.counts inside)) in
    omega (arith, c.requires.tree.light.joined)

pub overflow_add-result : goal.overflow_add-result
overflow_add-result c = let small = light c in omega (arith, c.firings_from.ensures)

pub returns-clause-number : goal.returns-clause-number
returns-clause-number c = let small = light c in omega (arith, c.firings_from.ensures)

pub returns-clause-small : goal.returns-clause-small
returns-clause-small c = let small = light c in omega (arith, c.firings_from.ensures)
