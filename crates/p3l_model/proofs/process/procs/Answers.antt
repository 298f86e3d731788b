use Rattle.std.proofs.Common.{◌^◌, ◌≤◌, arith}
use Rattle.p3l_skel.specs.Counts.{count_of, counted}
use Rattle.p3l_skel.specs.Numbers.{procs_by}
use Rattle.p3l_model.proofs.Count.{count_small}
use Rattle.p3l_model.proofs.Nested.{outside_roots, procs_by-small}
use Rattle.p3l_model.proofs.process.procs.Goals as goal

-- the node's processes are few
few : (c : goal.After-procs_from) → procs_by c.args.tree.now (count_of c.args.tree.now c.args.counts.now.list) 6 c.args.node ≤ 1024 ^ 6
few c =
    let tree = c.args.tree.now in
    let counts = c.args.counts.now.list in
    let root = outside_roots 6 6 tree 0 _ c.args.node (omega arith) c.requires.tree.preorder c.requires.tree.few_nodes c.requires.outside in
    procs_by-small tree (count_of tree counts) (λ k. count_small tree (counted tree) counts _ k c.requires.counts) 6 c.args.node root.0 root.1 root.2

pub returns-clause-number : goal.returns-clause-number
returns-clause-number c = let small = few c in omega (arith, c.procs_from.ensures)

pub returns-clause-small : goal.returns-clause-small
returns-clause-small c = let small = few c in omega (arith, c.procs_from.ensures)
