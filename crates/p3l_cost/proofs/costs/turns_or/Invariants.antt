use Rattle.std.proofs.Common.{◌≡◌, drop}
use Rattle.p3l_cost.specs.Standard.{turns_or}
use Rattle.p3l_cost.proofs.costs.turns_or.Given as goal

-- the nodes so far are no loop of the module
abbrev pub invariant-loop-node : goal.invariant-loop-node
invariant-loop-node l = turns_or l.other l.nodes l.home ≡ turns_or l.other (drop l.node-index l.nodes) l.home
