use Rattle.std.proofs.Common.{◌≡◌, ◌-◌, ◌++◌, drop}
use Rattle.std.specs.Prelude.{string_bytes}
use Rattle.p3l_skel.specs.Counts.{outside_from}
use Rattle.p3l_alloc.specs.Explanation.{node_lines}
use Rattle.p3l_alloc.proofs.Outside.{parts_lines}
use Rattle.p3l_alloc.proofs.explanation.+put_nodes.Given as goal

abbrev pub decreases-put_nodes : goal.decreases-put_nodes
decreases-put_nodes l = l.levels

-- the text so far, with the lines of the parts that are left
abbrev pub invariant-loop-part : goal.invariant-loop-part
invariant-loop-part l =
    string_bytes l.text ++ parts_lines l.tree l.costs l.counts.list (outside_from l.tree (l.levels - 1)) (drop l.part-index l.part-items)
    ≡ string_bytes l.fn.text ++ node_lines l.tree l.costs l.counts.list (outside_from l.tree l.levels l.number)
