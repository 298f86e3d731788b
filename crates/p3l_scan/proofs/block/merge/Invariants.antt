use Rattle.std.proofs.Common.{length}
use Rattle.p3l_skel.specs.Item.{elements, item}
use Rattle.p3l_scan.specs.Scan.{in_words, merged}
use Rattle.p3l_scan.proofs.Merging.{LeadsTo}
use Rattle.p3l_scan.proofs.block.merge.Given as goal

-- the folds so far, and those of the elements that are left, are all
abbrev pub invariant-loop-rest : goal.invariant-loop-rest
invariant-loop-rest g l =
    let operator = item (g.U.Units.tree l.units) (g.U.Units.leaf l.units) l.op in
    LeadsTo operator l.elem l.folds.items l.last l.rest
    (in_words (merged operator (elements l.elem l.front) (elements l.elem l.back)))

abbrev pub decreases-loop-rest : goal.decreases-loop-rest
decreases-loop-rest g l = length l.rest
