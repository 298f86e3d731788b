use Rattle.std.proofs.Common.{◌≡◌, ◌++◌, length}
use Rattle.std.specs.List.{All}
use Rattle.p3l_skel.specs.Item.{elements}
use Rattle.p3l_skel.proofs.element.elements.Given as goal

-- the elements so far and those that are left are all
abbrev pub invariant-loop-rest : goal.invariant-loop-rest
invariant-loop-rest l = record {
  so_far : l.list ++ elements l.size l.rest ≡ elements l.size l.words;
  sized : All (λ element. length element ≡ l.size) l.list;
}

abbrev pub decreases-loop-rest : goal.decreases-loop-rest
decreases-loop-rest l = length l.rest
