-- Outcomes of the joins of a reduce.
use Rattle.std.specs.Prelude.{◌≡◌, ℕ, ℤ, ◌^◌, ◌≤◌, ◌<◌, List, [], length, get_or}
use Rattle.p3l_base.specs.declared.outcome.Outcome.{Outcome}
use Rattle.p3l_skel.specs.Fold.{combined, tree_fold, segments}
use Rattle.p3l_reduce.specs.JoinTree.{Folding, joined, leaf_of}

-- place 1 gives the tree fold of the whole, if each segment is folded and the joins combine
abbrev pub JoinsFoldTheWhole : Type 0
JoinsFoldTheWhole =
    (operator : List ℤ → Outcome) (level : ℕ) (outcomes : List Outcome) (g : Folding) (o : Outcome) →
    g.count ≡ 2 ^ level → g.operator ≡ combined operator →
    ((s : ℕ) → s < 2 ^ level → leaf_of g s o ≡ tree_fold operator (get_or (segments level outcomes) s [])) →
    2 ^ level ≤ length outcomes → joined g level 1 o ≡ tree_fold operator outcomes
