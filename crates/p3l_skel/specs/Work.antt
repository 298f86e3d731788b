-- Work, counted up to the limit.
use Rattle.std.specs.Prelude.{ℕ, ◌≤◌, min}
use Rattle.p3l_skel.specs.declared.tree.Tree.{Tree}
use Rattle.p3l_skel.specs.Numbers.{flat_firings, joined_firings, most_firings, runs}

-- the most firings, and the most runs of bodies, for one item
abbrev pub most_work : ℕ
most_work = 134217728

-- a number, as far as it counts: past the limit all are alike
abbrev pub capped : ℕ → ℕ
capped n = min n 134217729

-- one item makes no more work than the limit, with either way to join the segments of a reduce
pub record IsLight (tree : Tree) : Type 0 where
  pub flat : most_firings flat_firings tree ≤ most_work
  pub joined : most_firings joined_firings tree ≤ most_work
  pub bodies : runs tree 0 ≤ most_work
