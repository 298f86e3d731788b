-- The text that advises on the number of processors.
use Rattle.std.specs.Prelude.{◌≡◌, ℕ, ◌<◌, ◌≤◌, ◌++◌, List}
use Rattle.p3l_skel.specs.declared.tree.Tree.{Tree}
use Rattle.p3l_cost.specs.declared.costs.Costs.{Costs}
use Rattle.p3l_model.specs.Optimal.{IsChosen}
use Rattle.p3l_alloc.specs.declared.allocation.Best.{Best}
use Rattle.p3l_alloc.specs.Best.{IsBest}
use Rattle.p3l_alloc.specs.Need.{IsLeastProcs}
use Rattle.p3l_advise.specs.Falls.{fall_lines}
use Rattle.p3l_advise.specs.Help.{help_lines}
use Rattle.p3l_advise.specs.Lines.{tree_lines}

-- the text, where `least` processors are the fewest that fit, `best` says for each number of processors the
-- best service time and its processes, and the counts are those that are chosen for all processors
abbrev pub advice_text : Tree → Costs → (processors least : ℕ) → (ℕ → Best) → (counts : List ℕ) → List ℕ
advice_text tree costs processors least best counts =
    fall_lines best least processors ++ (tree_lines tree costs counts ++ help_lines tree costs counts processors (best processors).used)

-- the text advises on up to this number of processors
pub record IsAdvice (tree : Tree) (costs : Costs) (processors : ℕ) (text : List ℕ) : Type 0 where
  pub least : ℕ
  pub best : ℕ → Best
  pub counts : List ℕ
  -- no lawful counts have fewer processes
  pub need : IsLeastProcs tree least
  -- each number has the service time and the processes of its optimal counts
  pub bests : (p : ℕ) → least ≤ p → p ≤ processors → IsBest tree costs p (best p)
  -- the counts of the tree's lines are those that are chosen for all processors
  pub chosen : IsChosen tree costs processors counts
  pub words : text ≡ advice_text tree costs processors least best counts
  -- as many processors as are used do, and no fewer: so theirs is the last line of a number, and those past
  -- it do not help
  pub enough : (p : ℕ) → (best processors).used ≤ p → p ≤ processors → (best p).service ≡ (best processors).service
  pub needed : (p : ℕ) → least ≤ p → p < (best processors).used → (best processors).service < (best p).service
