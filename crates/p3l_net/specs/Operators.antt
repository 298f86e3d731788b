-- The operators of reduces.
use Rattle.std.specs.Prelude.{◌≡◌, ℕ, ℤ, ◌+◌, ◌*◌, List, length}
use Rattle.p3l_skel.specs.declared.tree.Tree.{Tree}
use Rattle.p3l_skel.specs.Item.{item}
use Rattle.p3l_skel.specs.Tree.{node_at, HasFittingLength, HasLength, IsUnit}
use Rattle.p3l_firing.specs.Nodes.{Leaf}

-- the count of words that an operator gives
abbrev pub outs_of : Tree → ℕ → ℕ
outs_of tree operator = (node_at tree operator).outs

-- one process runs it, and it makes of two results one as long
pub record IsOperator (tree : Tree) (leaf : Leaf) (operator : ℕ) : Type 0 where
  pub unit : IsUnit tree operator
  pub takes : HasFittingLength tree operator (outs_of tree operator + outs_of tree operator)
  pub gives : (words : List ℤ) → length words ≡ 2 * outs_of tree operator → HasLength (outs_of tree operator) (item tree leaf operator words)
