-- A kind of node.
use Rattle.std.specs.Prelude.{ℕ, Bool, List}
use Rattle.p3l_skel.specs.declared.tree.Tree.{Tree}
use Rattle.p3l_template.specs.Finding.{Finds}
use Rattle.p3l_template.specs.Shape.{Blueprint}
use Rattle.p3l_template.specs.declared.width.Width.{Width}

pub record Kind : Type 0 where
  -- its template
  pub shape : Blueprint
  -- the widths of its own channels in order, for a node of a tree, where tokens outside it have this number of tags
  pub widths : Tree → (node tags : ℕ) → List Width
  -- the number of extra tags of the tokens inside it
  pub deeper : ℕ
  -- it is a loop: its first process is the head, and its second the tail
  pub is_loop : Bool
  -- the tokens found in any state itself
  pub finds : Finds
