-- The rows of a certificate: those that it needs, each once, and no others.
use Rattle.std.specs.Prelude.{ℕ, List}
use Rattle.std.specs.List.{All, Contains}
use Rattle.p3l_skel.specs.declared.tree.Tree.{Tree}
use Rattle.p3l_cost.specs.declared.costs.Costs.{Costs}
use Rattle.p3l_cert.specs.declared.cert.Row.{Row}
use Rattle.p3l_cert.specs.Fill.{Has}
use Rattle.p3l_cert.specs.Keys.{needed_keys}
use Rattle.p3l_cert.specs.Rows.{AreRows}
use Rattle.p3l_cert.specs.Rule.{key_of, Follows}

-- ascending rows, one for each key that is needed, and no others; they follow by their rules
pub record AreNeededRows (tree : Tree) (costs : Costs) (service processors : ℕ) (rows : List Row) : Type 0 where
  pub ordered : AreRows rows
  pub all : All (Has rows) (needed_keys tree costs service processors)
  pub only : All (λ row. Contains (needed_keys tree costs service processors) (key_of row)) rows
  pub follow : All (Follows tree costs rows) rows
