-- Units whose traps name modules.
use Rattle.std.specs.Prelude.{ℕ, ℤ, ◌<◌, List, length}
use Rattle.p3l_skel.specs.declared.tree.Tree.{Tree}
use Rattle.p3l_units.specs.Table.{Served, leaf}
use Rattle.p3l_firing.specs.Nodes.{Leaf}
use Rattle.p3l_net.specs.Fitting.{IsOfModule}

-- a trap of a `seq` module names a module of the tree
abbrev pub TrapsNameModules : Tree → Leaf → Type 0
TrapsNameModules tree leaf = (m : ℕ) (words : List ℤ) → m < length tree.modules → IsOfModule tree (leaf m words)

-- so it is of every table of units
abbrev pub EveryTableNamesModules : Type 0
EveryTableNamesModules = (served : Served) → TrapsNameModules served.tree (leaf served)
