-- Loaded programs that can be served: the tree is lawful, and each of its `seq` nodes has a code.
use Rattle.std.specs.List.{All}
use Rattle.p3l_skel.specs.Lawful.{IsLawfulTree}
use Rattle.p3l_units.specs.Table.{HasCode}
use Rattle.p3l_load.specs.declared.loaded.Loaded.{Loaded}

pub record IsReady (loaded : Loaded) : Type 0 where
  pub lawful : IsLawfulTree loaded.tree
  pub codes : All (HasCode (record { tree = loaded.tree; codes = loaded.codes })) loaded.tree.nodes
