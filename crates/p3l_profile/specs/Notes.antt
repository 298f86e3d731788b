-- The work that the bodies of a program do for an item: the runs of codes and the turns of loops.
use Rattle.std.specs.Prelude.{ℕ, ℤ, Option, Some, None, List}
use Rattle.p3l_skel.specs.declared.tree.Tree.{Tree}
use Rattle.p3l_walk.specs.Notes.{notes as walk_notes}
use Rattle.p3l_code.specs.declared.instr.Code.{Code}
use Rattle.p3l_code.specs.Counting.{steps_of}
use Rattle.p3l_units.specs.Table.{Served, code_of, leaf}
pub use Rattle.p3l_walk.specs.Notes.{Note, ran, turn}

-- the number of instructions of a module's code on words, 0 without code
abbrev pub steps_by : Option Code → List ℤ → ℕ
steps_by None words = 0
steps_by (Some code) words = steps_of code words

abbrev pub steps_at : Served → ℕ → List ℤ → ℕ
steps_at served home words = steps_by (code_of served home) words

-- the notes on a node of a tree for the words of an item
abbrev pub notes : Tree → Served → ℕ → List ℤ → List Note
notes tree served = walk_notes tree (leaf served) (steps_at served)
