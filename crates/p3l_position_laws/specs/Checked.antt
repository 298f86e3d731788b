-- The rules of programs, without positions.
use Rattle.std.specs.Prelude.{map}
use Rattle.p3l_check.specs.Entry.{Checked}
use Rattle.p3l_check.specs.Resolving.{ResolvedTree}
use Rattle.p3l_position_laws.specs.Bodies.{seq_unplaced}

abbrev pub checked_unplaced : Checked → Checked
checked_unplaced checked = record {
  constants = checked.constants;
  modules = checked.modules;
  seqs = map seq_unplaced checked.seqs;
}

abbrev pub resolved_unplaced : ResolvedTree → ResolvedTree
resolved_unplaced r = record { tree = r.tree; seqs = map seq_unplaced r.seqs }
