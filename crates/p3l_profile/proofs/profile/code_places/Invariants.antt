use Rattle.std.proofs.Common.{◌≡◌, ◌<◌, ℕ, length, Some}
use Rattle.std.specs.Prelude.{slice_get}
use Rattle.p3l_units.specs.Table.{seqs_before}
use Rattle.p3l_profile.proofs.profile.code_places.Given as goal

-- the places of the modules so far, and the number of `seq` modules among them
abbrev pub invariant-loop-info : goal.invariant-loop-info
invariant-loop-info l = record {
  same : l.info-items ≡ l.tree.modules;
  count : l.before ≡ seqs_before l.tree.modules l.info-index;
  long : length l.places ≡ l.info-index;
  places : (m : ℕ) → m < l.info-index → slice_get l.places m ≡ Some (seqs_before l.tree.modules m);
}
