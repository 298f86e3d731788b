use Rattle.std.proofs.Common.{◌≡◌, ◌≤◌, map, drop, length}
use Rattle.p3l_ast.specs.Tree.{entry_tree}
use Rattle.p3l_check.specs.Entry.{none_checked, checked_of, checked_entries}
use Rattle.p3l_check.proofs.progress.Progress.in_order.Given as goal

-- the entries so far with those of the rest, and no more modules than entries
abbrev pub invariant-loop-place : goal.invariant-loop-place
invariant-loop-place l = record {
  all : checked_entries (checked_of l.progress) (map entry_tree (drop l.place l.entries)) ≡ checked_entries none_checked (map entry_tree l.entries);
  few : length l.progress.modules.infos ≤ l.place;
}
