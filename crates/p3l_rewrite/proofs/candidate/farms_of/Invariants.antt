use Rattle.std.proofs.Common.{◌≡◌, [], map, drop}
use Rattle.p3l_ast.specs.Tree.{module_tree, entry_tree}
use Rattle.p3l_rewrite.specs.Candidates.{farms_of}
use Rattle.p3l_rewrite.proofs.candidate.farms_of.Given as goal

-- the farms so far, and those of the calls that are left
abbrev pub invariant-loop-place : goal.invariant-loop-place
invariant-loop-place l =
    farms_of (map entry_tree l.front) l.tree (map module_tree l.farms) (drop l.place l.calls) (drop l.place l.parts)
    ≡ farms_of (map entry_tree l.front) l.tree [] l.calls l.parts
