-- The answers for two programs that are the same but for positions.
use Rattle.std.specs.Prelude.{◌≡◌, ℤ, List, Result, Ok, Err, map}
use Rattle.p3l_ast.specs.declared.position.Pos.{Pos}
use Rattle.p3l_ast.specs.declared.refusal.Fault.{Fault}
use Rattle.p3l_ast.specs.declared.refusal.SourceRefusal.{SourceRefusal}
use Rattle.p3l_ast.specs.declared.refusal.SourceRefusal.TheVariants.{At}
use Rattle.p3l_ast.specs.Tree.{ProgramTree}
use Rattle.p3l_ast.specs.Unplaced.{program_unplaced}
use Rattle.p3l_skel.specs.Item.{meaning}
use Rattle.p3l_compile.specs.Leaves.{body_leaf}
use Rattle.p3l_check.specs.Resolving.{ResolvedTree, resolved}
use Rattle.p3l_position_laws.specs.Bodies.{seq_unplaced}

-- a program keeps the rules too: it has the same tree, and the same bodies but for positions
pub record KeepsRules (other : ProgramTree) (r : ResolvedTree) : Type 0 where
  pub whole : ResolvedTree
  pub resolves : resolved other ≡ Ok whole
  pub tree_is : whole.tree ≡ r.tree
  pub bodies_are : map seq_unplaced whole.seqs ≡ map seq_unplaced r.seqs

-- a program breaks the same rule, maybe elsewhere
pub record BreaksIt (other : ProgramTree) (fault : Fault) : Type 0 where
  pub place : Pos
  pub breaks : resolved other ≡ Err (At fault place)

-- a program resolves to this result, positions aside
abbrev pub ComesTo : ProgramTree → Result ResolvedTree SourceRefusal → Type 0
ComesTo other (Ok r) = KeepsRules other r
ComesTo other (Err (At fault pos)) = BreaksIt other fault
ComesTo other (Err refusal) = resolved other ≡ Err refusal

-- programs that are the same but for positions keep the same rules, and have the same tree
abbrev pub PositionsAreNothing : Type 0
PositionsAreNothing =
    (program other : ProgramTree) → program_unplaced other ≡ program_unplaced program → ComesTo other (resolved program)

-- two trees with their bodies make the same of all items
abbrev pub OneMeaning : ResolvedTree → ResolvedTree → Type 0
OneMeaning r s =
    (items : List (List ℤ)) → meaning s.tree (body_leaf s.tree s.seqs) items ≡ meaning r.tree (body_leaf r.tree r.seqs) items

-- the same tree with the same bodies but for positions makes the same of all items
abbrev pub BodiesMeanOne : Type 0
BodiesMeanOne =
    (r s : ResolvedTree) → s.tree ≡ r.tree → map seq_unplaced s.seqs ≡ map seq_unplaced r.seqs → OneMeaning r s
