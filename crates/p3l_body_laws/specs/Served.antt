-- The bodies of a program that keeps all its rules are those of its tree.
use Rattle.std.specs.Prelude.{◌≡◌, ℕ, List, Ok}
use Rattle.p3l_ast.specs.Tree.{ProgramTree}
use Rattle.p3l_skel.specs.Lawful.{IsLawfulTree}
use Rattle.p3l_check.specs.Resolving.{ResolvedTree, resolved}
use Rattle.p3l_compile.specs.Leaves.{AreBodies}
use Rattle.p3l_body_laws.specs.Checked.{IsRead}

-- of a program that was read and keeps the rules, the bodies are those of the tree's `seq` modules
abbrev pub ResolvedServe : Type 0
ResolvedServe =
    (bytes : List ℕ) (program : ProgramTree) (r : ResolvedTree) →
    IsRead bytes program → resolved program ≡ Ok r → IsLawfulTree r.tree → AreBodies r.tree r.seqs
