-- The bodies that a program's `seq` modules are checked to, and that they can be compiled and run.
use Rattle.std.specs.Prelude.{◌≡◌, ℕ, ◌+◌, ◌≤◌, List, [], ◌∷◌, ◌++◌, length, map, Result, Ok, Some, IsSomeAnd, slice_get}
use Rattle.std.specs.List.{All, AllByRecursion}
use Rattle.p3l_ast.specs.declared.module.Kind.{Kind}
use Rattle.p3l_ast.specs.declared.module.Kind.TheVariants as kinds
use Rattle.p3l_ast.specs.declared.refusal.SourceRefusal.{SourceRefusal}
use Rattle.p3l_ast.specs.Tree.{ModuleTree, EntryTree, constant, defined, ProgramTree}
use Rattle.p3l_grammar.specs.Grammar.{Spells}
use Rattle.p3l_types.specs.Constants.{Constants}
use Rattle.p3l_body.specs.Seq.{SeqTree, checked_seq}
use Rattle.p3l_skel.specs.declared.tree.Form.TheVariants as forms
use Rattle.p3l_skel.specs.declared.tree.ModuleKind.{ModuleKind}
use Rattle.p3l_skel.specs.declared.tree.ModuleKind.TheVariants as module_kinds
use Rattle.p3l_skel.specs.declared.tree.ModuleInfo.{ModuleInfo}
use Rattle.p3l_skel.specs.declared.tree.Node.{Node}
use Rattle.p3l_skel.specs.declared.tree.Tree.{Tree}
use Rattle.p3l_compile.specs.Condition.{IsCompilable}
use Rattle.p3l_compile.specs.Leaves.{body_of, FitsNode, AreBodies}

-- a `seq` module takes the first of the bodies, which is what it is checked to, and leaves the others;
-- a module of another kind takes none
abbrev pub checked_first : Kind → Result SeqTree SourceRefusal → (List SeqTree → Type 0) → List SeqTree → Type 0
checked_first kinds.Seq checked others [] = ⊥
checked_first kinds.Seq checked others (seq ∷ seqs) = (checked ≡ Ok seq) × others seqs
checked_first _ checked others seqs = others seqs

-- bodies of entries, one for each `seq` module in the order of the source: what the module is checked
-- to, with the constants before it and its number, which counts all modules from `home` on
abbrev pub AreChecked : Constants → ℕ → List EntryTree → List SeqTree → Type 0
AreChecked constants home [] [] = Unit {0}
AreChecked constants home [] (seq ∷ seqs) = ⊥
AreChecked constants home (constant x value ∷ entries) seqs =
    AreChecked (constants ++ (x.name, value) ∷ []) home entries seqs
AreChecked constants home (defined m ∷ entries) seqs =
    checked_first m.kind (checked_seq constants home m) (AreChecked constants (home + 1) entries) seqs

-- a body that a module among the program's entries is checked to, with some constants and some number
pub record IsBodyOf (program : ProgramTree) (seq : SeqTree) : Type 0 where
  pub place : ℕ
  pub checks : ModuleTree
  pub there : slice_get program.entries place ≡ Some (defined checks)
  pub constants : Constants
  pub home : ℕ
  pub checked : checked_seq constants home checks ≡ Ok seq

-- the kind of a module, as a tree has it
abbrev pub kind_of : Kind → ModuleKind
kind_of kinds.Seq = module_kinds.Seq
kind_of kinds.Comp = module_kinds.Comp
kind_of kinds.Pipe = module_kinds.Pipe
kind_of kinds.Farm = module_kinds.Farm
kind_of kinds.Map = module_kinds.Map
kind_of kinds.Reduce = module_kinds.Reduce
kind_of kinds.Loop = module_kinds.Loop

-- the kinds of the modules among entries
abbrev pub kinds_of : List EntryTree → List ModuleKind
kinds_of [] = []
kinds_of (constant x value ∷ entries) = kinds_of entries
kinds_of (defined m ∷ entries) = kind_of m.kind ∷ kinds_of entries

-- a program that a text spells which is no longer than texts may be
pub record IsRead (bytes : List ℕ) (program : ProgramTree) : Type 0 where
  pub short : length bytes ≤ 1048576
  pub spelled : Spells bytes program

-- the tree's modules are the program's, and each of its `seq` nodes takes and gives the words of the
-- body of its module
pub record IsTreeOf (program : ProgramTree) (seqs : List SeqTree) (tree : Tree) : Type 0 where
  pub same_kinds : map (λ (info : ModuleInfo). info.kind) tree.modules ≡ kinds_of program.entries
  pub words : All (λ (node : Node). node.form ≡ forms.Seq → IsSomeAnd (body_of tree seqs node.«module») (FitsNode node)) tree.nodes

-- the body that a module of a program that was read is checked to can be compiled
abbrev pub BodyCompiles : Type 0
BodyCompiles =
    (bytes : List ℕ) (program : ProgramTree) (seq : SeqTree) → IsRead bytes program → IsBodyOf program seq → IsCompilable seq

-- and so can all of them
abbrev pub BodiesCompile : Type 0
BodiesCompile =
    (bytes : List ℕ) (program : ProgramTree) (seqs : List SeqTree) →
    IsRead bytes program → AreChecked [] 0 program.entries seqs → AllByRecursion IsCompilable seqs

-- the checked bodies of a program that was read are those of its tree's `seq` modules
abbrev pub BodiesServe : Type 0
BodiesServe =
    (bytes : List ℕ) (program : ProgramTree) (seqs : List SeqTree) (tree : Tree) →
    IsRead bytes program → AreChecked [] 0 program.entries seqs → IsTreeOf program seqs tree → AreBodies tree seqs
