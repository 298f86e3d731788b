-- Programs whose `main` is a pipe that is written otherwise.
use Rattle.std.specs.Prelude.{◌≡◌, ℕ, ℤ, ◌<◌, ◌⊎◌, List, [], ◌∷◌, ◌++◌, map, slice_get, None, Ok}
use Rattle.p3l_ast.specs.declared.call.Call.{Call}
use Rattle.p3l_ast.specs.declared.module.Kind.{Kind}
use Rattle.p3l_ast.specs.declared.module.Kind.TheVariants as kinds
use Rattle.p3l_ast.specs.Tree.{ModuleTree, EntryTree, ProgramTree, calls, defined}
use Rattle.p3l_skel.specs.declared.tree.ModuleInfo.{ModuleInfo}
use Rattle.p3l_skel.specs.Tree.{node_at}
use Rattle.p3l_skel.specs.Item.{meaning}
use Rattle.p3l_skel.specs.Lawful.{IsLawfulTree}
use Rattle.p3l_check.specs.declared.callables.Callable.{Callable}
use Rattle.p3l_check.specs.Unfolding.{tree_of}
use Rattle.p3l_check.specs.Resolving.{ResolvedTree, main_name, resolved}
use Rattle.p3l_compile.specs.Leaves.{body_leaf}
use Rattle.p3l_rewrite.specs.Meant.{AreAlike}
use Rattle.p3l_rewrite.specs.Trees.{HasRoot, IsRewritten}

-- a module of a kind that is made of calls
pub record IsWritten (kind : Kind) (cs : List Call) (m : ModuleTree) : Type 0 where
  pub kind_is : m.kind ≡ kind
  pub inside_is : m.inside ≡ calls cs

-- a farm of the module of a name
pub record IsFarmOfName (worker : List ℕ) (farm : ModuleTree) : Type 0 where
  pub call : Call
  pub is_written : IsWritten kinds.Farm (call ∷ []) farm
  pub calls_it : call.at.name ≡ worker

-- among these modules is one of this name which is a farm of that one
abbrev pub HasFarm : List ModuleTree → List ℕ → List ℕ → Type 0
HasFarm [] name worker = ⊥
HasFarm (f ∷ farms) name worker = ((f.at.name ≡ name) × IsFarmOfName worker f) ⊎ HasFarm farms name worker

-- calls of the modules that were called, or of farms of them
abbrev pub AreFarmedCalls : List ModuleTree → List Call → List Call → Type 0
AreFarmedCalls farms [] [] = Unit {0}
AreFarmedCalls farms [] (c ∷ cs) = ⊥
AreFarmedCalls farms (d ∷ ds) [] = ⊥
AreFarmedCalls farms (d ∷ ds) (c ∷ cs) = ((d.at.name ≡ c.at.name) ⊎ HasFarm farms d.at.name c.at.name) × AreFarmedCalls farms ds cs

-- a program's pipe `main`, the entries before it, and its calls
pub record IsMainPipe (program : ProgramTree) (front : List EntryTree) (cs : List Call) : Type 0 where
  pub pipe : ModuleTree
  pub back : List EntryTree
  pub entries_are : program.entries ≡ front ++ defined pipe ∷ back
  pub name_is : pipe.at.name ≡ main_name
  pub is_written : IsWritten kinds.Pipe cs pipe

-- farms stand before `main`, and it calls some of them in place of what they are farms of
pub record IsFarmedProgram (front : List EntryTree) (cs : List Call) (other : ProgramTree) : Type 0 where
  pub farms : List ModuleTree
  pub its_calls : List Call
  pub its_main : IsMainPipe other (front ++ map (λ m. defined m) farms) its_calls
  pub farmed : AreFarmedCalls farms its_calls cs

-- a comp has the calls of `main`, which is a farm of it
pub record IsFusedProgram (front : List EntryTree) (cs : List Call) (other : ProgramTree) : Type 0 where
  pub work : ModuleTree
  pub farm : ModuleTree
  pub back : List EntryTree
  pub entries_are : other.entries ≡ front ++ defined work ∷ (defined farm ∷ back)
  pub work_is : IsWritten kinds.Comp cs work
  pub plain : work.clauses.rescue ≡ None
  pub name_is : farm.at.name ≡ main_name
  pub farm_is : IsFarmOfName work.at.name farm

-- a program is another with its pipe `main` written otherwise, positions and arguments aside
pub record IsRewrittenProgram (program other : ProgramTree) : Type 0 where
  pub front : List EntryTree
  pub cs : List Call
  pub main_is : IsMainPipe program front cs
  pub is : IsFarmedProgram front cs other ⊎ IsFusedProgram front cs other

-- two programs' trees are those of their modules: the second's root is the first's written
-- otherwise, and the modules before the first's root are the first modules of both
pub record AreRewritten (r s : ResolvedTree) : Type 0 where
  pub infos : List ModuleInfo
  pub its_infos : List ModuleInfo
  pub callables : List Callable
  pub other : List Callable
  pub root : ℕ
  pub its_root : ℕ
  pub tree_is : r.tree ≡ tree_of infos callables root
  pub its_tree_is : s.tree ≡ tree_of its_infos other its_root
  pub has : HasRoot infos callables root
  pub its : HasRoot its_infos other its_root
  pub alike : AreAlike root infos its_infos callables other (body_leaf r.tree r.seqs) (body_leaf s.tree s.seqs)
  pub stay : (k : ℕ) → k < root → slice_get its_infos k ≡ slice_get infos k
  pub rewritten : IsRewritten callables root its_infos other its_root

-- if both keep the rules, their trees are rewritten as the programs are
abbrev pub RewrittenProgramsResolve : Type 0
RewrittenProgramsResolve =
    (program other : ProgramTree) (r s : ResolvedTree) →
    resolved program ≡ Ok r → resolved other ≡ Ok s → IsLawfulTree r.tree → IsLawfulTree s.tree →
    IsRewrittenProgram program other → AreRewritten r s

-- a program makes of items what another makes
abbrev pub HaveOneMeaning : ResolvedTree → ResolvedTree → Type 0
HaveOneMeaning r s =
    (items : List (List ℤ)) → meaning s.tree (body_leaf s.tree s.seqs) items ≡ meaning r.tree (body_leaf r.tree r.seqs) items

-- the modules before a root keep their numbers
abbrev pub ModulesStay : ResolvedTree → ResolvedTree → Type 0
ModulesStay r s = (k : ℕ) → k < (node_at r.tree 0).«module» → slice_get s.tree.modules k ≡ slice_get r.tree.modules k

-- if both keep the rules, they have one meaning, and the modules before `main` keep their numbers
abbrev pub RewrittenProgramsMean : Type 0
RewrittenProgramsMean =
    (program other : ProgramTree) (r s : ResolvedTree) →
    resolved program ≡ Ok r → resolved other ≡ Ok s → IsLawfulTree r.tree → IsLawfulTree s.tree →
    IsRewrittenProgram program other → HaveOneMeaning r s × ModulesStay r s
