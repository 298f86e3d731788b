-- A whole program.
use Rattle.std.specs.Prelude.{ℕ, ◌&&◌, not, Bool, List, [], ◌∷◌, map, length, Result, Ok, Err, nat_le, nat_lt, codes, bytes_eq, if◌then◌else◌}
use Rattle.std.specs.Option.{option_map_or}
use Rattle.p3l_base.specs.Limits.{most_nodes}
use Rattle.p3l_ast.specs.declared.position.Pos.{Pos}
use Rattle.p3l_ast.specs.declared.refusal.Fault.TheVariants.{NoMain, TooDeep, TooManyInstances, TooHeavy}
use Rattle.p3l_ast.specs.declared.refusal.SourceRefusal.{SourceRefusal}
use Rattle.p3l_ast.specs.declared.refusal.SourceRefusal.TheVariants.{At, NoMemory}
use Rattle.p3l_ast.specs.Tree.{EntryTree, ProgramTree}
use Rattle.p3l_types.specs.Verdict.{Verdict, broken_if, first_of, given}
use Rattle.p3l_body.specs.Seq.{SeqTree, seq_tree}
use Rattle.p3l_skel.specs.declared.tree.Tree.{Tree}
use Rattle.p3l_skel.specs.Tree.{nesting}
use Rattle.p3l_skel.specs.Numbers.{flat_firings, joined_firings, most_firings, runs}
use Rattle.p3l_skel.specs.Work.{most_work}
use Rattle.p3l_check.specs.declared.unfolding.UnfoldRefusal.{UnfoldRefusal}
use Rattle.p3l_check.specs.declared.unfolding.UnfoldRefusal.TheVariants as limit
use Rattle.p3l_check.specs.Unfolding.{instance, tree_of}
use Rattle.p3l_check.specs.Refusing.{is_nested_within}
use Rattle.p3l_check.specs.declared.resolving.Resolved.{Resolved}
use Rattle.p3l_check.specs.Modules.{Modules, number_of}
use Rattle.p3l_check.specs.Places.{entry_spot}
use Rattle.p3l_check.specs.Entry.{Checked, none_checked, checked_entries}

-- the name of the module that a stream of items goes into
abbrev pub main_name : List ℕ
main_name = codes "main"

-- the place of the entry of the name `main`
abbrev pub main_place : Pos → List EntryTree → Pos
main_place end [] = end
main_place end (entry ∷ entries) =
    if bytes_eq (entry_spot entry).name main_name then (entry_spot entry).pos else main_place end entries

-- a module `main` is there; its number
abbrev pub root_of : Pos → Modules → Result ℕ SourceRefusal
root_of end modules = option_map_or Ok (number_of modules main_name) (Err (At NoMain end))

-- one item makes no more work than the limit, with either way to join the segments of a reduce
abbrev pub is_light : Tree → Bool
is_light tree =
    nat_le (most_firings flat_firings tree) most_work && nat_le (most_firings joined_firings tree) most_work
    && nat_le (runs tree 0) most_work

-- the limit that the instances of a root at this place pass
abbrev pub limit_of : Pos → UnfoldRefusal → SourceRefusal
limit_of at limit.TooDeep = At TooDeep at
limit_of at limit.TooManyInstances = At TooManyInstances at
limit_of at limit.TooHeavy = At TooHeavy at
limit_of at limit.NoMemory = NoMemory

-- the limits of the instances of a root at this place: nesting, number, work
abbrev pub limits_rule : Pos → Modules → ℕ → Verdict
limits_rule at modules root =
    first_of (
    broken_if (not (is_nested_within modules.callables nesting root)) TooDeep at
    ∷ (broken_if (nat_lt most_nodes (length (instance modules.callables nesting root 0))) TooManyInstances at
    ∷ (broken_if (not (is_light (tree_of modules.infos modules.callables root))) TooHeavy at
    ∷ [])))

-- a program that keeps the rules: its tree, and the bodies of its `seq` modules
pub record ResolvedTree : Type 0 where
  pub tree : Tree
  pub seqs : List SeqTree

-- the tree and the bodies that are given, or the refusal
abbrev pub resolved_tree : Result Resolved SourceRefusal → Result ResolvedTree SourceRefusal
resolved_tree (Ok resolved) = Ok (record { tree = resolved.tree; seqs = map seq_tree resolved.seqs })
resolved_tree (Err refusal) = Err refusal

abbrev pub resolved_as : Checked → ℕ → ResolvedTree
resolved_as checked root = record {
  tree = tree_of checked.modules.infos checked.modules.callables root;
  seqs = checked.seqs;
}

-- the rules of the whole program, after those of its entries
abbrev pub whole : ProgramTree → Checked → Result ResolvedTree SourceRefusal
whole program checked =
    given (root_of program.end checked.modules)
    (λ root. given (limits_rule (main_place program.end program.entries) checked.modules root)
    (λ x. Ok (resolved_as checked root)))

-- a program by all its rules in order
abbrev pub resolved : ProgramTree → Result ResolvedTree SourceRefusal
resolved program = given (checked_entries none_checked program.entries) (whole program)
