-- The entries of a program, in the order of the source.
use Rattle.std.specs.Prelude.{ℕ, ℤ, ◌==◌, ◌||◌, Bool, List, [], ◌∷◌, ◌++◌, map, length, is_some, Result, Ok, Err, Option, Some, None}
use Rattle.std.specs.Option.{option_map}
use Rattle.p3l_ast.specs.declared.position.Spot.{Spot}
use Rattle.p3l_ast.specs.declared.refusal.Fault.TheVariants.{Expected, Twice}
use Rattle.p3l_ast.specs.declared.refusal.SourceRefusal.{SourceRefusal}
use Rattle.p3l_ast.specs.declared.module.Kind.{Kind}
use Rattle.p3l_ast.specs.declared.module.Kind.TheVariants as kinds
use Rattle.p3l_ast.specs.Tree.{ModuleTree, EntryTree, constant}
use Rattle.p3l_ast.specs.Tree as tree
use Rattle.p3l_types.specs.Verdict.{Verdict, broken_if, given}
use Rattle.p3l_types.specs.Constants.{Constants, constant_of}
use Rattle.p3l_body.specs.declared.ports.Ports.{Ports}
use Rattle.p3l_body.specs.declared.checked.CheckedSeq.{CheckedSeq}
use Rattle.p3l_body.specs.Seq.{SeqTree, checked_seq, ports_of, seq_tree}
use Rattle.p3l_skel.specs.declared.tree.ModuleKind.{ModuleKind}
use Rattle.p3l_skel.specs.declared.tree.ModuleKind.TheVariants as skeletons
use Rattle.p3l_skel.specs.declared.tree.ModuleInfo.{ModuleInfo}
use Rattle.p3l_calls.specs.Port.{total}
use Rattle.p3l_check.specs.declared.skeleton.Skeleton.{Skeleton}
use Rattle.p3l_check.specs.declared.defined.Defined.{Defined}
use Rattle.p3l_check.specs.declared.progress.Passed.{Passed}
use Rattle.p3l_check.specs.declared.progress.Progress.{Progress}
use Rattle.p3l_check.specs.Modules.{Modules, no_modules, number_of, with_module}
use Rattle.p3l_check.specs.Places.{defines}
use Rattle.p3l_check.specs.Environment.{Before}
use Rattle.p3l_check.specs.Clauses.{rescue_in}
use Rattle.p3l_check.specs.Skeleton.{skeleton_of}

-- the result of the entries so far: constants, modules, and the checked bodies of `seq` modules
pub record Checked : Type 0 where
  pub constants : Constants
  pub modules : Modules
  pub seqs : List SeqTree

abbrev pub none_checked : Checked
none_checked = record { constants = []; modules = no_modules; seqs = [] }

abbrev pub checked_of : Progress → Checked
checked_of progress = record {
  constants = progress.consts;
  modules = progress.modules;
  seqs = map seq_tree progress.seqs;
}

-- the result of the entries of a program, or the refusal
abbrev pub checked_result : Result Progress SourceRefusal → Result Checked SourceRefusal
checked_result (Ok progress) = Ok (checked_of progress)
checked_result (Err refusal) = Err refusal

-- the result of the entries so far with one that was added, or the refusal
abbrev pub added_result : Progress → Result (Unit {0}) SourceRefusal → Result Checked SourceRefusal
added_result progress (Ok x) = Ok (checked_of progress)
added_result progress (Err refusal) = Err refusal

-- an entry's name is no earlier entry's
abbrev pub new_name : Checked → Spot → Verdict
new_name checked at =
    broken_if (is_some (constant_of checked.constants at.name) || is_some (number_of checked.modules at.name)) Twice at.pos

-- the ports of a module, of which every text spells at least one in and one out
abbrev pub ports_in : Constants → ModuleTree → Result Ports SourceRefusal
ports_in constants m =
    given (broken_if (length m.ins == 0 || length m.outs == 0) Expected m.at.pos) (λ x. ports_of constants m.ins m.outs)

-- the checked body of a `seq` module; other modules have none
abbrev pub body_in : Kind → Constants → ℕ → ModuleTree → Result (Option SeqTree) SourceRefusal
body_in kinds.Seq constants home m = given (checked_seq constants home m) (λ seq. Ok (Some seq))
body_in kinds.Comp constants home m = Ok None
body_in kinds.Pipe constants home m = Ok None
body_in kinds.Farm constants home m = Ok None
body_in kinds.Map constants home m = Ok None
body_in kinds.Reduce constants home m = Ok None
body_in kinds.Loop constants home m = Ok None

-- the tree of a body, if there is one
abbrev pub body_tree : Result (Option CheckedSeq) SourceRefusal → Result (Option SeqTree) SourceRefusal
body_tree (Ok None) = Ok None
body_tree (Ok (Some seq)) = Ok (Some (seq_tree seq))
body_tree (Err refusal) = Err refusal

abbrev pub with_body : List SeqTree → Option SeqTree → List SeqTree
with_body seqs None = seqs
with_body seqs (Some seq) = seqs ++ seq ∷ []

-- the kind of a module in its tree
abbrev pub kind_in : Kind → ModuleKind
kind_in kinds.Seq = skeletons.Seq
kind_in kinds.Comp = skeletons.Comp
kind_in kinds.Pipe = skeletons.Pipe
kind_in kinds.Farm = skeletons.Farm
kind_in kinds.Map = skeletons.Map
kind_in kinds.Reduce = skeletons.Reduce
kind_in kinds.Loop = skeletons.Loop

-- a module with its name and its rescue number
abbrev pub info_of : ModuleTree → Option ℤ → ModuleInfo
info_of m rescue = record { name = m.at.name; kind = kind_in m.kind; rescue = rescue }

-- a module of these ports and this skeleton
abbrev pub defined_as : ModuleInfo → Ports → Skeleton → Defined
defined_as info ports skeleton = record {
  info = info;
  ports = ports;
  callables = record {
    form = skeleton.form;
    ins = total ports.ins;
    outs = total ports.outs;
    calls = skeleton.calls;
    sequential = skeleton.sequential;
  };
}

-- a module as the entries after it see it: its ports, its rescue number, and then its other clauses and calls
abbrev pub defined_in : Before → ModuleTree → Result Defined SourceRefusal
defined_in before m =
    given (ports_in before.constants m)
    (λ ports. given (rescue_in m.kind m.at.pos before.constants m.clauses)
    (λ rescue. given (skeleton_of m.kind before m ports)
    (λ skeleton. Ok (defined_as (info_of m rescue) ports skeleton))))

abbrev pub before_in : Checked → (List ℕ → Bool) → Before
before_in checked is_ahead = record { constants = checked.constants; modules = checked.modules; is_ahead = is_ahead }

-- a module more
abbrev pub with_checked : Checked → Defined → Option SeqTree → Checked
with_checked checked defined seq = record {
  constants = checked.constants;
  modules = with_module checked.modules defined;
  seqs = with_body checked.seqs seq;
}

abbrev pub with_passed : Checked → Passed → Checked
with_passed checked passed = with_checked checked passed.defined (option_map seq_tree passed.seq)

-- the result of a module that passes after others, or the refusal
abbrev pub passed_result : Checked → Result Passed SourceRefusal → Result Checked SourceRefusal
passed_result checked (Ok passed) = Ok (with_passed checked passed)
passed_result checked (Err refusal) = Err refusal

-- a module by the rules of all kinds, and then the body of a `seq` module, which has no other rules
abbrev pub checked_module : Checked → (List ℕ → Bool) → ModuleTree → Result Checked SourceRefusal
checked_module checked is_ahead m =
    given (defined_in (before_in checked is_ahead) m)
    (λ defined. given (body_in m.kind checked.constants (length checked.modules.infos) m)
    (λ seq. Ok (with_checked checked defined seq)))

-- a constant more
abbrev pub with_constant : Checked → List ℕ → ℤ → Checked
with_constant checked name value = record {
  constants = checked.constants ++ (name, value) ∷ [];
  modules = checked.modules;
  seqs = checked.seqs;
}

-- an entry, where these names are defined by it or after it
abbrev pub checked_entry : Checked → (List ℕ → Bool) → EntryTree → Result Checked SourceRefusal
checked_entry checked is_ahead (constant at value) =
    given (new_name checked at) (λ x. Ok (with_constant checked at.name value))
checked_entry checked is_ahead (tree.defined m) =
    given (new_name checked m.at) (λ x. checked_module checked is_ahead m)

-- entries one after another
abbrev pub checked_entries : Checked → List EntryTree → Result Checked SourceRefusal
checked_entries checked [] = Ok checked
checked_entries checked (entry ∷ entries) =
    given (checked_entry checked (defines (entry ∷ entries)) entry) (λ next. checked_entries next entries)
