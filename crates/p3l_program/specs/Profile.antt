-- The command `profile`: the cost file of what a program does on the items of the input.
use Rattle.std.specs.Prelude.{◌≡◌, ◌≢◌, ℕ, ℤ, ◌+◌, Bool, true, false, List, [], ◌∷◌, ◌++◌, ◌⊎◌, length, map, Ok, Option, Some, None, if◌then◌else◌}
use Rattle.std.specs.List.{AllByRecursion, list_any}
use Rattle.p3l_base.specs.declared.outcome.Outcome.{Outcome}
use Rattle.p3l_base.specs.declared.outcome.Outcome.TheVariants.{Value, Trapped}
use Rattle.p3l_base.specs.declared.outcome.TrapKind.{TrapKind}
use Rattle.p3l_io.specs.Change.{Change, HasRisen, HasSameFaults, IsStill}
use Rattle.p3l_io.specs.Content.{Held}
use Rattle.p3l_skel.specs.declared.tree.Tree.{Tree}
use Rattle.p3l_skel.specs.Item.{item}
use Rattle.p3l_skel.specs.Tree.{node_at}
use Rattle.p3l_check.specs.Resolving.{ResolvedTree}
use Rattle.p3l_code.specs.declared.instr.Code.{Code}
use Rattle.p3l_compile.specs.Condition.{code_of}
use Rattle.p3l_compile.specs.Leaves.{body_leaf}
use Rattle.p3l_units.specs.Table.{leaf}
use Rattle.p3l_stream.specs.declared.items.Ending.{Ending}
use Rattle.p3l_stream.specs.declared.items.Ending.TheVariants as ending
use Rattle.p3l_stream.specs.declared.items.Items.{Items}
use Rattle.p3l_stream.specs.Items.{items_of}
use Rattle.p3l_stream.specs.Seen.{Seen}
use Rattle.p3l_run.specs.Feed.{Gives}
use Rattle.p3l_run.specs.Run.{module_name}
use Rattle.p3l_run.specs.Write.{HasBegun, HasPut}
use Rattle.p3l_report.specs.declared.stats.Stats.{Stats}
use Rattle.p3l_report.specs.declared.verdict.Finish.{Finish}
use Rattle.p3l_report.specs.declared.verdict.Finish.TheVariants as finish
use Rattle.p3l_report.specs.declared.verdict.Verdict.{Verdict}
use Rattle.p3l_report.specs.declared.verdict.Verdict.TheVariants as verdict
use Rattle.p3l_report.specs.Status as status
use Rattle.p3l_report.specs.Verdict.{ending_status}
use Rattle.p3l_run.specs.declared.end.RunEnd.TheVariants as end
use Rattle.p3l_profile.specs.Greatest.{Greatest}
use Rattle.p3l_profile.specs.Law.{profile_text}
use Rattle.p3l_profile.specs.Text.{text_of}
use Rattle.p3l_run.specs.declared.sampling.Sampled.{Sampled}
use Rattle.p3l_run.specs.declared.sampling.Sampled.TheVariants as sampled
use Rattle.p3l_run.specs.Sampling.{IsValue}
use Rattle.p3l_program.specs.Behavior.{Behavior}
use Rattle.p3l_program.specs.Expected.{IsExpectedWith}
use Rattle.p3l_program.specs.File.{HasText, text_limit}
use Rattle.p3l_program.specs.Plan.{IsAccepted}
use Rattle.p3l_program.specs.Run.{seen_of}
use Rattle.p3l_program.specs.Stage.{program_stages}
use Rattle.p3l_program.specs.World.{World}

-- the subject of a profile: a tree, the outcomes of its `seq` modules on words, and their codes in their order
pub record Subject : Type 0 where
  pub tree : Tree
  pub leaf : ℕ → List ℤ → Outcome
  pub codes : List Code

-- a program: its tree, what its bodies mean, and their codes
abbrev pub subject_of : ResolvedTree → Subject
subject_of r = record { tree = r.tree; leaf = body_leaf r.tree r.seqs; codes = map code_of r.seqs }

-- a tree whose `seq` modules do what their codes do
abbrev pub coded : Tree → List Code → Subject
coded tree codes = record { tree = tree; leaf = leaf (record { tree = tree; codes = codes }); codes = codes }

-- the number of words of its items
abbrev pub subject_width : Subject → ℕ
subject_width p = (node_at p.tree 0).ins

-- its outcome on an item
abbrev pub outcome_on : Subject → List ℤ → Outcome
outcome_on p words = item p.tree p.leaf 0 words

-- it has a trap on none of these items
abbrev pub HaveValues : Subject → List (List ℤ) → Type 0
HaveValues p items = AllByRecursion (λ words. IsValue (outcome_on p words)) items

-- its cost file for items: of each `seq` module the most instructions of a run, of each loop module the
-- most turns for an item
abbrev pub cost_file : Subject → List (List ℤ) → List ℕ
cost_file p items = profile_text p.tree (record { tree = p.tree; codes = p.codes }) items

-- the input gave these items, of which none traps, and then ended so
pub record GivesAll (p : Subject) (input : Change (List ℕ)) (close : Ending) : Type 0 where
  pub stream : Seen
  pub items : List (List ℤ)
  pub gives : Gives (subject_width p) input stream items (Some (Ok close))
  pub values : HaveValues p items

-- the input came to its end, and the cost file for its items was written
pub record IsNoted (p : Subject) (input out : Change (List ℕ)) : Type 0 where
  pub all : GivesAll p input ending.End
  pub put : HasPut out (cost_file p all.items)

-- the same, up to a prefix of the file
pub record NotesSome (p : Subject) (input out : Change (List ℕ)) : Type 0 where
  pub all : GivesAll p input ending.End
  pub begun : HasBegun out (cost_file p all.items)

-- the input ended so, which is not its end, and no item before has a trap
pub record StopsSo (p : Subject) (input out : Change (List ℕ)) (close : Ending) : Type 0 where
  pub other : close ≢ ending.End
  pub all : GivesAll p input close
  pub output_still : IsStill out

-- the input gave items of which the last, with this number from 1, has this trap in the module of this name, and none before it
-- has one
pub record TrapsSo (p : Subject) (input out : Change (List ℕ)) (number : ℕ) (kind : TrapKind) (name : List ℕ) : Type 0 where
  pub stream : Seen
  pub items : List (List ℤ)
  pub words : List ℤ
  pub gives : Gives (subject_width p) input stream (items ++ words ∷ []) None
  pub values : HaveValues p items
  pub home : ℕ
  pub traps : outcome_on p words ≡ Trapped (record { kind = kind; «module» = home })
  pub name_is : name ≡ module_name p.tree home
  pub number_is : number ≡ length items + 1
  pub output_still : IsStill out

-- the end of a profile
abbrev pub IsProfiled : Subject → Change (List ℕ) → Change (List ℕ) → Finish → Type 0
IsProfiled p input out finish.Done = IsNoted p input out
IsProfiled p input out (finish.Run (end.Stream close)) = StopsSo p input out close
IsProfiled p input out (finish.Run (end.Trapped number kind name)) = TrapsSo p input out number kind name
IsProfiled p input out f = ⊥

-- the file of this name has a program, and no other
pub record HasProgram (files : Option Held) (name : List ℕ) (r : ResolvedTree) : Type 0 where
  pub text : List ℕ
  pub has : HasText files text_limit name text
  pub accepted : IsAccepted text r
  pub only : (other : ResolvedTree) → IsAccepted text other → other ≡ r

-- the program was profiled, to this end
pub record EndsProfile (w : World) (name : List ℕ) (finish : Finish) (stats : Option Stats) : Type 0 where
  pub r : ResolvedTree
  pub has : HasProgram w.files.old.content name r
  pub stats_are : stats ≡ None
  pub profiled : IsProfiled (subject_of r) w.input w.output finish

-- nothing was written, or a prefix of the cost file
pub record BeginsProfile (w : World) (name : List ℕ) : Type 0 where
  pub r : ResolvedTree
  pub has : HasProgram w.files.old.content name r
  pub begun : IsStill w.output ⊎ NotesSome (subject_of r) w.input w.output

-- over an input and an output that report: each line of the whole input is an item without a trap or has no words, and the
-- cost file for these items was written
pub record ProfilesWhole (w : World) (name rest taken : List ℕ) : Type 0 where
  pub r : ResolvedTree
  pub has : HasProgram w.files.old.content name r
  pub input_ended : w.input.new.content ≡ Some []
  pub all_items : (items_of (node_at r.tree 0).ins rest).ending ≡ ending.End
  pub values : HaveValues (subject_of r) (items_of (node_at r.tree 0).ins rest).items
  pub taken_is : w.output.new.content ≡ Some (taken ++ cost_file (subject_of r) (items_of (node_at r.tree 0).ins rest).items)

-- an outcome is a trap
abbrev pub is_trap : Outcome → Bool
is_trap (Value words) = false
is_trap (Trapped trap) = true

-- the status of a profile on what is seen of an input: that of a trap exactly where one of its items has one, else how it
-- ended
abbrev pub profile_status : Subject → Items → ℕ
profile_status p seen =
    if list_any (λ words. is_trap (outcome_on p words)) seen.items then status.trap else ending_status seen.ending

-- the profile is expected to end with this status
pub record IsProfileStatus (w : World) (name rest : List ℕ) (k : ℕ) : Type 0 where
  pub r : ResolvedTree
  pub has : HasProgram w.files.old.content name r
  pub status_is : k ≡ profile_status (subject_of r) (seen_of (node_at r.tree 0).ins rest)

-- the cost file of a program for the items of the input is written
abbrev pub profile_behavior : List ℕ → Behavior
profile_behavior name = record {
  stages = program_stages name;
  written = [];
  saved_first = [];
  run = None;
  Ends = λ w finish stats. EndsProfile w name finish stats;
  Begins = λ w. BeginsProfile w name;
  Unsaved = λ w. ⊥;
  Touches = λ w. Unit {0};
  IsWhole = λ w rest taken. ProfilesWhole w name rest taken;
  IsStatusExpected = λ w rest n. IsProfileStatus w name rest n;
}

-- a verdict is expected of the command
abbrev pub IsProfileExpected : World → List ℕ → Verdict → Type 0
IsProfileExpected w name v = IsExpectedWith w (program_stages name) (EndsProfile w name) (BeginsProfile w name) ⊥ v

-- the end of the profile of a subject
abbrev pub IsProfileOf : Subject → Change (List ℕ) → Change (List ℕ) → Verdict → Type 0
IsProfileOf p input out (verdict.Ended f stats) = (stats ≡ None) × HasSameFaults out × IsProfiled p input out f
IsProfileOf p input out verdict.WriteFault = NotesSome p input out × HasRisen out
IsProfileOf p input out verdict.NoMemory = IsStill out ⊎ NotesSome p input out
IsProfileOf p input out (verdict.Refused refused) = ⊥

-- the end of a profile with these greatest numbers whose input ended so
abbrev pub ClosesSo : Tree → Greatest → Ending → Change (List ℕ) → Finish → Type 0
ClosesSo tree g close out finish.Done = (close ≡ ending.End) × HasPut out (text_of tree g)
ClosesSo tree g close out (finish.Run (end.Stream other)) = (other ≡ close) × (close ≢ ending.End) × IsStill out
ClosesSo tree g close out f = ⊥

-- a prefix of the cost file of the greatest numbers was written, where the input came to its end
abbrev pub ClosesSome : Tree → Greatest → Ending → Change (List ℕ) → Type 0
ClosesSome tree g close out = (close ≡ ending.End) × HasBegun out (text_of tree g)

-- the same of one whose items ended so
abbrev pub IsClosedProfile : Tree → Greatest → Sampled → Change (List ℕ) → Verdict → Type 0
IsClosedProfile tree g (sampled.Trapped number kind home) out (verdict.Ended f stats) =
    (stats ≡ None) × (f ≡ finish.Run (end.Trapped number kind (module_name tree home))) × IsStill out
IsClosedProfile tree g (sampled.Trapped number kind home) out verdict.NoMemory = IsStill out
IsClosedProfile tree g (sampled.Stream close) out (verdict.Ended f stats) = (stats ≡ None) × HasSameFaults out × ClosesSo tree g close out f
IsClosedProfile tree g (sampled.Stream close) out verdict.WriteFault = ClosesSome tree g close out × HasRisen out
IsClosedProfile tree g (sampled.Stream close) out verdict.NoMemory = IsStill out ⊎ ClosesSome tree g close out
IsClosedProfile tree g end out v = ⊥
