-- THE FIRST PROMISE ON A PAGE: what `run` writes is what its program means, whatever the schedule. It is stated in the terms of the
-- libraries below; of this crate it names `Promises`, its premise, and `World`, the contents before and after.
use Rattle.std.specs.Prelude.{◌≡◌, ◌≢◌, ℕ, ℤ, Bool, true, false, List, [], ◌∷◌, ◌++◌, ◌⊎◌, map, take, Ok, Option, Some}
use Rattle.std.specs.List.{flat_map}
use Rattle.clap.specs.Words.{Text}
use Rattle.p3l_base.specs.declared.outcome.Outcome.{Outcome}
use Rattle.p3l_base.specs.declared.outcome.Outcome.TheVariants.{Value, Trapped}
use Rattle.p3l_base.specs.declared.outcome.Trap.{Trap}
use Rattle.p3l_io.specs.Change.{Change}
use Rattle.p3l_io.specs.Content.{Held}
use Rattle.p3l_ast.specs.Tree.{ProgramTree}
use Rattle.p3l_grammar.specs.Grammar.{Spells}
use Rattle.p3l_check.specs.Resolving.{ResolvedTree, resolved}
use Rattle.p3l_skel.specs.Item.{item}
use Rattle.p3l_skel.specs.Tree.{node_at}
use Rattle.p3l_compile.specs.Leaves.{body_leaf}
use Rattle.p3l_stream.specs.declared.items.Ending.TheVariants as ending
use Rattle.p3l_stream.specs.declared.items.Items.{Items}
use Rattle.p3l_stream.specs.declared.taken.Cutoff.TheVariants as stop
use Rattle.p3l_stream.specs.Items.{items_of, items_taken}
use Rattle.p3l_stream.specs.Text.{item_text}
use Rattle.p3l_run.specs.Feed.{input_limit}
use Rattle.p3l_opts.specs.declared.command.Build.{Build}
use Rattle.p3l_opts.specs.declared.command.Command.TheVariants as command
use Rattle.p3l_opts.specs.declared.command.Sched.{Sched}
use Rattle.p3l_opts.specs.Command as opts
use Rattle.p3l_report.specs.Status as status
use Rattle.p3l_program.specs.Top.{Promises}
use Rattle.p3l_program.specs.World.{World}

-- THE PROGRAM of a file: its text spells one program, which keeps all rules and has this tree and these bodies
pub record HasOneProgram (held : Held) (name : List ℕ) (r : ResolvedTree) : Type 0 where
  pub text : List ℕ
  pub holds : held name ≡ Some text
  pub program : ProgramTree
  pub spelled : Spells text program
  pub only : (other : ProgramTree) → Spells text other → other ≡ program
  pub keeps : resolved program ≡ Ok r

-- ITS MEANING: what it makes of the words of an item, words or a trap, with no process and no channel
abbrev pub outcome_of : ResolvedTree → List ℤ → Outcome
outcome_of r words = item r.tree (body_leaf r.tree r.seqs) 0 words

-- ITS INPUT: the items in bytes, one a line that isn't blank, each of as many words as it takes, up to a line that is refused; and how
-- they end
abbrev pub input_of : ResolvedTree → List ℕ → Items
input_of r bytes = items_of (node_at r.tree 0).ins bytes

-- the first of these items traps
abbrev pub TrapsFirst : (List ℤ → Outcome) → List (List ℤ) → Type 0
TrapsFirst outcome [] = ⊥
TrapsFirst outcome (words ∷ items) = (trap : Trap) × (outcome words ≡ Trapped trap)

-- ITS OUTPUT: a run of it on these bytes that ends with this status wrote this text
pub record WritesMeaning (r : ResolvedTree) (bytes written : List ℕ) (k : ℕ) : Type 0 where
  -- The first items of the input come to these results, each to its own.
  pub first : List (List ℤ)
  pub later : List (List ℤ)
  pub items_are : (input_of r bytes).items ≡ first ++ later
  pub results : List (List ℤ)
  pub mean : map (outcome_of r) first ≡ map Value results
  -- Their lines were written, in order. Only where writing failed or memory ran out, the last bytes of these may be missing.
  pub missing : List ℕ
  pub lines : written ++ missing ≡ flat_map item_text results
  pub whole : status.is_end k ≡ true → missing ≡ []
  -- With 0 these are all items, and no line is refused; with 6 all those before a line that is; with 14 all those of the bytes below
  -- the limit of the input; with 7 the next item traps.
  pub done : k ≡ status.done → (later ≡ []) × ((input_of r bytes).ending ≡ ending.End)
  pub stream : k ≡ status.stream → (later ≡ []) × ((input_of r bytes).ending ≢ ending.End)
  pub too_long : k ≡ status.too_long → first ≡ (items_taken (node_at r.tree 0).ins stop.Limit (take input_limit bytes)).items
  pub trap : k ≡ status.trap → TrapsFirst (outcome_of r) later

-- ITS RUN: where the output had taken some bytes, it has these after a run of status k
pub record IsMeant (held : Held) (name bytes taken : List ℕ) (new : Option (List ℕ)) (k : ℕ) : Type 0 where
  pub written : List ℕ
  pub new_is : new ≡ Some (taken ++ written)
  -- The file has a program, and its meaning was written; or no run came to an end, and nothing was written.
  pub means : ((r : ResolvedTree) × HasOneProgram held name r × WritesMeaning r bytes written k) ⊎ ((written ≡ []) × (status.is_end k ≡ false))
  pub refused : status.is_refusal k ≡ true → written ≡ []

-- So it is wherever the words are a command `run`, of any schedule, capacity, costs and number of processors, with or without a trace.
abbrev pub EveryRunMeansItsProgram : Type 0
EveryRunMeansItsProgram =
    (outside : Bool) (words : List Text) (w : World) (err : Change (List ℕ)) (k : ℕ) → Promises outside words w err k →
    (build : Build) (schedule : Sched) (trace : Option (List ℕ)) (stats : Bool) → opts.Spells words (command.Run build schedule trace stats) →
    (held : Held) (bytes taken : List ℕ) → w.files.old.content ≡ Some held → w.input.old.content ≡ Some bytes → w.output.old.content ≡ Some taken →
    IsMeant held build.program bytes taken w.output.new.content k

-- SO RESULTS DON'T DEPEND ON THE SCHEDULE: whatever any run of a file's program on an input writes begins what a run of status 0 writes,
-- and is all of it with status 0, under any schedules, capacities, costs and numbers of processors
abbrev pub EveryScheduleWritesTheSame : Type 0
EveryScheduleWritesTheSame =
    (held : Held) (name bytes taken others : List ℕ) (new other : Option (List ℕ)) (k : ℕ) →
    (whole : IsMeant held name bytes taken new status.done) (run : IsMeant held name bytes others other k) →
    (more : List ℕ) × (run.written ++ more ≡ whole.written) × (k ≡ status.done → more ≡ [])
