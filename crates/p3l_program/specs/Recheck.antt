-- The verdicts of `check-trace` on the traces that runs leave.
use Rattle.std.specs.Prelude.{◌≡◌, ℕ, Bool, List, Option, Some}
use Rattle.p3l_io.specs.Change.{HasRisen}
use Rattle.p3l_io.specs.Content.{Held}
use Rattle.p3l_opts.specs.declared.command.Build.{Build}
use Rattle.p3l_opts.specs.declared.command.Sched.{Sched}
use Rattle.p3l_report.specs.declared.stats.Stats.{Stats}
use Rattle.p3l_report.specs.declared.verdict.Finish.{Finish}
use Rattle.p3l_run.specs.Network.{Network, width_of}
use Rattle.p3l_trace.specs.declared.trace.Traced.{Traced}
use Rattle.p3l_trace.specs.Text.{trace_format}
use Rattle.p3l_program.specs.Plan.{HasNetwork, HaveTexts}
use Rattle.p3l_program.specs.Origin.{Origin, built}
use Rattle.p3l_program.specs.Run.{EndsRun, seen_of}
use Rattle.p3l_program.specs.Saved.{Stands}
use Rattle.p3l_program.specs.Trace.{IsTraceStatus, agreed_status}
use Rattle.p3l_program.specs.World.{World}

-- files that a check reads: no network but this one is built from them, and the text of this trace is held under the name
pub record StillHas (files : Option Held) (build : Build) (name : List ℕ) (n : Network) (t : Traced) : Type 0 where
  pub network : (other : Network) → HasNetwork files (built build) other → other ≡ n
  pub stands : Stands files name (trace_format.spell t)

-- a law of traces: if a run left a trace, on an input that reported its content and didn't fail, the check of that trace against the
-- run's network on the same input has no line that differs: it is expected to end as the reading of the input does, if that ends by
-- an item requested before the trace's picks, and otherwise with 0
abbrev pub EveryRecordIsAccepted : Type 0
EveryRecordIsAccepted =
    (w after : World) (origin : Origin) (request : Sched) (name : List ℕ) (reported : Bool) (finish : Finish) (stats : Option Stats) (rest : List ℕ) (build : Build) (k : ℕ) →
    (e : EndsRun w origin request (Some name) reported finish stats) → w.input.old.content ≡ Some rest → (HasRisen w.input → ⊥) →
    StillHas after.files.old.content build name e.n e.recorded.t → IsTraceStatus after build name rest k →
    k ≡ agreed_status e.n e.recorded.t (seen_of (width_of e.n) rest)

-- so it is of the trace that a run of a program left, where the files of the check still hold the texts of the program and of its costs
abbrev pub EveryTraceOfAProgramIsAccepted : Type 0
EveryTraceOfAProgramIsAccepted =
    (w after : World) (request : Sched) (name : List ℕ) (reported : Bool) (finish : Finish) (stats : Option Stats) (rest : List ℕ) (build : Build) (k : ℕ) (held : Held) →
    (e : EndsRun w (built build) request (Some name) reported finish stats) → w.input.old.content ≡ Some rest → (HasRisen w.input → ⊥) →
    after.files.old.content ≡ Some held → HaveTexts (Some held) (built build) e.has.network.texts →
    Stands after.files.old.content name (trace_format.spell e.recorded.t) → IsTraceStatus after build name rest k →
    k ≡ agreed_status e.n e.recorded.t (seen_of (width_of e.n) rest)
