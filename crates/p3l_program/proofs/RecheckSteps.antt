-- A trace that a run left is accepted on the input that the run had.
use Rattle.std.proofs.Common.{◌≡◌, ℕ, ℤ, true, List, [], ◌∷◌, ◌++◌, Option, Some, None, inl, inr, sym, subst, ◌∙◌, append-nil}
use Rattle.p3l_base.specs.declared.outcome.Outcome.{Outcome}
use Rattle.p3l_skel.specs.declared.tree.Tree.{Tree}
use Rattle.p3l_firing.specs.declared.net.Net.{Net}
use Rattle.p3l_io.specs.Content.{Held}
use Rattle.p3l_firing.specs.Run.{Course, after_picks, course_from, picked}
use Rattle.p3l_firing.specs.State.{State}
use Rattle.p3l_run.specs.Network.{Network, begun_with, width_of}
use Rattle.p3l_stream.specs.declared.items.Items.{Items}
use Rattle.p3l_trace.specs.declared.trace.TraceLine.{TraceLine}
use Rattle.p3l_trace.specs.declared.trace.Traced.{Traced}
use Rattle.p3l_trace.specs.Agreement.{AgreeFrom, Agrees, AgreesIn, AllAgree, DiffersAt, picks_of}
use Rattle.p3l_trace.specs.Text.{trace_format}
use Rattle.p3l_program.specs.File.{HasText}
use Rattle.p3l_program.specs.Recheck.{EveryRecordIsAccepted, EveryTraceOfAProgramIsAccepted}
use Rattle.p3l_program.specs.Origin.{built}
use Rattle.p3l_program.specs.Plan.{HasNetwork}
use Rattle.p3l_program.specs.Run.{seen_of}
use Rattle.p3l_program.specs.Saved.{Stands}
use Rattle.p3l_program.specs.Trace.{IsCheckStatus, agreed_status}
use Rattle.p3l_program.specs.TraceFile.{HasTrace, trace_limit}
use Rattle.p3l_program.proofs.DeterminedSteps.{one_network}
use Rattle.p3l_program.proofs.SeenSteps.{seen_goes_on}

-- of lines that all agree, each agrees with the state that the picks before it lead to
agrees_at : (tree : Tree) (leaf : ℕ → List ℤ → Outcome) (net : Net) (c : Course) (front : List TraceLine) (line : TraceLine) (after : List TraceLine)
    → AgreeFrom tree leaf net c (front ++ line ∷ after) → AgreesIn tree net (after_picks tree leaf net c (picks_of front)).state line
unfolding AgreeFrom after_picks
agrees_at tree leaf net c [] line after agree = agree.0
agrees_at tree leaf net c (first ∷ front) line after agree = agrees_at tree leaf net (picked tree leaf net c first.pick) front line after agree.1

-- a trace that agrees has no line that differs
never_differs : (tree : Tree) (leaf : ℕ → List ℤ → Outcome) (net : Net) (s : State) (t : Traced) (line : ℕ) → Agrees tree leaf net s t → DiffersAt tree leaf net s t line → ⊥
never_differs tree leaf net s t line agrees (inl d) = d.other (agrees_at tree leaf net (course_from s) d.front d.line d.after (subst (λ lines. AllAgree tree leaf net s lines) d.lines_are agrees.lines))
never_differs tree leaf net s t line agrees (inr d) = d.other agrees.counts

abbrev pub BeginsNoOtherTrace : Type 0
BeginsNoOtherTrace = (v w : Traced) (more : List ℕ) → trace_format.fits v ≡ true → trace_format.fits w ≡ true → trace_format.spell v ++ more ≡ trace_format.spell w → (v ≡ w) × (more ≡ [])

-- one text is held under a name
stands_once : (files : Option Held) (name text other : List ℕ) → Stands files name text → HasText files trace_limit name other → other ≡ text
stands_once None name text other stands has = absurd stands
stands_once (Some held) name text other stands has = let a = has.holds in cc

-- and it spells one trace
same_trace : BeginsNoOtherTrace → (files : Option Held) (name : List ℕ) (t other : Traced) → trace_format.fits t ≡ true → Stands files name (trace_format.spell t) → HasTrace files name other → other ≡ t
same_trace begins files name t other fits stands has =
    let same = sym has.spelled ∙ stands_once files name (trace_format.spell t) has.text stands has.has in
    (begins other t [] has.fits fits (append-nil (trace_format.spell other) ∙ same)).0

not_evidence : (n : Network) (t : Traced) (seen : Items) (k : ℕ) → Agrees n.tree n.leaf n.net (begun_with n seen.items) t → IsCheckStatus n t seen k → k ≡ agreed_status n t seen
not_evidence n t seen k agrees (inl d) = absurd (never_differs n.tree n.leaf n.net (begun_with n seen.items) t d.1.0 agrees d.1.1)
not_evidence n t seen k agrees (inr h) = h.0

pub accepted : BeginsNoOtherTrace → EveryRecordIsAccepted
accepted begins w after origin request name reported finish stats rest build k e known faultless still is =
    let f = e.finishes in
    let to = seen_goes_on e.n rest w.input f.close f.stream f.items f.gives known faultless in
    let agrees : Agrees e.n.tree e.n.leaf e.n.net (begun_with e.n (seen_of (width_of e.n) rest).items) e.recorded.t =
    subst (λ (i : Items). Agrees e.n.tree e.n.leaf e.n.net (begun_with e.n i.items) e.recorded.t) (sym to.seen) (e.recorded.is to.later to.may_come).agrees in
    let trace : is.t ≡ e.recorded.t = same_trace begins after.files.old.content name e.recorded.t is.t e.recorded.fits still.stands is.has.trace in
    let here : IsCheckStatus is.n e.recorded.t (seen_of (width_of is.n) rest) k = subst (λ t. IsCheckStatus is.n t (seen_of (width_of is.n) rest) k) trace is.status_is in
    let same : IsCheckStatus e.n e.recorded.t (seen_of (width_of e.n) rest) k = subst (λ m. IsCheckStatus m e.recorded.t (seen_of (width_of m) rest) k) (still.network is.n is.has.network) here in
    not_evidence e.n e.recorded.t (seen_of (width_of e.n) rest) k agrees same

pub accepted_of_program : BeginsNoOtherTrace → EveryTraceOfAProgramIsAccepted
accepted_of_program begins w after request name reported finish stats rest build k held e known faultless files_are texts stands is =
    accepted begins w after (built build) request name reported finish stats rest build k e known faultless
    (record {
      network = λ other o. one_network w.files.old.content held build e.n other e.has.network texts (subst (λ f. HasNetwork f (built build) other) files_are o);
      stands = stands;
    })
    is
