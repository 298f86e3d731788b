-- From the check of a trace to the verdict of `check-trace`, and what its end says.
use Rattle.std.proofs.Common.{◌≡◌, ℕ, ℤ, Bool, true, false, List, [], ◌∷◌, ◌++◌, length, Option, Some, None, refl, sym, ap, subst, inl, inr, ◌∙◌, arith, append-nil, length-append, if◌then◌else◌}
use Rattle.std.specs.declared.result.Result.TheVariants.{Ok, Err}
use Rattle.std.specs.List.{AllByRecursion}
use Rattle.std.proofs.lemmas.Bool.{le-leb, lt-leb}
use Rattle.std.proofs.lemmas.List.Elements.{recursion_from_All}
use Rattle.p3l_io.specs.Change.{Change, HasRisen, HasSameFaults}
use Rattle.p3l_io.specs.Content.{Held}
use Rattle.p3l_opts.specs.declared.command.Build.{Build}
use Rattle.p3l_report.specs.declared.evidence.Evidence.TheVariants as evidence
use Rattle.p3l_report.specs.declared.stats.Stats.{Stats}
use Rattle.p3l_report.specs.declared.verdict.Finish.{Finish}
use Rattle.p3l_report.specs.declared.verdict.Finish.TheVariants as finish
use Rattle.p3l_report.specs.declared.verdict.Refusal.{Refusal}
use Rattle.p3l_report.specs.declared.verdict.Refusal.TheVariants as refusal
use Rattle.p3l_report.specs.declared.verdict.Verdict.{Verdict}
use Rattle.p3l_report.specs.declared.verdict.Verdict.TheVariants as verdict
use Rattle.p3l_report.specs.Status as status
use Rattle.p3l_report.specs.Verdict.{ending_status, finish_status, verdict_of}
use Rattle.p3l_report.proofs.Statuses as statuses
use Rattle.p3l_run.specs.declared.end.RunEnd.TheVariants as end
use Rattle.p3l_run.specs.Feed.{Gives, closed_so}
use Rattle.p3l_run.specs.Network.{Network, begun_with, width_of}
use Rattle.p3l_run.specs.Run.{MayCome, MayEnd}
use Rattle.p3l_run.specs.Retraced.{AgreesOn, IsRequestedBy}
use Rattle.p3l_run.specs.Write.{HasPut}
use Rattle.p3l_stream.proofs.Endings.{items_wide}
use Rattle.p3l_stream.specs.declared.items.Ending.{Ending}
use Rattle.p3l_stream.specs.declared.items.Ending.TheVariants as ending
use Rattle.p3l_stream.specs.declared.items.Items.{Items}
use Rattle.p3l_stream.specs.declared.taken.Cutoff.TheVariants as stop
use Rattle.p3l_stream.specs.Given.{Closes, GivenCause, HasGiven}
use Rattle.p3l_stream.specs.Items.{items_of}
use Rattle.p3l_stream.specs.Seen.{Seen}
use Rattle.p3l_trace.specs.declared.trace.Traced.{Traced}
use Rattle.p3l_trace.specs.declared.trace.TraceRefusal.{TraceRefusal}
use Rattle.p3l_trace.specs.declared.trace.TraceRefusal.TheVariants as refusals
use Rattle.p3l_trace.specs.Text.{trace_format}
use Rattle.p3l_trace.specs.Answers.{Answers, ReportsFirst}
use Rattle.p3l_trace.specs.Agreement.{Agrees, DiffersAt, picks_of}
use Rattle.p3l_program.specs.Plan.{HasNetwork}
use Rattle.p3l_program.specs.Load.{LoadsNetwork}
use Rattle.p3l_program.specs.Origin.{built}
use Rattle.p3l_program.specs.Run.{seen_of}
use Rattle.p3l_program.specs.Stage.{AllPass, FilesCause, IsRefusedBy, Refuses, build_stages, readable, traced}
use Rattle.p3l_program.specs.Trace.{Agreed, BeginsTrace, ChecksWhole, EndsTrace, HasBadTrace, IsCheckExpected, IsCheckOf, IsCheckSome, IsTraceStatus, IsUnrefused, IsUntraced, agreed_status, check_stages, comes_to_end, holds_line}
use Rattle.p3l_program.specs.File.{HasText}
use Rattle.p3l_program.specs.TraceFile.{HasTrace, SpellsNoTrace, trace_limit}
use Rattle.p3l_program.specs.World.{HasNoFault, World, world}
use Rattle.p3l_program.proofs.EndSteps.{ended_same_faults, unrefused_same_faults}
use Rattle.p3l_program.proofs.SeenSteps.{GoesOnTo, at_end_left, ending_unstopped, seen_goes_on, taken_known, wide_tail}
use Rattle.p3l_program.proofs.StageSteps.{passed_both, refused_after}

-- a text that is read as no trace
pub untraced : (files : Change Held) (name text : List ℕ) (why : TraceRefusal) → HasText files.old.content trace_limit name text → HasSameFaults files →
    ((t : Traced) → trace_format.fits t ≡ true → text ≡ trace_format.spell t → Answers text (Err why) (Ok t)) → ReportsFirst text (Err why) →
    IsUntraced files name (verdict_of (refusal.Evidence (evidence.Trace why)))
untraced files name text refusals.NoMemory has same_faults only first = same_faults
untraced files name text (refusals.BadLine line) has same_faults only first =
    let none : SpellsNoTrace text line = record { first = first; no_trace = λ t fits spelled. absurd (let z = only t fits spelled in cc) } in
    inr (record { line = line; is = refl; none = record { text = text; has = has; none = none }; same_faults = same_faults })

module _ (files : Change Held) (input out : Change (List ℕ)) (build : Build) (n : Network) (loads : LoadsNetwork files.old.content (built build) n) (name : List ℕ) where
  has : HasNetwork files.old.content (built build) n
  has = record { texts = loads.texts; have = loads.have; is = loads.is }

  passed : AllPass files (build_stages build)
  passed = loads.passed files refl

  all_passes : (t : Traced) → HasTrace files.old.content name t → AllPass files (check_stages build name)
  all_passes t h = passed_both files (build_stages build) (readable trace_limit name ∷ (traced name ∷ [])) passed ((h.text, h.has), ((t, h), tt))

  bad_trace : (r : Refusal) → HasBadTrace files name r → Refuses files (traced name) r × FilesCause r files
  bad_trace r h = subst (λ k. Refuses files (traced name) k × FilesCause k files) (sym h.is) (h.none, h.same_faults)

  refused_by : (r : Refusal) → IsUntraced files name (verdict.Refused r) → IsRefusedBy files (check_stages build name) r × FilesCause r files
  refused_by r (inl h) = (refused_after files (build_stages build) (readable trace_limit name ∷ (traced name ∷ [])) r passed (inl h.0), h.1)
  refused_by r (inr h) =
      let bad = bad_trace r h in
      (refused_after files (build_stages build) (readable trace_limit name ∷ (traced name ∷ [])) r passed (inr ((h.none.text, h.none.has), inl bad.0)), bad.1)

  begins_check : IsCheckSome n files input out name → BeginsTrace (world files input out) build name
  begins_check h = record { n = n; t = h.t; has = record { network = has; trace = h.trace }; begun = h.begun }

  -- the verdict of the check is expected
  pub check_expected : (v : Verdict) → IsCheckOf n files input out name v → IsCheckExpected (world files input out) build name v
  check_expected (verdict.Refused r) h = (let by = refused_by r h.0 in record { by = by.0; untouched = record { input = h.1.input_still; output = h.1.output_still }; files = by.1 })
  check_expected (verdict.Ended f stats) h = record {
    passed = all_passes h.t h.trace;
    ends = record { n = n; t = h.t; has = record { network = has; trace = h.trace }; stats_are = h.stats_are; checked = h.checked };
    files = h.same_file_faults;
    output = h.same_output_faults;
  }
  check_expected verdict.WriteFault h = record {
    begun = record { passed = all_passes h.0.t h.0.trace; begins = begins_check h.0 };
    fault = inl (record { files = h.0.same_file_faults; output = h.1 });
  }
  check_expected verdict.NoMemory (inl h) = inl (record { input = h.input_still; output = h.output_still })
  check_expected verdict.NoMemory (inr h) = inr (record { passed = all_passes h.t h.trace; begins = begins_check h })

-- a check that came to its end was begun
pub ends_check : (w : World) (build : Build) (name : List ℕ) (f : Finish) (stats : Option Stats) → EndsTrace w build name f stats → BeginsTrace w build name
ends_check w build name finish.Done stats h = record {
  n = h.n;
  t = h.t;
  has = h.has;
  begun = inr (record { close = h.checked.close; agrees = h.checked.agrees; begun = record { written = holds_line h.t; more = []; put = h.checked.put; text_is = append-nil (holds_line h.t) } });
}
ends_check w build name (finish.Run (end.Stream e)) stats h = record { n = h.n; t = h.t; has = h.has; begun = inl h.checked.output }
ends_check w build name (finish.Differs line) stats h = record { n = h.n; t = h.t; has = h.has; begun = inl h.checked.output }
ends_check w build name (finish.Run (end.Stopped fired idle)) stats h = absurd h.checked
ends_check w build name (finish.Run (end.Trapped item kind home)) stats h = absurd h.checked

-- a check of which no line differs lets the count of the input stay, unless reading failed
pub check_same_faults : (w : World) (build : Build) (name : List ℕ) (f : Finish) (stats : Option Stats) (k : ℕ) → EndsTrace w build name f stats → finish_status f ≡ k → (k ≡ status.evidence → ⊥) → (k ≡ status.read → ⊥) → HasSameFaults w.input
check_same_faults w build name finish.Done stats k h is other read = unrefused_same_faults h.checked.close w.input h.checked.unrefused h.checked.agrees.gives.cause
check_same_faults w build name (finish.Run (end.Stream e)) stats k h is other read = ended_same_faults e w.input (λ same. read (sym is ∙ same)) h.checked.agrees.gives.cause
check_same_faults w build name (finish.Differs line) stats k h is other read = absurd (other (sym is))
check_same_faults w build name (finish.Run (end.Stopped fired idle)) stats k h is other read = absurd h.checked
check_same_faults w build name (finish.Run (end.Trapped item kind home)) stats k h is other read = absurd h.checked

pub check_read : (w : World) (build : Build) (name : List ℕ) (f : Finish) (stats : Option Stats) → EndsTrace w build name f stats → finish_status f ≡ status.read → HasRisen w.input
check_read w build name finish.Done stats h is = absurd (omega arith)
check_read w build name (finish.Run (end.Stream e)) stats h is = subst (λ k. GivenCause (closed_so (Some k)) w.input) (statuses.read_is e is) h.checked.agrees.gives.cause
check_read w build name (finish.Differs line) stats h is = absurd (omega arith)
check_read w build name (finish.Run (end.Stopped fired idle)) stats h is = absurd h.checked
check_read w build name (finish.Run (end.Trapped item kind home)) stats h is = absurd h.checked

-- no check is stopped
pub check_unstopped : (w : World) (build : Build) (name : List ℕ) (f : Finish) (stats : Option Stats) → EndsTrace w build name f stats → finish_status f ≡ status.stopped → ⊥
check_unstopped w build name finish.Done stats h is = absurd (omega arith)
check_unstopped w build name (finish.Run (end.Stream e)) stats h is = ending_unstopped e is
check_unstopped w build name (finish.Differs line) stats h is = absurd (omega arith)
check_unstopped w build name (finish.Run (end.Stopped fired idle)) stats h is = absurd h.checked
check_unstopped w build name (finish.Run (end.Trapped item kind home)) stats h is = absurd h.checked

-- a stream of these items and later ones, which gave the former where items were requested before the picks, comes to its end just where it ended
module _ (n : Network) (items later : List (List ℤ)) where
  ends_not : (picks : List ℕ) → IsRequestedBy n (items ++ later) picks (length items) None → comes_to_end n (items ++ later) picks ≡ false
  ends_not [] request = refl
  ends_not (p ∷ picks) request =
      let size = length-append items later in
      lt-leb _ _ (omega (arith, request, size))

  ends_there : (picks : List ℕ) (e : Ending) → later ≡ [] → IsRequestedBy n (items ++ later) picks (length items) (Some e) → comes_to_end n (items ++ later) picks ≡ true
  ends_there [] e none request = absurd (let z = request.1 in cc)
  ends_there (p ∷ picks) e none request =
      let size = length-append items later in
      let empty : length later ≡ 0 = ap length none in
      le-leb _ _ (omega (arith, request, size, empty))

-- so the status of a check of which no line differs is that of what is seen
module _ (n : Network) (t : Traced) (rest : List ℕ) (close : Option Ending) (input : Change (List ℕ)) (known : input.old.content ≡ Some rest) (faultless : HasRisen input → ⊥) (on : AgreesOn n t input close) where
  to : GoesOnTo n close on.items rest
  to = seen_goes_on n rest input close on.stream on.items on.gives known faultless

  agrees_seen : Agrees n.tree n.leaf n.net (begun_with n (seen_of (width_of n) rest).items) t
  agrees_seen = subst (λ (i : Items). Agrees n.tree n.leaf n.net (begun_with n i.items) t) (sym to.seen) (on.holds to.later to.may_come)

  request_seen : IsRequestedBy n (on.items ++ to.later) (picks_of t.lines) (length on.items) close
  request_seen = on.request to.later to.may_come

  status_by : (b : Bool) → comes_to_end n (on.items ++ to.later) (picks_of t.lines) ≡ b → agreed_status n t (seen_of (width_of n) rest) ≡ (if b then ending_status to.e else status.done)
  status_by b is =
      ap (λ (i : Items). agreed_status n t i) to.seen ∙ ap (λ k. if k then ending_status to.e else status.done) is

  -- it isn't ended
  agreed_open : close ≡ None → agreed_status n t (seen_of (width_of n) rest) ≡ status.done
  agreed_open none = status_by false (ends_not n on.items to.later (picks_of t.lines) (subst (λ c. IsRequestedBy n (on.items ++ to.later) (picks_of t.lines) (length on.items) c) none request_seen))

  -- it ended so
  agreed_ended : (e : Ending) → close ≡ Some e → agreed_status n t (seen_of (width_of n) rest) ≡ ending_status e
  agreed_ended e is =
      status_by true (ends_there n on.items to.later (picks_of t.lines) e (to.may_come.none e is) (subst (λ c. IsRequestedBy n (on.items ++ to.later) (picks_of t.lines) (length on.items) c) is request_seen))
      ∙ ap ending_status (sym (subst (λ c. MayEnd c to.e) is to.may_end))

-- without a fault, the input as it is seen determines how the check ends
pub check_status : (w : World) (build : Build) (name rest : List ℕ) (f : Finish) (stats : Option Stats) → w.input.old.content ≡ Some rest → HasNoFault w → EndsTrace w build name f stats → IsTraceStatus w build name rest (finish_status f)
check_status w build name rest finish.Done stats known faultless h =
    let on = h.checked.agrees in
    record {
      n = h.n;
      t = h.t;
      has = h.has;
      status_is = inr (
        elim h.checked.unrefused [
          | inl none ↦ sym (agreed_open h.n h.t rest h.checked.close _ known faultless.input on none)
          | inr end ↦ sym (agreed_ended h.n h.t rest h.checked.close _ known faultless.input on ending.End end)
        ],
        agrees_seen h.n h.t rest h.checked.close _ known faultless.input on,
      );
    }
check_status w build name rest (finish.Run (end.Stream e)) stats known faultless h =
    let on = h.checked.agrees in
    record {
      n = h.n;
      t = h.t;
      has = h.has;
      status_is = inr (sym (agreed_ended h.n h.t rest (Some e) _ known faultless.input on e refl), agrees_seen h.n h.t rest (Some e) _ known faultless.input on);
    }
check_status w build name rest (finish.Differs line) stats known faultless h =
    let on = h.checked.differs.1 in
    let to = seen_goes_on h.n rest w.input h.checked.differs.0 on.stream on.items on.gives known faultless.input in
    record {
      n = h.n;
      t = h.t;
      has = h.has;
      status_is = inl (refl, (line, subst (λ (i : Items). DiffersAt h.n.tree h.n.leaf h.n.net (begun_with h.n i.items) h.t line) (sym to.seen) (on.holds to.later to.may_come)));
    }
check_status w build name rest (finish.Run (end.Stopped fired idle)) stats known faultless h = absurd h.checked
check_status w build name rest (finish.Run (end.Trapped item kind home)) stats known faultless h = absurd h.checked

-- all items of an input go on from those given
pub record GoesOnAll (n : Network) (close : Option Ending) (items : List (List ℤ)) (rest : List ℕ) : Type 0 where
  pub later : List (List ℤ)
  pub may_come : MayCome n close later
  pub all : (items_of (width_of n) rest).items ≡ items ++ later
  pub ending_is : (e : Ending) → close ≡ Some e → (items_of (width_of n) rest).ending ≡ e

module _ (n : Network) (rest : List ℕ) (s : Seen) (items : List (List ℤ)) (bytes left : List ℕ) (given : HasGiven (width_of n) s bytes items) (whole : rest ≡ bytes ++ left) (ended : s.at_end ≡ true → left ≡ []) where
  goes_on_open : Closes (width_of n) s bytes items None → GoesOnAll n None items rest
  goes_on_open on =
      let here = on stop.End left (λ end. (refl, ended end)) in
      let wide = recursion_from_All (λ words. length words ≡ width_of n) _ (items_wide (width_of n) stop.End (bytes ++ left)) in
      record {
        later = _;
        may_come = record {
          wide = wide_tail (λ words. length words ≡ width_of n) items _ (subst (λ (i : Items). AllByRecursion (λ words. length words ≡ width_of n) i.items) here wide);
          none = λ close h. absurd cc;
        };
        all = ap (λ t. (items_of (width_of n) t).items) whole ∙ ap (λ (i : Items). i.items) here;
        ending_is = λ close h. absurd cc;
      }

  goes_on_ended : Closes (width_of n) s bytes items (closed_so (Some ending.End)) → GoesOnAll n (Some ending.End) items rest
  goes_on_ended h =
      let same : rest ≡ bytes = whole ∙ ap (λ l. bytes ++ l) (ended h.0) ∙ append-nil bytes in
      record {
        later = [];
        may_come = record { wide = tt; none = λ close e. refl };
        all = ap (λ t. (items_of (width_of n) t).items) same ∙ ap (λ (i : Items). i.items) h.1 ∙ sym (append-nil items);
        ending_is = λ close e. let is : ending.End ≡ close = cc in ap (λ t. (items_of (width_of n) t).ending) same ∙ ap (λ (i : Items). i.ending) h.1 ∙ is;
      }

  goes_on_all : (close : Option Ending) → s.closed ≡ closed_so close → IsUnrefused close → GoesOnAll n close items rest
  goes_on_all close closed (inl none) =
      subst (λ c. GoesOnAll n c items rest) (sym none) (goes_on_open (subst (λ c. Closes (width_of n) s bytes items c) (closed ∙ ap closed_so none) given.closes))
  goes_on_all close closed (inr end) =
      subst (λ c. GoesOnAll n c items rest) (sym end) (goes_on_ended (subst (λ c. Closes (width_of n) s bytes items c) (closed ∙ ap closed_so end) given.closes))

-- so do all items of an input that reports what is left
pub all_go_on : (n : Network) (rest : List ℕ) (input : Change (List ℕ)) (close : Option Ending) (s : Seen) (items : List (List ℤ)) → Gives (width_of n) input s items (closed_so close) →
    input.old.content ≡ Some rest → IsUnrefused close → GoesOnAll n close items rest
all_go_on n rest input close s items g known unrefused =
    let read = taken_known input rest g.bytes known g.read in
    goes_on_all n rest s items g.bytes read.0 g.given read.2 (λ h. at_end_left input.new.content read.0 read.1 (g.at_end h)) close g.closed_is unrefused

agreed_all : (w : World) (n : Network) (t : Traced) (rest : List ℕ) → w.input.old.content ≡ Some rest → Agreed w n t → Agrees n.tree n.leaf n.net (begun_with n (items_of (width_of n) rest).items) t
agreed_all w n t rest known a =
    let on = a.agrees in
    let to = all_go_on n rest w.input a.close on.stream on.items on.gives known a.unrefused in
    subst (λ i. Agrees n.tree n.leaf n.net (begun_with n i) t) (sym to.all) (on.holds to.later to.may_come)

-- a check of status 0 is whole
pub check_whole : (w : World) (build : Build) (name rest taken : List ℕ) (f : Finish) (stats : Option Stats) → ((text : List ℕ) → HasPut w.output text → w.output.new.content ≡ Some (taken ++ text)) → w.input.old.content ≡ Some rest → finish_status f ≡ status.done →
    EndsTrace w build name f stats → ChecksWhole w build name rest taken
check_whole w build name rest taken finish.Done stats put input h e = record {
  n = e.n;
  t = e.t;
  has = e.has;
  agrees = agreed_all w e.n e.t rest input e.checked;
  taken_is = put (holds_line e.t) e.checked.put;
}
check_whole w build name rest taken (finish.Run (end.Stream k)) stats put input h e = absurd (e.checked.other (statuses.done_is k h))
check_whole w build name rest taken (finish.Differs line) stats put input h e = absurd (omega arith)
check_whole w build name rest taken (finish.Run (end.Stopped fired idle)) stats put input h e = absurd e.checked
check_whole w build name rest taken (finish.Run (end.Trapped item kind home)) stats put input h e = absurd e.checked
