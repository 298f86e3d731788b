-- Premises of the answers of commands that run a network.
use Rattle.std.proofs.Common.{◌≡◌, ◌≢◌, ℕ, ℤ, ◌*◌, List, [], ◌++◌, Option, Some, None, refl, sym, ap, inl, subst, ◌∙◌, arith, append-nil, Bool, true}
use Rattle.std.specs.Option.{option_to_list}
use Rattle.p3l_io.specs.Change.{Change, HasRisen, HasSameFaults}
use Rattle.p3l_io.specs.Content.{Held}
use Rattle.p3l_opts.specs.declared.command.Sched.{Sched}
use Rattle.p3l_opts.specs.declared.command.Sched.TheVariants as sched
use Rattle.p3l_report.proofs.Statuses as statuses
use Rattle.p3l_report.specs.declared.stats.Stats.{Stats}
use Rattle.p3l_report.specs.declared.verdict.Finish.{Finish}
use Rattle.p3l_report.specs.Status as status
use Rattle.p3l_report.specs.Verdict.{end_status, finish_status}
use Rattle.p3l_stream.specs.declared.items.Ending.{Ending}
use Rattle.p3l_stream.specs.declared.items.Ending.TheVariants as ending
use Rattle.p3l_stream.specs.Given.{Closes, GivenCause, ended_by as items_ended}
use Rattle.p3l_stream.specs.Items.{items_of}
use Rattle.p3l_stream.specs.Text.{text_of}
use Rattle.p3l_sched.specs.declared.schedule.Schedule.{Schedule}
use Rattle.p3l_sched.specs.declared.schedule.Schedule.TheVariants as schedule
use Rattle.p3l_trace.specs.declared.trace.Traced.{Traced}
use Rattle.p3l_run.proofs.RunSteps.{nothing_comes}
use Rattle.p3l_run.specs.declared.keeping.Keeping.{Keeping}
use Rattle.p3l_run.specs.declared.run.Ran.{Ran}
use Rattle.p3l_run.specs.Feed.{closed_so}
use Rattle.p3l_run.specs.Network.{Network, course_of, goes_on, meaning_of, picks_of as run_picks, size_of, width_of}
use Rattle.p3l_run.specs.Run.{Finishes, MayEnd}
use Rattle.p3l_run.specs.Write.{HasPut}
use Rattle.p3l_program.specs.Origin.{Origin, Running}
use Rattle.p3l_program.specs.Recorded.{IsRecorded, IsRecordOf}
use Rattle.p3l_program.specs.Run.{Emits, EndsRun, RunsWhole, StopsRun, UnsavedRun, run_behavior}
use Rattle.p3l_program.specs.Saved.{HasOneFailed}
use Rattle.p3l_program.specs.Scheduled.{HasSchedule}
use Rattle.p3l_program.specs.World.{World}
use Rattle.p3l_program.proofs.EndSteps.{IsStream, ended_known, ended_same_faults, put_known, stream_is}
use Rattle.p3l_program.proofs.Lawful.{Lawful}
use Rattle.p3l_program.proofs.RunSteps.{finishes_starts}
use Rattle.p3l_program.proofs.SeenSteps.{seen_status, seen_stops, still_of, stopped_goes}

module _ (n : Network) (s : Schedule) (keeping : Keeping) (input out : Change (List ℕ)) (end : Ran) (ran : Finishes n s keeping input out end) where
  run_stream : (k : ℕ) → end_status end.finish ≡ k → (k ≢ status.stopped) → (k ≢ status.trap) → IsStream end.finish k
  run_stream k h stopped trap = stream_is end.finish k h stopped trap

  closed_by : (k : ℕ) → (st : IsStream end.finish k) → ran.close ≡ Some st.e
  closed_by k st = ran.closed st.e st.finish_is

  run_cause : (k : ℕ) → (st : IsStream end.finish k) → GivenCause (closed_so (Some st.e)) input
  run_cause k st = subst (λ c. GivenCause (closed_so c) input) (closed_by k st) ran.gives.cause

  pub run_read : end_status end.finish ≡ status.read → HasRisen input
  run_read h =
      let st = run_stream status.read h (λ e. absurd (omega arith)) (λ e. absurd (omega arith)) in
      subst (λ e. GivenCause (closed_so (Some e)) input) (statuses.read_is st.e st.status_is) (run_cause status.read st)

  pub run_same_faults : (k : ℕ) → end_status end.finish ≡ k → (k ≢ status.stopped) → (k ≢ status.trap) → (k ≢ status.read) → HasSameFaults input
  run_same_faults k h stopped trap read = let st = run_stream k h stopped trap in ended_same_faults st.e input (λ same. read (sym st.status_is ∙ same)) (run_cause k st)

-- a statement on the trace in a file follows from another
recorded_so : (files : Change Held) (trace : Option (List ℕ)) (One Other : Traced → Type 0) → ((t : Traced) → One t → Other t) → IsRecorded files trace One → IsRecorded files trace Other
recorded_so files None One Other go h = tt
recorded_so files (Some name) One Other go h = record { t = h.t; is = go h.t h.is; fits = h.fits; saved = h.saved }

-- over an input and an output that reported, a run of a network on these items is whole
pub record IsWholeRun (n : Network) (items : List (List ℤ)) (rest taken : List ℕ) (left taken' : Option (List ℕ)) : Type 0 where
  pub input_ended : left ≡ Some []
  pub all_items : (items_of (width_of n) rest).ending ≡ ending.End
  pub taken_is : taken' ≡ Some (taken ++ text_of (meaning_of n (items_of (width_of n) rest).items))
  pub items_are : items ++ [] ≡ (items_of (width_of n) rest).items

-- a run of status 0 is
pub whole_of : (n : Network) (s : Schedule) (keeping : Keeping) (input out : Change (List ℕ)) (end : Ran) (f : Finishes n s keeping input out end) (rest taken : List ℕ) → input.old.content ≡ Some rest → out.old.content ≡ Some taken →
    end_status end.finish ≡ status.done → IsWholeRun n f.items rest taken input.new.content out.new.content
whole_of n s keeping input out end f rest taken reports known h =
    let g = f.gives in
    let st = run_stream n s keeping input out end f status.done h (λ z. absurd (omega arith)) (λ z. absurd (omega arith)) in
    let is_end : st.e ≡ ending.End = statuses.done_is st.e st.status_is in
    let close : f.close ≡ Some ending.End = closed_by n s keeping input out end f status.done st ∙ ap Some is_end in
    let closes : Closes (width_of n) f.stream g.bytes f.items (closed_so (Some ending.End)) = subst (λ c. Closes (width_of n) f.stream g.bytes f.items c) (g.closed_is ∙ ap closed_so close) g.given.closes in
    let ended = ended_known input rest g.bytes reports g.read (g.at_end closes.0) in
    let all : items_of (width_of n) rest ≡ items_ended f.items ending.End = ap (items_of (width_of n)) (sym ended.1) ∙ closes.1 in
    let may : MayEnd f.close ending.End = subst (λ c. MayEnd c ending.End) (sym close) refl in
    let ran = f.ran [] (nothing_comes n f.close) in
    let still = still_of n (course_of n s (f.items ++ [])) ending.End st.e end.finish st.finish_is (f.ends [] (nothing_comes n f.close) ending.End may) in
    record {
      input_ended = ended.0;
      all_items = ap (λ i. i.ending) all;
      taken_is =
          put_known out taken (text_of f.outcomes) known f.put
          ∙ ap (λ o. Some (taken ++ text_of o)) (ran.whole still ∙ ap (meaning_of n) (append-nil f.items))
          ∙ ap (λ i. Some (taken ++ text_of (meaning_of n i.items))) (sym all);
      items_are = append-nil f.items ∙ sym (ap (λ i. i.items) all);
    }

run_whole : (w : World) (origin : Origin) (order : Sched) (trace : Option (List ℕ)) (rest taken : List ℕ) (reported : Bool) (finish : Finish) (stats : Option Stats) → w.input.old.content ≡ Some rest → w.output.old.content ≡ Some taken → finish_status finish ≡ status.done →
    EndsRun w origin order trace reported finish stats → RunsWhole w origin order trace rest taken
run_whole w origin order trace rest taken reported finish stats input out h e =
    let f = e.finishes in
    let whole = whole_of e.n e.s _ _ _ e.ran f rest taken input out (sym (ap finish_status e.finish_is) ∙ h) in
    record {
      n = e.n;
      s = e.s;
      has = e.has;
      input_ended = whole.input_ended;
      all_items = whole.all_items;
      taken_is = whole.taken_is;
      recorded = recorded_so w.files trace _ (IsRecordOf e.n e.s (items_of (width_of e.n) rest).items) (λ t is. subst (λ i. IsRecordOf e.n e.s i t) whole.items_are (is [] (nothing_comes e.n f.close))) e.recorded;
    }

-- the text of what the network emits was written, and the trace of this run
pub emits_of : (w : World) (origin : Origin) (order : Sched) (trace : Option (List ℕ)) (reported : Bool) (finish : Finish) (stats : Option Stats) → (e : EndsRun w origin order trace reported finish stats) → Emits w origin order trace e.ran.stats
emits_of w origin order trace reported finish stats e = let f = e.finishes in let ran = f.ran [] (nothing_comes e.n f.close) in record {
  n = e.n;
  s = e.s;
  has = e.has;
  items = f.items ++ [];
  put = subst (λ o. HasPut w.output (text_of o)) ran.emitted f.put;
  recorded = recorded_so w.files trace _ (IsRecordOf e.n e.s (f.items ++ [])) (λ t is. is [] (nothing_comes e.n f.close)) e.recorded;
  bounded = ran.bounded;
  bound_is = ap (λ s. s.bound) ran.stats_are ∙ sym (ap (λ s. s.items * e.n.firings) ran.stats_are);
}

-- the file of a trace that could not be written is one that a run writes
named : (w : World) (origin : Origin) (request : Sched) (trace : Option (List ℕ)) → UnsavedRun w origin request trace → HasOneFailed w.files (option_to_list trace)
named w origin request None h = absurd h
named w origin request (Some name) h = record { name = name; one = inl refl; failed = h.2 }

-- picks that are recorded are those of a file
by_file : (files : Option Held) (size : ℕ) (request : Sched) (s : Schedule) (picks : List ℕ) → HasSchedule files size request s → s ≡ schedule.Recorded picks → (name : List ℕ) × (request ≡ sched.File name)
by_file files size sched.RoundRobin s picks has is = absurd (let z = sym has ∙ is in cc)
by_file files size (sched.Seeded seed) s picks has is = absurd (let z = sym has ∙ is in cc)
by_file files size (sched.File name) s picks has is = (name, refl)

-- a run of status 1 was stopped at the end of such picks
run_stopped : (w : World) (origin : Origin) (request : Sched) (trace : Option (List ℕ)) (reported : Bool) (finish : Finish) (stats : Option Stats) → EndsRun w origin request trace reported finish stats → finish_status finish ≡ status.stopped → StopsRun w origin request
run_stopped w origin request trace reported finish stats e h =
    let f = e.finishes in
    let ending = some_ending f.close in
    let goes = stopped_goes e.n (course_of e.n e.s (f.items ++ [])) ending.0 e.ran.finish (f.ends [] (nothing_comes e.n f.close) ending.0 ending.1) (sym (ap finish_status e.finish_is) ∙ h) in
    let goes_here : goes_on e.n (course_of e.n e.s f.items) ≡ true = subst (λ i. goes_on e.n (course_of e.n e.s i) ≡ true) (append-nil f.items) goes in
    let made : e.s ≡ schedule.Recorded (run_picks e.n e.s f.items) = subst (λ i. e.s ≡ schedule.Recorded (run_picks e.n e.s i)) (append-nil f.items) ((f.ran [] (nothing_comes e.n f.close)).stops goes) in
    let file = by_file w.files.old.content (size_of e.n) request e.s _ e.has.schedule made in
    record {
      n = e.n;
      s = e.s;
      has = e.has;
      name = file.0;
      by_file = file.1;
      stream = f.stream;
      items = f.items;
      close = f.close;
      gives = f.gives;
      all_made = made;
      still = goes_here;
    }
  where
    some_ending : (close : Option Ending) → (e : Ending) × MayEnd close e
    some_ending None = (ending.End, tt)
    some_ending (Some e) = (e, refl)

pub run_lawful : (run : Running) → Lawful (run_behavior run)
run_lawful run = record {
  begun = λ w f stats e. record { n = e.n; s = e.s; has = e.has; starts = finishes_starts e.n e.s _ _ _ e.ran e.finishes };
  whole = λ w rest taken f stats input out h e. run_whole w run.origin run.schedule run.trace rest taken run.reported f stats input out h e;
  status_expected = λ w rest f stats input faultless e. record {
    n = e.n;
    s = e.s;
    has = e.has;
    status_is = ap finish_status e.finish_is ∙ seen_status e.n e.s rest _ _ _ e.ran input faultless.input e.finishes;
    stops = λ h. seen_stops e.n e.s rest _ _ _ e.ran input faultless.input e.finishes (sym (ap finish_status e.finish_is) ∙ h);
  };
  read = λ w f stats e h. run_read e.n e.s _ _ _ e.ran e.finishes (sym (ap finish_status e.finish_is) ∙ h);
  same_faults = λ w f stats e h. run_same_faults e.n e.s _ _ _ e.ran e.finishes (finish_status f) (sym (ap finish_status e.finish_is)) h.1 h.2 h.3;
  stopped = λ w f stats e h. run_stopped w run.origin run.schedule run.trace run.reported f stats e h;
  writer = λ w h. named w run.origin run.schedule run.trace h;
  first_written = λ none. refl;
  reads_first = λ limit name after is. refl;
  touches = λ w some. absurd (some refl);
  ran = λ w other f stats is e. let same : run ≡ other = cc in subst (λ (r : Running). EndsRun w r.origin r.schedule r.trace r.reported f stats) same e;
}
