-- From the run of a network in virtual time to the verdict of `time`.
use Rattle.std.proofs.Common.{◌≡◌, ℕ, ℤ, ◌<◌, ◌≤◌, Bool, false, filter, List, [], ◌∷◌, ◌++◌, length, slice_index, Option, Some, None, ◌⊎◌, inl, inr, refl, sym, ap, subst, ◌∙◌}
use Rattle.std.specs.List.{range_with_len}
use Rattle.std.proofs.lemmas.Bool.{cond-false}
use Rattle.std.specs.Option.{option_to_list}
use Rattle.std.specs.declared.result.Result.{Result}
use Rattle.std.specs.declared.result.Result.TheVariants.{Ok, Err}
use Rattle.p3l_check.specs.Resolving.{ResolvedTree}
use Rattle.p3l_skel.specs.declared.tree.Tree.{Tree}
use Rattle.p3l_firing.specs.declared.net.Net.{Net}
use Rattle.p3l_cost.specs.declared.costs.Costs.{Costs}
use Rattle.p3l_firing.specs.Fire.{can_fire}
use Rattle.p3l_firing.specs.Run.{after_picks, course_from, run}
use Rattle.p3l_io.specs.Change.{Change, HasSameContent, HasSameFaults, IsStill}
use Rattle.p3l_io.specs.Content.{Held}
use Rattle.p3l_opts.specs.declared.command.Build.{Build}
use Rattle.p3l_report.specs.declared.stats.Stats.{Stats}
use Rattle.p3l_report.specs.declared.stats.Stats.TheVariants as stats
use Rattle.p3l_report.specs.declared.verdict.Verdict.{Verdict}
use Rattle.p3l_report.specs.declared.verdict.Verdict.TheVariants as verdict
use Rattle.p3l_run.specs.declared.keeping.Keeping.{Keeping}
use Rattle.p3l_run.specs.declared.keeping.Keeping.TheVariants as keep
use Rattle.p3l_run.specs.declared.run.Ran.{Ran}
use Rattle.p3l_run.specs.declared.fault.RunFault.{RunFault}
use Rattle.p3l_run.specs.declared.fault.RunFault.TheVariants as fault
use Rattle.p3l_run.specs.Execution.{Job}
use Rattle.p3l_run.specs.Network.{Network, course_of, course_under, goes_on, is_some, size_of}
use Rattle.p3l_run.specs.Run.{MayCome}
use Rattle.p3l_run.specs.Start.{fresh, state_from}
use Rattle.p3l_run.specs.Streams.{Streams, streams}
use Rattle.p3l_run.specs.Timed.{EndsEarly, EndsInTime, timed_job}
use Rattle.p3l_run.proofs.RunSteps.{may_come, nothing_comes}
use Rattle.p3l_sched.specs.declared.schedule.Schedule.TheVariants as schedule
use Rattle.p3l_timed.specs.Clock.{Clock}
use Rattle.p3l_timed.specs.Laws.{EveryFinishIsWithinBusy, EveryTimedRunIsARun}
use Rattle.p3l_timed.specs.Price.{price_at, prices_of}
use Rattle.p3l_timed.specs.Timed.{busy_of, timing_from}
use Rattle.p3l_timed.proofs.TimedLaw.{all_begins}
use Rattle.p3l_trace.specs.declared.trace.TraceLine.{TraceLine}
use Rattle.p3l_trace.specs.Agreement as lines
use Rattle.p3l_program.specs.declared.plan.Allotted.{Allotted}
use Rattle.p3l_program.specs.Load.{IsLoaded, IsNotLoaded, LoadsNetwork}
use Rattle.p3l_program.specs.Origin.{built}
use Rattle.p3l_program.specs.Picks.{IsPicking, picks_text}
use Rattle.p3l_program.specs.Plan.{network_of}
use Rattle.p3l_program.specs.Run.{keeping_for}
use Rattle.p3l_program.specs.Saved.{HasSave}
use Rattle.p3l_program.specs.Stage.{AllPass, build_stages}
use Rattle.p3l_program.specs.Time.{AreReported, AreTimes, BeginsTime, EndsTime, HasPrices, IsTimeBegun, IsTimeClosed, IsTimeExpected, IsTimeOf, IsTimeOver, KeepsTime, RunsInTime, TimesOver, UnsavedTime}
use Rattle.p3l_program.specs.Verdict.{fault_verdict}
use Rattle.p3l_program.specs.World.{world}
use Rattle.p3l_program.proofs.RunSteps.{finishes_starts}
use Rattle.p3l_program.proofs.SavedSteps.{kept_by}
use Rattle.p3l_program.proofs.TextSteps.{not_loaded}

-- if no process can fire, none is ready
none_goes : (can : ℕ → Bool) → ((p : ℕ) → can p ≡ false) → (ps : List ℕ) → filter can ps ≡ []
none_goes can none [] = refl
none_goes can none (p ∷ ps) = cond-false (can p) _ _ (none p) ∙ none_goes can none ps

-- a network at prices was run in virtual time, on an input and an output
module _ (n : Network) (prices : List ℕ) (input out : Change (List ℕ)) where
  -- a run that came to its end was begun
  pub over_begun : IsTimeOver n prices input out → IsTimeBegun n prices input out
  unfolding finishes_starts
  over_begun h = record {
    picks = h.picks;
    starts = finishes_starts n (schedule.Recorded h.picks) h.keeping _ _ h.ran h.runs.finishes;
    begins = λ later on.
        let items = h.runs.finishes.items ++ later in
        let timed = h.runs.timed later (may_come n h.runs.finishes.close later on) in
        all_begins n.tree n.leaf n.net (price_at prices) (timing_from n.tree n.net (price_at prices) items) h.picks timed;
  }

  abbrev pub before : Streams
  before = streams input.old out.old

  abbrev pub after : Streams
  after = streams input.new out.new

  abbrev pub job : Keeping → Job
  job keeping = timed_job n keeping before

  -- to its end
  module _ (few : size_of n ≤ 1048576) (begins : n.start ≡ fresh) (run_law : EveryTimedRunIsARun) (within_law : EveryFinishIsWithinBusy) (keeping : Keeping) (ran : Ran) (k : Clock) (e : EndsInTime (job keeping) prices after ran k) where
    over_at : (later : List (List ℤ)) → MayCome n e.ends.ends.close later → goes_on n (course_of n (schedule.Recorded e.picks) (e.ends.ends.items ++ later)) ≡ false
    unfolding course_of
    over_at later may =
        let items = e.ends.ends.items ++ later in
        let timed = run_law n.tree n.leaf n.net (price_at prices) items e.picks (e.timed later may) in
        ap (λ ps. goes_on n (course_under n items ps)) (e.made later may)
        ∙ ap (λ start. goes_on n (after_picks n.tree n.leaf n.net (course_from (state_from start n.tree n.net items)) e.picks)) begins
        ∙ ap is_some (none_goes (can_fire n.tree n.net (run n.tree n.leaf n.net items e.picks).state) timed.stuck (range_with_len 0 (size_of n)))

    pub runs_in_time : RunsInTime n prices input out keeping e.picks ran
    runs_in_time = record {
      few = few;
      finishes = e.ends.ends;
      timed = e.timed;
      made = e.made;
      over = over_at;
      within = λ later may. within_law n.tree n.leaf n.net (price_at prices) (e.ends.ends.items ++ later) e.picks (e.timed later may);
    }

    pub over_now : IsTimeOver n prices input out
    over_now = record { keeping = keeping; picks = e.picks; ran = ran; runs = runs_in_time }

    pub begun_now : IsTimeBegun n prices input out
    begun_now = over_begun over_now

    -- the picks of the lines that were kept are those of the run
    picks_are : lines.picks_of e.ends.ends.lines ≡ e.picks
    picks_are = (e.ends.ends.traced [] (nothing_comes n e.ends.ends.close)).picks ∙ e.made [] (nothing_comes n e.ends.ends.close)

  module _ (few : size_of n ≤ 1048576) (begins : n.start ≡ fresh) (run_law : EveryTimedRunIsARun) (within_law : EveryFinishIsWithinBusy) (files : Change Held) (size : length prices ≡ size_of n) (ran : Ran) (k : Clock) where
    saved_so : (name : List ℕ) (e : EndsInTime (job keep.Lines) prices after ran k) (result : Result (Unit {0}) Verdict) → IsPicking files (Some name) ran.lines result → HasSave files name (picks_text e.picks) result
    saved_so name e result h =
        subst (λ ps. HasSave files name (picks_text ps) result) (picks_are few begins run_law within_law keep.Lines ran k e)
        (subst (λ l. IsPicking files (Some name) l result) e.ends.ends.kept h)

    busy_same : (keeping : Keeping) (e : EndsInTime (job keeping) prices after ran k) (report : Option Stats) → AreReported ran.stats k report
        → AreTimes n prices input out keeping e.picks ran (runs_in_time few begins run_law within_law keeping ran k e) report
    unfolding runs_in_time
    busy_same keeping e report t = record {
      moment = k.moment;
      moment_is = e.finish;
      p = t.p;
      busiest = record {
        there = subst (λ m. t.p < m) (ap length e.prices_are ∙ size) t.there;
        most = λ q. subst (λ b. busy_of (price_at prices) e.picks q ≤ b) (e.busy t.p) (subst (λ a. a ≤ slice_index k.busy t.p) (e.busy q) (t.busiest.most q));
        first = λ q below. subst (λ b. busy_of (price_at prices) e.picks q < b) (e.busy t.p) (subst (λ a. a < slice_index k.busy t.p) (e.busy q) (t.busiest.first q below));
      };
      report_is = t.report_is ∙ ap (λ b. Some (stats.Timed ran.stats.items ran.stats.fired k.moment t.p b)) (e.busy t.p);
    }

    pub closed_time : (name : Option (List ℕ)) (e : EndsInTime (job (keeping_for name)) prices after ran k) (v : Verdict) → HasSameFaults out → IsTimeClosed files ran k name v → IsTimeOf n prices files input out name v
    closed_time None e (verdict.Ended finish report) same_faults h =
        (record { picks = e.picks; ran = ran; runs = runs_in_time few begins run_law within_law keep.Nothing ran k e; finish_is = h.0; numbers = busy_same keep.Nothing e report h.1; saved = tt }, h.2.1.same_faults, same_faults)
    closed_time None e (verdict.Refused r) same_faults h = absurd (let z = h.0 in cc)
    closed_time None e verdict.WriteFault same_faults h = absurd (let z = h.0 in cc)
    closed_time None e verdict.NoMemory same_faults h = absurd (let z = h.0 in cc)
    closed_time (Some name) e (verdict.Ended finish report) same_faults h =
        let save = saved_so name e (Ok tt) h.2 in
        (record { picks = e.picks; ran = ran; runs = runs_in_time few begins run_law within_law keep.Lines ran k e; finish_is = h.0; numbers = busy_same keep.Lines e report h.1; saved = save.by.0 }, save.by.1, same_faults)
    closed_time (Some name) e (verdict.Refused r) same_faults h = absurd (saved_so name e (Err (verdict.Refused r)) h).by
    closed_time (Some name) e verdict.WriteFault same_faults h = inr (over_now few begins run_law within_law keep.Lines ran k e, same_faults, (saved_so name e (Err verdict.WriteFault) h).by)
    closed_time (Some name) e verdict.NoMemory same_faults h = inr (begun_now few begins run_law within_law keep.Lines ran k e)

    pub closed_time_kept : (name : Option (List ℕ)) (e : EndsInTime (job (keeping_for name)) prices after ran k) (v : Verdict) → IsTimeClosed files ran k name v → KeepsTime n prices files input out name v
    closed_time_kept None e (verdict.Ended finish report) h = record { kept = kept_by files [] (verdict.Ended finish report) h.2.1.same_content; over = inl h.2.1.same_content }
    closed_time_kept None e (verdict.Refused r) h = absurd (let z = h.0 in cc)
    closed_time_kept None e verdict.WriteFault h = absurd (let z = h.0 in cc)
    closed_time_kept None e verdict.NoMemory h = absurd (let z = h.0 in cc)
    closed_time_kept (Some name) e (verdict.Ended finish report) h = record { kept = (saved_so name e (Ok tt) h.2).kept; over = inr (over_now few begins run_law within_law keep.Lines ran k e) }
    closed_time_kept (Some name) e (verdict.Refused r) h = absurd (saved_so name e (Err (verdict.Refused r)) h).by
    closed_time_kept (Some name) e verdict.WriteFault h = record { kept = (saved_so name e (Err verdict.WriteFault) h).kept; over = inr (over_now few begins run_law within_law keep.Lines ran k e) }
    closed_time_kept (Some name) e verdict.NoMemory h = record { kept = (saved_so name e (Err verdict.NoMemory) h).kept; over = inr (over_now few begins run_law within_law keep.Lines ran k e) }

  -- or not
  pub early_time : (files : Change Held) (keeping : Keeping) (name : Option (List ℕ)) (failed : RunFault) → HasSameFaults files → EndsEarly (job keeping) prices after failed → IsTimeOf n prices files input out name (fault_verdict failed)
  early_time files keeping name fault.Write same_faults e = inl (record { picks = e.picks; starts = e.ends.ends; begins = e.begins }, same_faults, e.ends.output)
  early_time files keeping name fault.NoMemory same_faults e = inr (record { picks = e.picks; starts = e.ends.ends; begins = e.begins })

-- a network that is left with files as they were
pub stays_time : (n : Network) (prices : List ℕ) (files : Change Held) (input out : Change (List ℕ)) (name : Option (List ℕ)) (v : Verdict) → HasSameContent files → KeepsTime n prices files input out name v
stays_time n prices files input out name v same = record { kept = kept_by files (option_to_list name) v same; over = inl same }

-- a verdict that is no end of a run comes from the writing of its picks alone
pub closed_time_err : (files : Change Held) (ran : Ran) (k : Clock) (name : Option (List ℕ)) (v : Verdict) → IsPicking files name ran.lines (Err v) → IsTimeClosed files ran k name v
closed_time_err files ran k name (verdict.Refused r) h = h
closed_time_err files ran k name verdict.WriteFault h = h
closed_time_err files ran k name verdict.NoMemory h = h
closed_time_err files ran k name (verdict.Ended finish report) h = absurd (by name ran.lines h)
  where
    by : (name : Option (List ℕ)) (lines : Option (List TraceLine)) → IsPicking files name lines (Err (verdict.Ended finish report)) → ⊥
    by (Some name) (Some lines) h = h.by
    by (Some name) None h = (let z = h.0 in cc)
    by None lines h = (let z = h.0 in cc)

-- a network that is not loaded is not run
pub time_unloaded : (files : Change Held) (input out : Change (List ℕ)) (build : Build) (name : Option (List ℕ)) (v : Verdict) → IsStill input → IsStill out → IsNotLoaded files (build_stages build) v →
    IsTimeExpected (world files input out) build name v
time_unloaded files input out build name v still silent h =
    not_loaded (world files input out) (build_stages build) (EndsTime (world files input out) build name) (BeginsTime (world files input out) build) (UnsavedTime (world files input out) build name) v still silent h

-- a network that was loaded with its prices is run
module _ (files : Change Held) (input out : Change (List ℕ)) (build : Build) (n : Network) (prices : List ℕ) (loads : LoadsNetwork files.old.content (built build) n) (has : HasPrices files.old.content build n prices) where
  passed : AllPass files (build_stages build)
  passed = loads.passed files refl

  times_over : IsTimeOver n prices input out → TimesOver (world files input out) build
  times_over h = record { n = n; prices = prices; has = has; over = h }

  begins_time : IsTimeBegun n prices input out → BeginsTime (world files input out) build
  begins_time h = record { n = n; prices = prices; has = has; begun = h }

  pub time_touched : (name : Option (List ℕ)) (v : Verdict) → KeepsTime n prices files input out name v → HasSameContent files ⊎ TimesOver (world files input out) build
  time_touched name v h = elim h.over [ inl same ↦ inl same | inr over ↦ inr (times_over over) ]

  pub time_expected : (name : Option (List ℕ)) (v : Verdict) → IsTimeOf n prices files input out name v → IsTimeExpected (world files input out) build name v
  time_expected name (verdict.Refused r) h = absurd h
  time_expected name (verdict.Ended finish report) h = record { passed = passed; ends = record { n = n; prices = prices; has = has; to = h.0 }; files = h.1; output = h.2 }
  time_expected name verdict.WriteFault (inl h) = record { begun = record { passed = passed; begins = begins_time h.0 }; fault = inl (record { files = h.1; output = h.2 }) }
  time_expected None verdict.WriteFault (inr h) = absurd h
  time_expected (Some name) verdict.WriteFault (inr h) = record { begun = record { passed = passed; begins = begins_time (over_begun n prices input out h.0) }; fault = inr (times_over h.0, h.1, h.2) }
  time_expected name verdict.NoMemory (inl h) = inl (record { input = h.input_still; output = h.output_still })
  time_expected name verdict.NoMemory (inr h) = inr (record { passed = passed; begins = begins_time h })

-- a loaded network has the prices of its costs
pub loaded_prices : (files : Option Held) (build : Build) (loaded : Allotted) (r : ResolvedTree) (is : IsLoaded files build r loaded) (n : Network) (tree : Tree) (net : Net) (cs : Costs) → n ≡ network_of r loaded.choice.counts.list build.capacity → n.tree ≡ tree → n.net ≡ net → cs ≡ loaded.costs
    → HasPrices files build n (prices_of tree cs net)
loaded_prices files build loaded r is n tree net cs n_is tree_is net_is costs_are = record {
  network = record {
    texts = record { text = is.text; said = is.said };
    have = (is.has, is.says);
    is = record { r = r; cs = loaded.costs; counts = loaded.choice.counts.list; allotted = is.allotted; network_is = n_is };
  };
  prices_are = ap (λ t. prices_of t cs net) (sym tree_is) ∙ ap (λ m. prices_of n.tree cs m) (sym net_is) ∙ ap (λ c. prices_of n.tree c n.net) costs_are;
}
