-- From the run of a network to the verdict of `run` and `exec`.
use Rattle.std.proofs.Common.{◌≡◌, ℕ, Bool, List, [], ◌++◌, Option, Some, None, ◌⊎◌, inl, inr, subst, append-nil, refl, ◌∙◌}
use Rattle.std.specs.declared.result.Result.TheVariants.{Ok, Err}
use Rattle.p3l_io.specs.Change.{Change, HasSameContent, HasSameFaults, IsStill}
use Rattle.p3l_io.specs.Content.{Held}
use Rattle.p3l_opts.specs.declared.command.Sched.{Sched}
use Rattle.p3l_opts.specs.declared.command.Sched.TheVariants as sched
use Rattle.p3l_report.specs.declared.verdict.Refusal.{Refusal}
use Rattle.p3l_report.specs.declared.verdict.Refusal.TheVariants as refusal
use Rattle.p3l_report.specs.declared.verdict.Verdict.{Verdict}
use Rattle.p3l_report.specs.declared.verdict.Verdict.TheVariants as verdict
use Rattle.p3l_report.specs.Verdict.{verdict_of}
use Rattle.p3l_firing.specs.Outcomes.{IsPrefixOf}
use Rattle.p3l_run.specs.declared.keeping.Keeping.{Keeping}
use Rattle.p3l_run.specs.declared.run.Ran.{Ran}
use Rattle.p3l_run.specs.Feed.{closed_so}
use Rattle.p3l_run.specs.Network.{Network, course_of, meaning_of, size_of}
use Rattle.p3l_run.specs.Run.{Finishes, Starts}
use Rattle.p3l_run.proofs.RunSteps.{begun_by, may_come, nothing_comes}
use Rattle.p3l_sched.specs.declared.refusal.PickRefusal.{PickRefusal}
use Rattle.p3l_sched.specs.declared.refusal.PickRefusal.TheVariants as picks
use Rattle.p3l_sched.specs.declared.schedule.Schedule.{Schedule}
use Rattle.p3l_sched.specs.Picks.{Reads}
use Rattle.p3l_program.specs.Expected.{IsWriteFault}
use Rattle.p3l_program.specs.File.{HasText}
use Rattle.p3l_program.specs.Load.{IsNotLoaded, LoadsNetwork}
use Rattle.p3l_program.specs.Plan.{HasNetwork}
use Rattle.p3l_program.specs.Origin.{Origin}
use Rattle.p3l_program.specs.Run.{BeginsRun, EndsRun, HasBadPicks, HasNoSchedule, IsRunExpected, IsRunOf, IsRunOver, IsRunSome, IsUnsavedRun, KeepsRun, RunsOver, UnsavedRun}
use Rattle.p3l_program.specs.Scheduled.{HasNoPicks, HasSchedule, picks_limit}
use Rattle.p3l_program.specs.Stage.{AllPass, FilesCause, IsRefusedBy, Refuses, origin_stages, run_stages, schedule_stages, scheduled}
use Rattle.p3l_program.specs.World.{world}
use Rattle.p3l_program.proofs.PickSteps.{read_or_refused}
use Rattle.p3l_program.proofs.LoadSteps.{not_loaded_front}
use Rattle.p3l_program.proofs.StageSteps.{passed_both, refused_after}
use Rattle.p3l_program.proofs.TextSteps.{not_loaded}

-- a run that came to its end was begun
unfoldable pub finishes_starts : (n : Network) (s : Schedule) (keeping : Keeping) (input out : Change (List ℕ)) (end : Ran) → Finishes n s keeping input out end → Starts n s input out
finishes_starts n s keeping input out end f =
    let ran = f.ran [] (nothing_comes n f.close) in
    let begins : IsPrefixOf f.outcomes (meaning_of n f.items) = subst (λ i. IsPrefixOf f.outcomes (meaning_of n i)) (append-nil f.items) ran.begins in
    record {
      stream = f.stream;
      items = f.items;
      closed = closed_so f.close;
      gives = f.gives;
      begun = begun_by (meaning_of n f.items) f.outcomes out begins f.put;
      emits = λ later may.
          let on = f.ran later (may_come n f.close later may) in
          begun_by (course_of n s (f.items ++ later)).state.emitted f.outcomes out ([], append-nil f.outcomes ∙ on.emitted) f.put;
    }

-- a network that is not loaded is not run
pub run_unloaded : (files : Change Held) (input out : Change (List ℕ)) (origin : Origin) (request : Sched) (trace : Option (List ℕ)) (reported : Bool) (v : Verdict) → IsStill input → IsStill out → IsNotLoaded files (origin_stages origin) v →
    IsRunExpected (world files input out) origin request trace reported v
run_unloaded files input out origin request trace reported v still silent h =
    not_loaded (world files input out) (run_stages origin request) (EndsRun (world files input out) origin request trace reported) (BeginsRun (world files input out) origin request) (UnsavedRun (world files input out) origin request trace) v still silent
    (not_loaded_front files (origin_stages origin) (schedule_stages origin request) v h)

-- a text of picks that is refused
pub unscheduled : (files : Change Held) (count : ℕ) (name text : List ℕ) (why : PickRefusal) → HasText files.old.content picks_limit name text → Reads text count (Err why) → HasSameFaults files →
    HasNoSchedule files count (sched.File name) (verdict_of (refusal.Schedule why))
unscheduled files count name text picks.NoMemory has reads same_faults = same_faults
unscheduled files count name text (picks.BadPick line) has reads same_faults = inr (record { text = text; has = has; bad = (reads, λ e. absurd cc); same_faults = same_faults })
unscheduled files count name text (picks.NoSuchProcess line pick of_count) has reads same_faults = inr (record { text = text; has = has; bad = (reads, λ e. absurd cc); same_faults = same_faults })

-- a network that was loaded is run
module _ (files : Change Held) (input out : Change (List ℕ)) (origin : Origin) (n : Network) (loads : LoadsNetwork files.old.content origin n) where
  has : HasNetwork files.old.content origin n
  has = record { texts = loads.texts; have = loads.have; is = loads.is }

  passed : AllPass files (origin_stages origin)
  passed = loads.passed files refl

  schedule_passes : (request : Sched) (s : Schedule) → HasSchedule files.old.content (size_of n) request s → AllPass files (schedule_stages origin request)
  schedule_passes sched.RoundRobin s h = tt
  schedule_passes (sched.Seeded seed) s h = tt
  schedule_passes (sched.File name) s h = ((h.text, h.has), ((n, s, has, h), tt))

  pub all_passes : (request : Sched) (s : Schedule) → HasSchedule files.old.content (size_of n) request s → AllPass files (run_stages origin request)
  all_passes request s h = passed_both files (origin_stages origin) (schedule_stages origin request) passed (schedule_passes request s h)

  runs_over : (request : Sched) → IsRunOver n files input out request → RunsOver (world files input out) origin request
  runs_over request h = record { n = n; s = h.s; has = record { network = has; schedule = h.schedule }; keeping = h.keeping; ran = h.ran; finishes = h.finishes }

  -- a file is touched when the run is over
  pub run_touched : (request : Sched) (trace : Option (List ℕ)) (v : Verdict) → KeepsRun n files input out request trace v → HasSameContent files ⊎ RunsOver (world files input out) origin request
  run_touched request trace v h = elim h.over [ inl same ↦ inl same | inr over ↦ inr (runs_over request over) ]

  -- as what is run has one network, a text that is refused for it has no picks
  no_picks : (name text : List ℕ) (r : PickRefusal) → HasText files.old.content picks_limit name text → Reads text (size_of n) (Err r) → (r ≡ picks.NoMemory → ⊥) → HasNoPicks files.old.content origin name r
  no_picks name text r held reads named = record {
    texts = loads.texts;
    have = loads.have;
    picks = text;
    held = held;
    refused = record {
      n = n;
      is = loads.is;
      reads = reads;
      named = named;
      never = λ other read here q. read_or_refused text (size_of n) read r named (subst (λ m. Reads text (size_of m) (Ok read)) (loads.only other here) q) reads;
    };
  }

  bad_picks : (name : List ℕ) (r : Refusal) → HasBadPicks files (size_of n) name r → Refuses files (scheduled origin name) r
  bad_picks name (refusal.Schedule why) h = no_picks name h.text why h.has h.bad.0 h.bad.1
  bad_picks name r h = absurd h.bad

  files_cause : (r : Refusal) (name : List ℕ) → HasBadPicks files (size_of n) name r → FilesCause r files
  files_cause (refusal.Schedule why) name h = h.same_faults
  files_cause r name h = absurd h.bad

  pub refused_by : (request : Sched) (r : Refusal) → HasNoSchedule files (size_of n) request (verdict.Refused r) → IsRefusedBy files (run_stages origin request) r × FilesCause r files
  refused_by sched.RoundRobin r h = absurd h
  refused_by (sched.Seeded seed) r h = absurd h
  refused_by (sched.File name) r (inl h) = (refused_after files (origin_stages origin) (schedule_stages origin (sched.File name)) r passed (inl h.0), h.1)
  refused_by (sched.File name) r (inr h) =
      (refused_after files (origin_stages origin) (schedule_stages origin (sched.File name)) r passed (inr ((h.text, h.has), inl (bad_picks name r h))), files_cause r name h)

  begins_run : (request : Sched) → IsRunSome n files input out request → BeginsRun (world files input out) origin request
  begins_run request h = record { n = n; s = h.s; has = record { network = has; schedule = h.schedule }; starts = h.starts }

  -- the file of the trace could not be written
  unsaved : (request : Sched) (trace : Option (List ℕ)) → IsUnsavedRun n files input out request trace →
      IsWriteFault (world files input out) (run_stages origin request) (BeginsRun (world files input out) origin request) (UnsavedRun (world files input out) origin request trace)
  unsaved request None h = absurd h
  unsaved request (Some name) h = record {
    begun = record {
      passed = all_passes request h.0.s h.0.schedule;
      begins = record {
        n = n;
        s = h.0.s;
        has = record { network = has; schedule = h.0.schedule };
        starts = finishes_starts n h.0.s h.0.keeping _ _ h.0.ran h.0.finishes;
      };
    };
    fault = inr (runs_over request h.0, h.0.same_output_faults, h.1);
  }

  -- the verdict of the run is expected
  pub run_expected : (request : Sched) (trace : Option (List ℕ)) (reported : Bool) (v : Verdict) → IsRunOf n files input out request trace reported v → IsRunExpected (world files input out) origin request trace reported v
  run_expected request trace reported (verdict.Refused r) h =
      (let by = refused_by request r h.0 in record { by = by.0; untouched = record { input = h.1.input_still; output = h.1.output_still }; files = by.1 })
  run_expected request trace reported (verdict.Ended finish stats) h = record {
    passed = all_passes request h.s h.schedule;
    ends = record { n = n; s = h.s; has = record { network = has; schedule = h.schedule }; ran = h.ran; finish_is = h.finish_is; stats_are = h.stats_are; finishes = h.finishes; recorded = h.recorded };
    files = h.same_file_faults;
    output = h.same_output_faults;
  }
  run_expected request trace reported verdict.WriteFault (inl h) = record {
    begun = record { passed = all_passes request h.0.s h.0.schedule; begins = begins_run request h.0 };
    fault = inl (record { files = h.0.same_file_faults; output = h.1 });
  }
  run_expected request trace reported verdict.WriteFault (inr h) = unsaved request trace h
  run_expected request trace reported verdict.NoMemory (inl h) = inl (record { input = h.input_still; output = h.output_still })
  run_expected request trace reported verdict.NoMemory (inr h) = inr (record { passed = all_passes request h.s h.schedule; begins = begins_run request h })
