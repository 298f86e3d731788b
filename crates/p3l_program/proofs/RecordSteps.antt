-- From the end of a run and the writing of its trace to how the run of a network ends, and which files it changes.
use Rattle.std.proofs.Common.{◌≡◌, ℕ, Bool, List, Option, Some, None, ap, subst, inl, inr, true}
use Rattle.std.specs.Prelude.{OnOk}
use Rattle.std.specs.Option.{option_to_list}
use Rattle.std.specs.declared.result.Result.{Result}
use Rattle.std.specs.declared.result.Result.TheVariants.{Ok, Err}
use Rattle.p3l_io.specs.Change.{Change, HasSameContent, HasSameFaults}
use Rattle.p3l_io.specs.Content.{Held}
use Rattle.p3l_opts.specs.declared.command.Sched.{Sched}
use Rattle.p3l_report.specs.declared.verdict.Verdict.{Verdict}
use Rattle.p3l_report.specs.declared.verdict.Verdict.TheVariants as verdict
use Rattle.p3l_run.specs.declared.keeping.Keeping.{Keeping}
use Rattle.p3l_run.specs.declared.keeping.Keeping.TheVariants as keep
use Rattle.p3l_run.specs.declared.run.Ran.{Ran}
use Rattle.p3l_run.specs.Network.{Network, size_of}
use Rattle.p3l_run.specs.Run.{Finishes, Starts}
use Rattle.p3l_run.specs.Write.{WriteCause}
use Rattle.p3l_run.specs.declared.fault.RunFault.{RunFault}
use Rattle.p3l_run.specs.declared.fault.RunFault.TheVariants as fault
use Rattle.p3l_sched.specs.declared.schedule.Schedule.{Schedule}
use Rattle.p3l_trace.specs.declared.trace.TraceLine.{TraceLine}
use Rattle.p3l_trace.specs.Text.{trace_format}
use Rattle.p3l_program.specs.Recorded.{IsRecordOn, IsRecording, traced_by}
use Rattle.p3l_program.specs.Run.{IsClosed, IsRunOf, IsRunOver, KeepsRun, keeping_for}
use Rattle.p3l_program.specs.Saved.{HasSave}
use Rattle.p3l_program.specs.Scheduled.{HasSchedule}
use Rattle.p3l_program.specs.Verdict.{fault_verdict}
use Rattle.p3l_program.proofs.RunSteps.{finishes_starts}
use Rattle.p3l_program.proofs.SavedSteps.{kept_by}

-- a network that is left with files as they were
pub stays_kept : (n : Network) (files : Change Held) (input out : Change (List ℕ)) (request : Sched) (trace : Option (List ℕ)) (v : Verdict) → HasSameContent files → KeepsRun n files input out request trace v
stays_kept n files input out request trace v same = record { kept = kept_by files (option_to_list trace) v same; over = inl same }

-- a verdict that is no end of a run comes from the writing of its trace alone
pub closed_err : (files : Change Held) (ran : Ran) (trace : Option (List ℕ)) (reported : Bool) (v : Verdict) → IsRecording files trace ran.lines ran.stats (Err v) → IsClosed files ran trace reported v
closed_err files ran trace reported (verdict.Refused r) h = h
closed_err files ran trace reported verdict.WriteFault h = h
closed_err files ran trace reported verdict.NoMemory h = h
closed_err files ran trace reported (verdict.Ended finish stats) h = absurd (by trace ran.lines h)
  where
    by : (trace : Option (List ℕ)) (lines : Option (List TraceLine)) → IsRecording files trace lines ran.stats (Err (verdict.Ended finish stats)) → ⊥
    by (Some name) (Some lines) h = h.0.by
    by (Some name) None h = (let z = h.0 in cc)
    by None lines h = (let z = h.0 in cc)

-- a run that ended early
pub early_run : (n : Network) (s : Schedule) (files : Change Held) (input out : Change (List ℕ)) (request : Sched) (trace : Option (List ℕ)) (reported : Bool) → HasSchedule files.old.content (size_of n) request s → HasSameFaults files → (failed : RunFault) →
    Starts n s input out → WriteCause {T = Ran} out (Err failed) → IsRunOf n files input out request trace reported (fault_verdict failed)
early_run n s files input out request trace reported schedule same_faults fault.Write starts cause = inl (record { s = s; schedule = schedule; starts = starts; same_file_faults = same_faults }, cause)
early_run n s files input out request trace reported schedule same_faults fault.NoMemory starts cause = inr (record { s = s; schedule = schedule; starts = starts; same_file_faults = same_faults })

module _ (n : Network) (s : Schedule) (files : Change Held) (input out : Change (List ℕ)) (request : Sched) (ran : Ran) (schedule : HasSchedule files.old.content (size_of n) request s) (same_faults : HasSameFaults out) where
  abbrev Ends : Keeping → Type 0
  Ends keeping = Finishes n s keeping input out ran

  -- the lines that were kept are those of the run
  saved_so : (name : List ℕ) (f : Ends keep.Lines) (result : Result (Unit {0}) Verdict) → IsRecording files (Some name) ran.lines ran.stats result →
      HasSave files name (trace_format.spell (traced_by f.lines ran.stats)) result × OnOk result (trace_format.fits (traced_by f.lines ran.stats) ≡ true)
  saved_so name f result h = subst (λ l. IsRecording files (Some name) l ran.stats result) f.kept h

  record_on : (keeping : Keeping) (f : Ends keeping) → IsRecordOn n s f.items f.close (traced_by f.lines ran.stats)
  record_on keeping f = λ later may.
      let t = f.traced later may in
      let run = f.ran later may in
      record { picks = t.picks; agrees = t.agrees; fired = ap (λ s. s.fired) run.stats_are; idle = ap (λ s. s.idle) run.stats_are }

  over : (keeping : Keeping) → Ends keeping → IsRunOver n files input out request
  over keeping f = record { s = s; schedule = schedule; keeping = keeping; ran = ran; finishes = f; same_output_faults = same_faults }

  pub closed_run : (trace : Option (List ℕ)) (reported : Bool) → Ends (keeping_for trace) → (v : Verdict) → IsClosed files ran trace reported v → IsRunOf n files input out request trace reported v
  closed_run None reported f (verdict.Ended finish stats) h = record {
    s = s;
    schedule = schedule;
    ran = ran;
    finish_is = h.0;
    stats_are = h.1;
    finishes = f;
    recorded = tt;
    same_file_faults = h.2.1.same_faults;
    same_output_faults = same_faults;
  }
  closed_run None reported f (verdict.Refused r) h = absurd (let z = h.0 in cc)
  closed_run None reported f verdict.WriteFault h = absurd (let z = h.0 in cc)
  closed_run None reported f verdict.NoMemory h = absurd (let z = h.0 in cc)
  closed_run (Some name) reported f (verdict.Ended finish stats) h =
      let save = saved_so name f (Ok tt) h.2 in
      record {
        s = s;
        schedule = schedule;
        ran = ran;
        finish_is = h.0;
        stats_are = h.1;
        finishes = f;
        recorded = record { t = traced_by f.lines ran.stats; is = record_on keep.Lines f; fits = save.1; saved = save.0.by.0 };
        same_file_faults = save.0.by.1;
        same_output_faults = same_faults;
      }
  closed_run (Some name) reported f (verdict.Refused r) h = absurd (saved_so name f (Err (verdict.Refused r)) h).0.by
  closed_run (Some name) reported f verdict.WriteFault h = inr (over keep.Lines f, (saved_so name f (Err verdict.WriteFault) h).0.by)
  closed_run (Some name) reported f verdict.NoMemory h =
      inr (record { s = s; schedule = schedule; starts = finishes_starts n s keep.Lines _ _ ran f; same_file_faults = (saved_so name f (Err verdict.NoMemory) h).0.by })

  pub closed_kept : (trace : Option (List ℕ)) (reported : Bool) → Ends (keeping_for trace) → (v : Verdict) → IsClosed files ran trace reported v → KeepsRun n files input out request trace v
  closed_kept None reported f (verdict.Ended finish stats) h = stays_kept n files input out request None (verdict.Ended finish stats) h.2.1.same_content
  closed_kept None reported f (verdict.Refused r) h = absurd (let z = h.0 in cc)
  closed_kept None reported f verdict.WriteFault h = absurd (let z = h.0 in cc)
  closed_kept None reported f verdict.NoMemory h = absurd (let z = h.0 in cc)
  closed_kept (Some name) reported f (verdict.Ended finish stats) h = record { kept = (saved_so name f (Ok tt) h.2).0.kept; over = inr (over keep.Lines f) }
  closed_kept (Some name) reported f (verdict.Refused r) h = absurd (saved_so name f (Err (verdict.Refused r)) h).0.by
  closed_kept (Some name) reported f verdict.WriteFault h = record { kept = (saved_so name f (Err verdict.WriteFault) h).0.kept; over = inr (over keep.Lines f) }
  closed_kept (Some name) reported f verdict.NoMemory h = record { kept = (saved_so name f (Err verdict.NoMemory) h).0.kept; over = inr (over keep.Lines f) }
