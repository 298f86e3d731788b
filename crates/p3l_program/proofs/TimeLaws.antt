-- Premises of the answers of `time`.
use Rattle.std.proofs.Common.{◌≡◌, ℕ, true, false, List, [], ◌++◌, Option, Some, None, refl, sym, ap, inl, subst, ◌∙◌}
use Rattle.std.specs.Option.{option_to_list}
use Rattle.p3l_opts.specs.declared.command.Build.{Build}
use Rattle.p3l_report.specs.declared.stats.Stats.{Stats}
use Rattle.p3l_report.specs.declared.verdict.Finish.{Finish}
use Rattle.p3l_report.specs.Status as status
use Rattle.p3l_report.specs.Verdict.{finish_status}
use Rattle.p3l_run.specs.Network.{course_of}
use Rattle.p3l_run.specs.Run.{MayEnd}
use Rattle.p3l_run.specs.Timed.{AreTimed}
use Rattle.p3l_run.proofs.RunSteps.{nothing_comes}
use Rattle.p3l_sched.specs.declared.schedule.Schedule.TheVariants as schedule
use Rattle.p3l_stream.specs.declared.items.Ending.{Ending}
use Rattle.p3l_stream.specs.declared.items.Ending.TheVariants as ending
use Rattle.p3l_stream.specs.declared.items.Items.{Items}
use Rattle.p3l_program.specs.Run.{keeping_for}
use Rattle.p3l_program.specs.Saved.{HasOneFailed}
use Rattle.p3l_program.specs.Time.{EndsTime, IsTimeStatus, TimesWhole, UnsavedTime, time_behavior}
use Rattle.p3l_program.specs.World.{HasNoFault, World}
use Rattle.p3l_program.proofs.Lawful.{Lawful}
use Rattle.p3l_program.proofs.RunLaws.{run_same_faults, run_read, whole_of}
use Rattle.p3l_program.proofs.SeenSteps.{seen_goes_on, seen_status, stopped_goes}
use Rattle.p3l_program.proofs.TimeSteps.{over_begun}

module _ (w : World) (build : Build) (name : Option (List ℕ)) (finish : Finish) (report : Option Stats) (e : EndsTime w build name finish report) where
  -- a run of status 0 is whole
  time_whole : (rest taken : List ℕ) → w.input.old.content ≡ Some rest → w.output.old.content ≡ Some taken → finish_status finish ≡ status.done → TimesWhole w build name rest taken
  time_whole rest taken input out h =
      let to = e.to in
      let f = to.runs.finishes in
      let whole = whole_of e.n (schedule.Recorded to.picks) _ _ _ to.ran f rest taken input out (sym (ap finish_status to.finish_is) ∙ h) in
      record {
        n = e.n;
        prices = e.prices;
        has = e.has;
        picks = to.picks;
        timed = subst (λ items. AreTimed e.n e.prices items to.picks) whole.items_are (to.runs.timed [] (nothing_comes e.n f.close));
        input_ended = whole.input_ended;
        all_items = whole.all_items;
        taken_is = whole.taken_is;
        saved = to.saved;
      }

  -- without a fault it ends with the status that is expected
  time_status : (rest : List ℕ) → w.input.old.content ≡ Some rest → HasNoFault w → IsTimeStatus w build rest (finish_status finish)
  time_status rest input faultless =
      let to = e.to in
      let f = to.runs.finishes in
      let seen = seen_goes_on e.n rest w.input f.close f.stream f.items f.gives input faultless.input in
      record {
        n = e.n;
        prices = e.prices;
        has = e.has;
        picks = to.picks;
        timed = subst (λ (i : Items). AreTimed e.n e.prices i.items to.picks) (sym seen.seen) (to.runs.timed seen.later seen.may_come);
        status_is = ap finish_status to.finish_is ∙ seen_status e.n (schedule.Recorded to.picks) rest _ _ _ to.ran input faultless.input f;
      }

  -- it is never stopped
  unstopped : finish_status finish ≡ status.stopped → ⊥
  unstopped h =
      let to = e.to in
      let f = to.runs.finishes in
      let ending = some_ending f.close in
      let goes = stopped_goes e.n (course_of e.n (schedule.Recorded to.picks) (f.items ++ [])) ending.0 to.ran.finish (f.ends [] (nothing_comes e.n f.close) ending.0 ending.1) (sym (ap finish_status to.finish_is) ∙ h) in
      let over = to.runs.over [] (nothing_comes e.n f.close) in
      no_both (sym goes ∙ over)
    where
      some_ending : (close : Option Ending) → (x : Ending) × MayEnd close x
      some_ending None = (ending.End, tt)
      some_ending (Some x) = (x, refl)

      no_both : true ≡ false → ⊥
      no_both x = cc

-- the file of picks that could not be written is one that it writes
named : (w : World) (build : Build) (name : Option (List ℕ)) → UnsavedTime w build name → HasOneFailed w.files (option_to_list name)
named w build None h = absurd h
named w build (Some name) h = record { name = name; one = inl refl; failed = h.2 }

pub time_lawful : (build : Build) (name : Option (List ℕ)) → Lawful (time_behavior build name)
time_lawful build name = record {
  begun = λ w f report e. record { n = e.n; prices = e.prices; has = e.has; begun = over_begun e.n e.prices w.input w.output (record { keeping = keeping_for name; picks = e.to.picks; ran = e.to.ran; runs = e.to.runs }) };
  whole = λ w rest taken f report input out h e. time_whole w build name f report e rest taken input out h;
  status_expected = λ w rest f report input faultless e. time_status w build name f report e rest input faultless;
  read = λ w f report e h. run_read e.n (schedule.Recorded e.to.picks) _ _ _ e.to.ran e.to.runs.finishes (sym (ap finish_status e.to.finish_is) ∙ h);
  same_faults = λ w f report e h. run_same_faults e.n (schedule.Recorded e.to.picks) _ _ _ e.to.ran e.to.runs.finishes (finish_status f) (sym (ap finish_status e.to.finish_is)) h.1 h.2 h.3;
  stopped = λ w f report e h. absurd (unstopped w build name f report e h);
  writer = λ w h. named w build name h;
  first_written = λ none. refl;
  reads_first = λ limit name after is. refl;
  touches = λ w some. absurd (some refl);
  ran = λ w run f report is e. absurd cc;
}
