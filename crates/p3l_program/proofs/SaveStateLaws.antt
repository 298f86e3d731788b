-- Premises of the answers of `save`.
use Rattle.std.proofs.Common.{◌≡◌, ◌≢◌, ℕ, true, false, List, [], ◌++◌, inl, inr, Option, Some, None, refl, sym, ap, subst, ◌∙◌, arith}
use Rattle.p3l_firing.specs.Token.{has_trap}
use Rattle.p3l_net.specs.Offered.{Follows}
use Rattle.p3l_io.specs.Change.{Change, HasRisen, HasSameFaults}
use Rattle.p3l_opts.specs.declared.command.Build.{Build}
use Rattle.p3l_report.proofs.Statuses as statuses
use Rattle.p3l_report.specs.declared.stats.Stats.{Stats}
use Rattle.p3l_report.specs.declared.verdict.Finish.{Finish}
use Rattle.p3l_report.specs.declared.verdict.Finish.TheVariants as finish
use Rattle.p3l_report.specs.Status as status
use Rattle.p3l_report.specs.Verdict.{finish_status}
use Rattle.p3l_run.specs.declared.end.RunEnd.TheVariants as end
use Rattle.p3l_run.specs.Checkpoint as checkpoint
use Rattle.p3l_run.specs.declared.checkpoint.Checkpoint.{Checkpoint}
use Rattle.p3l_run.specs.Feed.{closed_so}
use Rattle.p3l_run.specs.Network.{Network, course_under}
use Rattle.p3l_stream.specs.declared.items.Ending.{Ending}
use Rattle.p3l_stream.specs.declared.items.Ending.TheVariants as ending
use Rattle.p3l_stream.specs.Given.{GivenCause}
use Rattle.p3l_stream.specs.Text.{text_of}
use Rattle.p3l_program.specs.SaveState.{BeginsSave, EndsSave, IsSaveStatus, IsUsed, SavesWhole, save_behavior}
use Rattle.p3l_program.specs.Trace.{IsUnrefused}
use Rattle.p3l_program.specs.World.{HasNoFault, World}
use Rattle.p3l_program.proofs.EndSteps.{ended_same_faults, put_known, unrefused_same_faults}
use Rattle.p3l_program.proofs.Lawful.{IsFaultlessStatus, Lawful}
use Rattle.p3l_program.proofs.SaveStateSteps.{begun_so, emitted_on, status_done, status_ended, status_trapped, used_on, used_seen}
use Rattle.p3l_program.proofs.SeenSteps.{ending_unstopped}
use Rattle.p3l_program.proofs.TraceSteps.{all_go_on}

-- if a run came to its checkpoint, the stream was not refused as far as it was requested
module _ (n : Network) (picks : List ℕ) (input out : Change (List ℕ)) (saved : Checkpoint) (s : checkpoint.IsSaved n picks input out saved) where
  unrefused_by : (close : Option Ending) → s.reached.close ≡ close → IsUnrefused s.reached.close
  unrefused_by None is = inl is
  unrefused_by (Some e) is = elim s.over [ inl none ↦ absurd ((s.reached.request e is).0 none) | inr ended ↦ inr ended ]

  pub unrefused : IsUnrefused s.reached.close
  unrefused = unrefused_by s.reached.close refl

  pub left_ended : has_trap s.reached.outcomes ≡ false → s.reached.unused ≢ [] → (e : Ending) × (s.reached.close ≡ Some e)
  left_ended quiet left = elim s.over [ inl none ↦ absurd (left none) | inr ended ↦ (ending.End, ended) ]

true_is_not_false : true ≡ false → ⊥
true_is_not_false h = cc

module _ (w : World) (build : Build) (name output : List ℕ) where
  save_begun : (f : Finish) (report : Option Stats) → EndsSave w build name output f report → BeginsSave w build name
  save_begun finish.Done report e =
      record { n = e.n; counts = e.counts; image = e.image; picks = e.picks; has = e.has; begun = begun_so e.n e.picks w.input w.output e.to.comes.is.reached e.to.comes.meant }
  save_begun (finish.Run (end.Stream k)) report e =
      record { n = e.n; counts = e.counts; image = e.image; picks = e.picks; has = e.has; begun = begun_so e.n e.picks w.input w.output e.to.0.is.reached e.to.0.meant }
  save_begun (finish.Run (end.Trapped item kind home)) report e =
      record { n = e.n; counts = e.counts; image = e.image; picks = e.picks; has = e.has; begun = begun_so e.n e.picks w.input w.output e.to.0.is.reached e.to.0.meant }
  save_begun (finish.Run (end.Stopped fired idle)) report e = absurd e.to
  save_begun (finish.Differs line) report e = absurd e.to

  -- an end of status 0 is whole
  save_whole : (rest taken : List ℕ) (f : Finish) (report : Option Stats) → w.input.old.content ≡ Some rest → w.output.old.content ≡ Some taken → finish_status f ≡ status.done → EndsSave w build name output f report → SavesWhole w build name output rest taken
  save_whole rest taken finish.Done report input out h e =
      let s = e.to.comes.is in
      let r = s.reached in
      let all = all_go_on e.n rest w.input r.close r.stream r.items r.gives input (unrefused e.n e.picks w.input w.output e.to.saved s) in
      let emitted = emitted_on e.n e.picks w.input w.output r all.later all.may_come.wide in
      record {
        n = e.n;
        counts = e.counts;
        image = e.image;
        picks = e.picks;
        has = e.has;
        used = r.used;
        unused = r.unused;
        is_used =
            subst (λ items. IsUsed e.n items e.picks r.used r.unused) (sym all.all)
            (used_on e.n e.picks w.input w.output r e.to.comes.meant (left_ended e.n e.picks w.input w.output e.to.saved s) all.later all.may_come);
        untrapped = ap has_trap (ap (λ items. (course_under e.n items r.used).state.emitted) all.all ∙ sym emitted) ∙ s.untrapped;
        ended = λ left. elim s.over [ inl none ↦ absurd (left none) | inr closed ↦ all.ending_is ending.End closed ];
        taken_is =
            put_known w.output taken (text_of r.outcomes) out r.put
            ∙ ap (λ o. Some (taken ++ text_of o)) (emitted ∙ ap (λ items. (course_under e.n items r.used).state.emitted) (sym all.all));
        offered = r.items;
        later = all.later;
        items_are = all.all;
        shot = e.to.saved.shot;
        shot_is = record {
          m = r.m;
          follows = subst (λ o. Follows r.m o all.later (course_under e.n (r.items ++ all.later) r.used)) emitted (r.follows all.later all.may_come.wide);
          shot_is = s.shot_is;
        };
        bytes = e.to.bytes;
        snapshot_is = e.to.snapshot_is;
        stands = e.to.stands;
      }
  save_whole rest taken (finish.Run (end.Stream k)) report input out h e = absurd (e.to.0.is.other (statuses.done_is k h))
  save_whole rest taken (finish.Run (end.Trapped item kind home)) report input out h e = absurd (omega arith)
  save_whole rest taken (finish.Run (end.Stopped fired idle)) report input out h e = absurd e.to
  save_whole rest taken (finish.Differs line) report input out h e = absurd e.to

  -- without a fault it ends with the status that is expected
  save_status_expected : (rest : List ℕ) (f : Finish) (report : Option Stats) → w.input.old.content ≡ Some rest → HasNoFault w → EndsSave w build name output f report → IsSaveStatus w build name rest (finish_status f)
  save_status_expected rest finish.Done report input faultless e =
      let s = e.to.comes.is in
      let r = s.reached in record {
        n = e.n;
        counts = e.counts;
        image = e.image;
        picks = e.picks;
        has = e.has;
        used = r.used;
        unused = r.unused;
        is_used = used_seen e.n e.picks w.input w.output r rest input faultless.input e.to.comes.meant (left_ended e.n e.picks w.input w.output e.to.saved s);
        status_is = elim s.over [
          | inl none ↦ status_done e.n e.picks w.input w.output r rest input faultless.input s.untrapped none
          | inr ended ↦ status_ended e.n e.picks w.input w.output r rest input faultless.input s.untrapped ending.End ended
        ];
      }
  save_status_expected rest (finish.Run (end.Stream k)) report input faultless e =
      let s = e.to.0.is in
      let r = s.reached in record {
        n = e.n;
        counts = e.counts;
        image = e.image;
        picks = e.picks;
        has = e.has;
        used = r.used;
        unused = r.unused;
        is_used = used_seen e.n e.picks w.input w.output r rest input faultless.input e.to.0.meant (λ quiet left. (k, s.close_is));
        status_is = status_ended e.n e.picks w.input w.output r rest input faultless.input s.untrapped k s.close_is;
      }
  save_status_expected rest (finish.Run (end.Trapped item kind home)) report input faultless e =
      let s = e.to.0.is in
      let r = s.reached in record {
        n = e.n;
        counts = e.counts;
        image = e.image;
        picks = e.picks;
        has = e.has;
        used = r.used;
        unused = r.unused;
        is_used = used_seen e.n e.picks w.input w.output r rest input faultless.input e.to.0.meant (λ quiet left. absurd (true_is_not_false (sym s.trapped ∙ quiet)));
        status_is = status_trapped e.n e.picks w.input w.output r rest input faultless.input s.trapped;
      }
  save_status_expected rest (finish.Run (end.Stopped fired idle)) report input faultless e = absurd e.to
  save_status_expected rest (finish.Differs line) report input faultless e = absurd e.to

  -- a fault of reading is answered where the count of the input rose, and else it stays
  save_read : (f : Finish) (report : Option Stats) → EndsSave w build name output f report → finish_status f ≡ status.read → HasRisen w.input
  save_read finish.Done report e h = absurd (omega arith)
  save_read (finish.Run (end.Stream k)) report e h =
      let s = e.to.0.is in
      subst (λ c. GivenCause (closed_so c) w.input) (s.close_is ∙ ap Some (statuses.read_is k h)) s.reached.gives.cause
  save_read (finish.Run (end.Trapped item kind home)) report e h = absurd (omega arith)
  save_read (finish.Run (end.Stopped fired idle)) report e h = absurd e.to
  save_read (finish.Differs line) report e h = absurd e.to

  save_same_faults : (f : Finish) (report : Option Stats) → EndsSave w build name output f report → IsFaultlessStatus (finish_status f) → HasSameFaults w.input
  save_same_faults finish.Done report e h =
      let s = e.to.comes.is in
      unrefused_same_faults s.reached.close w.input (unrefused e.n e.picks w.input w.output e.to.saved s) s.reached.gives.cause
  save_same_faults (finish.Run (end.Stream k)) report e h =
      let s = e.to.0.is in
      ended_same_faults k w.input h.3 (subst (λ c. GivenCause (closed_so c) w.input) s.close_is s.reached.gives.cause)
  save_same_faults (finish.Run (end.Trapped item kind home)) report e h = absurd (h.2 refl)
  save_same_faults (finish.Run (end.Stopped fired idle)) report e h = absurd e.to
  save_same_faults (finish.Differs line) report e h = absurd e.to

  -- it is never stopped
  save_unstopped : (f : Finish) (report : Option Stats) → EndsSave w build name output f report → finish_status f ≡ status.stopped → ⊥
  save_unstopped finish.Done report e h = absurd (omega arith)
  save_unstopped (finish.Run (end.Stream k)) report e h = ending_unstopped k h
  save_unstopped (finish.Run (end.Trapped item kind home)) report e h = absurd (omega arith)
  save_unstopped (finish.Run (end.Stopped fired idle)) report e h = absurd e.to
  save_unstopped (finish.Differs line) report e h = absurd e.to

pub save_lawful : (build : Build) (name output : List ℕ) → Lawful (save_behavior build name output)
save_lawful build name output = record {
  begun = λ w f report e. save_begun w build name output f report e;
  whole = λ w rest taken f report input out h e. save_whole w build name output rest taken f report input out h e;
  status_expected = λ w rest f report input faultless e. save_status_expected w build name output rest f report input faultless e;
  read = λ w f report e h. save_read w build name output f report e h;
  same_faults = λ w f report e h. save_same_faults w build name output f report e h;
  stopped = λ w f report e h. absurd (save_unstopped w build name output f report e h);
  writer = λ w h. record { name = output; one = inl refl; failed = h.2 };
  first_written = λ none. refl;
  reads_first = λ limit before after is. refl;
  touches = λ w some. absurd (some refl);
  ran = λ w run f report is e. absurd cc;
}
