-- Premises of the answers of `gen`.
use Rattle.std.proofs.Common.{◌≡◌, ℕ, List, [], Option, Some, None, refl, sym, ap, subst, ◌∙◌, arith, append-nil}
use Rattle.p3l_gen.specs.Texts.{costs_text, program_text, stream_text}
use Rattle.p3l_opts.specs.declared.command.Sched.{Sched}
use Rattle.p3l_opts.specs.declared.command.Sched.TheVariants as sched
use Rattle.p3l_report.proofs.Statuses as statuses
use Rattle.p3l_report.specs.declared.stats.Stats.{Stats}
use Rattle.p3l_report.specs.declared.verdict.Finish.{Finish}
use Rattle.p3l_report.specs.Status as status
use Rattle.p3l_report.specs.Verdict.{end_status, finish_status}
use Rattle.p3l_sched.specs.declared.schedule.Schedule.{Schedule}
use Rattle.p3l_sched.specs.declared.schedule.Schedule.TheVariants as schedule
use Rattle.p3l_stream.specs.Items.{items_of}
use Rattle.p3l_run.specs.declared.end.RunEnd.{RunEnd}
use Rattle.p3l_run.specs.declared.end.RunEnd.TheVariants as ends
use Rattle.p3l_run.specs.Network.{course_of, width_of}
use Rattle.p3l_program.specs.Generated.{EndsGen, Gen, GensWhole, IsGenerated, IsPicked, gen_behavior, gen_capacity, saves_with}
use Rattle.p3l_program.specs.Plan.{network_of}
use Rattle.p3l_program.specs.Saved.{names_of}
use Rattle.p3l_program.specs.World.{World}
use Rattle.p3l_program.proofs.EndSteps.{put_known, stream_is}
use Rattle.p3l_program.proofs.Lawful.{Lawful}
use Rattle.p3l_program.proofs.SeenSteps.{stopped_goes, stream_end, text_ends}

-- the items of a run of what is generated don't end with a fault of reading
gen_read : (g : Gen) (f : RunEnd) (text : List ℕ) → IsGenerated g f text → end_status f ≡ status.read → ⊥
gen_read g f text is h =
    let st = stream_is f status.read h (λ e. absurd (omega arith)) (λ e. absurd (omega arith)) in
    let n = network_of is.r is.counts gen_capacity in
    let text = stream_text g.number g.items in
    let seen = items_of (width_of n) text in
    text_ends (width_of n) text (stream_end n (course_of n is.s seen.items) seen.ending st.e f is.ran.ends st.finish_is ∙ statuses.read_is st.e st.status_is)

-- a schedule that is made has no recorded picks
never_recorded : (request : Sched) (s : Schedule) (picks : List ℕ) → IsPicked request s → s ≡ schedule.Recorded picks → ⊥
never_recorded sched.RoundRobin s picks picked is = let z = sym picked ∙ is in absurd cc
never_recorded (sched.Seeded seed) s picks picked is = let z = sym picked ∙ is in absurd cc
never_recorded (sched.File name) s picks picked is = picked

-- so no run of what is generated is stopped
gen_unstopped : (g : Gen) (f : RunEnd) (text : List ℕ) → IsGenerated g f text → end_status f ≡ status.stopped → ⊥
gen_unstopped g f text is h =
    let n = network_of is.r is.counts gen_capacity in
    let seen = items_of (width_of n) (stream_text g.number g.items) in
    never_recorded g.request is.s _ is.picked (is.ran.stops (stopped_goes n (course_of n is.s seen.items) seen.ending f is.ran.ends h))

-- one of status 0 is whole
gen_whole : (w : World) (g : Gen) (rest taken : List ℕ) (f : Finish) (stats : Option Stats) → w.input.old.content ≡ Some rest → w.output.old.content ≡ Some taken → finish_status f ≡ status.done → EndsGen w g f stats → GensWhole w g rest taken
gen_whole w g rest taken f stats input out h e =
    let st = stream_is e.end status.done (sym (ap finish_status e.finish_is) ∙ h) (λ z. absurd (omega arith)) (λ z. absurd (omega arith)) in
    record {
      text = e.text;
      is = subst (λ k. IsGenerated g k e.text) (st.finish_is ∙ ap ends.Stream (statuses.done_is st.e st.status_is)) e.is;
      rest_stays = e.input.same_content ∙ input;
      taken_is = put_known w.output taken e.text out e.put;
      saved = e.saved;
    }

-- texts are saved where a name is given for them
saves_none : (prefix : Option (List ℕ)) (program costs stream : List ℕ) → names_of (saves_with prefix program costs stream) ≡ [] → saves_with prefix program costs stream ≡ []
saves_none None program costs stream none = refl
saves_none (Some prefix) program costs stream none = absurd cc

pub gen_lawful : (g : Gen) → Lawful (gen_behavior g)
gen_lawful g = record {
  begun = λ w f stats e. record {
    text = e.text;
    is = (e.end, e.is);
    begun = record { written = e.text; more = []; put = e.put; text_is = append-nil e.text };
    input = e.input;
  };
  whole = λ w rest taken f stats input out h e. gen_whole w g rest taken f stats input out h e;
  status_expected = λ w rest f stats input faultless e. record {
    end = e.end;
    text = e.text;
    is = e.is;
    status_is = ap finish_status e.finish_is;
    unstopped = λ h. gen_unstopped g e.end e.text e.is (sym (ap finish_status e.finish_is) ∙ h);
  };
  read = λ w f stats e h. absurd (gen_read g e.end e.text e.is (sym (ap finish_status e.finish_is) ∙ h));
  same_faults = λ w f stats e h. e.input.same_faults;
  stopped = λ w f stats e h. gen_unstopped g e.end e.text e.is (sym (ap finish_status e.finish_is) ∙ h);
  writer = λ w h. absurd h;
  first_written = λ none. saves_none g.prefix (program_text g.number) costs_text (stream_text g.number g.items) none;
  reads_first = λ limit name after is. absurd cc;
  touches = λ w some. tt;
  ran = λ w run f stats is e. absurd cc;
}
