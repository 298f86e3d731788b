-- From the run to a checkpoint to the verdict of `save`.
use Rattle.std.proofs.Common.{◌≡◌, ◌≢◌, ℕ, ℤ, ◌≤◌, Bool, true, false, List, [], ◌∷◌, ◌++◌, ◌⊎◌, inl, inr, length, Option, Some, None, refl, sym, ap, subst, ◌∙◌, arith, append-nil, length-append, if◌then◌else◌}
use Rattle.std.specs.Option.{option_to_list}
use Rattle.std.specs.declared.result.Result.TheVariants.{Ok, Err}
use Rattle.p3l_firing.specs.Run.{run}
use Rattle.p3l_firing.specs.State.{State, first_state, with_rest}
use Rattle.p3l_firing.specs.Typed.{IsTyped}
use Rattle.p3l_firing.specs.Token.{has_trap}
use Rattle.p3l_io.specs.Change.{Change, HasRisen, HasSameContent, HasSameFaults, IsStill}
use Rattle.p3l_io.specs.Content.{Held}
use Rattle.p3l_link.specs.Laws.{IsLinkable}
use Rattle.p3l_link.specs.Net.{linked_net}
use Rattle.p3l_load.specs.declared.loaded.Loaded.{Loaded as LoadedImage}
use Rattle.p3l_firing.specs.NetInvariants.{HaveInWords}
use Rattle.p3l_firing.specs.Shot.{IsCountable}
use Rattle.p3l_firing.specs.Outcomes.{IsPrefixOf}
use Rattle.p3l_net.specs.Machine.{state_of}
use Rattle.p3l_net.specs.Offered.{Follows}
use Rattle.p3l_opts.specs.declared.command.Build.{Build}
use Rattle.p3l_opts.specs.declared.command.Sched.TheVariants as sched
use Rattle.p3l_report.specs.declared.stats.Stats.{Stats}
use Rattle.p3l_report.specs.declared.verdict.Finish.{Finish}
use Rattle.p3l_report.specs.declared.verdict.Finish.TheVariants as finish
use Rattle.p3l_report.specs.declared.verdict.Verdict.{Verdict}
use Rattle.p3l_report.specs.declared.verdict.Verdict.TheVariants as verdict
use Rattle.p3l_report.specs.Status as status
use Rattle.p3l_report.specs.Verdict.{ending_status}
use Rattle.p3l_resume.specs.Saved.{saved_text}
use Rattle.p3l_resume_laws.specs.Kept.{EverySavedShotIsSound, IsOfRun, IsSoundShot}
use Rattle.p3l_resume_laws.specs.Traps.{EveryTableNamesModules}
use Rattle.p3l_template.specs.Units.{Units}
use Rattle.p3l_units.specs.Table.{Served, leaf}
use Rattle.p3l_units.specs.laws.Leaf.{gives_outs}
use Rattle.p3l_run.specs.declared.checkpoint.Checkpoint.{Checkpoint}
use Rattle.p3l_run.specs.declared.end.RunEnd.{RunEnd}
use Rattle.p3l_run.specs.declared.end.RunEnd.TheVariants as end
use Rattle.p3l_run.specs.declared.checkpoint.CheckpointEnd.{CheckpointEnd}
use Rattle.p3l_run.specs.declared.checkpoint.CheckpointEnd.TheVariants as ends
use Rattle.p3l_run.specs.declared.fault.RunFault.{RunFault}
use Rattle.p3l_run.specs.declared.fault.RunFault.TheVariants as fault
use Rattle.p3l_base.specs.declared.outcome.Trap.{Trap}
use Rattle.p3l_run.specs.Checkpoint.{Breaks, IsCheckpointEnd, Reaches}
use Rattle.p3l_run.specs.Checkpoint as checkpoint
use Rattle.p3l_run.specs.Feed.{closed_so}
use Rattle.p3l_run.specs.Laws.{Laws}
use Rattle.p3l_run.specs.Network.{Network, begun_with, course_under, meaning_of, size_of, width_of}
use Rattle.p3l_run.specs.Run.{MayCome, MayEnd, end_of}
use Rattle.p3l_run.specs.Trap.{trap_of}
use Rattle.p3l_run.specs.Write.{HasBegun, WriteCause}
use Rattle.p3l_run.specs.Start.{fresh, state_from}
use Rattle.p3l_run.proofs.RunSteps.{begun_by}
use Rattle.p3l_run.proofs.WriteSteps.{begun_longer, text_begins}
use Rattle.p3l_sched.specs.declared.schedule.Schedule.TheVariants as schedule
use Rattle.p3l_stream.specs.declared.items.Ending.{Ending}
use Rattle.p3l_stream.specs.declared.items.Ending.TheVariants as ending
use Rattle.p3l_stream.specs.Text.{text_of}
use Rattle.p3l_stream.specs.declared.items.Items.{Items}
use Rattle.p3l_program.specs.Load.{IsNotLoaded, LoadsNetwork}
use Rattle.p3l_program.specs.LoadImage.{IsReadyImage}
use Rattle.p3l_program.specs.Plan.{network_in}
use Rattle.p3l_program.specs.Origin.{built}
use Rattle.p3l_program.specs.Run.{seen_of}
use Rattle.p3l_program.specs.SaveState.{BeginsSave, EndsSave, FitsSome, HasImaged, HasPicked, IsMeant, IsReached, IsSaveBegun, IsSaveExpected, IsSaveOf, IsSaveOver, IsSaveSome, IsUnreached, IsUsed, IsWriting, KeepsSave, SavesOver, SavesTo, UnsavedState, save_stages, save_status, snapshot, units_of, unused_status}
use Rattle.p3l_program.specs.Scheduled.{HasPicks}
use Rattle.p3l_program.specs.Stage.{AllPass, build_stages, schedule_stages}
use Rattle.p3l_program.specs.Verdict.{fault_verdict}
use Rattle.p3l_program.specs.World.{world}
use Rattle.p3l_program.proofs.LoadSteps.{not_loaded_front}
use Rattle.p3l_program.proofs.RunSteps.{all_passes, refused_by}
use Rattle.p3l_program.proofs.SavedSteps.{kept_all, kept_by}
use Rattle.p3l_program.proofs.SeenSteps.{GoesOnTo, seen_goes_on}
use Rattle.p3l_program.proofs.TextSteps.{not_loaded}

-- picks are left, so the ending of the stream counts
some_left : (unused : List ℕ) (e : Ending) → unused ≢ [] → unused_status unused e ≡ ending_status e
some_left [] e some = absurd (some refl)
some_left (p ∷ picks) e some = refl

-- a run under picks came so far
module _ (n : Network) (picks : List ℕ) (input out : Change (List ℕ)) (r : Reaches n picks input out) where
  -- it emitted what the network does, whatever items come after those that were offered
  pub emitted_on : (later : List (List ℤ)) → HaveInWords n.tree later → r.outcomes ≡ (course_under n (r.items ++ later) r.used).state.emitted
  unfolding with_rest state_of
  emitted_on later wide = ap (λ (s : State). s.emitted) (r.follows later wide).state

  pub emitted_here : r.outcomes ≡ (course_under n r.items r.used).state.emitted
  emitted_here = emitted_on [] tt ∙ ap (λ items. (course_under n items r.used).state.emitted) (append-nil r.items)

  abbrev breaks_so : Breaks n picks input out
  breaks_so = record {
    stream = r.stream;
    items = r.items;
    closed = closed_so r.close;
    gives = r.gives;
    used = r.used;
    unused = r.unused;
    whole = r.whole;
    emits = λ later may. begun_by (course_under n (r.items ++ later) r.used).state.emitted r.outcomes out ([], append-nil r.outcomes ∙ emitted_on later may.wide) r.put;
  }

  -- so it was begun
  pub begun_so : IsMeant n picks input out r → IsSaveBegun n picks input out
  begun_so meant = record { breaks = breaks_so; begun = begun_by (meaning_of n r.items) r.outcomes out meant.begins r.put }

  -- its outcomes are a prefix of the meaning of its items, and they were all sent if the stream ended
  module _ (laws : Laws n) (starts : n.start ≡ fresh) where
    none_unsent : r.m.inbox ≡ None → (course_under n r.items r.used).state.unsent ≡ []
    unfolding with_rest state_of
    none_unsent none =
        sym (ap (λ items. (course_under n items r.used).state.unsent) (append-nil r.items))
        ∙ sym (ap (λ (s : State). s.unsent) (r.follows [] tt).state)
        ∙ ap (λ i. option_to_list i ++ []) none

    sent_first : (begun_with n r.items).sent ≡ 0
    unfolding first_state
    sent_first = ap (λ s. (state_from s n.tree n.net r.items).sent) starts

    unsent_first : (begun_with n r.items).unsent ≡ r.items
    unfolding first_state
    unsent_first = ap (λ s. (state_from s n.tree n.net r.items).unsent) starts

    pub meant_so : IsMeant n picks input out r
    meant_so = record {
      begins = subst (λ o. IsPrefixOf o (meaning_of n r.items)) (sym emitted_here) (laws.begins r.items r.wide r.used);
      sent = λ e closed.
          let none = ap length (none_unsent (r.request e closed).1) in
          let count = laws.counted r.items r.wide r.used in
          let first = sent_first in
          let all = ap length unsent_first in
          omega (arith, none, count, first, all);
    }

  -- the picks as far as they are made
  pub used_on : IsMeant n picks input out r → (has_trap r.outcomes ≡ false → r.unused ≢ [] → (e : Ending) × (r.close ≡ Some e)) →
      (later : List (List ℤ)) → MayCome n r.close later → IsUsed n (r.items ++ later) picks r.used r.unused
  used_on meant closed later may = record {
    whole = r.whole;
    untrapped = λ front p is. r.untrapped front p is later may.wide;
    filled = λ front p is.
        let below = r.filled front p is later may.wide in
        let size = length-append r.items later in
        omega (arith, below, size);
    over = λ untrapped left.
        let ended = closed (ap has_trap (emitted_on later may.wide) ∙ untrapped) left in
        let none = may.none ended.0 ended.1 in
        subst (λ more. (course_under n (r.items ++ more) r.used).state.sent ≡ length (r.items ++ more)) (sym none)
        (subst (λ items. (course_under n items r.used).state.sent ≡ length items) (sym (append-nil r.items)) (meant.sent ended.0 ended.1));
  }

  -- on an input that reports what is left, where no fault came
  module _ (rest : List ℕ) (known : input.old.content ≡ Some rest) (faultless : HasRisen input → ⊥) where
    abbrev to : GoesOnTo n r.close r.items rest
    to = seen_goes_on n rest input r.close r.stream r.items r.gives known faultless

    pub used_seen : IsMeant n picks input out r → (has_trap r.outcomes ≡ false → r.unused ≢ [] → (e : Ending) × (r.close ≡ Some e)) → IsUsed n (seen_of (width_of n) rest).items picks r.used r.unused
    used_seen meant closed = subst (λ (i : Items). IsUsed n i.items picks r.used r.unused) (sym to.seen) (used_on meant closed to.later to.may_come)

    status_by : (b : Bool) → has_trap r.outcomes ≡ b → save_status n r.used r.unused (seen_of (width_of n) rest) ≡ (if b then status.trap else unused_status r.unused to.e)
    status_by b is =
        ap (λ (i : Items). save_status n r.used r.unused i) to.seen
        ∙ ap (λ t. if t then status.trap else unused_status r.unused to.e) (sym (ap has_trap (emitted_on to.later to.may_come.wide)) ∙ is)

    -- its status is that of what is seen: of a trap, of picks that are ended, and of a stream that ended so
    pub status_trapped : has_trap r.outcomes ≡ true → status.trap ≡ save_status n r.used r.unused (seen_of (width_of n) rest)
    status_trapped trapped = sym (status_by true trapped)

    pub status_done : has_trap r.outcomes ≡ false → r.unused ≡ [] → status.done ≡ save_status n r.used r.unused (seen_of (width_of n) rest)
    status_done quiet none = sym (status_by false quiet ∙ ap (λ unused. unused_status unused to.e) none)

    pub status_ended : has_trap r.outcomes ≡ false → (e : Ending) → r.close ≡ Some e → ending_status e ≡ save_status n r.used r.unused (seen_of (width_of n) rest)
    status_ended quiet e closed =
        let same : e ≡ to.e = subst (λ c. MayEnd c to.e) closed to.may_end in
        ap ending_status same ∙ sym (some_left r.unused to.e (r.request e closed).0) ∙ sym (status_by false quiet)

-- the run of a network under the picks of a file
module _ (n : Network) (files : Change Held) (input out : Change (List ℕ)) (name picks : List ℕ) (has : HasPicks files.old.content (size_of n) name (schedule.Recorded picks)) (laws : Laws n) (starts : n.start ≡ fresh) where
  -- to a checkpoint
  pub reached_so : (saved : Checkpoint) → checkpoint.IsSaved n picks input out saved → IsReached n files input out name saved
  reached_so saved is = record { picks = picks; picks_are = has; comes = record { is = is; meant = meant_so n picks input out is.reached laws starts } }

  -- to another end
  never_stopped : (t : Option Trap) (k : ℕ) (fired idle : ℕ) → end.Stopped fired idle ≡ end_of n.named t k ending.End → ⊥
  never_stopped None k fired idle h = cc
  never_stopped (Some t) k fired idle h = cc

  pub ended_so : (f : RunEnd) → IsCheckpointEnd n picks input out (Ok (ends.Ended f)) → HasSameFaults files → HasSameFaults out → IsUnreached n files input out name (verdict.Ended (finish.Run f) None)
  ended_so (end.Stream e) h same_faults quiet =
      (refl, record { picks = picks; picks_are = has; ends = record { report_is = refl; is = h; meant = meant_so n picks input out h.reached laws starts } }, same_faults, quiet)
  ended_so (end.Trapped item kind home) h same_faults quiet =
      (refl, record { picks = picks; picks_are = has; ends = record { report_is = refl; is = h; meant = meant_so n picks input out h.reached laws starts } }, same_faults, quiet)
  ended_so (end.Stopped fired idle) h same_faults quiet = absurd (never_stopped (trap_of h.reached.outcomes) _ fired idle (h.ends ending.End))

  -- or it failed
  some_broken : Breaks n picks input out → IsSaveSome n files input out name
  some_broken b =
      let there = b.emits [] (record { wide = tt; none = λ e closed. refl }) in
      let here = subst (λ items. HasBegun out (text_of (course_under n items b.used).state.emitted)) (append-nil b.items) there in
      let more = text_begins (course_under n b.items b.used).state.emitted (meaning_of n b.items) (laws.begins b.items b.gives.given.wide b.used) in
      record {
        picks = picks;
        picks_are = has;
        begun = record { breaks = b; begun = begun_longer out (text_of (course_under n b.items b.used).state.emitted) more.0 (text_of (meaning_of n b.items)) here more.1 };
      }

  pub broken_so : (failed : RunFault) → Breaks n picks input out → HasSameFaults files → WriteCause {T = CheckpointEnd} out (Err failed) → IsUnreached n files input out name (fault_verdict failed)
  broken_so fault.Write b same_faults cause = (some_broken b, same_faults, cause)
  broken_so fault.NoMemory b same_faults cause = inr (some_broken b)

-- a network was run under the picks of a file, or not, and its snapshot was written
module _ (n : Network) (counts : List ℕ) (capacity : ℕ) (image : List ℕ) (files : Change Held) (input out : Change (List ℕ)) (name output : List ℕ) where
  ended_early : (picks : List ℕ) → HasPicks files.old.content (size_of n) name (schedule.Recorded picks) → HasSameContent files → HasSameFaults files → HasSameFaults out → (report : Option Stats) → report ≡ None → (f : Finish) →
      SavesTo n counts capacity image picks files input out output None f → IsSaveOf n counts capacity image files input out name output (verdict.Ended f report)
  ended_early picks has same same_faults quiet report none f to = record {
    picks = picks;
    picks_are = has;
    to = subst (λ t. SavesTo n counts capacity image picks files input out output t f) (sym none) to;
    same_file_faults = same_faults;
    same_output_faults = quiet;
  }

  -- it came to no checkpoint
  pub save_unreached : (v : Verdict) → HasSameContent files → IsUnreached n files input out name v → IsSaveOf n counts capacity image files input out name output v
  save_unreached (verdict.Refused r) same h = h
  save_unreached (verdict.Ended (finish.Run (end.Stream e)) report) same h = ended_early h.1.picks h.1.picks_are same h.2 h.3 report h.0 (finish.Run (end.Stream e)) (h.1.ends, same)
  save_unreached (verdict.Ended (finish.Run (end.Trapped item kind home)) report) same h = ended_early h.1.picks h.1.picks_are same h.2 h.3 report h.0 (finish.Run (end.Trapped item kind home)) (h.1.ends, same)
  save_unreached (verdict.Ended finish.Done report) same h = absurd h.1.ends
  save_unreached (verdict.Ended (finish.Run (end.Stopped fired idle)) report) same h = absurd h.1.ends
  save_unreached (verdict.Ended (finish.Differs line) report) same h = absurd h.1.ends
  save_unreached verdict.WriteFault same h = inl h
  save_unreached verdict.NoMemory same h = h

  pub kept_unreached : (v : Verdict) → HasSameContent files → KeepsSave n files input out name output v
  kept_unreached v same = record { kept = kept_by files (output ∷ []) v same; over = inl same }

  -- it came to a checkpoint
  module _ (saved : Checkpoint) (reached : IsReached n files input out name saved) where
    over_so : IsSaveOver n files input out name
    over_so = record { saved = saved; reached = reached }

    some_so : IsSaveSome n files input out name
    some_so = record {
      picks = reached.picks;
      picks_are = reached.picks_are;
      begun = begun_so n reached.picks input out reached.comes.is.reached reached.comes.meant;
    }

    pub save_reached : IsSoundShot (units_of n) counts capacity saved.shot → HasSameFaults out → (v : Verdict) → IsWriting files saved image output v → IsSaveOf n counts capacity image files input out name output v
    save_reached sound quiet (verdict.Refused r) h = absurd h.by
    save_reached sound quiet (verdict.Ended f report) h = record {
      picks = reached.picks;
      picks_are = reached.picks_are;
      to = subst (SavesTo n counts capacity image reached.picks files input out output report) (sym h.0) (record {
        saved = saved;
        comes = reached.comes;
        report_is = h.1;
        bytes = saved_text (snapshot saved.shot image);
        snapshot_is = record { sound = sound; fits = h.2; bytes_are = refl };
        stands = h.3.by.0;
      });
      same_file_faults = h.3.by.1;
      same_output_faults = quiet;
    }
    save_reached sound quiet verdict.WriteFault h = inr (over_so, quiet, h.by)
    save_reached sound quiet verdict.NoMemory h = inr some_so

    pub kept_reached : (v : Verdict) → IsWriting files saved image output v → KeepsSave n files input out name output v
    kept_reached (verdict.Refused r) h = absurd h.by
    kept_reached (verdict.Ended f report) h = record { kept = h.3.kept; over = inr over_so }
    kept_reached verdict.WriteFault h = record { kept = h.kept; over = inr over_so }
    kept_reached verdict.NoMemory (inl h) = record { kept = kept_all files (output ∷ []) h.same_content; over = inr over_so }
    kept_reached verdict.NoMemory (inr h) = record { kept = h.kept; over = inr over_so }

-- a network that is not loaded is not run
pub save_unloaded : (files : Change Held) (input out : Change (List ℕ)) (build : Build) (name output : List ℕ) (v : Verdict) → IsStill input → IsStill out → IsNotLoaded files (build_stages build) v →
    IsSaveExpected (world files input out) build name output v
save_unloaded files input out build name output v still silent h =
    not_loaded (world files input out) (save_stages build name) (EndsSave (world files input out) build name output) (BeginsSave (world files input out) build name) (UnsavedState (world files input out) build name output) v still silent
    (not_loaded_front files (build_stages build) (schedule_stages (built build) (sched.File name)) v h)

-- a network that was loaded with its image is run
module _ (files : Change Held) (input out : Change (List ℕ)) (build : Build) (name : List ℕ) (n : Network) (counts image : List ℕ) (loads : LoadsNetwork files.old.content (built build) n) (has : HasImaged files.old.content build n counts image) where
  passes : (picks : List ℕ) → HasPicks files.old.content (size_of n) name (schedule.Recorded picks) → AllPass files (save_stages build name)
  passes picks h = all_passes files input out (built build) n loads (sched.File name) (schedule.Recorded picks) h

  picked : (picks : List ℕ) → HasPicks files.old.content (size_of n) name (schedule.Recorded picks) → HasPicked files.old.content build name n counts image picks
  picked picks h = record { imaged = has; picks_are = h }

  begins_save : IsSaveSome n files input out name → BeginsSave (world files input out) build name
  begins_save h = record { n = n; counts = counts; image = image; picks = h.picks; has = picked h.picks h.picks_are; begun = h.begun }

  pub saves_over : IsSaveOver n files input out name → SavesOver (world files input out) build name
  saves_over h = record { n = n; counts = counts; image = image; picks = h.reached.picks; has = picked h.reached.picks h.reached.picks_are; saved = h.saved; comes = h.reached.comes }

  -- a file is touched when it came to its checkpoint
  pub save_touched : (output : List ℕ) (v : Verdict) → KeepsSave n files input out name output v → HasSameContent files ⊎ SavesOver (world files input out) build name
  save_touched output v h = elim h.over [ inl same ↦ inl same | inr over ↦ inr (saves_over over) ]

  pub save_expected : (output : List ℕ) (v : Verdict) → IsSaveOf n counts build.capacity image files input out name output v → IsSaveExpected (world files input out) build name output v
  save_expected output (verdict.Refused r) h =
      (let by = refused_by files input out (built build) n loads (sched.File name) r h.0 in record { by = by.0; untouched = record { input = h.1.input_still; output = h.1.output_still }; files = by.1 })
  save_expected output (verdict.Ended f report) h = record {
    passed = passes h.picks h.picks_are;
    ends = record { n = n; counts = counts; image = image; picks = h.picks; has = picked h.picks h.picks_are; to = h.to };
    files = h.same_file_faults;
    output = h.same_output_faults;
  }
  save_expected output verdict.WriteFault (inl h) = record {
    begun = record { passed = passes h.0.picks h.0.picks_are; begins = begins_save h.0 };
    fault = inl (record { files = h.1; output = h.2 });
  }
  save_expected output verdict.WriteFault (inr h) = record {
    begun = record { passed = passes h.0.reached.picks h.0.reached.picks_are; begins = begins_save (some_so n counts build.capacity image files input out name output h.0.saved h.0.reached) };
    fault = inr (saves_over h.0, h.1, h.2);
  }
  save_expected output verdict.NoMemory (inl h) = inl (record { input = h.input_still; output = h.output_still })
  save_expected output verdict.NoMemory (inr h) = inr (record { passed = passes h.picks h.picks_are; begins = begins_save h })

-- a shot of a loaded network is sound, and fits a linked net
module _ (loaded : LoadedImage) (ready : IsReadyImage loaded) (sound_law : EverySavedShotIsSound) (names_law : EveryTableNamesModules) (files : Change Held) (input out : Change (List ℕ)) (name : List ℕ) (saved : Checkpoint) (reached : IsReached (network_in loaded) files input out name saved) where
  abbrev served : Served
  served = record { tree = loaded.tree; codes = loaded.codes }

  abbrev units : Units
  units = record { tree = loaded.tree; leaf = leaf served }

  typed_here : IsTyped loaded.tree (linked_net loaded.tree loaded.counts.list loaded.cap)
  typed_here = subst (IsTyped loaded.tree) ready.net_is ready.typed

  linkable : IsLinkable units loaded.counts.list loaded.cap
  linkable = (let room = ready.room in record { lawful = ready.lawful; fit = ready.fit; room = omega (arith, room); gives = gives_outs served })

  abbrev r : Reaches (network_in loaded) reached.picks input out
  r = reached.comes.is.reached

  of_run : IsOfRun units loaded.counts.list loaded.cap (r.items ++ []) r.used r.m r.outcomes []
  of_run = record {
    net = r.runs.net ∙ ready.net_is;
    shaped = reached.comes.is.shaped;
    follows = subst (λ k. Follows r.m r.outcomes [] (run loaded.tree (leaf served) k (r.items ++ []) r.used)) ready.net_is (r.follows [] tt);
  }

  wide_here : HaveInWords loaded.tree (r.items ++ [])
  wide_here = subst (HaveInWords loaded.tree) (sym (append-nil r.items)) r.wide

  pub sound_shot : IsSoundShot (units_of (network_in loaded)) loaded.counts.list loaded.cap saved.shot
  sound_shot =
      subst (IsSoundShot units loaded.counts.list loaded.cap) (sym reached.comes.is.shot_is)
      (sound_law units loaded.counts.list loaded.cap (r.items ++ []) r.used r.m r.outcomes [] typed_here linkable (names_law served) wide_here of_run
      (subst IsCountable reached.comes.is.shot_is reached.comes.is.countable))

  pub fits_some : loaded.cap ≤ 1024 → FitsSome saved.shot
  fits_some small = record { tree = loaded.tree; counts = loaded.counts.list; capacity = loaded.cap; typed = typed_here; fit = ready.fit; small = small; fits = sound_shot.fitting }
