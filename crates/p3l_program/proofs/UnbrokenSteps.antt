-- A snapshot that `save` wrote passes the stages of `resume`, and both parts of a run are one.
use Rattle.std.proofs.Common.{◌≡◌, ℕ, ℤ, ◌+◌, ◌*◌, ◌≤◌, Bool, false, List, [], ◌∷◌, ◌++◌, Option, Some, None, refl, sym, ap, subst, ◌∙◌, inl, inr, arith, append-nil}
use Rattle.p3l_base.specs.declared.outcome.Outcome.{Outcome}
use Rattle.p3l_firing.specs.Nodes.{Leaf}
use Rattle.p3l_firing.specs.Run.{Course, run, run_from}
use Rattle.p3l_firing.specs.State.{with_rest}
use Rattle.p3l_firing.specs.Token.{has_trap}
use Rattle.p3l_firing.specs.declared.net.Net.{Net}
use Rattle.p3l_image.specs.declared.image.Image.{Image}
use Rattle.p3l_image.specs.Image.{ImageBeginsNoOther}
use Rattle.p3l_image.specs.laws.Image.{written_spells}
use Rattle.p3l_io.specs.Change.{Change, HasFailed, HasRisen, change}
use Rattle.p3l_io.specs.Content.{Held}
use Rattle.p3l_link.specs.Laws.{EveryNetHasInvariants}
use Rattle.p3l_load.specs.Compiled.{image_of}
use Rattle.p3l_load.specs.Load.{loaded_of}
use Rattle.p3l_firing.specs.NetInvariants.{HaveInWords}
use Rattle.p3l_firing.specs.declared.shot.Shot.{Shot}
use Rattle.p3l_firing.specs.Cut.{after_run, run_with_earlier}
use Rattle.p3l_net.specs.Machine.{IsShaped, Seen, state_of}
use Rattle.p3l_net.specs.Offered.{Follows}
use Rattle.p3l_net.specs.Shot.{restored, shot_of}
use Rattle.p3l_opts.specs.declared.command.Build.{Build}
use Rattle.p3l_opts.specs.declared.command.Sched.{Sched}
use Rattle.p3l_report.specs.declared.stats.Stats.{Stats}
use Rattle.p3l_report.specs.declared.verdict.Finish.{Finish}
use Rattle.p3l_report.specs.declared.verdict.Finish.TheVariants.{Done}
use Rattle.p3l_report.specs.declared.verdict.Refusal.{Refusal}
use Rattle.p3l_report.specs.declared.verdict.Refusal.TheVariants as refusal
use Rattle.p3l_resume.specs.declared.saved.Saved.{Saved}
use Rattle.p3l_resume.specs.Saved.{IsSpelling, SnapshotBeginsNoOther}
use Rattle.p3l_resume_laws.specs.Kept.{IsSoundShot}
use Rattle.p3l_run.specs.declared.end.RunStats.{RunStats}
use Rattle.p3l_run.specs.Laws.{Laws}
use Rattle.p3l_run.specs.Network.{IsRunOn, IsSound, Network, course_of, course_under, picks_of, resumed}
use Rattle.p3l_run.specs.Run.{MayCome}
use Rattle.p3l_run.specs.Start.{IsWithin, Resumption, fresh, uncounted}
use Rattle.p3l_run.proofs.RunSteps.{wide_append}
use Rattle.p3l_run.proofs.WriteSteps.{text_more}
use Rattle.p3l_sched.specs.declared.schedule.Schedule.{Schedule}
use Rattle.p3l_skel.specs.declared.tree.Tree.{Tree}
use Rattle.p3l_skel.specs.Numbers.{firings}
use Rattle.p3l_skel.specs.Tree.{node_at}
use Rattle.p3l_stream.specs.Text.{text_of}
use Rattle.p3l_units.specs.laws.Leaf.{gives_outs}
use Rattle.p3l_program.specs.File.{HasText}
use Rattle.p3l_program.specs.Image.{IsRunnableImage}
use Rattle.p3l_program.specs.Origin.{continued}
use Rattle.p3l_program.specs.Plan.{IsContinued, continued_network, network_in, resumption_of}
use Rattle.p3l_program.specs.Run.{EndsRun}
use Rattle.p3l_program.specs.SaveState.{EndsSave, snapshot, units_of}
use Rattle.p3l_program.specs.Snapshot.{IsSoundFor, snapshot_limit}
use Rattle.p3l_program.specs.Stage.{AllPass, IsRefusedBy, resumable, saved, saved_decoded, saved_loaded, snapshot_stages}
use Rattle.p3l_program.specs.Unbroken.{AreOneRun, EveryResumedRunIsUnbroken, EverySnapshotIsResumed}
use Rattle.p3l_program.specs.World.{World}
use Rattle.p3l_program.proofs.RestoredSteps.{state_back}
use Rattle.p3l_program.proofs.SoundSteps.{sound}
use Rattle.p3l_program.proofs.StageSteps.{passed_all}

-- the snapshot that `save` wrote
module _ (w : World) (build : Build) (picks output : List ℕ) (report : Option Stats) (e : EndsSave w build picks output Done report) where
  abbrev pub image : Image
  image = image_of e.has.imaged.r.tree e.counts e.has.imaged.codes build.capacity

  image_runs : IsRunnableImage image e.image
  image_runs = record {
    is = written_spells image e.image e.has.imaged.image_is.fits e.has.imaged.image_is.bytes_are;
    runs = e.has.imaged.image_is.runs;
  }

  abbrev pub whole : Saved
  whole = snapshot e.to.saved.shot e.image

  whole_spelled : IsSpelling whole e.to.bytes
  whole_spelled = record { fits = e.to.snapshot_is.fits; spelled = e.to.snapshot_is.bytes_are }

  sound_so : IsSoundFor (loaded_of image) e.to.saved.shot
  sound_so = subst (λ (m : Network). IsSoundShot (units_of m) e.counts build.capacity e.to.saved.shot) e.has.imaged.loaded_is e.to.snapshot_is.sound

  network_sound : EveryNetHasInvariants → IsSound (network_in (loaded_of image))
  network_sound has_invariants =
      let runs = e.has.imaged.image_is.runs in
      sound has_invariants image.tree _ e.counts build.capacity image.net (firings image.tree e.counts) runs.whole.lawful runs.whole.counted e.has.imaged.room
      (gives_outs (record { tree = image.tree; codes = image.codes })) runs.linked runs.typed refl

-- files that hold what others held, of which no call failed
abbrev unfailed : Change Held → Change Held
unfailed files = let still = record files.old { faults = 0 } in change still still

none_failed : (files : Change Held) → HasRisen (unfailed files) → ⊥
none_failed files rose = omega arith

-- if the stages of a snapshot pass, they refuse it for a fault of reading alone
only_unread : (files : Change Held) (held : Held) → files.old.content ≡ Some held → (name : List ℕ) (refused : Refusal) → AllPass files (snapshot_stages name) → IsRefusedBy files (snapshot_stages name) refused →
    (refused ≡ refusal.FileFault name) × HasFailed files name
only_unread files held reports name (refusal.FileFault named) passed (inl h) = (ap refusal.FileFault h.0, h.1)
only_unread files held reports name (refusal.FileFault named) passed (inr h) =
    absurd (passed_all (unfailed files) held reports (none_failed files) (saved name ∷ (saved_decoded name ∷ (saved_loaded name ∷ (resumable name ∷ [])))) (refusal.FileFault named) passed.1 h.1)
only_unread files held reports name refused passed by = absurd (passed_all (unfailed files) held reports (none_failed files) (snapshot_stages name) refused passed by)

pub resumed_always : EverySnapshotIsResumed
resumed_always w build picks output name report files e has =
    let bytes = e.to.bytes in
    let runs = image_runs w build picks output report e in
    let spelled = whole_spelled w build picks output report e in
    let kept = whole w build picks output report e in
    let i = image w build picks output report e in
    let passed : AllPass files (snapshot_stages name) = (
      (bytes, has),
      (
        (kept, record { bytes = bytes; has = has; are = spelled }),
        (
          (i, record { bytes = bytes; has = has; are = record { saved = kept; spelled = spelled; are = runs.is } }),
          (
            (i, record { bytes = bytes; has = has; are = record { saved = kept; spelled = spelled; are = runs } }),
            ((i, kept, record { bytes = bytes; has = has; are = record { spelled = spelled; runs = runs; sound = sound_so w build picks output report e } }), tt),
          ),
        ),
      ),
    ) in
    record { passed = passed; only = λ held refused reports by. only_unread files held reports name refused passed by }

abbrev pub GoesOnUnbroken : Type 0
GoesOnUnbroken =
    (m n : Seen) (leaf : Leaf) (outcomes : List Outcome) (u w : List (List ℤ)) (a b : List ℕ)
    → Follows m outcomes w (run m.tree leaf m.net (u ++ w) a) → has_trap outcomes ≡ false
    → state_of n [] ≡ state_of m []
    → run m.tree leaf m.net (u ++ w) (a ++ b)
    ≡ after_run (run m.tree leaf m.net (u ++ w) a) (run_with_earlier outcomes (run_from m.tree leaf m.net (with_rest (state_of n []) w) b))

-- a machine that was saved, and a run that goes on from there, of the same tree and net
module _ (unbroken : GoesOnUnbroken) (leaf : Leaf) (m : Seen) (shaped : IsShaped m) (outcomes : List Outcome) (untrapped : has_trap outcomes ≡ false) (u w : List (List ℤ)) (a b : List ℕ) where
  abbrev IsOne : Tree → Net → Type 0
  IsOne tree net =
      Follows m outcomes w (run tree leaf net (u ++ w) a)
      → run tree leaf net (u ++ w) (a ++ b)
      ≡ after_run (run tree leaf net (u ++ w) a) (run_with_earlier outcomes (run_from tree leaf net (with_rest (state_of (restored tree net (uncounted (shot_of m))) []) w) b))

  one_here : IsOne m.tree m.net
  one_here follows = unbroken m (restored m.tree m.net (uncounted (shot_of m))) leaf outcomes u w a b follows untrapped (state_back m shaped)

  pub one_run : (tree : Tree) (net : Net) → m.tree ≡ tree → m.net ≡ net → IsOne tree net
  one_run tree net tree_is net_is = subst (λ k. IsOne tree k) net_is (subst (λ t. IsOne t m.net) tree_is one_here)

mul_either : (a b : ℕ) → a * b ≡ b * a
mul_either a b = omega arith

-- so it is of a network that goes on from what was saved of the other
module _ (n base rn : Network) (r : Resumption) (n_is : n ≡ base) (rn_is : rn ≡ resumed r base) (starts : base.start ≡ fresh) (laws : Laws base) (u w : List (List ℤ)) (a : List ℕ) (s : Schedule) (first second : List Outcome) (numbers : RunStats)
    (wide : HaveInWords base.tree (u ++ w)) (on : IsRunOn rn s w second numbers)
    (cut : course_under base (u ++ w) (a ++ picks_of rn s w) ≡ after_run (course_under base (u ++ w) a) (run_with_earlier first (course_under (resumed r base) w (picks_of rn s w)))) where
  abbrev b : List ℕ
  b = picks_of rn s w

  cut_so : course_under n (u ++ w) (a ++ b) ≡ after_run (course_under n (u ++ w) a) (run_with_earlier first (course_under rn w b))
  cut_so =
      subst (λ k. course_under k (u ++ w) (a ++ b) ≡ after_run (course_under k (u ++ w) a) (run_with_earlier first (course_under rn w b))) (sym n_is)
      (subst (λ k. course_under base (u ++ w) (a ++ b) ≡ after_run (course_under base (u ++ w) a) (run_with_earlier first (course_under k w b))) (sym rn_is) cut)

  second_so : second ≡ (course_under rn w b).state.emitted
  unfolding course_of
  second_so = on.emitted

  fired_so : numbers.fired ≡ (course_under rn w b).fired
  unfolding course_of
  fired_so = ap (λ (x : RunStats). x.fired) on.stats_are

  idle_so : numbers.idle ≡ (course_under rn w b).idle
  unfolding course_of
  idle_so = ap (λ (x : RunStats). x.idle) on.stats_are

  sent_so : numbers.items ≡ (course_under rn w b).state.sent
  unfolding course_of
  sent_so = ap (λ (x : RunStats). x.items) on.stats_are

  bound_so : numbers.bound ≡ (course_under rn w b).state.sent * rn.firings
  unfolding course_of
  bound_so = ap (λ (x : RunStats). x.bound) on.stats_are

  all_emitted : (course_under n (u ++ w) (a ++ b)).state.emitted ≡ first ++ second
  all_emitted = ap (λ (c : Course). c.state.emitted) cut_so ∙ ap (λ o. first ++ o) (sym second_so)

  all_fired : (course_under n (u ++ w) (a ++ b)).fired ≡ (course_under n (u ++ w) a).fired + numbers.fired
  all_fired = ap (λ (c : Course). c.fired) cut_so ∙ ap (λ k. (course_under n (u ++ w) a).fired + k) (sym fired_so)

  all_sent : (course_under n (u ++ w) (a ++ b)).state.sent ≡ numbers.items
  all_sent = ap (λ (c : Course). c.state.sent) cut_so ∙ sym sent_so

  within : (course_under n (u ++ w) (a ++ b)).fired ≤ n.firings * (course_under n (u ++ w) (a ++ b)).state.sent
  within =
      subst (λ (k : Network). (course_under k (u ++ w) (a ++ b)).fired ≤ k.firings * (course_under k (u ++ w) (a ++ b)).state.sent) (sym n_is)
      (subst (λ start. IsWithin start base.firings (course_under base (u ++ w) (a ++ b)).fired (course_under base (u ++ w) (a ++ b)).state.sent) starts (laws.fired_within (u ++ w) wide (a ++ b)))

  bound_is : numbers.bound ≡ n.firings * (course_under n (u ++ w) (a ++ b)).state.sent
  bound_is =
      bound_so
      ∙ ap (λ (k : Network). (course_under rn w b).state.sent * k.firings) rn_is
      ∙ ap (λ (k : Network). (course_under rn w b).state.sent * k.firings) (sym n_is)
      ∙ ap (λ k. k * n.firings) (sym (ap (λ (c : Course). c.state.sent) cut_so))
      ∙ mul_either (course_under n (u ++ w) (a ++ b)).state.sent n.firings

  pub are_one : AreOneRun n u w a b first second numbers
  are_one = record {
    emitted = all_emitted;
    text = sym (text_more first second) ∙ ap text_of (sym all_emitted);
    fired = all_fired;
    idle = ap (λ (c : Course). c.idle) cut_so ∙ ap (λ k. (course_under n (u ++ w) a).idle + k) (sym idle_so);
    sent = all_sent;
    bounded = subst (λ k. k ≤ numbers.bound) all_fired (subst (λ k. (course_under n (u ++ w) (a ++ b)).fired ≤ k) (sym bound_is) within);
  }

-- one text is held under a name
one_text : (held : Held) (limit : ℕ) (name text other : List ℕ) → held name ≡ Some text → HasText (Some held) limit name other → other ≡ text
one_text held limit name text other a b = (let y = b.holds in cc)

-- `resume` goes on from what `save` wrote
module _ (begins : SnapshotBeginsNoOther) (begins_image : ImageBeginsNoOther) (w after : World) (build : Build) (picks output name : List ℕ) (report stats : Option Stats) (request : Sched) (reported : Bool) (finish : Finish) (held : Held)
    (e : EndsSave w build picks output Done report) (r : EndsRun after (continued name) request None reported finish stats) (files_are : after.files.old.content ≡ Some held) (has : held name ≡ Some e.to.bytes) where
  abbrev base : Network
  base = network_in (loaded_of (image w build picks output report e))

  abbrev there : IsContinued r.has.network.texts r.n
  there = r.has.network.is

  text_is : r.has.network.texts.text ≡ e.to.bytes
  text_is = one_text held snapshot_limit name e.to.bytes r.has.network.texts.text has (subst (λ h. HasText h snapshot_limit name r.has.network.texts.text) files_are r.has.network.have.0)

  saved_is : there.saved ≡ whole w build picks output report e
  saved_is = (begins there.saved (whole w build picks output report e) r.has.network.texts.text e.to.bytes [] there.resumes.spelled (whole_spelled w build picks output report e) (append-nil r.has.network.texts.text ∙ text_is)).0

  image_same : there.i ≡ image w build picks output report e
  image_same =
      (begins_image there.i (image w build picks output report e) there.saved.image e.image [] there.resumes.runs.is (image_runs w build picks output report e).is
      (append-nil there.saved.image ∙ ap (λ (s : Saved). s.image) saved_is)).0

  pub network_is : r.n ≡ continued_network (loaded_of (image w build picks output report e)) e.to.saved.shot
  network_is =
      there.network_is
      ∙ ap (λ (s : Saved). continued_network (loaded_of there.i) s.shot) saved_is
      ∙ ap (λ i. continued_network (loaded_of i) e.to.saved.shot) image_same

  module _ (laws : (n : Network) → IsSound n → Laws n) (has_invariants : EveryNetHasInvariants) (unbroken : GoesOnUnbroken) (later : List (List ℤ)) (may : MayCome r.n r.finishes.close later) where
    abbrev reached_items : List (List ℤ)
    reached_items = e.to.comes.is.reached.items

    abbrev more : List (List ℤ)
    more = r.finishes.items ++ later

    wide_more : HaveInWords base.tree more
    wide_more =
        subst (λ (k : Network). HaveInWords k.tree more) network_is
        (wide_append (node_at r.n.tree 0).ins r.finishes.items later r.finishes.gives.given.wide may.wide)

    wide_first : HaveInWords base.tree reached_items
    wide_first = subst (λ (k : Network). HaveInWords k.tree reached_items) e.has.imaged.loaded_is e.to.comes.is.reached.wide

    wide_there : HaveInWords e.n.tree more
    wide_there = subst (λ (k : Network). HaveInWords k.tree more) (sym e.has.imaged.loaded_is) wide_more

    follows_there : Follows e.to.comes.is.reached.m e.to.comes.is.reached.outcomes more (course_under base (reached_items ++ more) e.to.comes.is.reached.used)
    follows_there =
        subst (λ (k : Network). Follows e.to.comes.is.reached.m e.to.comes.is.reached.outcomes more (course_under k (reached_items ++ more) e.to.comes.is.reached.used)) e.has.imaged.loaded_is
        (e.to.comes.is.reached.follows more wide_there)

    abbrev goes_on_from : Shot → Network
    goes_on_from shot = resumed (resumption_of (loaded_of (image w build picks output report e)) shot) base

    cut_at : (b : List ℕ) → course_under base (reached_items ++ more) (e.to.comes.is.reached.used ++ b)
        ≡ after_run (course_under base (reached_items ++ more) e.to.comes.is.reached.used) (run_with_earlier e.to.comes.is.reached.outcomes (course_under (goes_on_from e.to.saved.shot) more b))
    cut_at b =
        subst (λ (shot : Shot). course_under base (reached_items ++ more) (e.to.comes.is.reached.used ++ b)
        ≡ after_run (course_under base (reached_items ++ more) e.to.comes.is.reached.used) (run_with_earlier e.to.comes.is.reached.outcomes (course_under (goes_on_from shot) more b)))
        (sym e.to.comes.is.shot_is)
        (one_run unbroken base.leaf e.to.comes.is.reached.m e.to.comes.is.shaped e.to.comes.is.reached.outcomes e.to.comes.is.untrapped reached_items more e.to.comes.is.reached.used b base.tree base.net
        (e.to.comes.is.reached.runs.tree ∙ ap (λ (k : Network). k.tree) e.has.imaged.loaded_is) (e.to.comes.is.reached.runs.net ∙ ap (λ (k : Network). k.net) e.has.imaged.loaded_is) follows_there)

    pub one_at : AreOneRun e.n reached_items more e.to.comes.is.reached.used (picks_of r.n r.s more) e.to.comes.is.reached.outcomes r.finishes.outcomes r.ran.stats
    one_at =
        are_one e.n base r.n (resumption_of (loaded_of (image w build picks output report e)) e.to.saved.shot) e.has.imaged.loaded_is network_is refl (laws base (network_sound w build picks output report e has_invariants))
        reached_items more e.to.comes.is.reached.used r.s e.to.comes.is.reached.outcomes r.finishes.outcomes r.ran.stats
        (wide_append (node_at base.tree 0).ins reached_items more wide_first wide_more) (r.finishes.ran later may) (cut_at (picks_of r.n r.s more))

pub unbroken_always : SnapshotBeginsNoOther → ImageBeginsNoOther → ((n : Network) → IsSound n → Laws n) → EveryNetHasInvariants → GoesOnUnbroken → EveryResumedRunIsUnbroken
unbroken_always begins begins_image laws has_invariants unbroken w after build picks output name report stats request reported finish held e r files_are has = record {
  one = λ later may. one_at begins begins_image w after build picks output name report stats request reported finish held e r files_are has laws has_invariants unbroken later may;
}
