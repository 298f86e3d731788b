-- From the reading and the loading of a snapshot to its stages and its network.
use Rattle.std.proofs.Common.{◌≡◌, ℕ, ◌≤◌, List, Option, None, sym, ap, ◌∙◌, inl, inr, subst, refl}
use Rattle.std.specs.declared.result.Result.TheVariants.{Ok, Err}
use Rattle.p3l_format.specs.Format.{read_all}
use Rattle.p3l_image.specs.declared.image.Image.{Image}
use Rattle.p3l_io.specs.Change.{Change, HasSameFaults, change}
use Rattle.p3l_io.specs.Content.{Held}
use Rattle.p3l_load.specs.declared.loaded.Loaded.{Loaded}
use Rattle.p3l_load.specs.Load.{loaded_of}
use Rattle.p3l_report.specs.declared.evidence.Evidence.TheVariants as evidence
use Rattle.p3l_report.specs.declared.verdict.Refusal.TheVariants as refusal
use Rattle.p3l_report.specs.declared.verdict.Verdict.{Verdict}
use Rattle.p3l_report.specs.declared.verdict.Verdict.TheVariants as verdict
use Rattle.p3l_report.specs.Verdict.{verdict_of}
use Rattle.p3l_resume.specs.declared.saved.Saved.{Saved}
use Rattle.p3l_resume.specs.declared.saved.ShotRefusal.{ShotRefusal}
use Rattle.p3l_resume.specs.declared.saved.ShotRefusal.TheVariants as shots
use Rattle.p3l_resume.specs.Refusal.{Answers}
use Rattle.p3l_resume.specs.Saved.{IsSpelling, saved_format}
use Rattle.p3l_run.specs.Network.{Network}
use Rattle.p3l_skel.specs.Numbers.{procs}
use Rattle.p3l_program.specs.declared.snapshot.ResumableNetwork.{ResumableNetwork}
use Rattle.p3l_program.specs.File.{HasText}
use Rattle.p3l_program.specs.Image.{IsImage, IsRunnableImage}
use Rattle.p3l_program.specs.Load.{IsNotLoaded, LoadsNetwork}
use Rattle.p3l_program.specs.LoadImage.{IsUnloadable, LoadsBytes}
use Rattle.p3l_program.specs.LoadSnapshot.{IsReadySnapshot, LoadsSnapshot, ReadsSnapshot}
use Rattle.p3l_program.specs.Origin.{continued}
use Rattle.p3l_program.specs.Plan.{IsContinued, Texts, continued_network}
use Rattle.p3l_program.specs.Snapshot.{HasSnapshot, IsResumable, IsSoundFor, IsUnsound, SpellsBrokenImage, SpellsNoImage, SpellsWith, snapshot_limit}
use Rattle.p3l_program.specs.Stage.{AllPass, snapshot_stages}
use Rattle.p3l_program.proofs.ImageSteps.{ready}

-- bytes spell one snapshot
pub same_saved : (bytes : List ℕ) (saved : Saved) → ((other : Saved) → IsSpelling other bytes → Answers bytes (Ok saved) (Ok other)) → (other : Saved) → IsSpelling other bytes → other ≡ saved
same_saved bytes saved only other is = let z = only other is in cc

-- bytes that are refused stop the stages of a snapshot at their second
pub unread : (files : Change Held) (name bytes : List ℕ) (why : ShotRefusal) → HasText files.old.content snapshot_limit name bytes → ((saved : Saved) → IsSpelling saved bytes → Answers bytes (Err why) (Ok saved)) →
    Answers bytes (Err why) (read_all saved_format bytes) → HasSameFaults files → IsNotLoaded files (snapshot_stages name) (verdict_of (refusal.Evidence (evidence.Shot why)))
unread files name bytes shots.NoMemory has only exact same_faults = same_faults
unread files name bytes (shots.BadShot place) has only exact same_faults =
    (inr ((bytes, has), inl (record { bytes = bytes; has = has; are = record { misread = sym exact; never = λ saved is. let z = only saved is in absurd cc } })), same_faults)

-- a snapshot that was read
module _ (name : List ℕ) (saved : Saved) (files : Change Held) (reads : ReadsSnapshot files.old.content name saved) where
  has_such : (AreSuch : List ℕ → Type 0) → AreSuch reads.bytes → HasSnapshot files.old.content name AreSuch
  has_such AreSuch are = record { bytes = reads.bytes; has = reads.has; are = are }

  has_spelled : HasSnapshot files.old.content name (IsSpelling saved)
  has_spelled = has_such (IsSpelling saved) reads.spelled

  has_image : (i : Image) → IsImage i saved.image → HasSnapshot files.old.content name (SpellsWith (IsImage i))
  has_image i is = has_such (SpellsWith (IsImage i)) (record { saved = saved; spelled = reads.spelled; are = is })

  has_runnable : (i : Image) → IsRunnableImage i saved.image → HasSnapshot files.old.content name (SpellsWith (IsRunnableImage i))
  has_runnable i runs = has_such (SpellsWith (IsRunnableImage i)) (record { saved = saved; spelled = reads.spelled; are = runs })

  -- all stages of one that can be resumed pass
  pub all_pass : (i : Image) → IsResumable i saved reads.bytes → AllPass files (snapshot_stages name)
  all_pass i resumes =
      ((reads.bytes, reads.has), ((saved, has_spelled), ((i, has_image i resumes.runs.is), ((i, has_runnable i resumes.runs), ((i, saved, has_such (IsResumable i saved) resumes), tt)))))

  -- it stops the stages at its image, where that doesn't load
  pub not_loaded_with : HasSameFaults files → (v : Verdict) → IsUnloadable saved.image v → IsNotLoaded files (snapshot_stages name) v
  not_loaded_with same_faults (verdict.Refused (refusal.Evidence (evidence.Image why))) none = (
    inr (
      (reads.bytes, reads.has),
      inr (
        (saved, has_spelled),
        inl (has_such (SpellsNoImage why) (record {
          spells = record { saved = saved; spelled = reads.spelled; are = none };
          never = λ i s. none.never i (subst (λ (o : Saved). IsImage i o.image) (reads.only s.saved s.spelled) s.are);
        })),
      ),
    ),
    same_faults,
  )
  not_loaded_with same_faults (verdict.Refused (refusal.Evidence (evidence.Load why))) broken = (
    inr (
      (reads.bytes, reads.has),
      inr (
        (saved, has_spelled),
        inr (
          (broken.i, has_image broken.i broken.is),
          inl (has_such (SpellsBrokenImage why) (record {
            spells = record { saved = saved; spelled = reads.spelled; are = broken };
            never = λ i s. broken.never i (subst (λ (o : Saved). IsRunnableImage i o.image) (reads.only s.saved s.spelled) s.are);
          })),
        ),
      ),
    ),
    same_faults,
  )
  not_loaded_with same_faults verdict.NoMemory h = same_faults
  not_loaded_with same_faults v h = absurd h

  module _ (loaded : Loaded) (loads : LoadsBytes saved.image loaded) where
    -- of the same bytes, what is said of another image and what was saved with it is said of these
    sound_so : (other : Image) (again : Saved) → IsResumable other again reads.bytes → IsSoundFor loaded saved.shot
    sound_so other again h =
        let same : again ≡ saved = reads.only again h.spelled in
        let image : other ≡ loads.i = loads.only other (subst (λ (s : Saved). IsImage other s.image) same h.runs.is) in
        let here : IsSoundFor (loaded_of other) saved.shot = subst (λ (s : Saved). IsSoundFor (loaded_of other) s.shot) same h.sound in
        subst (λ l. IsSoundFor l saved.shot) (sym loads.loaded_is) (subst (λ i. IsSoundFor (loaded_of i) saved.shot) image here)

    -- it stops them at the end, where no run can be in the state that was saved
    pub not_sound : HasSameFaults files → (IsSoundFor loaded saved.shot → ⊥) → IsNotLoaded files (snapshot_stages name) (verdict.Refused (refusal.Evidence evidence.NotSound))
    not_sound same_faults never = (
      inr (
        (reads.bytes, reads.has),
        inr (
          (saved, has_spelled),
          inr (
            (loads.i, has_image loads.i loads.runs.is),
            inr (
              (loads.i, has_runnable loads.i loads.runs),
              inl (has_such IsUnsound (record {
                i = loads.i;
                saved = saved;
                spelled = reads.spelled;
                runs = loads.runs;
                unsound = λ sound. never (subst (λ l. IsSoundFor l saved.shot) (sym loads.loaded_is) sound);
                never = λ other again h. never (sound_so other again h);
              })),
            ),
          ),
        ),
      ),
      same_faults,
    )

    abbrev whole : ResumableNetwork
    whole = record { network = loaded; shot = saved.shot }

    pub loads_whole : IsSoundFor loaded saved.shot → LoadsSnapshot files.old.content name whole
    loads_whole sound = record {
      i = loads.i;
      loaded_is = loads.loaded_is;
      saved = saved;
      shot_is = refl;
      reads = reads;
      resumable = record { spelled = reads.spelled; runs = loads.runs; sound = subst (λ l. IsSoundFor l saved.shot) loads.loaded_is sound };
      only = loads.only;
      room = loads.room;
      few = loads.few;
    }

    -- a loaded snapshot is ready to be run
    pub ready_whole : IsSoundFor loaded saved.shot → IsReadySnapshot whole
    ready_whole sound = record {
      image = ready saved.image loaded loads;
      sound = sound;
      few_procs = subst (λ (l : Loaded). procs l.tree l.counts.list 0 ≤ 4096) (sym loads.loaded_is) loads.runs.runs.whole.few;
      few_tokens = subst (λ (l : Loaded). l.cap ≤ 1024) (sym loads.loaded_is) loads.few;
    }

module _ (name : List ℕ) (snapshot : ResumableNetwork) where
  module _ (files : Option Held) (loads : LoadsSnapshot files name snapshot) where
    abbrev network : Network
    network = continued_network snapshot.network snapshot.shot

    abbrev texts : Texts
    texts = record { text = loads.reads.bytes; said = None }

    network_is : network ≡ continued_network (loaded_of loads.i) loads.saved.shot
    network_is = ap (λ l. continued_network l snapshot.shot) loads.loaded_is ∙ ap (continued_network (loaded_of loads.i)) loads.shot_is

    -- its network is the one that is requested
    is_continued : IsContinued texts network
    is_continued = record { i = loads.i; saved = loads.saved; resumes = loads.resumable; network_is = network_is }

    -- and the only one
    only_continued : (other : Network) → IsContinued texts other → other ≡ network
    only_continued other o =
        let same : o.saved ≡ loads.saved = loads.reads.only o.saved o.resumes.spelled in
        let image : o.i ≡ loads.i = loads.only o.i (subst (λ (s : Saved). IsImage o.i s.image) same o.resumes.runs.is) in
        o.network_is
        ∙ ap (λ (s : Saved). continued_network (loaded_of o.i) s.shot) same
        ∙ ap (λ i. continued_network (loaded_of i) loads.saved.shot) image
        ∙ sym network_is

  passes : (files : Change Held) → LoadsSnapshot files.old.content name snapshot → AllPass files (snapshot_stages name)
  passes files loads = all_pass name loads.saved files loads.reads loads.i loads.resumable

  -- so the network of the snapshot was loaded
  pub snapshot_network : (files : Option Held) → LoadsSnapshot files name snapshot → LoadsNetwork files (continued name) (continued_network snapshot.network snapshot.shot)
  snapshot_network files loads = record {
    texts = texts files loads;
    have = (loads.reads.has, refl);
    is = is_continued files loads;
    only = only_continued files loads;
    passed = λ change known. passes change (subst (λ f. LoadsSnapshot f name snapshot) (sym known) loads);
  }
