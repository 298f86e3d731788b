-- Commands that write a file, and then one text.
use Rattle.std.proofs.Common.{◌≡◌, ℕ, List, [], ◌∷◌, Option, Some, None, refl, sym, ap, subst, inl, inr, append-nil, ◌∙◌}
use Rattle.std.specs.declared.result.Result.TheVariants.{Ok, Err}
use Rattle.p3l_io.specs.Change.{Becomes, Change, HasFailed, HasSameContent, HasSameFaults, IsStill}
use Rattle.p3l_io.specs.Content.{Held, PutsOf}
use Rattle.p3l_report.specs.declared.verdict.Verdict.{Verdict}
use Rattle.p3l_report.specs.declared.verdict.Verdict.TheVariants as verdict
use Rattle.p3l_run.specs.Write.{HasBegun, HasPut}
use Rattle.p3l_program.specs.Load.{IsNotLoaded}
use Rattle.p3l_program.specs.Saved.{EndsSaving, HoldsBut, IsSaved, IsSavingExpected, KeepsBut, KeepsFiles, SaveCause}
use Rattle.p3l_program.specs.Stage.{AllPass, Stage}
use Rattle.p3l_program.specs.Text.{BeginsText, IsWritten}
use Rattle.p3l_program.specs.World.{world}
use Rattle.p3l_program.proofs.TextSteps.{not_loaded}

-- nothing is a front of any text
pub none_put : (out : Change (List ℕ)) → HasSameContent out → HasPut out []
none_put out same = subst (λ new. Becomes (PutsOf (Ok tt) []) out.old.content new) (sym same) (by out.old.content)
  where
    by : (old : Option (List ℕ)) → Becomes (PutsOf (Ok tt) []) old old
    by None = refl
    by (Some taken) = ap Some (sym (append-nil taken))

pub none_begun : (out : Change (List ℕ)) (text : List ℕ) → IsStill out → HasBegun out text
none_begun out text still = record { written = []; more = text; put = none_put out still.same_content; text_is = refl }

-- files that hold what they held keep all others
pub kept_all : (files : Change Held) (names : List (List ℕ)) → HasSameContent files → KeepsBut files names
kept_all files [] h = h
kept_all files (name ∷ names) h = λ held known. by held (h ∙ known)
  where
    by : (held : Held) → files.new.content ≡ Some held → HoldsBut held files.new.content (name ∷ names)
    by held known = subst (λ f. HoldsBut held f (name ∷ names)) (sym known) (λ other out. refl)

pub kept_by : (files : Change Held) (names : List (List ℕ)) (v : Verdict) → HasSameContent files → KeepsFiles files names v
kept_by files names (verdict.Refused refused) h = h
kept_by files names (verdict.Ended finish stats) h = kept_all files names h
kept_by files names verdict.WriteFault h = kept_all files names h
kept_by files names verdict.NoMemory h = kept_all files names h

-- if memory runs out for the lines, no other file is changed
pub kept_no_memory : (files : Change Held) (names : List (List ℕ)) (v : Verdict) → KeepsFiles files names v → KeepsFiles files names verdict.NoMemory
kept_no_memory files names (verdict.Refused r) h = kept_all files names h
kept_no_memory files names (verdict.Ended finish stats) h = h
kept_no_memory files names verdict.WriteFault h = h
kept_no_memory files names verdict.NoMemory h = h

module _ (files : Change Held) (out : Change (List ℕ)) (stages : List Stage) (IsText : List ℕ → Type 0) (name : List ℕ) (IsBytes : List ℕ → Type 0) where
  -- stages that don't pass
  pub saving_refused : (v : Verdict) → IsStill out → IsNotLoaded files stages v → IsSavingExpected files out stages IsText name IsBytes v
  saving_refused v still h input quiet = not_loaded (world files input out) stages (EndsSaving (world files input out) IsText name IsBytes) (BeginsText (world files input out) IsText) (IsStill out × HasFailed files name) v quiet still h

  -- running out of memory before anything was written
  pub saving_unwritten : IsStill out → IsSavingExpected files out stages IsText name IsBytes verdict.NoMemory
  saving_unwritten still input quiet = inl (record { input = quiet; output = still })

  module _ (text bytes : List ℕ) (passed : AllPass files stages) (is : IsText text) (of : IsBytes bytes) where
    -- the file could not be written
    pub saving_failed : (v : Verdict) → IsStill out → SaveCause files name bytes (Err v) → IsSavingExpected files out stages IsText name IsBytes v
    saving_failed (verdict.Refused r) still h input quiet = absurd h
    saving_failed (verdict.Ended finish stats) still h input quiet = absurd h
    saving_failed verdict.WriteFault still h input quiet = record {
      begun = record { passed = passed; begins = record { text = text; is = is; begun = none_begun out text still; input = quiet } };
      fault = inr (still, h);
    }
    saving_failed verdict.NoMemory still h input quiet = inl (record { input = quiet; output = still })

    -- a text that was written after it
    pub saving_expected : (v : Verdict) → IsSaved files name bytes → HasSameFaults files → IsWritten out text v → IsSavingExpected files out stages IsText name IsBytes v
    saving_expected (verdict.Refused r) saved same_faults h input still = absurd h
    saving_expected (verdict.Ended finish stats) saved same_faults h input still = record {
      passed = passed;
      ends = record {
        ends = record { finish_is = h.0; stats_are = h.1; text = text; is = is; put = h.2; input = still };
        bytes = bytes;
        is = of;
        saved = saved;
      };
      files = same_faults;
      output = h.3;
    }
    saving_expected verdict.WriteFault saved same_faults h input still = record {
      begun = record { passed = passed; begins = record { text = text; is = is; begun = h.0; input = still } };
      fault = inl (record { files = same_faults; output = h.1 });
    }
    saving_expected verdict.NoMemory saved same_faults h input still = inr (record { passed = passed; begins = record { text = text; is = is; begun = h; input = still } })
