-- Verdicts that are expected, and running out of memory in their place.
use Rattle.std.proofs.Common.{◌≡◌, ◌≢◌, ℕ, List, [], ◌∷◌, ◌⊎◌, Option, refl, sym, subst, inl, inr}
use Rattle.std.specs.Option.{option_to_list}
use Rattle.clap.specs.Words.{Text}
use Rattle.p3l_opts.specs.declared.command.Build.{Build}
use Rattle.p3l_opts.specs.declared.command.Command.{Command}
use Rattle.p3l_opts.specs.Command.{Spells}
use Rattle.p3l_io.specs.Change.{Change, HasSameContent, IsStill, Observation, change}
use Rattle.p3l_io.specs.Content.{Held}
use Rattle.p3l_report.specs.declared.verdict.Verdict.{Verdict}
use Rattle.p3l_report.specs.declared.verdict.Verdict.TheVariants as verdict
use Rattle.p3l_program.specs.Answer.{IsExpected}
use Rattle.p3l_program.specs.Behavior.{IsExpectedBy}
use Rattle.p3l_program.specs.Command.{IsExpectedOf, saved_first, work_of, written_of}
use Rattle.p3l_program.specs.Generated.{Gen, IsGenExpected, IsGenUnsaved}
use Rattle.p3l_program.specs.Origin.{Running}
use Rattle.p3l_program.specs.Profile.{IsProfileExpected}
use Rattle.p3l_program.specs.Run.{IsRunExpected, RunsOver}
use Rattle.p3l_program.specs.Saved.{HasOneFailed, IsFileExpected, IsSavingExpected, KeepsBut, KeepsFiles, KeepsFirst}
use Rattle.p3l_program.specs.SaveState.{IsSaveExpected, SavesOver}
use Rattle.p3l_program.specs.Stage.{Stage}
use Rattle.p3l_program.specs.Text.{IsNothing, IsTextExpected}
use Rattle.p3l_program.specs.Time.{IsTimeExpected, TimesOver}
use Rattle.p3l_program.specs.Trace.{IsCheckExpected}
use Rattle.p3l_program.specs.Work.{Work, behavior, check_trace, profile_input, run_generated, run_in_time, run_network, save_file, save_state, write_text}
use Rattle.p3l_program.specs.World.{World, world}
use Rattle.p3l_program.proofs.FirstSteps.{first_no_memory, unsaved_no_memory}
use Rattle.p3l_program.proofs.SavedSteps.{kept_by}
use Rattle.p3l_program.proofs.WorkLaws.{lawful}

-- the verdict of a command stays expected if memory runs out for its lines
command_no_memory : (w : World) (c : Command) (v : Verdict) → IsExpectedOf w c v → IsExpectedOf w c verdict.NoMemory
command_no_memory w c (verdict.Refused r) h = inl h.untouched
command_no_memory w c (verdict.Ended finish stats) h = inr (record { passed = h.passed; begins = (lawful c).begun w finish stats h.ends })
command_no_memory w c verdict.WriteFault h = inr h.begun
command_no_memory w c verdict.NoMemory h = h

pub expected_no_memory : (words : List Text) (w : World) (v : Verdict) → IsExpected words w v → IsExpected words w verdict.NoMemory
expected_no_memory words w v (inl a) = inl (record { command = a.command; spelled = a.spelled; expected = command_no_memory w a.command v a.expected; kept = first_no_memory w.files (written_of a.command) (saved_first a.command) v a.kept; touched = a.touched })
expected_no_memory words w v (inr (inl u)) = inr (inr (inl (record { verdict_is = refl; untouched = u.untouched; kept = u.files.same_content })))
expected_no_memory words w v (inr (inr (inl u))) = inr (inr (inl (record { verdict_is = refl; untouched = u.untouched; kept = u.kept })))
expected_no_memory words w v (inr (inr (inr u))) =
    inl (record { command = u.command; spelled = u.spelled; expected = inl u.untouched; kept = unsaved_no_memory w.files (written_of u.command) (saved_first u.command) u.some u.kept; touched = inr ((lawful u.command).touches w u.some) })

-- an input that is let alone
abbrev pub quiet : Observation (List ℕ) → Change (List ℕ)
quiet observed = change observed observed

still : (observed : Observation (List ℕ)) → IsStill (quiet observed)
still observed = record { same_content = refl; same_faults = refl }

-- a verdict is expected of words that spell a command, by the shape of its work
module _ {words : List Text} {c : Command} (spelled : Spells words c) where
  of_work : (w : World) (k : Work) (v : Verdict) → work_of c ≡ k → IsExpectedBy w (behavior k) v → KeepsFirst w.files (behavior k).written (behavior k).saved_first v →
      HasSameContent w.files ⊎ (behavior k).Touches w → IsExpected words w v
  of_work w k v is expected kept touched = inl (record {
    command = c;
    spelled = spelled;
    expected = subst (λ j. IsExpectedBy w (behavior j) v) (sym is) expected;
    kept = subst (λ j. KeepsFirst w.files (behavior j).written (behavior j).saved_first v) (sym is) kept;
    touched = subst (λ j. HasSameContent w.files ⊎ (behavior j).Touches w) (sym is) touched;
  })

  -- one that runs a network, and one that checks a trace
  module _ {files : Change Held} {input out : Change (List ℕ)} {v : Verdict} where
    pub run_requested : {run : Running} → work_of c ≡ run_network run → IsRunExpected (world files input out) run.origin run.schedule run.trace run.reported v →
        KeepsFiles files (option_to_list run.trace) v → HasSameContent files ⊎ RunsOver (world files input out) run.origin run.schedule → IsExpected words (world files input out) v
    run_requested {run} is expected kept over = of_work (world files input out) (run_network run) v is expected kept over

    pub check_requested : {build : Build} {name : List ℕ} → work_of c ≡ check_trace build name → IsCheckExpected (world files input out) build name v → HasSameContent files →
        IsExpected words (world files input out) v
    check_requested {build} {name} is expected same = of_work (world files input out) (check_trace build name) v is expected (kept_by files [] v same) (inl same)

    -- and one that profiles a program on the input
    pub profile_requested : {name : List ℕ} → work_of c ≡ profile_input name → IsProfileExpected (world files input out) name v → HasSameContent files → IsExpected words (world files input out) v
    profile_requested {name} is expected same = of_work (world files input out) (profile_input name) v is expected (kept_by files [] v same) (inl same)

    -- and one that runs a program in virtual time
    pub time_requested : {build : Build} {name : Option (List ℕ)} → work_of c ≡ run_in_time build name → IsTimeExpected (world files input out) build name v →
        KeepsFiles files (option_to_list name) v → HasSameContent files ⊎ TimesOver (world files input out) build → IsExpected words (world files input out) v
    time_requested {build} {name} is expected kept over = of_work (world files input out) (run_in_time build name) v is expected kept over

    -- and one that runs a program to a checkpoint
    pub save_requested : {build : Build} {picks output : List ℕ} → work_of c ≡ save_state build picks output → IsSaveExpected (world files input out) build picks output v →
        KeepsFiles files (output ∷ []) v → HasSameContent files ⊎ SavesOver (world files input out) build picks → IsExpected words (world files input out) v
    save_requested {build} {picks} {output} is expected kept over = of_work (world files input out) (save_state build picks output) v is expected kept over

  -- those that let the input alone
  module _ {files : Change Held} {out : Change (List ℕ)} {observed : Observation (List ℕ)} {v : Verdict} where
    pub text_requested : {stages : List Stage} {IsText : Option Held → List ℕ → Type 0} → work_of c ≡ write_text stages IsText → IsTextExpected files out stages (IsText files.old.content) v →
        HasSameContent files → IsExpected words (world files (quiet observed) out) v
    text_requested {stages} {IsText} is expected same = of_work (world files (quiet observed) out) (write_text stages IsText) v is (expected (quiet observed) (still observed)) (kept_by files [] v same) (inl same)

    pub saving_requested : {stages : List Stage} {IsText : Option Held → List ℕ → Type 0} {name : List ℕ} {IsBytes : Option Held → List ℕ → Type 0} → work_of c ≡ save_file stages IsText name IsBytes →
        IsSavingExpected files out stages (IsText files.old.content) name (IsBytes files.old.content) v → KeepsFiles files (name ∷ []) v → IsExpected words (world files (quiet observed) out) v
    saving_requested {stages} {IsText} {name} {IsBytes} is expected kept = of_work (world files (quiet observed) out) (save_file stages IsText name IsBytes) v is (expected (quiet observed) (still observed)) kept (inr tt)

    pub file_requested : {stages : List Stage} {name : List ℕ} {IsBytes : Option Held → List ℕ → Type 0} → work_of c ≡ save_file stages (λ held. IsNothing) name IsBytes → IsStill out →
        IsFileExpected files stages name (IsBytes files.old.content) v → KeepsFiles files (name ∷ []) v → IsExpected words (world files (quiet observed) out) v
    file_requested is silent expected kept = saving_requested is (expected out silent) kept

    pub gen_requested : {g : Gen} → work_of c ≡ run_generated g → IsGenExpected files out g v ⊎ IsGenUnsaved files out g v → IsExpected words (world files (quiet observed) out) v
    gen_requested {g} is (inl h) = of_work (world files (quiet observed) out) (run_generated g) v is (h.expected (quiet observed) (still observed)) h.kept (inr tt)
    gen_requested is (inr h) = inr (inr (inr (record {
      verdict_is = h.verdict_is;
      command = c;
      spelled = spelled;
      some = subst (λ j. (behavior j).saved_first ≢ []) (sym is) h.some;
      untouched = record { input = still observed; output = h.silent };
      failed = subst (λ j. HasOneFailed files (behavior j).written) (sym is) h.failed;
      kept = subst (λ j. KeepsBut files (behavior j).written) (sym is) h.kept;
    })))
