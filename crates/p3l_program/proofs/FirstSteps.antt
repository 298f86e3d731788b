-- Files that a command writes before its work.
use Rattle.std.proofs.Common.{◌≡◌, ◌≢◌, ℕ, List, [], ◌∷◌, ◌⊎◌, refl, sym, subst, inl, inr}
use Rattle.clap.specs.Words.{Text}
use Rattle.p3l_io.specs.Change.{Change, HasSameContent}
use Rattle.p3l_io.specs.Content.{Held}
use Rattle.p3l_opts.specs.declared.command.Command.{Command}
use Rattle.p3l_opts.specs.Command.{Spells}
use Rattle.p3l_report.specs.declared.verdict.Refusal.{Refusal}
use Rattle.p3l_report.specs.declared.verdict.Verdict.{Verdict}
use Rattle.p3l_report.specs.declared.verdict.Verdict.TheVariants as verdict
use Rattle.p3l_program.specs.Answer.{HasSavedFirst, SpellsWriter}
use Rattle.p3l_program.specs.Command.{saved_first, written_of}
use Rattle.p3l_program.specs.Saved.{AreSaved, KeepsBut, KeepsFirst}
use Rattle.p3l_program.proofs.SavedSteps.{kept_by, kept_no_memory}
use Rattle.p3l_program.proofs.WorkLaws.{lawful}

-- a command that writes files before its work is one that writes files
pub first_writer : (words : List Text) (c : Command) → Spells words c → saved_first c ≢ [] → SpellsWriter words
first_writer words c spelled some = record { command = c; spelled = spelled; writes = λ none. some ((lawful c).first_written none) }

module _ (files : Change Held) (names : List (List ℕ)) where
  -- files that are kept, where there are none of those
  pub first_by : (saves : List (List ℕ × List ℕ)) (v : Verdict) → saves ≡ [] → names ≡ [] → HasSameContent files → KeepsFirst files names saves v
  first_by saves v none written same = subst (λ s. KeepsFirst files names s v) (sym none) (subst (λ n. KeepsFirst files n [] v) (sym written) (kept_by files [] v same))

  -- if memory runs out for the lines, no other file is changed
  pub first_no_memory : (saves : List (List ℕ × List ℕ)) (v : Verdict) → KeepsFirst files names saves v → KeepsFirst files names saves verdict.NoMemory
  first_no_memory [] v h = kept_no_memory files names v h
  first_no_memory (save ∷ saves) v h = (h.0, tt)

  pub unsaved_no_memory : (saves : List (List ℕ × List ℕ)) → saves ≢ [] → KeepsBut files names → KeepsFirst files names saves verdict.NoMemory
  unsaved_no_memory [] some kept = absurd (some refl)
  unsaved_no_memory (save ∷ saves) some kept = (kept, tt)

  -- the files that are changed
  pub kept_first : (saves : List (List ℕ × List ℕ)) (v : Verdict) → KeepsFirst files names saves v → HasSameContent files ⊎ KeepsBut files names
  kept_first [] (verdict.Refused r) h = inl h
  kept_first [] (verdict.Ended f s) h = inr h
  kept_first [] verdict.WriteFault h = inr h
  kept_first [] verdict.NoMemory h = inr h
  kept_first (save ∷ saves) v h = inr h.0

-- by a refusal none, or those that were written before
pub left_first : (words : List Text) (files : Change Held) (c : Command) → Spells words c → (r : Refusal) (saves : List (List ℕ × List ℕ)) → saved_first c ≡ saves → KeepsFirst files (written_of c) saves (verdict.Refused r) →
    HasSameContent files ⊎ HasSavedFirst words files
left_first words files c spelled r [] is h = inl h
left_first words files c spelled r (save ∷ saves) is h =
    inr (record { command = c; spelled = spelled; some = λ none. absurd cc; saved = subst (λ s. AreSaved files s) (sym is) h.1; kept = h.0 })
