-- Commands that write one text.
use Rattle.std.proofs.Common.{ℕ, ◌≤◌, List, [], length, Option, inl, inr, append-nil}
use Rattle.std.specs.declared.result.Result.TheVariants.{Err}
use Rattle.p3l_ast.specs.declared.position.Pos.{Pos}
use Rattle.p3l_ast.specs.declared.refusal.Fault.{Fault}
use Rattle.p3l_ast.specs.declared.refusal.SourceRefusal.{SourceRefusal}
use Rattle.p3l_ast.specs.declared.refusal.SourceRefusal.TheVariants as source
use Rattle.p3l_ast.specs.Tree.{ProgramTree}
use Rattle.p3l_grammar.specs.Grammar.{Spells}
use Rattle.p3l_io.specs.Change.{Change, HasSameFaults, IsStill}
use Rattle.p3l_io.specs.Content.{Held}
use Rattle.p3l_reader.specs.Faults.{IsOnly, IsRefusal}
use Rattle.p3l_report.specs.declared.stats.Stats.{Stats}
use Rattle.p3l_report.specs.declared.verdict.Finish.{Finish}
use Rattle.p3l_report.specs.declared.verdict.Refusal.TheVariants as refusal
use Rattle.p3l_report.specs.declared.verdict.Verdict.{Verdict}
use Rattle.p3l_report.specs.declared.verdict.Verdict.TheVariants as verdict
use Rattle.p3l_program.specs.Expected.{IsExpectedWith}
use Rattle.p3l_program.specs.File.{HasText, text_limit}
use Rattle.p3l_program.specs.Fmt.{HasNoCanonical, IsFaulty, fmt_stages}
use Rattle.p3l_program.specs.Load.{IsNotLoaded}
use Rattle.p3l_program.specs.Stage.{AllPass, Stage}
use Rattle.p3l_program.specs.Text.{BeginsText, EndsText, IsTextExpected, IsWritten}
use Rattle.p3l_program.specs.World.{World, world}

-- a text that is refused spells no program
pub no_canonical : (text : List ℕ) (r : SourceRefusal) → length text ≤ 1048576 → ((program : ProgramTree) → Spells text program → IsOnly program (Err r)) → IsRefusal text r → HasNoCanonical text r
no_canonical text (source.At fault pos) within only first = record { first = first within; no_program = only }
no_canonical text source.NoMemory within only first = first

-- stages that don't pass, where nothing was touched
pub not_loaded : (w : World) (stages : List Stage) (Ends : Finish → Option Stats → Type 0) (Begins Unsaved : Type 0) (v : Verdict) → IsStill w.input → IsStill w.output → IsNotLoaded w.files stages v →
    IsExpectedWith w stages Ends Begins Unsaved v
not_loaded w stages Ends Begins Unsaved (verdict.Refused r) input out h = record { by = h.0; untouched = record { input = input; output = out }; files = h.1 }
not_loaded w stages Ends Begins Unsaved verdict.NoMemory input out h = inl (record { input = input; output = out })
not_loaded w stages Ends Begins Unsaved v input out h = absurd h

-- a text that spells no program stops the stages of `fmt` at their second
pub not_formatted : (files : Change Held) (name text : List ℕ) (fault : Fault) (pos : Pos) → HasText files.old.content text_limit name text → IsFaulty text fault pos → HasSameFaults files →
    IsNotLoaded files (fmt_stages name) (verdict.Refused (refusal.Source fault pos))
not_formatted files name text fault pos has faulty same_faults =
    (inr ((text, has), inl (record { text = text; has = has; first = faulty.first; no_program = faulty.no_program })), same_faults)

module _ (files : Change Held) (out : Change (List ℕ)) (stages : List Stage) (IsText : List ℕ → Type 0) where
  -- stages that don't pass
  pub text_refused : (v : Verdict) → IsStill out → IsNotLoaded files stages v → IsTextExpected files out stages IsText v
  text_refused v still h input quiet = not_loaded (world files input out) stages (EndsText (world files input out) IsText) (BeginsText (world files input out) IsText) ⊥ v quiet still h

  -- a text that was written after stages that pass
  pub text_expected : (text : List ℕ) (v : Verdict) → HasSameFaults files → AllPass files stages → IsText text → IsWritten out text v → IsTextExpected files out stages IsText v
  text_expected text (verdict.Refused r) same_faults passed is h input still = absurd h
  text_expected text (verdict.Ended finish stats) same_faults passed is h input still = record {
    passed = passed;
    ends = record { finish_is = h.0; stats_are = h.1; text = text; is = is; put = h.2; input = still };
    files = same_faults;
    output = h.3;
  }
  text_expected text verdict.WriteFault same_faults passed is h input still = record {
    begun = record { passed = passed; begins = record { text = text; is = is; begun = h.0; input = still } };
    fault = inl (record { files = same_faults; output = h.1 });
  }
  text_expected text verdict.NoMemory same_faults passed is h input still = inr (record {
    passed = passed;
    begins = record { text = text; is = is; begun = h; input = still };
  })

  -- running out of memory before anything was written
  pub text_unwritten : IsStill out → IsTextExpected files out stages IsText verdict.NoMemory
  text_unwritten still input quiet = inl (record { input = quiet; output = still })

-- a text that was written was begun
pub ends_text : (w : World) (IsText : List ℕ → Type 0) (finish : Finish) (stats : Option Stats) → EndsText w IsText finish stats → BeginsText w IsText
ends_text w IsText finish stats e = record {
  text = e.text;
  is = e.is;
  begun = record { written = e.text; more = []; put = e.put; text_is = append-nil e.text };
  input = e.input;
}
