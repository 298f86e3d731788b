-- Premises of the answers of commands that write a text, or a file and a text.
use Rattle.std.proofs.Common.{◌≡◌, ℕ, List, Option, Some, refl, sym, ap, inl, ◌∙◌, arith}
use Rattle.p3l_io.specs.Change.{HasRisen}
use Rattle.p3l_io.specs.Content.{Held}
use Rattle.p3l_report.specs.declared.stats.Stats.{Stats}
use Rattle.p3l_report.specs.declared.verdict.Finish.{Finish}
use Rattle.p3l_report.specs.Status as status
use Rattle.p3l_report.specs.Verdict.{finish_status}
use Rattle.p3l_program.specs.Saved.{EndsSaving, SavesWhole, saving_behavior}
use Rattle.p3l_program.specs.Stage.{Stage}
use Rattle.p3l_program.specs.Text.{EndsText, WritesWhole, text_behavior}
use Rattle.p3l_program.specs.World.{World}
use Rattle.p3l_program.proofs.EndSteps.{put_known}
use Rattle.p3l_program.proofs.Lawful.{Lawful}
use Rattle.p3l_program.proofs.TextSteps.{ends_text}

-- a text that was written is whole
text_whole : (w : World) (IsText : List ℕ → Type 0) (rest taken : List ℕ) (finish : Finish) (stats : Option Stats) → w.input.old.content ≡ Some rest → w.output.old.content ≡ Some taken → EndsText w IsText finish stats → WritesWhole w IsText rest taken
text_whole w IsText rest taken finish stats input out e = record {
  text = e.text;
  is = e.is;
  rest_stays = e.input.same_content ∙ input;
  taken_is = put_known w.output taken e.text out e.put;
}

-- and so is one after a file
saving_whole : (w : World) (IsText : List ℕ → Type 0) (name : List ℕ) (IsBytes : List ℕ → Type 0) (rest taken : List ℕ) (finish : Finish) (stats : Option Stats) → w.input.old.content ≡ Some rest → w.output.old.content ≡ Some taken →
    EndsSaving w IsText name IsBytes finish stats → SavesWhole w IsText name IsBytes rest taken
saving_whole w IsText name IsBytes rest taken finish stats input out e = record {
  text = text_whole w IsText rest taken finish stats input out e.ends;
  bytes = e.bytes;
  is = e.is;
  saved = e.saved;
}

-- its end is no fault of reading
no_read : (w : World) (IsText : List ℕ → Type 0) (f : Finish) (stats : Option Stats) → EndsText w IsText f stats → finish_status f ≡ status.read → HasRisen w.input
no_read w IsText f stats e h = absurd (let z = sym (ap finish_status e.finish_is) ∙ h in omega arith)

-- nor a stop
unstopped : (w : World) (IsText : List ℕ → Type 0) (f : Finish) (stats : Option Stats) → EndsText w IsText f stats → finish_status f ≡ status.stopped → ⊥
unstopped w IsText f stats e h = let z = sym (ap finish_status e.finish_is) ∙ h in absurd (omega arith)

pub text_lawful : (stages : List Stage) (IsText : Option Held → List ℕ → Type 0) → Lawful (text_behavior stages IsText)
text_lawful stages IsText = record {
  begun = λ w f stats e. ends_text w (IsText w.files.old.content) f stats e;
  whole = λ w rest taken f stats input out h e. text_whole w (IsText w.files.old.content) rest taken f stats input out e;
  status_expected = λ w rest f stats input faultless e. ap finish_status e.finish_is;
  read = λ w f stats e h. no_read w (IsText w.files.old.content) f stats e h;
  same_faults = λ w f stats e h. e.input.same_faults;
  stopped = λ w f stats e h. unstopped w (IsText w.files.old.content) f stats e h;
  writer = λ w h. absurd h;
  first_written = λ none. refl;
  reads_first = λ limit name after is. refl;
  touches = λ w some. tt;
  ran = λ w run f stats is e. absurd cc;
}

pub saving_lawful : (stages : List Stage) (IsText : Option Held → List ℕ → Type 0) (name : List ℕ) (IsBytes : Option Held → List ℕ → Type 0) →
    Lawful (saving_behavior stages IsText name IsBytes)
saving_lawful stages IsText name IsBytes = record {
  begun = λ w f stats e. ends_text w (IsText w.files.old.content) f stats e.ends;
  whole = λ w rest taken f stats input out h e. saving_whole w (IsText w.files.old.content) name (IsBytes w.files.old.content) rest taken f stats input out e;
  status_expected = λ w rest f stats input faultless e. ap finish_status e.ends.finish_is;
  read = λ w f stats e h. no_read w (IsText w.files.old.content) f stats e.ends h;
  same_faults = λ w f stats e h. e.ends.input.same_faults;
  stopped = λ w f stats e h. unstopped w (IsText w.files.old.content) f stats e.ends h;
  writer = λ w h. record { name = name; one = inl refl; failed = h.1 };
  first_written = λ none. refl;
  reads_first = λ limit name after is. refl;
  touches = λ w some. tt;
  ran = λ w run f stats is e. absurd cc;
}
