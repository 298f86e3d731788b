-- The text that was written, piece by piece.
use Rattle.std.proofs.Common.{◌≡◌, ℕ, List, [], ◌∷◌, ◌++◌, Option, Some, None, take, drop, refl, sym, ap, subst, ◌∙◌, append_assoc, append-nil}
use Rattle.std.proofs.lemmas.List.{take-append-drop}
use Rattle.std.specs.declared.result.Result.TheVariants.{Ok, Err}
use Rattle.p3l_base.specs.declared.outcome.Outcome.{Outcome}
use Rattle.p3l_base.specs.declared.outcome.Outcome.TheVariants.{Value, Trapped}
use Rattle.p3l_io.specs.declared.fault.Failed.{Failed}
use Rattle.p3l_io.specs.Change.{Becomes, Change, HasSameFaults, Observation, Rose, change}
use Rattle.p3l_io.specs.Content.{Puts, PutsOf}
use Rattle.p3l_firing.specs.Outcomes.{IsPrefixOf}
use Rattle.p3l_stream.specs.Text.{item_text, text_of}
use Rattle.p3l_run.specs.declared.fault.RunFault.{RunFault}
use Rattle.p3l_run.specs.declared.fault.RunFault.TheVariants as fault
use Rattle.p3l_run.specs.Write.{HasBegun, HasPut, WriteCause}

-- nothing was written yet
pub put_nothing : (output : Observation (List ℕ)) → HasPut (change output output) []
put_nothing output = by output.content
  where
    by : (content : Option (List ℕ)) → Becomes (PutsOf (Ok tt) []) content content
    by None = refl
    by (Some content) = ap Some (sym (append-nil content))

-- one text after another
pub put_more : (old mid new : Observation (List ℕ)) (first second : List ℕ) → HasPut (change old mid) first → HasPut (change mid new) second → HasPut (change old new) (first ++ second)
put_more old mid new first second = by old.content mid.content new.content
  where
    by : (old mid new : Option (List ℕ)) → Becomes (PutsOf (Ok tt) first) old mid → Becomes (PutsOf (Ok tt) second) mid new → Becomes (PutsOf (Ok tt) (first ++ second)) old new
    by None mid new a b = subst (λ m. Becomes (PutsOf (Ok tt) second) m new) a b
    by (Some content) mid new a b =
        let c : new ≡ Some ((content ++ first) ++ second) = subst (λ m. Becomes (PutsOf (Ok tt) second) m new) a b in
        c ∙ ap Some (append_assoc content first second)

-- a put that failed
pub put_failed : (output : Change (List ℕ)) (piece : List ℕ) (failed : Failed) → Puts output (Err failed) piece → HasBegun output piece
put_failed output piece failed puts =
    let begun = by output.old.content output.new.content puts in
    record { written = begun.0; more = begun.1; put = begun.2; text_is = begun.3 }
  where
    by : (old new : Option (List ℕ)) → Becomes (PutsOf (Err failed) piece) old new → (written more : List ℕ) × Becomes (PutsOf (Ok tt) written) old new × (written ++ more ≡ piece)
    by None new p = ([], piece, p, refl)
    by (Some content) new p = (take p.0 piece, drop p.0 piece, p.1, take-append-drop p.0 piece)

-- a text that was written whole begins itself, and each text that goes on with it
pub begun_whole : (output : Change (List ℕ)) (text more whole : List ℕ) → HasPut output text → text ++ more ≡ whole → HasBegun output whole
begun_whole output text more whole p e = record { written = text; more = more; put = p; text_is = e }

-- a text that was begun after another
pub begun_more : (old mid new : Observation (List ℕ)) (first second : List ℕ) → HasPut (change old mid) first → HasBegun (change mid new) second → HasBegun (change old new) (first ++ second)
begun_more old mid new first second a b = record {
  written = first ++ b.written;
  more = b.more;
  put = put_more old mid new first b.written a b.put;
  text_is = append_assoc first b.written b.more ∙ ap (λ t. first ++ t) b.text_is;
}

-- a beginning of a text begins each text that goes on with it
pub begun_longer : (output : Change (List ℕ)) (text more whole : List ℕ) → HasBegun output text → text ++ more ≡ whole → HasBegun output whole
begun_longer output text more whole b e = record {
  written = b.written;
  more = b.more ++ more;
  put = b.put;
  text_is = sym (append_assoc b.written b.more more) ∙ ap (λ t. t ++ more) b.text_is ∙ e;
}

-- the text of outcomes, one list after another
pub text_more : (first second : List Outcome) → text_of (first ++ second) ≡ text_of first ++ text_of second
text_more [] second = refl
text_more (Value words ∷ first) second = ap (λ t. item_text words ++ t) (text_more first second) ∙ sym (append_assoc (item_text words) (text_of first) (text_of second))
text_more (Trapped trap ∷ first) second = text_more first second

-- the text of outcomes begins that of the outcomes that go on with them
pub text_begins : (first whole : List Outcome) → IsPrefixOf first whole → (more : List ℕ) × (text_of first ++ more ≡ text_of whole)
text_begins first whole p = (text_of p.0, sym (text_more first p.0) ∙ ap text_of p.1)

-- a fault that is handed on, with the count from before
pub cause_on : (T U : Type 0) (before mid now : Observation (List ℕ)) (failed : RunFault) → HasSameFaults (change before mid) → WriteCause {T = U} (change mid now) (Err failed) → WriteCause {T = T} (change before now) (Err failed)
cause_on T U before mid now fault.Write same cause = subst (λ k. Rose k now.faults) same cause
cause_on T U before mid now fault.NoMemory same cause = cause ∙ same
