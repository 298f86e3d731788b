-- Puts on a sink that reports what it took.
use Rattle.std.proofs.Common.{◌≡◌, ℕ, List, [], ◌++◌, Option, Some, length, take, sym, ap, subst, ◌∙◌, append_assoc, append-nil}
use Rattle.std.proofs.Math.Seq.{take-length}
use Rattle.std.specs.declared.result.Result.{Result}
use Rattle.std.specs.declared.result.Result.TheVariants.{Ok, Err}
use Rattle.p3l_io.specs.declared.fault.Failed.{Failed}
use Rattle.p3l_io.specs.Causes.{HasCause}
use Rattle.p3l_io.specs.Change.{Becomes, Change, HasRisen}
use Rattle.p3l_io.specs.Content.{Puts, PutsOf}
use Rattle.p3l_report.specs.Report.{PutsFront, PutsFronts}

-- if the count of faults does not rise, the piece was put
pub put_said : (sink : Change (List ℕ)) (said piece : List ℕ) (result : Result (Unit {0}) Failed) → sink.old.content ≡ Some said → Puts sink result piece → HasCause sink result → (HasRisen sink → ⊥) →
    sink.new.content ≡ Some (said ++ piece)
put_said sink said piece (Ok done) known p h kept = subst (λ old. Becomes (PutsOf (Ok done) piece) old sink.new.content) known p
put_said sink said piece (Err failed) known p h kept = absurd (kept h.failed)

-- otherwise a prefix of it was put
pub front_said : (sink : Change (List ℕ)) (said piece : List ℕ) (result : Result (Unit {0}) Failed) → sink.old.content ≡ Some said → Puts sink result piece → PutsFront said sink.new.content piece
front_said sink said piece result known p = by result (subst (λ old. Becomes (PutsOf result piece) old sink.new.content) known p)
  where
    by : (result : Result (Unit {0}) Failed) → PutsOf result piece said sink.new.content → PutsFront said sink.new.content piece
    by (Ok done) p = record { size = length piece; put = p ∙ ap (λ t. Some (said ++ t)) (sym (take-length piece)) }
    by (Err failed) p = record { size = p.0; put = p.1 }

-- nothing is a prefix of no line
pub front_none : (old : Option (List ℕ)) (said : List ℕ) → old ≡ Some said → PutsFront said old []
front_none old said e = record { size = 0; put = e ∙ ap Some (sym (append-nil said)) }

-- prefixes of two lines, one after the other
pub fronts_said : (old mid new : Option (List ℕ)) (said first second : List ℕ) → old ≡ Some said → ((before : List ℕ) → old ≡ Some before → PutsFront before mid first) → ((before : List ℕ) → mid ≡ Some before → PutsFront before new second) →
    PutsFronts said new first second
fronts_said old mid new said first second e one two =
    let a = one said e in
    let b = two (said ++ take a.size first) a.put in record {
      first_size = a.size;
      second_size = b.size;
      put = b.put ∙ ap Some (append_assoc said (take a.size first) (take b.size second));
    }
