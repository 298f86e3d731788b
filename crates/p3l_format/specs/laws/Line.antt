-- Lines are lawful.
use Rattle.std.proofs.Common.{◌≡◌, ℕ, List, [], ◌∷◌, Result, Ok, Err, refl}
use Rattle.p3l_format.specs.declared.fault.FieldFault.{FieldFault}
use Rattle.p3l_format.specs.Format.{Format}
use Rattle.p3l_format.specs.Lawful.{IsLawful}
use Rattle.p3l_format.specs.Line.{at_line, line, number_line}
use Rattle.p3l_format.specs.laws.Formats.{lawful_from, taken}
use Rattle.p3l_format.specs.laws.Text.{lawful_text_then}
use Rattle.p3l_format.specs.laws.Decimal.{lawful_number_then}

at_line_ok : {A : Type 0} (s : List ℕ) (r : Result A FieldFault) (x : A) → at_line s r ≡ Ok x → r ≡ Ok x
at_line_ok s (Ok y) x e = e
at_line_ok s (Err d) x e = absurd cc

pub lawful_line : {A : Type 0} (inner : Format ℕ A) → IsLawful inner → IsLawful (line inner)
unfolding line
lawful_line inner law = lawful_from (line inner)
    (λ v rest fits. rw (law.again v rest fits) refl)
    (λ s x e. let t = taken inner law s x (at_line_ok s (inner.read s) x e) in record { fits = t.fits; is = t.is })

pub lawful_number_line : (word : List ℕ) (low high : ℕ) → IsLawful (number_line word low high)
unfolding number_line
lawful_number_line word low high = lawful_line _ (lawful_text_then word _ (lawful_number_then low high (10 ∷ []) (λ rest. refl)))
