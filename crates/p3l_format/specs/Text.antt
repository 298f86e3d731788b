-- Texts that have to come before or after a value.
use Rattle.std.specs.Prelude.{ℕ, List, [], ◌∷◌, ◌++◌, Option, Some, None, Result, Ok, Err, ◌==◌, if◌then◌else◌}
use Rattle.p3l_format.specs.declared.fault.Cause.TheVariants.{Range}
use Rattle.p3l_format.specs.declared.fault.FieldFault.{FieldFault}
use Rattle.p3l_format.specs.Format.{Format, fault_at, ◌>>=◌}

-- the rest after a text in front, if it is there
abbrev pub after_text : List ℕ → List ℕ → Option (List ℕ)
after_text [] s = Some s
after_text (b ∷ bs) [] = None
after_text (b ∷ bs) (c ∷ s) = if b == c then after_text bs s else None

abbrev pub go_on : {A : Type 0} → (List ℕ → Result A FieldFault) → List ℕ → Option (List ℕ) → Result A FieldFault
go_on read s None = Err (fault_at Range s)
go_on read s (Some rest) = read rest

-- a text, and then a value
unfoldable pub text_then : {A : Type 0} → List ℕ → Format ℕ A → Format ℕ A
text_then text inner = record {
  fits = inner.fits;
  spell = λ v. text ++ inner.spell v;
  read = λ s. go_on inner.read s (after_text text s);
}

-- a value, and then a text
unfoldable pub then_text : {A : Type 0} → Format ℕ A → List ℕ → Format ℕ A
then_text inner text = record {
  fits = inner.fits;
  spell = λ v. inner.spell v ++ text;
  read = λ s. inner.read s >>= λ x. go_on (λ rest. Ok (x.0, rest)) x.1 (after_text text x.1);
}
