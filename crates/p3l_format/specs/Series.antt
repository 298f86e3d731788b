-- Values up to a text that ends them, each of a format that depends on what was before it.
use Rattle.std.specs.Prelude.{ℕ, zero, suc, Bool, true, ◌&&◌, List, [], ◌∷◌, ◌++◌, length, Option, Some, None, Result, Ok, Err}
use Rattle.p3l_format.specs.declared.fault.Cause.TheVariants.{Range}
use Rattle.p3l_format.specs.declared.fault.FieldFault.{FieldFault}
use Rattle.p3l_format.specs.Format.{Format, fault_at, ◌>>=◌}
use Rattle.p3l_format.specs.Text.{after_text}

abbrev pub fits_from : {P A : Type 0} → (P → Format ℕ A) → (A → P) → P → List A → Bool
fits_from item next p [] = true
fits_from item next p (v ∷ vs) = (item p).fits v && fits_from item next (next v) vs

abbrev pub spell_from : {P A : Type 0} → (P → Format ℕ A) → (A → P) → P → List A → List ℕ
spell_from item next p [] = []
spell_from item next p (v ∷ vs) = (item p).spell v ++ spell_from item next (next v) vs

-- no value where the end is in front, and else what is read
abbrev pub ended_or : {A : Type 0} → Option (List ℕ) → Result (List A × List ℕ) FieldFault → Result (List A × List ℕ) FieldFault
ended_or (Some rest) read = Ok ([], rest)
ended_or None read = read

-- at most n values
abbrev pub read_from : {P A : Type 0} → (P → Format ℕ A) → (A → P) → List ℕ → ℕ → P → List ℕ → Result (List A × List ℕ) FieldFault
read_from item next stop zero p s = ended_or (after_text stop s) (Err (fault_at Range s))
read_from item next stop (suc n) p s =
    ended_or (after_text stop s) ((item p).read s >>= λ x. read_from item next stop n (next x.0) x.1 >>= λ y. Ok (x.0 ∷ y.0, y.1))

unfoldable pub until : {P A : Type 0} → (P → Format ℕ A) → (A → P) → P → List ℕ → Format ℕ (List A)
until item next p stop = record {
  fits = fits_from item next p;
  spell = λ vs. spell_from item next p vs ++ stop;
  read = λ s. read_from item next stop (suc (length s)) p s;
}
