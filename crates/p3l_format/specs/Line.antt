-- Lines, each ended by a line feed, and the lines in which faults are reported.
use Rattle.std.specs.Prelude.{ℕ, List, [], ◌∷◌, length, take, Result, Ok, Err, ◌+◌, ◌-◌, ◌==◌, count_by}
use Rattle.p3l_format.specs.declared.fault.Cause.TheVariants.{Range}
use Rattle.p3l_format.specs.declared.fault.FieldFault.{FieldFault}
use Rattle.p3l_format.specs.declared.fault.ReadError.{ReadError}
use Rattle.p3l_format.specs.declared.fault.ReadError.TheVariants as errors
use Rattle.p3l_format.specs.Format.{Format, fault_at}
use Rattle.p3l_format.specs.Text.{text_then}
use Rattle.p3l_format.specs.Decimal.{number_then}

-- a fault is reported at the start of the line
abbrev pub at_line : {A : Type 0} → List ℕ → Result A FieldFault → Result A FieldFault
at_line s (Ok x) = Ok x
at_line s (Err fault) = Err (fault_at Range s)

unfoldable pub line : {A : Type 0} → Format ℕ A → Format ℕ A
line inner = record {
  fits = inner.fits;
  spell = inner.spell;
  read = λ s. at_line s (inner.read s);
}

-- the number of the line in which n bytes are left, from 1
abbrev pub line_number : List ℕ → ℕ → ℕ
line_number bytes left = count_by (λ b. b == 10) (take (length bytes - left) bytes) + 1

-- an error in a line, reported at its start
abbrev pub line_error : List ℕ → ReadError → ReadError
line_error s errors.NoMemory = errors.NoMemory
line_error s (errors.Wrong fault) = errors.Wrong (fault_at Range s)

-- a line of a word and a number
unfoldable pub number_line : List ℕ → ℕ → ℕ → Format ℕ ℕ
number_line word low high = line (text_then word (number_then low high (10 ∷ [])))
