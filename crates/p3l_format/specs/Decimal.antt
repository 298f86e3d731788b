-- Numbers in decimal, without leading zeros.
use Rattle.std.specs.Prelude.{ℕ, Bool, false, not, ◌&&◌, ◌||◌, List, [], ◌∷◌, length, take, drop, Option, Some, None, Result, Ok, Err, nat_lt, ◌^◌, ◌==◌, bytes_eq, if◌then◌else◌}
use Rattle.std.specs.Char.{is_ascii_digit}
use Rattle.std.specs.List.{position_or_len}
use Rattle.std.specs.Fmt.{decimal}
use Rattle.std.specs.Str.Parse.{digits_value}
use Rattle.p3l_format.specs.declared.fault.Cause.TheVariants.{Range}
use Rattle.p3l_format.specs.declared.fault.FieldFault.{FieldFault}
use Rattle.p3l_format.specs.Format.{Format, fault_at, within}
use Rattle.p3l_format.specs.Numbers.{is_in}
use Rattle.p3l_format.specs.Text.{then_text}

abbrev pub is_no_digit : ℕ → Bool
is_no_digit b = not (is_ascii_digit b)

-- the number of digits in front
abbrev pub digit_len : List ℕ → ℕ
digit_len s = position_or_len is_no_digit s

-- there are digits, and no leading zero
abbrev pub is_plain : List ℕ → Bool
is_plain [] = false
is_plain (d ∷ ds) = length ds == 0 || not (d == 48)

-- the number that digits write in decimal without leading zeros, if it is below the limit
abbrev pub number_of : ℕ → List ℕ → Option ℕ
number_of limit digits =
    if bytes_eq (decimal (digits_value 10 digits)) digits && nat_lt (digits_value 10 digits) limit then Some (digits_value 10 digits) else None

abbrev pub found : {A : Type 0} → Option A → List ℕ → List ℕ → Result (A × List ℕ) FieldFault
found None s rest = Err (fault_at Range s)
found (Some v) s rest = Ok (v, rest)

-- a number below a limit, in decimal; no digit may follow it
unfoldable pub number_text : ℕ → Format ℕ ℕ
number_text limit = record {
  fits = λ n. nat_lt n limit;
  spell = decimal;
  read = λ s. found (number_of limit (take (digit_len s) s)) s (drop (digit_len s) s);
}

-- a number from low to high in decimal, and then a text
abbrev pub number_in : ℕ → ℕ → Format ℕ ℕ
number_in low high = within (is_in low high) (number_text (2 ^ 128))

unfoldable pub number_then : ℕ → ℕ → List ℕ → Format ℕ ℕ
number_then low high text = then_text (number_in low high) text
