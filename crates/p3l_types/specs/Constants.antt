-- Constants, and the numbers that names of them stand for.
use Rattle.std.specs.Prelude.{ℕ, ℤ, pos, negsuc, List, Result, Ok, Err, Option, bytes_eq}
use Rattle.std.specs.Option.{option_map_or}
use Rattle.std.specs.Map.{lookup}
use Rattle.p3l_ast.specs.declared.position.Pos.{Pos}
use Rattle.p3l_ast.specs.declared.refusal.Fault.TheVariants.{UnknownName}
use Rattle.p3l_ast.specs.declared.refusal.SourceRefusal.{SourceRefusal}
use Rattle.p3l_ast.specs.declared.refusal.SourceRefusal.TheVariants.{At}
use Rattle.p3l_ast.specs.declared.port.Num.{Num}
use Rattle.p3l_ast.specs.declared.port.Num.TheVariants.{Digits, Named}

-- constants with their numbers, in the order of the source
abbrev pub Constants : Type 0
Constants = List (List ℕ × ℤ)

-- the number of a constant
abbrev pub constant_of : Constants → List ℕ → Option ℤ
constant_of constants name = lookup (bytes_eq name) constants

-- the position of a number
abbrev pub place_of : Num → Pos
place_of (Digits value place) = place
place_of (Named spot) = spot.pos

-- the value of a number: itself, or the constant of its name, which must be there
abbrev pub number_of : Constants → Num → Result ℤ SourceRefusal
number_of constants (Digits value place) = Ok value
number_of constants (Named spot) = option_map_or Ok (constant_of constants spot.name) (Err (At UnknownName spot.pos))

-- a number that is not negative, and 0 for any other
abbrev pub natural : ℤ → ℕ
natural (pos n) = n
natural (negsuc n) = 0
