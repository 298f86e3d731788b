-- The texts of ports, and of the numbers of sizes and clauses.
use Rattle.std.specs.Prelude.{ℕ, List, ◌++◌, flat_map, codes}
use Rattle.std.specs.Fmt.{signed_decimal}
use Rattle.p3l_ast.specs.declared.port.Num.{Num}
use Rattle.p3l_ast.specs.declared.port.Num.TheVariants.{Digits, Named}
use Rattle.p3l_ast.specs.declared.port.Port.{Port}

-- a number by its digits, or the name of a constant
abbrev pub num_text : Num → List ℕ
num_text (Digits value pos) = signed_decimal value
num_text (Named spot) = spot.name

-- a size stands in brackets
abbrev pub size_text : Num → List ℕ
size_text size = codes "[" ++ num_text size ++ codes "]"

abbrev pub port_text : Port → List ℕ
port_text port = codes "int " ++ port.at.name ++ flat_map size_text port.sizes
