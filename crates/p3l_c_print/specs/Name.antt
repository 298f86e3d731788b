-- The identifiers of C for the variables of a body, and literals for its constants.
use Rattle.std.specs.Prelude.{ℕ, ℤ, pos, negsuc, ◌+◌, ◌-◌, ◌^◌, ◌==◌, List, [], ◌∷◌, ◌++◌, map, take, codes, Option, Some, None, bytes_eq, is_some, if◌then◌else◌}
use Rattle.std.specs.Fmt.{decimal}
use Rattle.std.specs.Fmt.Cut.{floor_char_boundary}
use Rattle.std.specs.Map.{lookup}
use Rattle.p3l_types.specs.Constants.{Constants, constant_of}
use Rattle.p3l_body.specs.declared.var.Var.{Var}
use Rattle.p3l_body.specs.Seq.{SeqTree}
use Rattle.p3l_c.specs.Translate.{Shapes}
use Rattle.p3l_c_print.specs.declared.names.Kind.{Kind}
use Rattle.p3l_c_print.specs.declared.names.Kind.TheVariants.{In, Out, Local}
use Rattle.p3l_c_print.specs.declared.names.VariablePlace.{VariablePlace}

-- 6.4.4.1: no literal is negative
unfoldable pub literal_text : ℤ → List ℕ
literal_text (pos n) = codes "INT64_C(" ++ (decimal n ++ codes ")")
literal_text (negsuc n) = if n == 2 ^ 63 - 1 then codes "INT64_MIN" else codes "(-INT64_C(" ++ (decimal (n + 1) ++ codes "))")

-- the variables of a body by their names, the constants before it, and the number of its module
pub record Names : Type 0 where
  pub places : List (List ℕ × VariablePlace)
  pub constants : Constants
  pub home : ℕ

abbrev pub kind_text : Kind → List ℕ
kind_text In = codes "in"
kind_text Out = codes "out"
kind_text Local = codes "v"

-- 6.4.2.1p6, 5.2.4.1: every compiler tells identifiers apart by their first 63 characters. Before the name
-- stand at most 24: `out`, the 20 digits of a number, and `_`.
abbrev pub most_kept : ℕ
most_kept = 39

-- the first characters of a name, which an identifier has
unfoldable pub kept_name : List ℕ → List ℕ
kept_name name = take (floor_char_boundary name most_kept) name

-- the identifier of a variable: the number tells it from those of its kind
abbrev pub place_text : List ℕ → VariablePlace → List ℕ
place_text name place = kind_text place.kind ++ (decimal place.number ++ (codes "_" ++ kept_name name))

-- a constant is written as its number, with its name in a comment; a checked body has no other name
abbrev pub constant_text : List ℕ → Option ℤ → List ℕ
constant_text name None = kept_name name
constant_text name (Some value) = literal_text value ++ (codes " /* " ++ (name ++ codes " */"))

abbrev pub found_text : Names → List ℕ → Option VariablePlace → List ℕ
found_text names name None = constant_text name (constant_of names.constants name)
found_text names name (Some place) = place_text name place

-- THE TEXT of an object
unfoldable pub name_text : Names → List ℕ → List ℕ
name_text names name = found_text names name (lookup (bytes_eq name) names.places)

-- the names with one more variable, if it has a new name
abbrev pub entered : Kind → ℕ → Var → List (List ℕ × VariablePlace) → List (List ℕ × VariablePlace)
entered kind number var places =
    if is_some (lookup (bytes_eq var.name) places) then places
    else places ++ (var.name, record { kind = kind; number = number; sizes = var.shape.sizes }) ∷ []

-- the names with more variables, of which the first has this number
unfoldable pub all_entered : Kind → ℕ → List Var → List (List ℕ × VariablePlace) → List (List ℕ × VariablePlace)
all_entered kind number [] places = places
all_entered kind number (var ∷ vars) places = all_entered kind (number + 1) vars (entered kind number var places)

-- the names of a body
abbrev pub names_of : SeqTree → Names
names_of seq = record {
  places = all_entered Local 0 seq.locals (all_entered Out 0 seq.outs (all_entered In 0 seq.ins []));
  constants = seq.constants;
  home = seq.home;
}

-- the variables with their sizes
abbrev pub shape_of : List ℕ × VariablePlace → List ℕ × List ℕ
shape_of p = (p.0, p.1.sizes)

abbrev pub shapes_of : Names → Shapes
shapes_of names = map shape_of names.places
