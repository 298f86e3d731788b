-- The places of a module's ports in its token.
use Rattle.std.specs.Prelude.{ℕ, ◌+◌, List, [], ◌∷◌, ◌++◌, Option, bytes_eq, is_some, if◌then◌else◌}
use Rattle.std.specs.Map.{lookup}
use Rattle.p3l_types.specs.Shape.{product}
use Rattle.p3l_body.specs.declared.var.Var.{Var}
use Rattle.p3l_calls.specs.declared.located.Located.{Located}

-- ports by their names, each with its first word and its shape
abbrev pub Locations : Type 0
Locations = List (List ℕ × Located)

-- the ports after n words
abbrev pub locations : ℕ → List Var → Locations
locations start [] = []
locations start (var ∷ vars) =
    (var.name, record { start = start; shape = var.shape }) ∷ locations (start + product var.shape.sizes) vars

-- ports with one more, if its name is not there yet
abbrev pub added : Locations → List ℕ → Located → Locations
added ports name port = if is_some (lookup (bytes_eq name) ports) then ports else ports ++ (name, port) ∷ []

-- the port of a name
abbrev pub located : List Var → List ℕ → Option Located
located vars name = lookup (bytes_eq name) (locations 0 vars)
