-- The names that entries define, and where they are defined.
use Rattle.std.specs.Prelude.{◌≡◌, ℕ, Bool, false, List, drop, nat_le, bytes_eq}
use Rattle.std.specs.List.{list_any}
use Rattle.std.specs.Map.{lookup}
use Rattle.std.specs.Option.{option_map_or}
use Rattle.p3l_ast.specs.declared.position.Spot.{Spot}
use Rattle.p3l_ast.specs.Tree.{EntryTree, constant, defined}

-- the name of an entry, and where it is
abbrev pub entry_spot : EntryTree → Spot
entry_spot (constant at value) = at
entry_spot (defined m) = m.at

-- true if one of these entries defines a name
abbrev pub defines : List EntryTree → List ℕ → Bool
defines entries name = list_any (λ entry. bytes_eq (entry_spot entry).name name) entries

-- by a table of the last places of names, whether a name is defined at a place or after it
abbrev pub defined_from : List (List ℕ × ℕ) → ℕ → List ℕ → Bool
defined_from places from name = option_map_or (λ last. nat_le from last) (lookup (bytes_eq name) places) false

-- a table says of each place which names are defined there or after it
abbrev pub ArePlaces : List EntryTree → List (List ℕ × ℕ) → Type 0
ArePlaces entries places = (from : ℕ) (name : List ℕ) → defined_from places from name ≡ defines (drop from entries) name
