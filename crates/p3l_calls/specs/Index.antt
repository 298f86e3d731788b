-- The free indices of a map, which are in the brackets of its arguments.
use Rattle.std.specs.Prelude.{ℕ, ◌==◌, ◌&&◌, not, Bool, true, false, List, [], ◌∷◌, ◌++◌, length, count_by, Option, Some, None, bytes_eq, if◌then◌else◌}
use Rattle.std.specs.List.{list_all, list_any}
use Rattle.p3l_base.specs.declared.slice.Place.{Place}
use Rattle.p3l_base.specs.declared.slice.Place.TheVariants.{Rest, First, Second}
use Rattle.p3l_ast.specs.declared.refusal.Fault.TheVariants.{FreeIndex}
use Rattle.p3l_ast.specs.declared.call.Sub.{Sub}
use Rattle.p3l_ast.specs.declared.call.Sub.TheVariants.{Whole, Free}
use Rattle.p3l_types.specs.Verdict.{Verdict, broken_if, given, kept}
use Rattle.p3l_calls.specs.declared.index.Index.{Index}

-- the free index in a bracket, if there is one, with the size of its dimension
abbrev pub index_in : Sub → ℕ → List Index
index_in Whole size = []
index_in (Free spot) size = record { name = spot.name; size = size } ∷ []

-- the free indices in brackets, each with the size of its dimension
abbrev pub indices_in : List Sub → List ℕ → List Index
indices_in subs [] = []
indices_in [] (size ∷ sizes) = []
indices_in (sub ∷ subs) (size ∷ sizes) = index_in sub size ++ indices_in subs sizes

-- one free index, or two of different names
abbrev pub are_indices : List Index → Bool
are_indices [] = false
are_indices (i ∷ []) = true
are_indices (i ∷ (j ∷ [])) = not (bytes_eq i.name j.name)
are_indices (i ∷ (j ∷ (k ∷ more))) = false

-- one of the indices has this name
abbrev pub is_index : List Index → List ℕ → Bool
is_index indices name = list_any (λ (i : Index). bytes_eq i.name name) indices

-- the free index of this name has this size
abbrev pub is_sized : List Index → List ℕ → ℕ → Bool
is_sized indices name size = list_any (λ (i : Index). bytes_eq i.name name && i.size == size) indices

-- a bracket holds a free index
abbrev pub is_free : Sub → Bool
is_free Whole = false
is_free (Free spot) = true

-- a bracket holds the free index of this name
abbrev pub is_free_of : List ℕ → Sub → Bool
is_free_of name Whole = false
is_free_of name (Free spot) = bytes_eq name spot.name

-- the number of free indices in brackets
abbrev pub free_count : List Sub → ℕ
free_count subs = count_by is_free subs

-- a free index of this name occurs in the brackets
abbrev pub stands_in : List Sub → List ℕ → Bool
stands_in subs name = list_any (is_free_of name) subs

-- the free indices in the brackets are exactly these, each once
abbrev pub has_indices : List Index → List Sub → Bool
has_indices indices subs = free_count subs == length indices && list_all (λ (i : Index). stands_in subs i.name) indices

-- a free index in a bracket after others is one of these, and does not occur in those others
abbrev pub member_rule : List Index → List Sub → Sub → Verdict
member_rule indices before Whole = kept
member_rule indices before (Free spot) =
    broken_if (not (is_index indices spot.name && not (stands_in before spot.name))) FreeIndex spot.pos

-- brackets after others
abbrev pub members_rule : List Index → List Sub → List Sub → Verdict
members_rule indices before [] = kept
members_rule indices before (sub ∷ subs) =
    given (member_rule indices before sub) (λ x. members_rule indices (before ++ sub ∷ []) subs)

-- a free index has its one size
abbrev pub size_rule : List Index → Sub → ℕ → Verdict
size_rule indices Whole size = kept
size_rule indices (Free spot) size = broken_if (not (is_sized indices spot.name size)) FreeIndex spot.pos

-- brackets and the sizes of their dimensions
abbrev pub sizes_rule : List Index → List Sub → List ℕ → Verdict
sizes_rule indices subs [] = kept
sizes_rule indices [] (size ∷ sizes) = kept
sizes_rule indices (sub ∷ subs) (size ∷ sizes) = given (size_rule indices sub size) (λ x. sizes_rule indices subs sizes)

-- the place of a name after the first free index
abbrev pub second_place : List Index → List ℕ → Place
second_place [] name = Rest
second_place (j ∷ more) name = if bytes_eq j.name name then Second else Rest

-- the place of a name among the free indices
abbrev pub place_named : List Index → List ℕ → Place
place_named [] name = Rest
place_named (i ∷ more) name = if bytes_eq i.name name then First else second_place more name

-- the place of a bracket's dimension; after a plain name there is none
abbrev pub place_in : List Index → Option Sub → Place
place_in indices None = Rest
place_in indices (Some Whole) = Rest
place_in indices (Some (Free spot)) = place_named indices spot.name

-- the size of the first free index
abbrev pub first_size : List Index → ℕ
first_size [] = 1
first_size (i ∷ more) = i.size

-- the size of the second free index, and 1 where there is one alone
abbrev pub second_size : List Index → ℕ
second_size [] = 1
second_size (i ∷ more) = first_size more
