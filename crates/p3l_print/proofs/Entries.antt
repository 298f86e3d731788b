-- The texts of entries, and of their trees.
use Rattle.std.proofs.Common.{◌≡◌, ℕ, List, [], ◌∷◌, ◌++◌, flat_map, map, refl, ap}
use Rattle.std.specs.List.{join_by}
use Rattle.p3l_ast.specs.declared.program.Entry.{Entry}
use Rattle.p3l_ast.specs.Tree.{entry_tree}
use Rattle.p3l_print.specs.Program.{entry_text}

flat_map-map : {X Y A : Type 0} (f : Y → List A) (g : X → Y) (xs : List X) → flat_map (λ x. f (g x)) xs ≡ flat_map f (map g xs)
flat_map-map f g [] = refl
flat_map-map f g (x ∷ xs) = ap (λ t. f (g x) ++ t) (flat_map-map f g xs)

join_by-map : {X Y A : Type 0} (f : Y → List A) (g : X → Y) (separator : List A) (xs : List X) → join_by (λ x. f (g x)) separator xs ≡ join_by f separator (map g xs)
join_by-map f g separator [] = refl
join_by-map f g separator (x ∷ xs) = ap (λ t. f (g x) ++ t) (flat_map-map (λ y. separator ++ f y) g xs)

pub entries_text : (separator : List ℕ) (entries : List Entry) → join_by (λ entry. entry_text (entry_tree entry)) separator entries ≡ join_by entry_text separator (map entry_tree entries)
entries_text separator entries = join_by-map entry_text entry_tree separator entries
