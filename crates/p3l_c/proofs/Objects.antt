-- The objects of declared names.
use Rattle.std.proofs.Common.{◌≡◌, ℕ, ℤ, zero, suc, pos, Bool, true, false, cond, List, [], ◌∷◌, map, length, Option, Some, refl, ap, ◌∙◌, subst}
use Rattle.std.specs.Prelude.{bytes_eq, slice_set, slice_index_or, FitsSigned}
use Rattle.std.specs.List.{AllByRecursion}
use Rattle.std.specs.Option.{option_map_or}
use Rattle.std.specs.Int.{w64}
use Rattle.p3l_ast.specs.declared.meaning.valuation.Binding.{Binding}
use Rattle.p3l_ast.specs.declared.meaning.valuation.Valuation.{Valuation}
use Rattle.p3l_ast.specs.Meaning.Valuation.{sizes_of, word_of, rebound, with_word}
use Rattle.p3l_c.specs.Machine.{object_of}
use Rattle.p3l_c.specs.Translate.{Shapes, declared, given_sizes, sizes_at}
use Rattle.p3l_c.specs.Condition.{HasSizes, IsDeclared, shape_of, shapes_of, IsObject}

-- the object of a name that is declared with so many sizes
pub record Found (o : Option Binding) (sizes : List ℕ) (n : ℕ) : Type 0 where
  pub object : Binding
  pub is : o ≡ Some object
  pub same : object.sizes ≡ sizes
  pub count : n ≡ length object.sizes
  pub good : IsObject object

pub found : (bindings : List Binding) (name : List ℕ) (n : ℕ) → AllByRecursion IsObject bindings → HasSizes (declared (map shape_of bindings) name) n → Found (object_of bindings name) (given_sizes (declared (map shape_of bindings) name)) n
found [] name n all h = absurd h
found (b ∷ bindings) name n all h = by (bytes_eq b.name name) (λ k. found bindings name n all.1 k) h
  where
    by : (t : Bool) → (HasSizes (declared (map shape_of bindings) name) n → Found (object_of bindings name) (given_sizes (declared (map shape_of bindings) name)) n)
        → HasSizes (cond t (Some b.sizes) (declared (map shape_of bindings) name)) n
        → Found (cond t (Some b) (object_of bindings name)) (given_sizes (cond t (Some b.sizes) (declared (map shape_of bindings) name))) n
    by true go k = record { object = b; is = refl; same = refl; count = k; good = all.0 }
    by false go k = go k

-- the same in a valuation with these names
pub found_in : (s : Valuation) (shapes : Shapes) (name : List ℕ) (n : ℕ) → shapes_of s ≡ shapes → AllByRecursion IsObject s.bindings → IsDeclared shapes name n → Found (object_of s.bindings name) (sizes_at shapes name) n
found_in s shapes name n e all h =
    subst (λ l. IsDeclared l name n → Found (object_of s.bindings name) (sizes_at l name) n) e (found s.bindings name n all) h

-- the sizes and the words of a name that is found
pub sizes_found : (s : Valuation) (name : List ℕ) (object : Binding) → object_of s.bindings name ≡ Some object → sizes_of s name ≡ object.sizes
sizes_found s name object h = ap (λ o. option_map_or (λ (b : Binding). b.sizes) o []) h

pub word_found : (s : Valuation) (name : List ℕ) (object : Binding) (place : ℕ) → object_of s.bindings name ≡ Some object → word_of s name place ≡ slice_index_or object.words place (pos 0)
word_found s name object place h = ap (λ o. option_map_or (λ (b : Binding). slice_index_or b.words place (pos 0)) o (pos 0)) h

-- a word that is written changes no name and no size
same_shape : (name : List ℕ) (place : ℕ) (word : ℤ) (b : Binding) → shape_of (rebound name place word b) ≡ shape_of b
same_shape name place word b = by (bytes_eq b.name name)
  where
    by : (t : Bool) → shape_of (cond t (record b { words = slice_set b.words place word }) b) ≡ shape_of b
    by true = refl
    by false = refl

shapes_rebound : (name : List ℕ) (place : ℕ) (word : ℤ) (bindings : List Binding) → map shape_of (map (rebound name place word) bindings) ≡ map shape_of bindings
shapes_rebound name place word [] = refl
shapes_rebound name place word (b ∷ bindings) =
    ap (λ x. x ∷ map shape_of (map (rebound name place word) bindings)) (same_shape name place word b)
    ∙ ap (λ l. shape_of b ∷ l) (shapes_rebound name place word bindings)

pub shapes_written : (s : Valuation) (shapes : Shapes) (name : List ℕ) (place : ℕ) (word : ℤ) → shapes_of s ≡ shapes → shapes_of (with_word s name place word) ≡ shapes
shapes_written s shapes name place word e = shapes_rebound name place word s.bindings ∙ e

-- a number of int64_t that is written leaves objects
set_at : (words : List ℤ) (place k : ℕ) (word : ℤ) → FitsSigned w64 word → ((k : ℕ) → FitsSigned w64 (slice_index_or words k (pos 0))) → FitsSigned w64 (slice_index_or (slice_set words place word) k (pos 0))
set_at [] place k word f h = h k
set_at (x ∷ words) zero zero word f h = f
set_at (x ∷ words) zero (suc k) word f h = h (suc k)
set_at (x ∷ words) (suc place) zero word f h = h zero
set_at (x ∷ words) (suc place) (suc k) word f h = set_at words place k word f (λ j. h (suc j))

set_length : (words : List ℤ) (place : ℕ) (word : ℤ) → length (slice_set words place word) ≡ length words
set_length [] place word = refl
set_length (x ∷ words) zero word = refl
set_length (x ∷ words) (suc place) word = ap suc (set_length words place word)

object_written : (name : List ℕ) (place : ℕ) (word : ℤ) (b : Binding) → FitsSigned w64 word → IsObject b → IsObject (rebound name place word b)
object_written name place word b f o = by (bytes_eq b.name name)
  where
    by : (t : Bool) → IsObject (cond t (record b { words = slice_set b.words place word }) b)
    by true = record { whole = set_length b.words place word ∙ o.whole; sizes = o.sizes; words = λ k. set_at b.words place k word f o.words }
    by false = o

pub objects_written : (name : List ℕ) (place : ℕ) (word : ℤ) (bindings : List Binding) → FitsSigned w64 word → AllByRecursion IsObject bindings → AllByRecursion IsObject (map (rebound name place word) bindings)
objects_written name place word [] f h = tt
objects_written name place word (b ∷ bindings) f h = (object_written name place word b f h.0, objects_written name place word bindings f h.1)
