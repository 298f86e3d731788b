-- Valuations: the sizes and the words of the names of a body.
use Rattle.std.specs.Prelude.{ℕ, ℤ, ◌+◌, ◌≤◌, pos, length, slice_index, List, [], Option, find, map, bytes_eq, slice_index_or, slice_set, Result, Ok, Err, nat_lt, if◌then◌else◌}
use Rattle.std.specs.Option.{option_map_or}
use Rattle.p3l_base.specs.Limits.{most_sizes, most_words}
use Rattle.p3l_base.specs.declared.outcome.TrapKind.{TrapKind}
use Rattle.p3l_base.specs.declared.outcome.TrapKind.TheVariants.{Budget}
use Rattle.p3l_ast.specs.declared.meaning.valuation.Binding.{Binding}
use Rattle.p3l_ast.specs.declared.meaning.valuation.Valuation.{Valuation}

-- the binding of a name
abbrev pub binding_of : Valuation → List ℕ → Option Binding
binding_of valuation name = find (λ binding. bytes_eq binding.name name) valuation.bindings

-- the sizes of a name, none for a scalar
abbrev pub sizes_of : Valuation → List ℕ → List ℕ
sizes_of valuation name = option_map_or (λ binding. binding.sizes) (binding_of valuation name) []

-- the word of a name at a place, in row-major order
abbrev pub word_of : Valuation → List ℕ → ℕ → ℤ
word_of valuation name place = option_map_or (λ binding. slice_index_or binding.words place (pos 0)) (binding_of valuation name) (pos 0)

-- a name's word is another
abbrev pub rebound : List ℕ → ℕ → ℤ → Binding → Binding
rebound name place word binding =
    if bytes_eq binding.name name then record binding { words = slice_set binding.words place word } else binding

abbrev pub with_word : Valuation → List ℕ → ℕ → ℤ → Valuation
with_word valuation name place word = record valuation { bindings = map (rebound name place word) valuation.bindings }

-- one turn more of a loop, which all loops count together
abbrev pub turned : ℕ → Valuation → Result Valuation TrapKind
turned budget valuation = if nat_lt valuation.turns budget then Ok (record valuation { turns = valuation.turns + 1 }) else Err Budget

-- no name has more sizes than an array may have, nor a size above the most words
pub record HasSizes (valuation : Valuation) : Type 0 where
  pub few : (name : List ℕ) → length (sizes_of valuation name) ≤ most_sizes
  pub small : (name : List ℕ) (k : ℕ) → slice_index (sizes_of valuation name) k ≤ most_words
