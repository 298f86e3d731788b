-- The variables and constants that the names of a body stand for, and the places of their words in the memory.
use Rattle.std.specs.Prelude.{◌≡◌, ◌≢◌, ℕ, ℤ, pos, ◌+◌, ◌≤◌, List, [], ◌∷◌, ◌++◌, take, drop, map, Option, bytes_eq}
use Rattle.std.specs.List.{AllByRecursion}
use Rattle.std.specs.Map.{lookup}
use Rattle.std.specs.Option.{option_map_or}
use Rattle.p3l_ast.specs.declared.meaning.valuation.Binding.{Binding}
use Rattle.p3l_ast.specs.declared.meaning.valuation.Valuation.{Valuation}
use Rattle.p3l_types.specs.Constants.{Constants}
use Rattle.p3l_types.specs.Shape.{product}
use Rattle.p3l_body.specs.declared.var.Var.{Var}
use Rattle.p3l_body.specs.Eval.{width, constant}
use Rattle.p3l_body.specs.Seq.{SeqTree}
use Rattle.p3l_compile.specs.declared.scope.Slot.{Slot}
use Rattle.p3l_base.specs.Limits.{most_words}

-- the variables of a body with their slots, and the constants before it
pub record Names : Type 0 where
  pub slots : List (List ℕ × Slot)
  pub constants : Constants

-- the variable of a name
abbrev pub found : Names → List ℕ → Option Slot
found names name = lookup (bytes_eq name) names.slots

-- the number of a name that is a constant
abbrev pub constant_of : Names → List ℕ → ℤ
constant_of names name = option_map_or (λ value. value) (lookup (bytes_eq name) names.constants) (pos 0)

-- the binding of a variable in a memory
abbrev pub bound_at : List ℤ → List ℕ × Slot → Binding
bound_at memory p = record { name = p.0; sizes = p.1.sizes; words = take p.1.words (drop p.1.base memory) }

-- the valuation that a memory stands for
abbrev pub valuation_of : Names → List ℤ → ℕ → Valuation
valuation_of names memory turns =
    record { bindings = map (bound_at memory) names.slots ++ map constant names.constants; turns = turns }

-- no name of the variables after one, and no constant, is its name
abbrev pub IsAlone : List ℕ → List (List ℕ × Slot) → Constants → Type 0
IsAlone name slots constants =
    AllByRecursion (λ (p : List ℕ × Slot). p.0 ≢ name) slots × AllByRecursion (λ (c : List ℕ × ℤ). c.0 ≢ name) constants

-- the variables lie one after the other, from a slot on, to the end of the memory
abbrev pub LieFrom : ℕ → List (List ℕ × Slot) → Constants → ℕ → Type 0
LieFrom from [] constants size = from ≡ size
LieFrom from (p ∷ slots) constants size =
    (p.1.base ≡ from) × (p.1.words ≡ product p.1.sizes) × AllByRecursion (λ n. 1 ≤ n) p.1.sizes × (p.1.words ≤ most_words)
    × IsAlone p.0 slots constants × LieFrom (from + p.1.words) slots constants size

abbrev pub IsLaid : Names → ℕ → Type 0
IsLaid names size = LieFrom 0 names.slots names.constants size

-- the slot of a variable whose words lie from a base on
abbrev pub slot_at : ℕ → Var → Slot
slot_at base var = record { sizes = var.shape.sizes; base = base; words = width var }

-- variables that lie one after the other, from a slot on
abbrev pub slots_from : ℕ → List Var → List (List ℕ × Slot)
slots_from base [] = []
slots_from base (var ∷ vars) =
    (var.name, slot_at base var) ∷ slots_from (base + width var) vars

-- the names of a body: its ins, its outs and its local variables, whose words lie in this order
abbrev pub names_of : SeqTree → Names
names_of seq = record { slots = slots_from 0 ((seq.ins ++ seq.outs) ++ seq.locals); constants = seq.constants }
