-- The conditions under which a checked body can be compiled, and the meaning of its code then.
use Rattle.std.specs.Prelude.{◌≡◌, ◌≢◌, ℕ, ℤ, ◌+◌, ◌≤◌, ◌<◌, List, [], ◌∷◌, ◌++◌, length, None, bytes_eq}
use Rattle.std.specs.List.{AllByRecursion}
use Rattle.std.specs.Map.{lookup}
use Rattle.p3l_types.specs.Constants.{Constants}
use Rattle.p3l_body.specs.declared.var.Var.{Var}
use Rattle.p3l_body.specs.Eval.{width, eval}
use Rattle.p3l_body.specs.Seq.{SeqTree}
use Rattle.p3l_code.specs.declared.instr.Code.{Code}
use Rattle.p3l_code.specs.declared.instr.Instr.{Instr}
use Rattle.p3l_code.specs.declared.instr.Instr.TheVariants.{End}
use Rattle.p3l_code.specs.Machine.{exec}
use Rattle.p3l_compile.specs.declared.scope.Slot.{Slot}
use Rattle.p3l_compile.specs.Scope.{slot_at, names_of}
use Rattle.p3l_compile.specs.Statement.{FitsCode, statement_code}
use Rattle.p3l_compile.specs.Limits.{KeepsLimits, code_items}
use Rattle.p3l_base.specs.Limits.{most_budget, most_words}

-- the number of words of variables
abbrev pub total : List Var → ℕ
total [] = 0
total (var ∷ vars) = width var + total vars

-- the names of variables differ from each other and from those of constants
abbrev pub Differ : List Var → Constants → Type 0
Differ [] constants = Unit {0}
Differ (var ∷ vars) constants =
    AllByRecursion (λ (other : Var). other.name ≢ var.name) vars × AllByRecursion (λ (c : List ℕ × ℤ). c.0 ≢ var.name) constants
    × Differ vars constants

-- a variable has at most 65,536 words, and no size of 0
pub record IsArray (var : Var) : Type 0 where
  pub some : AllByRecursion (λ n. 1 ≤ n) var.shape.sizes
  pub few : width var ≤ most_words

-- variables that lie one after the other from a slot on have names that no variable before them has
abbrev pub AreFresh : List (List ℕ × Slot) → ℕ → List Var → Type 0
AreFresh slots base [] = Unit {0}
AreFresh slots base (var ∷ vars) =
    (lookup (bytes_eq var.name) slots ≡ None) × AreFresh (slots ++ (var.name, slot_at base var) ∷ []) (base + width var) vars

-- the names of a body differ, its variables and its budget are in their limits, its statements speak
-- of its names alone, with as many indices as sizes, and keep the limits of bodies
pub record IsCompilable (seq : SeqTree) : Type 0 where
  pub differ : Differ ((seq.ins ++ seq.outs) ++ seq.locals) seq.constants
  pub arrays : AllByRecursion IsArray ((seq.ins ++ seq.outs) ++ seq.locals)
  pub few_ins : total seq.ins ≤ most_words
  pub few_outs : total seq.outs ≤ most_words
  pub few_locals : total seq.locals ≤ most_words
  pub some_budget : 1 ≤ seq.budget
  pub small_budget : seq.budget ≤ most_budget
  pub fits : FitsCode (names_of seq) seq.body
  pub limits : KeepsLimits seq.body
  pub few : code_items seq.body < 1048576

-- the instructions of a body: those of its statements, and the end
abbrev pub body_code : SeqTree → List Instr
body_code seq = statement_code (names_of seq) 0 seq.body ++ End ∷ []

-- THE CODE of a body: its instructions with its budget, and the words of its ins, its outs and all its variables
abbrev pub code_of : SeqTree → Code
code_of seq = record {
  budget = seq.budget;
  ins = total seq.ins;
  outs = total seq.outs;
  memory = total ((seq.ins ++ seq.outs) ++ seq.locals);
  instrs = body_code seq;
}

-- a code is that of a body, and on all in words its outcome is the body's meaning
pub record Compiles (seq : SeqTree) (code : Code) : Type 0 where
  pub is : code ≡ code_of seq
  pub means : (words : List ℤ) → length words ≡ total seq.ins → exec code seq.home words ≡ eval seq words
