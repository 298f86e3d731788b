-- The code of expressions.
use Rattle.std.specs.Prelude.{◌≡◌, ℕ, ℤ, pos, ◌+◌, List, [], ◌∷◌, ◌++◌, length, drop, slice_index, Option, Some, None}
use Rattle.p3l_ast.specs.declared.expression.BinOp.{BinOp}
use Rattle.p3l_ast.specs.declared.expression.BinOp.TheVariants as operators
use Rattle.p3l_ast.specs.Tree.{Phrase, number, read, unary, binary, Phrases, none, more}
use Rattle.p3l_code.specs.declared.instr.Instr.{Instr}
use Rattle.p3l_code.specs.declared.instr.Instr.TheVariants.{Push, Load, Step, LoadAt, Unary, Binary, Jump, JumpZero, JumpNonZero}
use Rattle.p3l_compile.specs.declared.scope.Slot.{Slot}
use Rattle.p3l_compile.specs.Scope.{Names, found, constant_of}

-- the number of instructions that an operator adds to its operands'
abbrev pub operator_size : BinOp → ℕ
operator_size operators.Or = 5
operator_size operators.And = 5
operator_size op = 1

-- an element is read by two instructions more than its indices have, but where there is one index it is
-- tested by the instruction that reads
abbrev pub read_size : Phrases → ℕ → ℕ
read_size none n = 1
read_size (more e none) n = n
read_size (more e (more f is)) n = n + 2

-- the number of instructions of an expression
abbrev mutual
  pub phrase_size : Phrase → ℕ
  phrase_size (number v) = 1
  phrase_size (read x is) = read_size is (index_size is)
  phrase_size (unary op e) = phrase_size e + 1
  phrase_size (binary op a b) = phrase_size a + phrase_size b + operator_size op

  pub index_size : Phrases → ℕ
  index_size none = 0
  index_size (more e is) = phrase_size e + 1 + index_size is

-- a scalar or a constant
abbrev pub scalar_code : Option Slot → ℤ → Instr
scalar_code (Some slot) constant = Load slot.base
scalar_code None constant = Push constant

abbrev pub sizes_in : Option Slot → List ℕ
sizes_in (Some slot) = slot.sizes
sizes_in None = []

abbrev pub element_code : Option Slot → Instr
element_code (Some slot) = LoadAt slot.base slot.words
element_code None = LoadAt 0 1

-- a name with its indices: the code of the first index where it stands alone, and that of all indices
abbrev pub read_code : Option Slot → ℤ → Phrases → List Instr → List Instr → List Instr
read_code slot constant none first index = scalar_code slot constant ∷ []
read_code slot constant (more e none) first index = first ++ element_code slot ∷ []
read_code slot constant (more e (more f is)) first index = Push (pos 0) ∷ (index ++ element_code slot ∷ [])

-- the jump if the left operand of `||` or `&&` decides: past the right one, to the place of the number
-- that it then gives
abbrev pub skip_code : BinOp → ℕ → Instr
skip_code operators.Or to = JumpNonZero to
skip_code op to = JumpZero to

abbrev pub decided : BinOp → ℤ
decided operators.Or = pos 1
decided op = pos 0

-- `||` or `&&`, from a place on: its left operand's code with its size, and its right operand's
abbrev pub short_code : BinOp → ℕ → List Instr → ℕ → (ℕ → List Instr) → ℕ → List Instr
short_code op pc left m right n =
    left ++ (skip_code op (pc + m + n + 4) ∷ (right (pc + m + 1) ++ (Push (pos 0) ∷ Binary operators.Ne ∷ Jump (pc + m + n + 5) ∷ Push (decided op) ∷ [])))

-- an operator, from a place on
abbrev pub operator_code : BinOp → ℕ → List Instr → ℕ → (ℕ → List Instr) → ℕ → List Instr
operator_code operators.Or pc left m right n = short_code operators.Or pc left m right n
operator_code operators.And pc left m right n = short_code operators.And pc left m right n
operator_code op pc left m right n = left ++ (right (pc + m) ++ Binary op ∷ [])

-- the code of an expression that stands at a place
abbrev mutual
  pub phrase_code : Names → ℕ → Phrase → List Instr
  phrase_code scope pc (number v) = Push v ∷ []
  phrase_code scope pc (read x is) =
      read_code (found scope x.name) (constant_of scope x.name) is (first_code scope pc is) (index_code scope (pc + 1) (sizes_in (found scope x.name)) is)
  phrase_code scope pc (unary op e) = phrase_code scope pc e ++ Unary op ∷ []
  phrase_code scope pc (binary op a b) =
      operator_code op pc (phrase_code scope pc a) (phrase_size a) (λ p. phrase_code scope p b) (phrase_size b)

  -- the first index
  pub first_code : Names → ℕ → Phrases → List Instr
  first_code scope pc none = []
  first_code scope pc (more e is) = phrase_code scope pc e

  -- each index, tested against its size
  pub index_code : Names → ℕ → List ℕ → Phrases → List Instr
  index_code scope pc sizes none = []
  index_code scope pc sizes (more e is) =
      phrase_code scope pc e ++ (Step (slice_index sizes 0) ∷ index_code scope (pc + phrase_size e + 1) (drop 1 sizes) is)

-- the number of indices
abbrev pub count_of : Phrases → ℕ
count_of none = 0
count_of (more e is) = count_of is + 1

-- a name with this number of indices is an array of as many sizes, or a scalar or a constant
abbrev pub IsAccess : Option Slot → ℕ → Type 0
IsAccess (Some slot) count = count ≡ length slot.sizes
IsAccess None count = count ≡ 0

-- each name has an index for each of its sizes
abbrev mutual
  pub Fits : Names → Phrase → Type 0
  Fits scope (number v) = Unit {0}
  Fits scope (read x is) = IsAccess (found scope x.name) (count_of is) × FitsAll scope is
  Fits scope (unary op e) = Fits scope e
  Fits scope (binary op a b) = Fits scope a × Fits scope b

  pub FitsAll : Names → Phrases → Type 0
  FitsAll scope none = Unit {0}
  FitsAll scope (more e is) = Fits scope e × FitsAll scope is
