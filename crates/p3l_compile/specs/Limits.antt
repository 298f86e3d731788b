-- The limits of bodies: at most 256 operators in one expression with all its parts, indices nested at
-- most 64 deep, and fewer than 1,048,576 statements, targets, numbers and operators together.
use Rattle.std.specs.Prelude.{ℕ, ◌+◌, ◌≤◌, max}
use Rattle.p3l_ast.specs.Tree.{Phrase, number, read, unary, binary, Phrases, none, more, Statements, done, assign, if_, if_else, while_, for_}

-- the number of operators of an expression, those of its indices too
abbrev mutual
  pub operators : Phrase → ℕ
  operators (number v) = 0
  operators (read x is) = index_operators is
  operators (unary op e) = operators e + 1
  operators (binary op a b) = operators a + operators b + 1

  pub index_operators : Phrases → ℕ
  index_operators none = 0
  index_operators (more e is) = operators e + index_operators is

-- the depth to which the indices of an expression nest
abbrev mutual
  pub nesting : Phrase → ℕ
  nesting (number v) = 0
  nesting (read x is) = index_nesting is
  nesting (unary op e) = nesting e
  nesting (binary op a b) = max (nesting a) (nesting b)

  pub index_nesting : Phrases → ℕ
  index_nesting none = 0
  index_nesting (more e is) = max (nesting e + 1) (index_nesting is)

-- the number of targets, numbers and operators of an expression
abbrev mutual
  pub items : Phrase → ℕ
  items (number v) = 1
  items (read x is) = index_items is + 1
  items (unary op e) = items e + 1
  items (binary op a b) = items a + items b + 1

  pub index_items : Phrases → ℕ
  index_items none = 0
  index_items (more e is) = items e + index_items is

-- the number of those in statements, with the statements themselves
abbrev pub code_items : Statements → ℕ
code_items done = 0
code_items (assign x is e next) = index_items is + items e + 2 + code_items next
code_items (if_ e if_so next) = items e + code_items if_so + 1 + code_items next
code_items (if_else e if_so if_not next) = items e + code_items if_so + code_items if_not + 1 + code_items next
code_items (while_ e body next) = items e + code_items body + 1 + code_items next
code_items (for_ x is e w y js f body next) =
    index_items is + items e + items w + index_items js + items f + code_items body + 3 + code_items next

-- an expression keeps the limits
pub record IsLimited (e : Phrase) : Type 0 where
  pub few : operators e ≤ 256
  pub flat : nesting e ≤ 64

-- each index of an assigned target is an expression of its own
abbrev pub AreLimited : Phrases → Type 0
AreLimited none = Unit {0}
AreLimited (more e is) = IsLimited e × AreLimited is

-- each expression of the statements keeps the limits
abbrev pub KeepsLimits : Statements → Type 0
KeepsLimits done = Unit {0}
KeepsLimits (assign x is e next) = AreLimited is × IsLimited e × KeepsLimits next
KeepsLimits (if_ e if_so next) = IsLimited e × KeepsLimits if_so × KeepsLimits next
KeepsLimits (if_else e if_so if_not next) = IsLimited e × KeepsLimits if_so × KeepsLimits if_not × KeepsLimits next
KeepsLimits (while_ e body next) = IsLimited e × KeepsLimits body × KeepsLimits next
KeepsLimits (for_ x is e w y js f body next) =
    AreLimited is × IsLimited e × IsLimited w × AreLimited js × IsLimited f × KeepsLimits body × KeepsLimits next
