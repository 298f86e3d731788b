-- Signs of the operators between operands, and how tight they bind.
use Rattle.std.specs.Prelude.{ℕ, List, [], ◌∷◌, Option, find, bytes_eq, codes}
use Rattle.p3l_ast.specs.declared.expression.BinOp.{BinOp}
use Rattle.p3l_ast.specs.declared.expression.BinOp.TheVariants.{Or, And, BitOr, BitXor, BitAnd, Eq, Ne, Lt, Le, Gt, Ge, Shl, Shr, Add, Sub, Mul, Div, Rem}

-- the bytes of an operator, and how tight it binds
pub record Row : Type 0 where
  pub sign : List ℕ
  pub level : ℕ

abbrev written : List ℕ → ℕ → Row
written sign level = record { sign = sign; level = level }

-- from 0 for the loosest to 9; operators before an operand bind tighter, at 10
abbrev pub row : BinOp → Row
row Or = written (codes "||") 0
row And = written (codes "&&") 1
row BitOr = written (codes "|") 2
row BitXor = written (codes "^") 3
row BitAnd = written (codes "&") 4
row Eq = written (codes "==") 5
row Ne = written (codes "!=") 5
row Lt = written (codes "<") 6
row Le = written (codes "<=") 6
row Gt = written (codes ">") 6
row Ge = written (codes ">=") 6
row Shl = written (codes "<<") 7
row Shr = written (codes ">>") 7
row Add = written (codes "+") 8
row Sub = written (codes "-") 8
row Mul = written (codes "*") 9
row Div = written (codes "/") 9
row Rem = written (codes "%") 9

abbrev pub sign_of : BinOp → List ℕ
sign_of op = (row op).sign

abbrev pub level : BinOp → ℕ
level op = (row op).level

-- all of them, the loosest first
abbrev pub operators : List BinOp
operators = Or ∷ And ∷ BitOr ∷ BitXor ∷ BitAnd ∷ Eq ∷ Ne ∷ Lt ∷ Le ∷ Gt ∷ Ge ∷ Shl ∷ Shr ∷ Add ∷ Sub ∷ Mul ∷ Div ∷ Rem ∷ []

-- the operator among these that is written so
abbrev pub operator_among : List BinOp → List ℕ → Option BinOp
operator_among ops text = find (λ op. bytes_eq (sign_of op) text) ops

-- the operator that is written so
unfoldable pub operator_of : List ℕ → Option BinOp
operator_of text = operator_among operators text
