-- The texts of expressions: parentheses stand exactly where the grouping needs them.
use Rattle.std.specs.Prelude.{ℕ, suc, List, [], ◌++◌, nat_le, codes, if◌then◌else◌}
use Rattle.std.specs.Fmt.{signed_decimal}
use Rattle.p3l_ast.specs.declared.position.Spot.{Spot}
use Rattle.p3l_ast.specs.declared.expression.BinOp.{BinOp}
use Rattle.p3l_ast.specs.Tree.{Phrase, number, read, unary, binary, Phrases, none, more}
use Rattle.p3l_lexer.specs.Mark.{mark_text}
use Rattle.p3l_ast.specs.Notation.{sign_of, level}
use Rattle.p3l_grammar.specs.Symbol.{unary_mark}

-- the level of the outermost operator of an expression; 10 if none stands between operands
abbrev pub tightness : Phrase → ℕ
tightness (binary operator left right) = level operator
tightness (number value) = 10
tightness (read spot index) = 10
tightness (unary operator operand) = 10

-- an operator between its operands, with a space on each side
unfoldable pub infix_text : BinOp → List ℕ
infix_text operator = codes " " ++ sign_of operator ++ codes " "

-- in parentheses where it binds less tight than is required
unfoldable pub operand_text : ℕ → ℕ → List ℕ → List ℕ
operand_text least tight text = if nat_le least tight then text else codes "(" ++ text ++ codes ")"

abbrev mutual
  pub expression_text : Phrase → List ℕ
  expression_text (number value) = signed_decimal value
  expression_text (read spot index) = spot.name ++ index_text index
  expression_text (unary operator operand) = mark_text (unary_mark operator) ++ operand_text 10 (tightness operand) (expression_text operand)
  expression_text (binary operator left right) =
      operand_text (level operator) (tightness left) (expression_text left) ++ infix_text operator
      ++ operand_text (suc (level operator)) (tightness right) (expression_text right)

  pub index_text : Phrases → List ℕ
  index_text none = []
  index_text (more index rest) = codes "[" ++ expression_text index ++ codes "]" ++ index_text rest

-- a variable, or an element of an array
abbrev pub target_text : Spot → Phrases → List ℕ
target_text spot index = spot.name ++ index_text index
