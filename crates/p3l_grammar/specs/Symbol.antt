-- The symbol of a token, as the grammar sees it, and the marks of operators and modules.
use Rattle.std.specs.Prelude.{ℤ, List, map}
use Rattle.p3l_ast.specs.declared.position.Pos.{Pos}
use Rattle.p3l_ast.specs.declared.position.Spot.{Spot}
use Rattle.p3l_ast.specs.declared.expression.UnOp.{UnOp}
use Rattle.p3l_ast.specs.declared.expression.UnOp.TheVariants.{Neg, Not, Flip}
use Rattle.p3l_ast.specs.declared.expression.BinOp.TheVariants.{Sub}
use Rattle.p3l_ast.specs.declared.module.Kind.{Kind}
use Rattle.p3l_ast.specs.declared.module.Kind.TheVariants as kinds
use Rattle.p3l_lexer.specs.declared.mark.Mark.{Mark}
use Rattle.p3l_lexer.specs.declared.mark.Mark.TheVariants as marks
use Rattle.p3l_lexer.specs.declared.token.Lexeme.{Lexeme}
use Rattle.p3l_lexer.specs.declared.token.Lexeme.TheVariants as lexemes
use Rattle.p3l_lexer.specs.declared.token.TextToken.{TextToken}

-- a token with the positions that a program keeps
pub data Symbol : Type 0 where
  word : Spot → Symbol
  digits : ℤ → Pos → Symbol
  sign : Mark → Symbol
  faulty : Symbol

abbrev pub symbol_at : Lexeme → Pos → Symbol
symbol_at (lexemes.Word name) at = word (record { name = name; pos = at })
symbol_at (lexemes.Digits v) at = digits v at
symbol_at (lexemes.Sign m) at = sign m
symbol_at (lexemes.Faulty f) at = faulty

abbrev pub symbol : TextToken → Symbol
symbol token = symbol_at token.lexeme token.at

abbrev pub symbols : List TextToken → List Symbol
symbols tokens = map symbol tokens

-- the mark of an operator before its operand
abbrev pub unary_mark : UnOp → Mark
unary_mark Neg = marks.Operator Sub
unary_mark Not = marks.Bang
unary_mark Flip = marks.Tilde

-- the keyword of a module
abbrev pub kind_mark : Kind → Mark
kind_mark kinds.Seq = marks.Seq
kind_mark kinds.Comp = marks.Comp
kind_mark kinds.Pipe = marks.Pipe
kind_mark kinds.Farm = marks.Farm
kind_mark kinds.Map = marks.Map
kind_mark kinds.Reduce = marks.Reduce
kind_mark kinds.Loop = marks.Loop
