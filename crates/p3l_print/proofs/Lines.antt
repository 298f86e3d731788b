-- The texts of expressions and statements, by what these are made of.
use Rattle.std.proofs.Common.{◌≡◌, ℕ, suc, ℤ, List, ◌++◌, [], Some, None, Result, Ok, Err, refl, sym, ap, ◌∙◌, append_assoc, append-nil, codes}
use Rattle.p3l_base.specs.Memory.{OnGiven}
use Rattle.std.specs.Fmt.{signed_decimal}
use Rattle.std.specs.declared.vec.Vec.{Vec}
use Rattle.std.specs.declared.boxed.Box.{Box}
use Rattle.std.specs.declared.alloc.Global.{Global}
use Rattle.p3l_ast.specs.declared.expression.UnOp.{UnOp}
use Rattle.p3l_ast.specs.declared.expression.BinOp.{BinOp}
use Rattle.p3l_ast.specs.declared.expression.Expr.{Expr}
use Rattle.p3l_ast.specs.declared.expression.Expr.TheVariants.{Number, Read, Unary, Binary}
use Rattle.p3l_ast.specs.declared.expression.Target.{Target}
use Rattle.p3l_ast.specs.declared.statement.Stmt.{Stmt}
use Rattle.p3l_ast.specs.declared.statement.Stmt.TheVariants.{Assign, If, While, For}
use Rattle.p3l_ast.specs.Tree.{Statements, done, assign, if_, if_else, while_, for_, phrase, phrases, one, statements, join}
use Rattle.p3l_ast.proofs.Trees.{phrase_number, phrase_unary, phrase_binary, phrase_read, one_assign, one_if, one_if_else, one_while, one_for}
use Rattle.p3l_lexer.specs.Mark.{mark_text}
use Rattle.p3l_ast.specs.Notation.{level}
use Rattle.p3l_grammar.specs.Symbol.{unary_mark}
use Rattle.p3l_print.specs.Expression.{tightness, infix_text, operand_text, expression_text, target_text}
use Rattle.p3l_print.specs.Statement.{assignment_text, deeper, block_text, opening_text, for_opening_text, statements_text}

-- an operand as it stands in an expression
abbrev pub operand : ℕ → Expr → List ℕ
operand least e = operand_text least (tightness (phrase e)) (expression_text (phrase e))

pub tightness_number : (value : ℤ) → tightness (phrase (Number value)) ≡ 10
tightness_number value = ap tightness (phrase_number value)

pub tightness_read : (place : Target) → tightness (phrase (Read place)) ≡ 10
tightness_read place = ap tightness (phrase_read place.at place.index)

pub tightness_unary : (o : UnOp) (e : Box Expr Global) → tightness (phrase (Unary o e)) ≡ 10
tightness_unary o e = ap tightness (phrase_unary o e)

pub tightness_binary : (o : BinOp) (a b : Box Expr Global) → tightness (phrase (Binary o a b)) ≡ level o
tightness_binary o a b = ap tightness (phrase_binary o a b)

pub number_text : (value : ℤ) → expression_text (phrase (Number value)) ≡ signed_decimal value
number_text value = ap expression_text (phrase_number value)

pub read_text : (place : Target) → expression_text (phrase (Read place)) ≡ target_text place.at (phrases place.index.items)
read_text place = ap expression_text (phrase_read place.at place.index)

pub unary_text_is : (o : UnOp) (e : Box Expr Global) → expression_text (phrase (Unary o e)) ≡ mark_text (unary_mark o) ++ operand 10 e.value
unary_text_is o e = ap expression_text (phrase_unary o e)

pub binary_text_is : (o : BinOp) (a b : Box Expr Global) → expression_text (phrase (Binary o a b))
    ≡ operand (level o) a.value ++ infix_text o ++ operand (suc (level o)) b.value
binary_text_is o a b = ap expression_text (phrase_binary o a b)

pub ruleset expressions = (tightness_number, tightness_read, tightness_unary, tightness_binary, number_text, read_text, unary_text_is, binary_text_is)

-- the lines of statements in a block
abbrev pub block : List ℕ → Vec Stmt Global → List ℕ
block margin v = block_text margin (statements_text (deeper margin) (statements v.items))

abbrev pub assignment : Target → Expr → List ℕ
assignment t e = assignment_text t.at (phrases t.index.items) (phrase e)

pub assign_lines : (margin : List ℕ) (t : Target) (e : Expr) → statements_text margin (one (Assign t e)) ≡ margin ++ assignment t e ++ codes ";\n"
unfolding statements_text
assign_lines margin t e = ap (statements_text margin) (one_assign t e) ∙ append-nil _

pub if_lines : (margin : List ℕ) (e : Expr) (v : Vec Stmt Global) → statements_text margin (one (If e v None))
    ≡ opening_text margin (codes "if") (phrase e) ++ block margin v ++ codes "\n"
unfolding statements_text
if_lines margin e v = ap (statements_text margin) (one_if e v) ∙ append-nil _

pub if_else_lines : (margin : List ℕ) (e : Expr) (v w : Vec Stmt Global) → statements_text margin (one (If e v (Some w)))
    ≡ opening_text margin (codes "if") (phrase e) ++ block margin v ++ codes " else " ++ (block margin w ++ codes "\n")
unfolding statements_text
if_else_lines margin e v w =
    ap (statements_text margin) (one_if_else e v w) ∙ append-nil _ ∙ append_assoc _ (block margin w) (codes "\n")

pub while_lines : (margin : List ℕ) (e : Expr) (v : Vec Stmt Global) → statements_text margin (one (While e v))
    ≡ opening_text margin (codes "while") (phrase e) ++ (block margin v ++ codes "\n")
unfolding statements_text
while_lines margin e v = ap (statements_text margin) (one_while e v) ∙ append-nil _ ∙ append_assoc _ (block margin v) (codes "\n")

pub for_lines : (margin : List ℕ) (t u : Target) (e w f : Expr) (v : Vec Stmt Global) → statements_text margin (one (For t e w u f v))
    ≡ for_opening_text margin (assignment t e) (phrase w) (assignment u f) ++ (block margin v ++ codes "\n")
unfolding statements_text
for_lines margin t u e w f v = ap (statements_text margin) (one_for t u e w f v) ∙ append-nil _ ∙ append_assoc _ (block margin v) (codes "\n")

pub ruleset statement_lines = (assign_lines, if_lines, if_else_lines, while_lines, for_lines)

pub statements_text-join : (margin : List ℕ) (c d : Statements) → statements_text margin (join c d) ≡ statements_text margin c ++ statements_text margin d
unfolding statements_text
statements_text-join margin done d = refl
statements_text-join margin (assign x is e c) d = let h = statements_text-join margin c d in rw h (simp append_assoc)
statements_text-join margin (if_ e t c) d = let h = statements_text-join margin c d in rw h (simp append_assoc)
statements_text-join margin (if_else e t f c) d = let h = statements_text-join margin c d in rw h (simp append_assoc)
statements_text-join margin (while_ e b c) d = let h = statements_text-join margin c d in rw h (simp append_assoc)
statements_text-join margin (for_ x is e w y js f b c) d = let h = statements_text-join margin c d in rw h (simp append_assoc)

-- one piece after another
pub followed : {E : Type 0} (r : Result (Unit {0}) E) (old middle new first second text : List ℕ) → middle ≡ old ++ first → OnGiven r (new ≡ middle ++ second)
    → text ≡ first ++ second → OnGiven r (new ≡ old ++ text)
followed (Ok x) old middle new first second text p h q =
    h ∙ ap (λ t. t ++ second) p ∙ append_assoc old first second ∙ ap (λ t. old ++ t) (sym q)
followed (Err e) old middle new first second text p h q = h

pub then : (old middle new first second : List ℕ) → middle ≡ old ++ first → new ≡ middle ++ second → new ≡ old ++ (first ++ second)
then old middle new first second p q = q ∙ ap (λ t. t ++ second) p ∙ append_assoc old first second

-- no statements have no lines
pub done_lines : (margin : List ℕ) → statements_text margin done ≡ []
unfolding statements_text
done_lines margin = refl

pub ruleset lines = (statements_text-join, done_lines)
