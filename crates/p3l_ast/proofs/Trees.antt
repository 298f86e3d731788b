-- The trees of expressions and statements, by what they are made of.
use Rattle.std.proofs.Common.{◌≡◌, ℤ, List, [], ◌∷◌, ◌++◌, Some, None, refl, sym, ap, ◌∙◌}
use Rattle.std.specs.declared.vec.Vec.{Vec}
use Rattle.std.specs.declared.boxed.Box.{Box}
use Rattle.std.specs.declared.alloc.Global.{Global}
use mathlib.Core.Former.{Count}
use Rattle.p3l_ast.specs.declared.position.Spot.{Spot}
use Rattle.p3l_ast.specs.declared.expression.UnOp.{UnOp}
use Rattle.p3l_ast.specs.declared.expression.BinOp.{BinOp}
use Rattle.p3l_ast.specs.declared.expression.Expr.{Expr, Row_of-Expr, end_of-Expr, more_of-Expr}
use Rattle.p3l_ast.specs.declared.expression.Expr.TheBlock as exprs
use Rattle.p3l_ast.specs.declared.expression.Expr.TheVariants.{Number, Read, Unary, Binary}
use Rattle.p3l_ast.specs.declared.expression.Target.{Target}
use Rattle.p3l_ast.specs.declared.statement.Stmt.{Stmt, Row_of-Stmt, end_of-Stmt, more_of-Stmt}
use Rattle.p3l_ast.specs.declared.statement.Stmt.TheBlock as stmts
use Rattle.p3l_ast.specs.declared.statement.Stmt.TheVariants.{Assign, If, While, For}
use Rattle.p3l_ast.specs.Tree.{number, read, unary, binary, more, Statements, done, assign, if_, if_else, while_, for_, phrase, row_phrases, phrases, snoc, join, one, row_statements, choice, statements}

phrases_of_row : (n : Count) (row : Row_of-Expr n) → row_phrases row ≡ phrases (exprs.items-the_row-Expr n row)
unfolding phrase row_phrases
phrases_of_row n end_of-Expr = refl
phrases_of_row n (more_of-Expr e rest) = ap (more (phrase e)) (phrases_of_row _ rest)

phrases_of_vec : (v : Vec Expr Global) → row_phrases (exprs.hidden-the_row-Expr-0 v) ≡ phrases v.items
phrases_of_vec v = phrases_of_row _ (exprs.hidden-the_row-Expr-0 v) ∙ ap phrases (exprs.items_hidden-the_row-Expr-0 v)

pub phrase_number : (v : ℤ) → phrase (Number v) ≡ number v
unfolding phrase
phrase_number v = refl

pub phrase_unary : (o : UnOp) (e : Box Expr Global) → phrase (Unary o e) ≡ unary o (phrase e.value)
unfolding phrase
phrase_unary o e = refl

pub phrase_binary : (o : BinOp) (a b : Box Expr Global) → phrase (Binary o a b) ≡ binary o (phrase a.value) (phrase b.value)
unfolding phrase
phrase_binary o a b = refl

pub phrase_read : (x : Spot) (is : Vec Expr Global) → phrase (Read (record { at = x; index = is })) ≡ read x (phrases is.items)
unfolding phrase
phrase_read x is = ap (read x) (phrases_of_vec is)

pub phrases_push : (es : List Expr) (e : Expr) → phrases (es ++ e ∷ []) ≡ snoc (phrases es) (phrase e)
phrases_push [] e = refl
phrases_push (d ∷ es) e = ap (more (phrase d)) (phrases_push es e)

statements_of_row : (n : Count) (row : Row_of-Stmt n) → row_statements row ≡ statements (stmts.items-the_row-Stmt n row)
unfolding one row_statements choice
statements_of_row n end_of-Stmt = refl
statements_of_row n (more_of-Stmt s rest) = ap (join (one s)) (statements_of_row _ rest)

statements_of_vec : (v : Vec Stmt Global) → row_statements (stmts.hidden-the_row-Stmt-0 v) ≡ statements v.items
statements_of_vec v = statements_of_row _ (stmts.hidden-the_row-Stmt-0 v) ∙ ap statements (stmts.items_hidden-the_row-Stmt-0 v)

pub one_assign : (t : Target) (e : Expr) → one (Assign t e) ≡ assign t.at (phrases t.index.items) (phrase e) done
unfolding one
one_assign t e = refl

pub one_if : (e : Expr) (v : Vec Stmt Global) → one (If e v None) ≡ if_ (phrase e) (statements v.items) done
unfolding one
one_if e v = ap (λ c. if_ (phrase e) c done) (statements_of_vec v)

pub one_if_else : (e : Expr) (v w : Vec Stmt Global) → one (If e v (Some w)) ≡ if_else (phrase e) (statements v.items) (statements w.items) done
unfolding one
one_if_else e v w =
    ap (λ c. if_else (phrase e) c (row_statements (stmts.hidden-the_row-Stmt-0 w)) done) (statements_of_vec v)
    ∙ ap (λ c. if_else (phrase e) (statements v.items) c done) (statements_of_vec w)

pub one_while : (e : Expr) (v : Vec Stmt Global) → one (While e v) ≡ while_ (phrase e) (statements v.items) done
unfolding one
one_while e v = ap (λ c. while_ (phrase e) c done) (statements_of_vec v)

pub one_for : (t u : Target) (e w f : Expr) (v : Vec Stmt Global) → one (For t e w u f v) ≡ for_ t.at (phrases t.index.items) (phrase e) (phrase w) u.at (phrases u.index.items) (phrase f) (statements v.items) done
unfolding one
one_for t u e w f v =
    ap (λ c. for_ t.at (phrases t.index.items) (phrase e) (phrase w) u.at (phrases u.index.items) (phrase f) c done) (statements_of_vec v)

pub join_done : (c : Statements) → join c done ≡ c
join_done done = refl
join_done (assign x is e c) = ap (assign x is e) (join_done c)
join_done (if_ e t c) = ap (if_ e t) (join_done c)
join_done (if_else e t f c) = ap (if_else e t f) (join_done c)
join_done (while_ e b c) = ap (while_ e b) (join_done c)
join_done (for_ x is e w y js f b c) = ap (for_ x is e w y js f b) (join_done c)

pub join_join : (a b c : Statements) → join (join a b) c ≡ join a (join b c)
join_join done b c = refl
join_join (assign x is e a) b c = ap (assign x is e) (join_join a b c)
join_join (if_ e t a) b c = ap (if_ e t) (join_join a b c)
join_join (if_else e t f a) b c = ap (if_else e t f) (join_join a b c)
join_join (while_ e d a) b c = ap (while_ e d) (join_join a b c)
join_join (for_ x is e w y js f d a) b c = ap (for_ x is e w y js f d) (join_join a b c)

pub statements_push : (ss : List Stmt) (s : Stmt) → statements (ss ++ s ∷ []) ≡ join (statements ss) (one s)
statements_push [] s = join_done (one s)
statements_push (x ∷ ss) s = ap (join (one x)) (statements_push ss s) ∙ sym (join_join (one x) (statements ss) (one s))
