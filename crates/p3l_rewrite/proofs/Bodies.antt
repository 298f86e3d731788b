-- Copies of expressions and statements.
use Rattle.std.proofs.Common.{◌≡◌, ℕ, ◌+◌, ◌<◌, List, [], ◌∷◌, ◌++◌, length, take, get_or, Some, None, ap, sym, ◌∙◌}
use Rattle.std.proofs.lemmas.List.{take_more}
use Rattle.std.specs.declared.boxed.Box.{Box}
use Rattle.std.specs.declared.alloc.Global.{Global}
use Rattle.std.specs.declared.vec.Vec.{Vec}
use Rattle.p3l_ast.specs.declared.expression.UnOp.{UnOp}
use Rattle.p3l_ast.specs.declared.expression.BinOp.{BinOp}
use Rattle.p3l_ast.specs.declared.expression.Expr.{Expr}
use Rattle.p3l_ast.specs.declared.expression.Expr.TheVariants.{Unary, Binary}
use Rattle.p3l_ast.specs.declared.expression.Target.{Target}
use Rattle.p3l_ast.specs.declared.statement.Stmt.{Stmt}
use Rattle.p3l_ast.specs.declared.statement.Stmt.TheVariants.{Assign, If, While, For}
use Rattle.p3l_ast.specs.Tree.{phrase, phrases, unary, binary, snoc, done, assign, if_, if_else, while_, for_, one, join, statements}
use Rattle.p3l_ast.proofs.Trees.{phrase_unary, phrase_binary, phrases_push, one_assign, one_if, one_if_else, one_while, one_for, statements_push}

pub boxed : (copy given : Box Expr Global) (made seen : Expr) → copy.value ≡ made → phrase made ≡ phrase seen → seen ≡ given.value → phrase copy.value ≡ phrase given.value
boxed copy given made seen held same inner = ap phrase held ∙ same ∙ ap phrase inner

pub unary_copied : (o : UnOp) (copy given : Box Expr Global) (expr : Expr) → phrase copy.value ≡ phrase given.value → expr ≡ Unary o given → phrase (Unary o copy) ≡ phrase expr
unary_copied o copy given expr same is = phrase_unary o copy ∙ ap (unary o) same ∙ sym (phrase_unary o given) ∙ ap phrase (sym is)

pub binary_copied : (o : BinOp) (a b x y : Box Expr Global) (expr : Expr) → phrase a.value ≡ phrase x.value → phrase b.value ≡ phrase y.value → expr ≡ Binary o x y → phrase (Binary o a b) ≡ phrase expr
binary_copied o a b x y expr left right is =
    phrase_binary o a b ∙ ap (λ p. binary o p (phrase b.value)) left ∙ ap (binary o (phrase x.value)) right ∙ sym (phrase_binary o x y) ∙ ap phrase (sym is)

pub more_copied : (copies items new : List Expr) (i : ℕ) (copy item : Expr) → new ≡ copies ++ copy ∷ [] → phrases copies ≡ phrases (take i items) → phrase copy ≡ phrase item → i < length items → item ≡ get_or items i item
    → phrases new ≡ phrases (take (i + 1) items)
more_copied copies items new i copy item new_is so_far same inside is =
    ap phrases new_is ∙ phrases_push copies copy
    ∙ ap (λ p. snoc p (phrase copy)) so_far ∙ ap (snoc (phrases (take i items))) (same ∙ ap phrase is)
    ∙ sym (phrases_push (take i items) (get_or items i item)) ∙ ap phrases (sym (take_more items i item inside))

-- a place looks as another
pub record IsCopy (copy given : Target) : Type 0 where
  pub at : copy.at ≡ given.at
  pub index : phrases copy.index.items ≡ phrases given.index.items

pub assign_copied : (t u : Target) (e f : Expr) (stmt : Stmt) → IsCopy t u → phrase e ≡ phrase f → stmt ≡ Assign u f → one (Assign t e) ≡ one stmt
assign_copied t u e f stmt same value is =
    one_assign t e
    ∙ (λ i. assign (same.at i) (same.index i) (value i) done)
    ∙ sym (one_assign u f) ∙ ap one (sym is)

pub if_copied : (e f : Expr) (v w : Vec Stmt Global) (stmt : Stmt) → phrase e ≡ phrase f → statements v.items ≡ statements w.items → stmt ≡ If f w None → one (If e v None) ≡ one stmt
if_copied e f v w stmt condition body is =
    one_if e v ∙ (λ i. if_ (condition i) (body i) done) ∙ sym (one_if f w) ∙ ap one (sym is)

pub if_else_copied : (e f : Expr) (v w x y : Vec Stmt Global) (stmt : Stmt) → phrase e ≡ phrase f → statements v.items ≡ statements w.items → statements x.items ≡ statements y.items
    → stmt ≡ If f w (Some y) → one (If e v (Some x)) ≡ one stmt
if_else_copied e f v w x y stmt condition body other is =
    one_if_else e v x ∙ (λ i. if_else (condition i) (body i) (other i) done) ∙ sym (one_if_else f w y) ∙ ap one (sym is)

pub while_copied : (e f : Expr) (v w : Vec Stmt Global) (stmt : Stmt) → phrase e ≡ phrase f → statements v.items ≡ statements w.items → stmt ≡ While f w → one (While e v) ≡ one stmt
while_copied e f v w stmt condition body is =
    one_while e v ∙ (λ i. while_ (condition i) (body i) done) ∙ sym (one_while f w) ∙ ap one (sym is)

pub for_copied : (t u x y : Target) (e f a b c d : Expr) (v w : Vec Stmt Global) (stmt : Stmt) → IsCopy t u → phrase e ≡ phrase f → phrase a ≡ phrase b → IsCopy x y → phrase c ≡ phrase d
    → statements v.items ≡ statements w.items → stmt ≡ For u f b y d w → one (For t e a x c v) ≡ one stmt
for_copied t u x y e f a b c d v w stmt first start condition next step body is =
    one_for t x e a c v
    ∙ (λ i. for_ (first.at i) (first.index i) (start i) (condition i) (next.at i) (next.index i) (step i) (body i) done)
    ∙ sym (one_for u y f b d w) ∙ ap one (sym is)

pub more_statements : (copies items new : List Stmt) (i : ℕ) (copy item : Stmt) → new ≡ copies ++ copy ∷ [] → statements copies ≡ statements (take i items) → one copy ≡ one item → i < length items → item ≡ get_or items i item
    → statements new ≡ statements (take (i + 1) items)
more_statements copies items new i copy item new_is so_far same inside is =
    ap statements new_is ∙ statements_push copies copy
    ∙ ap (λ p. join p (one copy)) so_far ∙ ap (join (statements (take i items))) (same ∙ ap one is)
    ∙ sym (statements_push (take i items) (get_or items i item)) ∙ ap statements (sym (take_more items i item inside))
