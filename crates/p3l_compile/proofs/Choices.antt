-- The code of a statement, by what it is made of.
use Rattle.std.proofs.Common.{◌≡◌, ℕ, ◌+◌, List, [], ◌∷◌, ◌++◌, Option, Some, None, sym, ap, ◌∙◌, arith}
use Rattle.std.specs.declared.vec.Vec.{Vec}
use Rattle.std.specs.declared.alloc.Global.{Global}
use Rattle.std.proofs.lemmas.List.{append-nil}
use Rattle.p3l_ast.specs.declared.expression.Expr.{Expr}
use Rattle.p3l_ast.specs.declared.expression.Target.{Target}
use Rattle.p3l_ast.specs.declared.statement.Stmt.{Stmt}
use Rattle.p3l_ast.specs.declared.statement.Stmt.TheVariants.{Assign, If, While, For}
use Rattle.p3l_ast.specs.Tree.{done, assign, if_, if_else, while_, for_, join, one, statements, phrase, phrases}
use Rattle.p3l_ast.proofs.Trees.{one_assign, one_if, one_if_else, one_while, one_for}
use Rattle.p3l_code.specs.declared.instr.Instr.{Instr}
use Rattle.p3l_code.specs.declared.instr.Instr.TheVariants.{Jump, JumpNonZero, Turn}
use Rattle.p3l_compile.specs.Phrase.{phrase_code}
use Rattle.p3l_compile.specs.Statement.{assign_size, statement_size, assign_code, statement_code}
use Rattle.p3l_compile.proofs.Joined.{size_join, code_join}
use Rattle.p3l_compile.specs.Scope.{Names}

pub assign_tree : (s : Stmt) (t : Target) (e : Expr) → s ≡ Assign t e → one s ≡ assign t.at (phrases t.index.items) (phrase e) done
assign_tree s t e h = ap one h ∙ one_assign t e

pub if_tree : (s : Stmt) (e : Expr) (v : Vec Stmt Global) (o : Option (Vec Stmt Global)) (a : List Stmt) → s ≡ If e v o → o ≡ None → a ≡ v.items → one s ≡ if_ (phrase e) (statements a) done
if_tree s e v o a h n k =
    ap one h ∙ ap (λ o. one (If e v o)) n ∙ one_if e v ∙ ap (λ x. if_ (phrase e) (statements x) done) (sym k)

pub choice_tree : (s : Stmt) (e : Expr) (v w : Vec Stmt Global) (o : Option (Vec Stmt Global)) (a b : List Stmt) → s ≡ If e v o → o ≡ Some w → a ≡ v.items → b ≡ w.items → one s ≡ if_else (phrase e) (statements a) (statements b) done
choice_tree s e v w o a b h n k l =
    ap one h ∙ ap (λ o. one (If e v o)) n ∙ one_if_else e v w ∙ ap (λ x. if_else (phrase e) (statements x) (statements w.items) done) (sym k) ∙ ap (λ x. if_else (phrase e) (statements a) (statements x) done) (sym l)

pub while_tree : (s : Stmt) (e : Expr) (v : Vec Stmt Global) (a : List Stmt) → s ≡ While e v → a ≡ v.items → one s ≡ while_ (phrase e) (statements a) done
while_tree s e v a h k = ap one h ∙ one_while e v ∙ ap (λ x. while_ (phrase e) (statements x) done) (sym k)

pub for_tree : (s : Stmt) (t u : Target) (e w f : Expr) (v : Vec Stmt Global) (a : List Stmt) → s ≡ For t e w u f v → a ≡ v.items → one s ≡ for_ t.at (phrases t.index.items) (phrase e) (phrase w) u.at (phrases u.index.items) (phrase f) (statements a) done
for_tree s t u e w f v a h k =
    ap one h ∙ one_for t u e w f v ∙ ap (λ x. for_ t.at (phrases t.index.items) (phrase e) (phrase w) u.at (phrases u.index.items) (phrase f) (statements x) done) (sym k)

-- the turns of a `for` are those of a `while` whose body has the step after it
pub turns_size : (t u : Target) (e w f : Expr) (a : List Stmt) → statement_size (for_ t.at (phrases t.index.items) (phrase e) (phrase w) u.at (phrases u.index.items) (phrase f) (statements a) done) ≡ assign_size (phrases t.index.items) (phrase e) + statement_size (while_ (phrase w) (join (statements a) (assign u.at (phrases u.index.items) (phrase f) done)) done)
turns_size t u e w f a = let h = size_join (statements a) (assign u.at (phrases u.index.items) (phrase f) done) in omega arith

pub turns_code : (scope : Names) (pc : ℕ) (t u : Target) (e w f : Expr) (a : List Stmt) → statement_code scope pc (for_ t.at (phrases t.index.items) (phrase e) (phrase w) u.at (phrases u.index.items) (phrase f) (statements a) done) ≡ assign_code scope pc t.at.name (phrases t.index.items) (phrase e) ++ statement_code scope (pc + assign_size (phrases t.index.items) (phrase e)) (while_ (phrase w) (join (statements a) (assign u.at (phrases u.index.items) (phrase f) done)) done)
turns_code scope pc t u e w f a =
    let js = phrases u.index.items in
    let last = assign u.at js (phrase f) done in
    let first = assign_code scope pc t.at.name (phrases t.index.items) (phrase e) in
    let start = pc + assign_size (phrases t.index.items) (phrase e) in
    let n = statement_size (statements a) + assign_size js (phrase f) in
    let body = statement_code scope (start + 2) (statements a) ++ assign_code scope (start + 2 + statement_size (statements a)) u.at.name js (phrase f) in
    let b : body ≡ statement_code scope (start + 2) (join (statements a) last) =
    ap (λ l. statement_code scope (start + 2) (statements a) ++ l) (sym (append-nil (assign_code scope (start + 2 + statement_size (statements a)) u.at.name js (phrase f)))) ∙ sym (code_join scope (start + 2) (statements a) last) in
    let s : n ≡ statement_size (join (statements a) last) = let h = size_join (statements a) last in omega arith in
    let shape = λ (l : List Instr) (k : ℕ). first ++ ((Jump (start + 2 + k) ∷ Turn ∷ (l ++ (phrase_code scope (start + 2 + k) (phrase w) ++ JumpNonZero (start + 1) ∷ []))) ++ []) in
    ap (λ l. shape l n) b ∙ ap (shape (statement_code scope (start + 2) (join (statements a) last))) s
