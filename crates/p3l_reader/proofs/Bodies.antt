-- The readers of expressions and statements agree with the parser.
use Rattle.std.proofs.Common.{◌≡◌, ℕ, suc, ℤ, ◌<◌, ◌≤◌, List, [], ◌∷◌, ◌++◌, length, Option, Some, None, refl, sym, ap, ◌∙◌, subst, arith}
use Rattle.std.specs.declared.result.Result.TheVariants.{Err}
use Rattle.p3l_ast.specs.declared.position.Spot.{Spot}
use Rattle.p3l_ast.specs.declared.call.Call.{Call}
use Rattle.p3l_ast.specs.declared.expression.UnOp.{UnOp}
use Rattle.p3l_ast.specs.declared.expression.BinOp.{BinOp}
use Rattle.p3l_ast.specs.Tree.{Phrase, number, read, unary, binary, Phrases, none, snoc, Statements, done, assign, if_, if_else, while_, for_, join}
use Rattle.p3l_lexer.specs.declared.mark.Mark.{Mark}
use Rattle.p3l_lexer.specs.declared.mark.Mark.TheVariants as marks
use Rattle.p3l_lexer.specs.declared.token.TextToken.{TextToken}
use Rattle.p3l_ast.specs.Notation.{level}
use Rattle.p3l_grammar.specs.Symbol.{Symbol, symbol, word, digits, sign, faulty}
use Rattle.p3l_grammar.specs.Parser.{Parser, await, another_call, operand, another_index, value, another_stmt, maybe_else, Hole, whole, after_unary, after_binary, need, expression, upto, call_from, place_from, setting, test, block, while_from, for_from, otherwise, infix_of, level_of, operator_step, stmt_step, else_step, step, next, all}
use Rattle.p3l_grammar.proofs.Complete.{operator_starts, joins}
use Rattle.p3l_reader.specs.declared.refusal.Refusal.{Refusal}
use Rattle.p3l_reader.specs.declared.refusal.Refusal.TheVariants.{NoMemory, Expected}
use Rattle.p3l_reader.specs.Reading.{Begins, BeginsDigits, IsWord, IsTheWord, IsNumeral, NotNext, NotThere, Reads, Fails, Adds, Misses, Stops, StopsAt, Follows, FailsAt, FollowsUnary, AddsIndex, Targets, FailsTarget, Sets, FailsSetting, AddsStmt, MissesStmt, FollowsIf}
use Rattle.p3l_reader.proofs.Lists.{ExtendsIndex, ExtendsStmts}
use Rattle.p3l_reader.proofs.Tokens.{begins_all, await_begins, await_fails}

begins_shorter : (ts rest : List TextToken) (t : Symbol) → Begins ts t rest → length rest < length ts
begins_shorter ts rest t b = let p = ap length b.whole in omega arith

-- Calls.

pub call_adds : (ts r r' : List TextToken) (x : Spot) (c : Call) → Begins ts (word x) r → Reads (call_from x) r c r' → Adds another_call ts c r'
call_adds ts r r' x c b f = record {
  goes = λ xs go. begins_all ts r (word x) b (another_call xs go) ∙ f.goes (λ d. another_call (xs ++ d ∷ []) go);
}

pub call_misses : (ts r : List TextToken) (x : Spot) (e : Refusal) → Begins ts (word x) r → Fails (call_from x) r e → Misses another_call ts e
call_misses ts r x NoMemory b f = f
call_misses ts r x (Expected left) b f =
    λ xs go. begins_all ts r (word x) b (another_call xs go) ∙ f (λ d. another_call (xs ++ d ∷ []) go)

-- Expressions.

pub follows_number : (ts rest : List TextToken) (v w : ℤ) → BeginsDigits ts v rest → w ≡ v → Follows 10 ts (number w) rest
follows_number [] rest v w b p = absurd b
follows_number (t ∷ ts) rest v w b p = record {
  goes = λ h l. ap (λ o. next o (suc (length ts)) (λ s. all s ts)) (at (symbol t) b.0 h) ∙ ap (all (value (number w) h)) b.1;
  shorter = let q = ap length b.1 in omega arith;
}
  where
    at : (s : Symbol) → IsNumeral s v → (h : Hole) → step (operand h) s ≡ Some (value (number w) h)
    at (digits u q) e h = ap (λ n. Some (value (number n) h)) (sym (p ∙ e))
    at (word x) e h = absurd e
    at (sign m) e h = absurd e
    at faulty e h = absurd e

pub follows_place : (ts r r' : List TextToken) (x : Spot) (e : Phrase) → Begins ts (word x) r → Reads (place_from x) r e r' → length r' ≤ length r → Follows 10 ts e r'
follows_place ts r r' x e b f l = record {
  goes = λ h n. begins_all ts r (word x) b (operand h) ∙ f.goes (λ d. value d h);
  shorter = let q = begins_shorter ts r (word x) b in omega arith;
}

pub place_reads : (ts rest : List TextToken) (x : Spot) (is : Phrases) → Reads (another_index none) ts is rest → Reads (place_from x) ts (read x is) rest
place_reads ts rest x is f = record { goes = λ go. f.goes (λ js. go (read x js)) }

pub fails_place : (ts r : List TextToken) (x : Spot) (e : Refusal) → Begins ts (word x) r → Fails (place_from x) r e → FailsAt 10 ts e
fails_place ts r x NoMemory b f = f
fails_place ts r x (Expected left) b f = λ h n. begins_all ts r (word x) b (operand h) ∙ f (λ d. value d h)

unary_ends : (o : UnOp) (e : Phrase) (h : Hole) (rest : List TextToken) → all (value e (after_unary o h)) rest ≡ all (value (unary o e) h) rest
unary_ends o e h [] = refl
unary_ends o e h (t ∷ rest) = refl

pub follows_unary : (o : UnOp) (e : Phrase) (ts rest : List TextToken) → Follows 10 ts e rest → FollowsUnary o ts (unary o e) rest
follows_unary o e ts rest f = record {
  goes = λ h. f.goes (after_unary o h) (omega arith) ∙ unary_ends o e h rest;
  shorter = f.shorter;
}

stop_none : (q : Option BinOp) → StopsAt 0 q → q ≡ None
stop_none None s = refl
stop_none (Some o) s = absurd (omega arith)

-- after an expression that is not gone on, what comes after it decides
pub whole_ends : (e : Phrase) (go : Phrase → Parser) (rest : List TextToken) → Stops 0 rest → all (value e (whole go)) rest ≡ all (go e) rest
whole_ends e go [] s = refl
whole_ends e go (t ∷ rest) s =
    ap (λ q. next (otherwise (operator_step q e (whole go)) (step (go e) (symbol t))) (suc (length rest)) (λ s'. all s' rest)) (stop_none (infix_of (symbol t)) s)

level_below : (q : Option BinOp) (n : ℕ) → StopsAt (suc n) q → level_of q ≤ n
level_below None n s = omega arith
level_below (Some o) n s = omega arith

binary_ends : (a b : Phrase) (o : BinOp) (h : Hole) (rest : List TextToken) → Stops (suc (level o)) rest → all (value b (after_binary o a h)) rest ≡ all (value (binary o a b) h) rest
binary_ends a b o h [] s = refl
binary_ends a b o h (t ∷ rest) s =
    ap (λ q. next q (suc (length rest)) (λ s'. all s' rest)) (joins o a b h (symbol t) (level_below (infix_of (symbol t)) (level o) s))

operator_goes : (a : Phrase) (o : BinOp) (h : Hole) (ts r : List TextToken) → Begins ts (sign (marks.Operator o)) r → need h ≤ level o → all (value a h) ts ≡ all (operand (after_binary o a h)) r
operator_goes a o h ts r b l =
    begins_all ts r (sign (marks.Operator o)) b (value a h)
    ∙ ap (λ q. next q (suc (length r)) (λ s'. all s' r)) (operator_starts o h a (sign (marks.Operator o)) refl l)

pub follows_binary : (n m : ℕ) (a b : Phrase) (o : BinOp) (ts mid after rest : List TextToken) → n ≤ level o → m ≡ suc (level o) → Follows n ts a mid → Begins mid (sign (marks.Operator o)) after → Follows m after b rest → Stops m rest → Follows n ts (binary o a b) rest
follows_binary n m a b o ts mid after rest l p f w g s =
    let S : ℕ → Type 0 = λ k. Stops k rest in
    record {
      goes = λ h k. f.goes h k ∙ operator_goes a o h mid after w (omega arith) ∙ g.goes (after_binary o a h) (omega arith) ∙ binary_ends a b o h rest (subst S p s);
      shorter = let x = f.shorter in let y = g.shorter in let z = begins_shorter mid after (sign (marks.Operator o)) w in omega arith;
    }

pub index_more : (ts r r' : List TextToken) (is : Phrases) (e : Phrase) → ExtendsIndex ts is r → AddsIndex r e r' → length r' < length r → ExtendsIndex ts (snoc is e) r'
index_more ts r r' is e f g l = record { goes = λ go. f.goes go ∙ g.goes is go; shorter = let q = f.shorter in omega arith }

-- Statements.

pub sets_all : (m : Mark) (ts r1 r2 r3 : List TextToken) (x : Spot) (is : Phrases) (e : Phrase) → Targets ts x is r1 → Begins r1 (sign marks.Assign) r2 → Reads (upto m) r2 e r3 → Sets m ts x is e r3
sets_all m ts r1 r2 r3 x is e t b f = record {
  goes = λ go. t.goes (λ y js. await marks.Assign (expression (λ d. await m (go y js d)))) ∙ await_begins marks.Assign r1 r2 b (expression (λ d. await m (go x is d))) ∙ f.goes (go x is);
}

pub sets_fails_target : (m : Mark) (ts : List TextToken) (e : Refusal) → FailsTarget ts e → FailsSetting m ts e
sets_fails_target m ts NoMemory h = h
sets_fails_target m ts (Expected left) h = λ go. h (λ y js. await marks.Assign (expression (λ d. await m (go y js d))))

pub sets_fails_mark : (m : Mark) (ts r : List TextToken) (x : Spot) (is : Phrases) (e : Refusal) → Targets ts x is r → NotThere marks.Assign r e → FailsSetting m ts e
sets_fails_mark m ts r x is NoMemory t h = h
sets_fails_mark m ts r x is (Expected left) t h =
    λ go. t.goes (λ y js. await marks.Assign (expression (λ d. await m (go y js d)))) ∙ await_fails marks.Assign r h.0 (expression (λ d. await m (go x is d))) ∙ ap Err (sym h.1)

pub sets_fails_value : (m : Mark) (ts r1 r2 : List TextToken) (x : Spot) (is : Phrases) (e : Refusal) → Targets ts x is r1 → Begins r1 (sign marks.Assign) r2 → Fails (upto m) r2 e → FailsSetting m ts e
sets_fails_value m ts r1 r2 x is NoMemory t b h = h
sets_fails_value m ts r1 r2 x is (Expected left) t b h =
    λ go. t.goes (λ y js. await marks.Assign (expression (λ d. await m (go y js d)))) ∙ await_begins marks.Assign r1 r2 b (expression (λ d. await m (go x is d))) ∙ h (go x is)

word_starts : (c : Statements) (go : Statements → Parser) (ts : List TextToken) → IsWord ts → all (another_stmt c go) ts ≡ all (setting (λ x is e. await marks.Semicolon (another_stmt (join c (assign x is e done)) go))) ts
word_starts c go [] w = absurd w
word_starts c go (t ∷ ts) w = ap (λ o. next o (suc (length ts)) (λ s. all s ts)) (at (symbol t) w)
  where
    at : (s : Symbol) → IsTheWord s → step (another_stmt c go) s ≡ step (setting (λ x is e. await marks.Semicolon (another_stmt (join c (assign x is e done)) go))) s
    at (word x) w = refl
    at (digits v p) w = absurd w
    at (sign m) w = absurd w
    at faulty w = absurd w

pub assignment_adds : (ts r : List TextToken) (x : Spot) (is : Phrases) (e : Phrase) → IsWord ts → Sets marks.Semicolon ts x is e r → AddsStmt ts (assign x is e done) r
assignment_adds ts r x is e w f = record {
  goes = λ c go. word_starts c go ts w ∙ f.goes (λ y js d. another_stmt (join c (assign y js d done)) go);
}

pub assignment_misses : (ts : List TextToken) (e : Refusal) → IsWord ts → FailsSetting marks.Semicolon ts e → MissesStmt ts e
assignment_misses ts NoMemory w h = h
assignment_misses ts (Expected left) w h = λ c go. word_starts c go ts w ∙ h (λ y js d. another_stmt (join c (assign y js d done)) go)

no_else : (t : Symbol) (c : Statements) (e : Phrase) (b : Statements) (go : Statements → Parser) → (t ≡ sign marks.Else → ⊥) → else_step t c e b go ≡ None
no_else (word x) c e b go h = refl
no_else (digits v p) c e b go h = refl
no_else faulty c e b go h = refl
no_else (sign marks.Else) c e b go h = absurd (h refl)
no_else (sign _) c e b go h = refl

else_skipped : (c : Statements) (e : Phrase) (b : Statements) (go : Statements → Parser) (ts : List TextToken) → NotNext marks.Else ts → all (maybe_else c e b go) ts ≡ all (another_stmt (join c (if_ e b done)) go) ts
else_skipped c e b go [] h = refl
else_skipped c e b go (t ∷ ts) h =
    let d = join c (if_ e b done) in
    ap (λ o. next (otherwise o (otherwise (stmt_step (symbol t) d go) (step (go d) (symbol t)))) (suc (length ts)) (λ s. all s ts)) (no_else (symbol t) c e b go h)

pub if_skips_else : (ts r1 r2 : List TextToken) (e : Phrase) (b : Statements) → Reads test ts e r1 → Reads block r1 b r2 → NotNext marks.Else r2 → FollowsIf ts (if_ e b done) r2
if_skips_else ts r1 r2 e b f g n = record {
  goes = λ c go. f.goes (λ d. block (λ t. maybe_else c d t go)) ∙ g.goes (λ t. maybe_else c e t go) ∙ else_skipped c e b go r2 n;
}

pub if_takes_else : (ts r1 r2 r3 r4 : List TextToken) (e : Phrase) (b d : Statements) → Reads test ts e r1 → Reads block r1 b r2 → Begins r2 (sign marks.Else) r3 → Reads block r3 d r4 → FollowsIf ts (if_else e b d done) r4
if_takes_else ts r1 r2 r3 r4 e b d f g w k = record {
  goes = λ c go.
      f.goes (λ x. block (λ t. maybe_else c x t go))
      ∙ g.goes (λ t. maybe_else c e t go)
      ∙ begins_all r2 r3 (sign marks.Else) w (maybe_else c e b go)
      ∙ k.goes (λ u. another_stmt (join c (if_else e b u done)) go);
}

pub while_reads : (ts r1 r2 : List TextToken) (e : Phrase) (b : Statements) → Reads test ts e r1 → Reads block r1 b r2 → Reads while_from ts (while_ e b done) r2
while_reads ts r1 r2 e b f g = record { goes = λ go. f.goes (λ d. block (λ t. go (while_ d t done))) ∙ g.goes (λ t. go (while_ e t done)) }

-- The head of a `for`, part by part.

pub for_fails_first : (ts r : List TextToken) (e : Refusal) → Begins ts (sign marks.OpenParen) r → FailsSetting marks.Semicolon r e → Fails for_from ts e
for_fails_first ts r NoMemory b h = h
for_fails_first ts r (Expected left) b h =
    λ go. await_begins marks.OpenParen ts r b (setting (λ x is e. await marks.Semicolon (upto marks.Semicolon (λ w. setting (λ y js f. await marks.CloseParen (block (λ t. go (for_ x is e w y js f t done))))))))
    ∙ h (λ x is e. upto marks.Semicolon (λ w. setting (λ y js f. await marks.CloseParen (block (λ t. go (for_ x is e w y js f t done))))))

-- after the first assignment
pub for_first : (ts r r1 : List TextToken) (x : Spot) (is : Phrases) (e : Phrase) → Begins ts (sign marks.OpenParen) r → Sets marks.Semicolon r x is e r1 → (go : Statements → Parser) → all (for_from go) ts ≡ all (upto marks.Semicolon (λ w. setting (λ y js f. await marks.CloseParen (block (λ t. go (for_ x is e w y js f t done)))))) r1
for_first ts r r1 x is e b f go =
    await_begins marks.OpenParen ts r b (setting (λ x is e. await marks.Semicolon (upto marks.Semicolon (λ w. setting (λ y js f. await marks.CloseParen (block (λ t. go (for_ x is e w y js f t done))))))))
    ∙ f.goes (λ x is e. upto marks.Semicolon (λ w. setting (λ y js f. await marks.CloseParen (block (λ t. go (for_ x is e w y js f t done))))))

pub for_fails_test : (ts r r1 : List TextToken) (x : Spot) (is : Phrases) (e : Phrase) (d : Refusal) → Begins ts (sign marks.OpenParen) r → Sets marks.Semicolon r x is e r1 → Fails (upto marks.Semicolon) r1 d → Fails for_from ts d
for_fails_test ts r r1 x is e NoMemory b f h = h
for_fails_test ts r r1 x is e (Expected left) b f h =
    λ go. for_first ts r r1 x is e b f go ∙ h (λ w. setting (λ y js f. await marks.CloseParen (block (λ t. go (for_ x is e w y js f t done)))))

pub for_test : (ts r r1 r2 : List TextToken) (x : Spot) (is : Phrases) (e w : Phrase) → Begins ts (sign marks.OpenParen) r → Sets marks.Semicolon r x is e r1 → Reads (upto marks.Semicolon) r1 w r2 → (go : Statements → Parser) → all (for_from go) ts ≡ all (setting (λ y js f. await marks.CloseParen (block (λ t. go (for_ x is e w y js f t done))))) r2
for_test ts r r1 r2 x is e w b f g go =
    for_first ts r r1 x is e b f go ∙ g.goes (λ w. setting (λ y js f. await marks.CloseParen (block (λ t. go (for_ x is e w y js f t done)))))

pub for_fails_step : (ts r r1 r2 : List TextToken) (x : Spot) (is : Phrases) (e w : Phrase) (d : Refusal) → Begins ts (sign marks.OpenParen) r → Sets marks.Semicolon r x is e r1 → Reads (upto marks.Semicolon) r1 w r2 → FailsSetting marks.CloseParen r2 d → Fails for_from ts d
for_fails_step ts r r1 r2 x is e w NoMemory b f g h = h
for_fails_step ts r r1 r2 x is e w (Expected left) b f g h =
    λ go. for_test ts r r1 r2 x is e w b f g go ∙ h (λ y js f. block (λ t. go (for_ x is e w y js f t done)))

pub for_step : (ts r r1 r2 r3 : List TextToken) (x y : Spot) (is js : Phrases) (e w k : Phrase) → Begins ts (sign marks.OpenParen) r → Sets marks.Semicolon r x is e r1 → Reads (upto marks.Semicolon) r1 w r2 → Sets marks.CloseParen r2 y js k r3 → (go : Statements → Parser) → all (for_from go) ts ≡ all (block (λ t. go (for_ x is e w y js k t done))) r3
for_step ts r r1 r2 r3 x y is js e w k b f g h go =
    for_test ts r r1 r2 x is e w b f g go ∙ h.goes (λ y js f. block (λ t. go (for_ x is e w y js f t done)))

pub for_fails_body : (ts r r1 r2 r3 : List TextToken) (x y : Spot) (is js : Phrases) (e w k : Phrase) (d : Refusal) → Begins ts (sign marks.OpenParen) r → Sets marks.Semicolon r x is e r1 → Reads (upto marks.Semicolon) r1 w r2 → Sets marks.CloseParen r2 y js k r3 → Fails block r3 d → Fails for_from ts d
for_fails_body ts r r1 r2 r3 x y is js e w k NoMemory b f g h i = i
for_fails_body ts r r1 r2 r3 x y is js e w k (Expected left) b f g h i =
    λ go. for_step ts r r1 r2 r3 x y is js e w k b f g h go ∙ i (λ t. go (for_ x is e w y js k t done))

pub for_reads : (ts r r1 r2 r3 r4 : List TextToken) (x y : Spot) (is js : Phrases) (e w k : Phrase) (c : Statements) → Begins ts (sign marks.OpenParen) r → Sets marks.Semicolon r x is e r1 → Reads (upto marks.Semicolon) r1 w r2 → Sets marks.CloseParen r2 y js k r3 → Reads block r3 c r4 → Reads for_from ts (for_ x is e w y js k c done) r4
for_reads ts r r1 r2 r3 r4 x y is js e w k c b f g h i = record {
  goes = λ go. for_step ts r r1 r2 r3 x y is js e w k b f g h go ∙ i.goes (λ t. go (for_ x is e w y js k t done));
}

pub stmts_more : (ts r r' : List TextToken) (c d : Statements) → ExtendsStmts ts c r → AddsStmt r d r' → length r' < length r → ExtendsStmts ts (join c d) r'
stmts_more ts r r' c d f g l = record { goes = λ go. f.goes go ∙ g.goes c go; shorter = let q = f.shorter in omega arith }
