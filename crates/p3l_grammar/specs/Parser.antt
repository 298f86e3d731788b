-- A parser that reads symbols one by one: it says what may come, and how the reading goes on then.
use Rattle.std.specs.Prelude.{ℕ, suc, ℤ, List, [], ◌∷◌, ◌++◌, length, Option, Some, None, Bool, true, false, cond, nat_le, bytes_eq}
use Rattle.std.specs.declared.result.Result.{Result}
use Rattle.std.specs.declared.result.Result.TheVariants.{Ok, Err}
use Rattle.p3l_ast.specs.declared.position.Spot.{Spot}
use Rattle.p3l_ast.specs.declared.port.Num.{Num}
use Rattle.p3l_ast.specs.declared.port.Num.TheVariants.{Digits, Named}
use Rattle.p3l_ast.specs.declared.port.Port.{Port}
use Rattle.p3l_ast.specs.declared.call.Sub.{Sub}
use Rattle.p3l_ast.specs.declared.call.Sub.TheVariants.{Whole, Free}
use Rattle.p3l_ast.specs.declared.call.Arg.{Arg}
use Rattle.p3l_ast.specs.declared.call.OutArg.{OutArg}
use Rattle.p3l_ast.specs.declared.call.OutArg.TheVariants.{Fresh, Old}
use Rattle.p3l_ast.specs.declared.call.Call.{Call}
use Rattle.p3l_ast.specs.declared.expression.UnOp.{UnOp}
use Rattle.p3l_ast.specs.declared.expression.UnOp.TheVariants.{Neg, Not, Flip}
use Rattle.p3l_ast.specs.declared.expression.BinOp.{BinOp}
use Rattle.p3l_ast.specs.declared.expression.BinOp.TheVariants as ops
use Rattle.p3l_ast.specs.declared.module.Kind.{Kind}
use Rattle.p3l_ast.specs.declared.module.Kind.TheVariants as kinds
use Rattle.p3l_ast.specs.declared.module.Rescue.{Rescue}
use Rattle.p3l_ast.specs.Tree.{Phrase, number, read, unary, binary, Phrases, none, snoc, Statements, done, assign, if_, if_else, while_, for_, join, body, turning, InsideTree, EntryTree, constant}
use Rattle.p3l_lexer.specs.declared.mark.Mark.{Mark}
use Rattle.p3l_lexer.specs.declared.mark.Mark.TheVariants as marks
use Rattle.p3l_lexer.specs.declared.token.TextToken.{TextToken}
use Rattle.p3l_ast.specs.Notation.{level}
use Rattle.p3l_lexer.specs.Mark.{mark_text}
use Rattle.p3l_grammar.specs.Symbol.{symbol, Symbol, word, digits, sign, kind_mark}
use Rattle.p3l_grammar.specs.Written.{Signature, Filling, body_filling, chain_filling, spread_filling, turning_filling, module_of}

mutual
  -- The symbols that may come next. `another` means one more element of a list, or the symbols after the list.
  pub data Parser : Type 0 where
    entries : List EntryTree → Parser
    await : Mark → Parser → Parser
    any_word : (Spot → Parser) → Parser
    any_digits : (ℤ → Parser) → Parser
    any_num : (Num → Parser) → Parser
    clause : Mark → (Option Num → Parser) → Parser
    any_rescue : (Rescue → Parser) → Parser
    rescue_clause : (Option Rescue → Parser) → Parser
    another_size : List Num → (List Num → Parser) → Parser
    any_sub : (Sub → Parser) → Parser
    another_sub : List Sub → (List Sub → Parser) → Parser
    another_port : List Port → (List Port → Parser) → Parser
    another_arg : List Arg → (List Arg → Parser) → Parser
    any_out : (OutArg → Parser) → Parser
    another_out : List OutArg → (List OutArg → Parser) → Parser
    another_call : List Call → (List Call → Parser) → Parser
    another_local : List Port → (List Port → Parser) → Parser
    operand : Hole → Parser
    another_index : Phrases → (Phrases → Parser) → Parser
    value : Phrase → Hole → Parser
    another_stmt : Statements → (Statements → Parser) → Parser
    maybe_else : Statements → Phrase → Statements → (Statements → Parser) → Parser

  -- the place of an operand in its expression
  pub data Hole : Type 0 where
    whole : (Phrase → Parser) → Hole
    after_unary : UnOp → Hole → Hole
    after_binary : BinOp → Phrase → Hole → Hole

-- the least level of an expression at its place
abbrev pub need : Hole → ℕ
need (whole go) = 0
need (after_unary o h) = 10
need (after_binary o a h) = suc (level o)

-- The symbols that may come, by the productions.

abbrev pub expression : (Phrase → Parser) → Parser
expression go = operand (whole go)

-- an expression up to a mark
abbrev pub upto : Mark → (Phrase → Parser) → Parser
upto m go = expression (λ e. await m (go e))

abbrev pub size_in : (Num → Parser) → Parser
size_in go = any_num (λ n. await marks.CloseBracket (go n))

abbrev pub port_from : (Port → Parser) → Parser
port_from go = any_word (λ x. another_size [] (λ ns. go (record { at = x; sizes = ns })))

abbrev pub port : (Port → Parser) → Parser
port go = await marks.Int (port_from go)

abbrev pub arg_from : Spot → (Arg → Parser) → Parser
arg_from x go = another_sub [] (λ ss. go (record { at = x; subs = ss }))

abbrev pub arg : (Arg → Parser) → Parser
arg go = any_word (λ x. arg_from x go)

-- lists with commas between their items, and in parentheses

abbrev pub port_list : (List Port → Parser) → Parser
port_list go = port (λ p. another_port (p ∷ []) go)

abbrev pub ports : (List Port → Parser) → Parser
ports go = await marks.OpenParen (port_list (λ ps. await marks.CloseParen (go ps)))

abbrev pub arg_list : (List Arg → Parser) → Parser
arg_list go = arg (λ a. another_arg (a ∷ []) go)

abbrev pub args : (List Arg → Parser) → Parser
args go = await marks.OpenParen (arg_list (λ xs. await marks.CloseParen (go xs)))

abbrev pub out_list : (List OutArg → Parser) → Parser
out_list go = any_out (λ a. another_out (a ∷ []) go)

abbrev pub out_args : (List OutArg → Parser) → Parser
out_args go = await marks.OpenParen (out_list (λ xs. await marks.CloseParen (go xs)))

abbrev pub call_outs : Spot → List Arg → (Call → Parser) → Parser
call_outs x is go = await marks.Out (out_args (λ os. go (record { at = x; ins = is; outs = os })))

abbrev pub call_from : Spot → (Call → Parser) → Parser
call_from x go = await marks.In (args (λ is. call_outs x is go))

abbrev pub call : (Call → Parser) → Parser
call go = any_word (λ x. call_from x go)

abbrev pub call_list : (List Call → Parser) → Parser
call_list go = call (λ c. another_call (c ∷ []) go)

abbrev pub signature_outs : Spot → List Port → (Signature → Parser) → Parser
signature_outs x is go = await marks.Out (ports (λ os. go (record { at = x; ins = is; outs = os })))

abbrev pub signature_from : Spot → (Signature → Parser) → Parser
signature_from x go = await marks.In (ports (λ is. signature_outs x is go))

abbrev pub head : (Signature → Parser) → Parser
head go = any_word (λ x. signature_from x go)

abbrev pub local_from : (Port → Parser) → Parser
local_from go = port_from (λ p. await marks.Semicolon (go p))

abbrev pub block : (Statements → Parser) → Parser
block go = await marks.OpenBrace (another_stmt done (λ b. await marks.CloseBrace (go b)))

-- the symbols after the name of a place that is read
abbrev pub place_from : Spot → (Phrase → Parser) → Parser
place_from x go = another_index none (λ is. go (read x is))

abbrev pub setting_from : Spot → (Phrases → Phrase → Parser) → Parser
setting_from x go = another_index none (λ is. await marks.Assign (expression (λ e. go is e)))

abbrev pub setting : (Spot → Phrases → Phrase → Parser) → Parser
setting go = any_word (λ x. setting_from x (go x))

abbrev pub test : (Phrase → Parser) → Parser
test go = await marks.OpenParen (upto marks.CloseParen go)

abbrev pub assignment_from : Spot → (Statements → Parser) → Parser
assignment_from x go = setting_from x (λ is e. await marks.Semicolon (go (assign x is e done)))

abbrev pub if_from : Statements → (Statements → Parser) → Parser
if_from c go = test (λ e. block (λ t. maybe_else c e t go))

abbrev pub while_from : (Statements → Parser) → Parser
while_from go = test (λ e. block (λ b. go (while_ e b done)))

abbrev pub for_from : (Statements → Parser) → Parser
for_from go =
    await marks.OpenParen (setting (λ x is e. await marks.Semicolon (upto marks.Semicolon (λ w.
    (setting (λ y js f. await marks.CloseParen (block (λ b. go (for_ x is e w y js f b done)))))))))

abbrev pub end_of : Kind → Parser → Parser
end_of k s = await marks.End (await (kind_mark k) s)

abbrev pub fixed_from : (EntryTree → Parser) → Parser
fixed_from go = any_word (λ x. await marks.Assign (any_digits (λ v. await marks.Semicolon (go (constant x v)))))

abbrev pub body_in : (InsideTree → Parser) → Parser
body_in go = another_local [] (λ ls. another_stmt done (λ c. go (body ls c)))

-- the body of a `seq`
abbrev pub body_from : (InsideTree → Parser) → Parser
body_from go = await marks.OpenBody (body_in (λ i. await marks.CloseBody (go i)))

abbrev pub loop_calls : (InsideTree → Parser) → Parser
loop_calls go = call (λ b. await marks.While (call (λ c. go (turning b c))))

abbrev pub loop_tokens : Num → (Filling → Parser) → Parser
loop_tokens t go = clause marks.Tokens (λ n. loop_calls (λ i. go (turning_filling t n i)))

-- the part of a module between its head and its end
abbrev pub filling : Kind → (Filling → Parser) → Parser
filling kinds.Seq go = clause marks.Budget (λ b. rescue_clause (λ x. body_from (λ i. go (body_filling b x i))))
filling kinds.Comp go = rescue_clause (λ x. call_list (λ cs. go (chain_filling x cs)))
filling kinds.Pipe go = call_list (λ cs. go (chain_filling None cs))
filling kinds.Farm go = clause marks.Workers (λ w. call (λ c. go (spread_filling w c)))
filling kinds.Map go = clause marks.Workers (λ w. call (λ c. go (spread_filling w c)))
filling kinds.Reduce go = clause marks.Workers (λ w. call (λ c. go (spread_filling w c)))
filling kinds.Loop go = await marks.Turns (any_num (λ t. loop_tokens t go))

-- the symbols after the keyword of a module
abbrev pub module_from : Kind → (EntryTree → Parser) → Parser
module_from k go = head (λ h. filling k (λ f. end_of k (go (module_of k h f))))

-- One symbol.

-- the parser for the symbol, if there is one, and else the next
abbrev pub otherwise : Option Parser → Option Parser → Option Parser
otherwise None next = next
otherwise (Some s) next = Some s

-- the kind of a module that begins with a mark
abbrev pub kind_of : Mark → Option Kind
kind_of marks.Seq = Some kinds.Seq
kind_of marks.Comp = Some kinds.Comp
kind_of marks.Pipe = Some kinds.Pipe
kind_of marks.Farm = Some kinds.Farm
kind_of marks.Map = Some kinds.Map
kind_of marks.Reduce = Some kinds.Reduce
kind_of marks.Loop = Some kinds.Loop
kind_of _ = None

abbrev pub module_step : Option Kind → (EntryTree → Parser) → Option Parser
module_step None go = None
module_step (Some k) go = Some (module_from k go)

abbrev pub entry_step : Mark → (EntryTree → Parser) → Option Parser
entry_step marks.Const go = Some (fixed_from go)
entry_step m go = module_step (kind_of m) go

abbrev pub entries_step : Symbol → List EntryTree → Option Parser
entries_step (sign m) es = entry_step m (λ e. entries (es ++ e ∷ []))
entries_step _ es = None

-- a mark is known by how it is written
abbrev pub same_mark : Mark → Mark → Bool
same_mark a b = bytes_eq (mark_text a) (mark_text b)

abbrev pub await_step : Symbol → Mark → Parser → Option Parser
await_step (sign m) wanted s = cond (same_mark wanted m) (Some s) None
await_step _ wanted s = None

abbrev pub word_step : Symbol → (Spot → Parser) → Option Parser
word_step (word x) go = Some (go x)
word_step _ go = None

abbrev pub digits_step : Symbol → (ℤ → Parser) → Option Parser
digits_step (digits v p) go = Some (go v)
digits_step _ go = None

abbrev pub num_step : Symbol → (Num → Parser) → Option Parser
num_step (digits v p) go = Some (go (Digits v p))
num_step (word x) go = Some (go (Named x))
num_step _ go = None

abbrev pub clause_step : Symbol → Mark → (Option Num → Parser) → Option Parser
clause_step t m go = await_step t m (any_num (λ n. go (Some n)))

abbrev pub rescue_step : Symbol → (Rescue → Parser) → Option Parser
rescue_step (digits v p) go = Some (go (record { minus = false; num = Digits v p }))
rescue_step (word x) go = Some (go (record { minus = false; num = Named x }))
rescue_step (sign (marks.Operator ops.Sub)) go = Some (any_num (λ n. go (record { minus = true; num = n })))
rescue_step _ go = None

abbrev pub rescue_clause_step : Symbol → (Option Rescue → Parser) → Option Parser
rescue_clause_step t go = await_step t marks.Rescue (any_rescue (λ x. go (Some x)))

abbrev pub size_step : Symbol → List Num → (List Num → Parser) → Option Parser
size_step (sign marks.OpenBracket) ns go = Some (size_in (λ n. another_size (ns ++ n ∷ []) go))
size_step _ ns go = None

abbrev pub sub_step : Symbol → (Sub → Parser) → Option Parser
sub_step (sign marks.CloseBracket) go = Some (go Whole)
sub_step (sign (marks.Operator ops.Mul)) go = Some (any_word (λ x. await marks.CloseBracket (go (Free x))))
sub_step _ go = None

abbrev pub subs_step : Symbol → List Sub → (List Sub → Parser) → Option Parser
subs_step (sign marks.OpenBracket) ss go = Some (any_sub (λ s. another_sub (ss ++ s ∷ []) go))
subs_step _ ss go = None

abbrev pub port_step : Symbol → List Port → (List Port → Parser) → Option Parser
port_step (sign marks.Comma) ps go = Some (port (λ p. another_port (ps ++ p ∷ []) go))
port_step _ ps go = None

abbrev pub arg_step : Symbol → List Arg → (List Arg → Parser) → Option Parser
arg_step (sign marks.Comma) xs go = Some (arg (λ a. another_arg (xs ++ a ∷ []) go))
arg_step _ xs go = None

abbrev pub any_out_step : Symbol → (OutArg → Parser) → Option Parser
any_out_step (sign marks.Int) go = Some (port_from (λ p. go (Fresh p)))
any_out_step (word x) go = Some (arg_from x (λ a. go (Old a)))
any_out_step _ go = None

abbrev pub out_step : Symbol → List OutArg → (List OutArg → Parser) → Option Parser
out_step (sign marks.Comma) xs go = Some (any_out (λ a. another_out (xs ++ a ∷ []) go))
out_step _ xs go = None

abbrev pub call_step : Symbol → List Call → (List Call → Parser) → Option Parser
call_step (word x) cs go = Some (call_from x (λ c. another_call (cs ++ c ∷ []) go))
call_step _ cs go = None

abbrev pub local_step : Symbol → List Port → (List Port → Parser) → Option Parser
local_step (sign marks.Int) ls go = Some (local_from (λ p. another_local (ls ++ p ∷ []) go))
local_step _ ls go = None

abbrev pub operand_step : Symbol → Hole → Option Parser
operand_step (digits v p) h = Some (value (number v) h)
operand_step (word x) h = Some (another_index none (λ is. value (read x is) h))
operand_step (sign (marks.Operator ops.Sub)) h = Some (operand (after_unary Neg h))
operand_step (sign marks.Bang) h = Some (operand (after_unary Not h))
operand_step (sign marks.Tilde) h = Some (operand (after_unary Flip h))
operand_step (sign marks.OpenParen) h = Some (upto marks.CloseParen (λ e. value e h))
operand_step _ h = None

abbrev pub index_step : Symbol → Phrases → (Phrases → Parser) → Option Parser
index_step (sign marks.OpenBracket) is go = Some (upto marks.CloseBracket (λ e. another_index (snoc is e) go))
index_step _ is go = None

-- the operator that a symbol is after an operand
abbrev pub infix_of : Symbol → Option BinOp
infix_of (sign (marks.Operator o)) = Some o
infix_of _ = None

-- the level down to which operands before the next symbol are joined, 0 if it is no operator
abbrev pub level_of : Option BinOp → ℕ
level_of None = 0
level_of (Some o) = level o

abbrev pub operator_step : Option BinOp → Phrase → Hole → Option Parser
operator_step None e h = None
operator_step (Some o) e h = Some (operand (after_binary o e h))

abbrev pub stmt_step : Symbol → Statements → (Statements → Parser) → Option Parser
stmt_step (word x) c go = Some (assignment_from x (λ d. another_stmt (join c d) go))
stmt_step (sign marks.If) c go = Some (if_from c go)
stmt_step (sign marks.While) c go = Some (while_from (λ d. another_stmt (join c d) go))
stmt_step (sign marks.For) c go = Some (for_from (λ d. another_stmt (join c d) go))
stmt_step _ c go = None

abbrev pub else_step : Symbol → Statements → Phrase → Statements → (Statements → Parser) → Option Parser
else_step (sign marks.Else) c e t go = Some (block (λ f. another_stmt (join c (if_else e t f done)) go))
else_step _ c e t go = None

abbrev mutual
  pub step : Parser → Symbol → Option Parser
  step (entries es) t = entries_step t es
  step (await m s) t = await_step t m s
  step (any_word go) t = word_step t go
  step (any_digits go) t = digits_step t go
  step (any_num go) t = num_step t go
  step (clause m go) t = otherwise (clause_step t m go) (step (go None) t)
  step (any_rescue go) t = rescue_step t go
  step (rescue_clause go) t = otherwise (rescue_clause_step t go) (step (go None) t)
  step (another_size ns go) t = otherwise (size_step t ns go) (step (go ns) t)
  step (any_sub go) t = sub_step t go
  step (another_sub ss go) t = otherwise (subs_step t ss go) (step (go ss) t)
  step (another_port ps go) t = otherwise (port_step t ps go) (step (go ps) t)
  step (another_arg xs go) t = otherwise (arg_step t xs go) (step (go xs) t)
  step (any_out go) t = any_out_step t go
  step (another_out xs go) t = otherwise (out_step t xs go) (step (go xs) t)
  step (another_call cs go) t = otherwise (call_step t cs go) (step (go cs) t)
  step (another_local ls go) t = otherwise (local_step t ls go) (step (go ls) t)
  step (operand h) t = operand_step t h
  step (another_index is go) t = otherwise (index_step t is go) (step (go is) t)
  step (value e h) t = value_step h e t
  step (another_stmt c go) t = otherwise (stmt_step t c go) (step (go c) t)
  step (maybe_else c e b go) t =
      otherwise (else_step t c e b go) (otherwise (stmt_step t (join c (if_ e b done)) go) (step (go (join c (if_ e b done))) t))

  pub value_step : Hole → Phrase → Symbol → Option Parser
  value_step (whole go) e t = otherwise (operator_step (infix_of t) e (whole go)) (step (go e) t)
  value_step (after_unary o h) e t = value_step h (unary o e) t
  value_step (after_binary o a h) e t =
      cond (nat_le (level_of (infix_of t)) (level o)) (value_step h (binary o a e) t) (operator_step (infix_of t) e (after_binary o a h))

-- Tokens one after another.

abbrev mutual
  -- the program, where the text may end here; else nothing is left of the tokens
  pub finish : Parser → Result (List EntryTree) ℕ
  finish (entries es) = Ok es
  finish (clause m go) = finish (go None)
  finish (rescue_clause go) = finish (go None)
  finish (another_size ns go) = finish (go ns)
  finish (another_sub ss go) = finish (go ss)
  finish (another_port ps go) = finish (go ps)
  finish (another_arg xs go) = finish (go xs)
  finish (another_out xs go) = finish (go xs)
  finish (another_call cs go) = finish (go cs)
  finish (another_local ls go) = finish (go ls)
  finish (another_index is go) = finish (go is)
  finish (value e h) = value_finish h e
  finish (another_stmt c go) = finish (go c)
  finish (maybe_else c e b go) = finish (go (join c (if_ e b done)))
  finish _ = Err 0

  pub value_finish : Hole → Phrase → Result (List EntryTree) ℕ
  value_finish (whole go) e = finish (go e)
  value_finish (after_unary o h) e = value_finish h (unary o e)
  value_finish (after_binary o a h) e = value_finish h (binary o a e)

abbrev pub next : Option Parser → ℕ → (Parser → Result (List EntryTree) ℕ) → Result (List EntryTree) ℕ
next None left f = Err left
next (Some s) left f = f s

-- the program that the tokens are from a state on, or how many are left at the first that is refused
abbrev pub all : Parser → List TextToken → Result (List EntryTree) ℕ
all s [] = finish s
all s (t ∷ ts) = next (step s (symbol t)) (suc (length ts)) (λ s'. all s' ts)
