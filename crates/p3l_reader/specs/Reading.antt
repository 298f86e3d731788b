-- The results of the reader's functions, by the parser.
use Rattle.std.specs.Prelude.{◌≡◌, ℕ, ℤ, ◌<◌, ◌≤◌, List, [], ◌∷◌, ◌++◌, length, Option, Some, None}
use Rattle.std.specs.declared.result.Result.TheVariants.{Err}
use Rattle.p3l_ast.specs.declared.position.Spot.{Spot}
use Rattle.p3l_ast.specs.declared.expression.UnOp.{UnOp}
use Rattle.p3l_ast.specs.declared.expression.BinOp.{BinOp}
use Rattle.p3l_ast.specs.declared.expression.BinOp.TheVariants as ops
use Rattle.p3l_ast.specs.declared.module.Kind.{Kind}
use Rattle.p3l_ast.specs.Tree.{Phrase, Phrases, none, snoc, Statements, join, EntryTree}
use Rattle.p3l_lexer.specs.declared.mark.Mark.{Mark}
use Rattle.p3l_lexer.specs.declared.mark.Mark.TheVariants as marks
use Rattle.p3l_lexer.specs.declared.token.TextToken.{TextToken}
use Rattle.p3l_ast.specs.Notation.{level}
use Rattle.p3l_grammar.specs.Symbol.{Symbol, word, digits, sign, symbol}
use Rattle.p3l_grammar.specs.Parser.{Parser, entries, await, any_word, operand, another_index, value, another_stmt, Hole, after_unary, need, setting, if_from, end_of, infix_of, all}
use Rattle.p3l_reader.specs.declared.refusal.Refusal.{Refusal}
use Rattle.p3l_reader.specs.declared.refusal.Refusal.TheVariants.{NoMemory, Expected}
use Rattle.p3l_base.specs.Memory.{Refused}

-- the tokens are one that is seen so, and then the rest
pub record Begins (tokens : List TextToken) (first : Symbol) (rest : List TextToken) : Type 0 where
  pub token : TextToken
  pub whole : tokens ≡ token ∷ rest
  pub seen : symbol token ≡ first

-- this mark does not come next
abbrev pub NotNext : Mark → List TextToken → Type 0
NotNext m [] = Unit {0}
NotNext m (t ∷ ts) = symbol t ≡ sign m → ⊥

-- no name comes next
abbrev pub IsNoWord : Symbol → Type 0
IsNoWord (word x) = ⊥
IsNoWord _ = Unit {0}

abbrev pub NoWord : List TextToken → Type 0
NoWord [] = Unit {0}
NoWord (t ∷ ts) = IsNoWord (symbol t)

-- a name comes next
abbrev pub IsTheWord : Symbol → Type 0
IsTheWord (word x) = Unit {0}
IsTheWord _ = ⊥

abbrev pub IsWord : List TextToken → Type 0
IsWord [] = ⊥
IsWord (t ∷ ts) = IsTheWord (symbol t)

-- no mark comes next
abbrev pub IsNoSign : Symbol → Type 0
IsNoSign (sign m) = ⊥
IsNoSign _ = Unit {0}

abbrev pub NoSign : List TextToken → Type 0
NoSign [] = Unit {0}
NoSign (t ∷ ts) = IsNoSign (symbol t)

-- no digits come next
abbrev pub IsNoDigits : Symbol → Type 0
IsNoDigits (digits v p) = ⊥
IsNoDigits _ = Unit {0}

abbrev pub NoDigits : List TextToken → Type 0
NoDigits [] = Unit {0}
NoDigits (t ∷ ts) = IsNoDigits (symbol t)

-- the tokens are this number, and then the rest
abbrev pub IsNumeral : Symbol → ℤ → Type 0
IsNumeral (digits w p) v = v ≡ w
IsNumeral _ v = ⊥

abbrev pub BeginsDigits : List TextToken → ℤ → List TextToken → Type 0
BeginsDigits [] v rest = ⊥
BeginsDigits (t ∷ ts) v rest = IsNumeral (symbol t) v × (ts ≡ rest)

-- for every parser that continues after an A, the tokens are this A and then the rest
pub record Reads {A : Type 0} (from : (A → Parser) → Parser) (tokens : List TextToken) (x : A) (rest : List TextToken) : Type 0 where
  pub goes : (go : A → Parser) → all (from go) tokens ≡ all (go x) rest

-- for every parser that continues after an A, the tokens are refused where this number of them is left
abbrev pub Fails : {A : Type 0} → ((A → Parser) → Parser) → List TextToken → Refusal → Type 0
Fails from tokens NoMemory = Refused
Fails from tokens (Expected left) = (go : _) → all (from go) tokens ≡ Err left

-- the mark is refused
abbrev pub NotThere : Mark → List TextToken → Refusal → Type 0
NotThere m tokens NoMemory = Refused
NotThere m tokens (Expected left) = NotNext m tokens × (left ≡ length tokens)

-- Lists: what may come again and again.

-- the tokens are one more A of the list, and then the rest
pub record Adds {A : Type 0} (list : List A → (List A → Parser) → Parser) (tokens : List TextToken) (x : A) (rest : List TextToken) : Type 0 where
  pub goes : (xs : List A) (go : List A → Parser) → all (list xs go) tokens ≡ all (list (xs ++ x ∷ []) go) rest

-- the list ends here
pub record Leaves {A : Type 0} (list : List A → (List A → Parser) → Parser) (tokens : List TextToken) : Type 0 where
  pub goes : (xs : List A) (go : List A → Parser) → all (list xs go) tokens ≡ all (go xs) tokens

-- one more A is begun, and refused where this number of tokens is left
abbrev pub Misses : {A : Type 0} → (List A → (List A → Parser) → Parser) → List TextToken → Refusal → Type 0
Misses list tokens NoMemory = Refused
Misses list tokens (Expected left) = (xs : _) (go : _) → all (list xs go) tokens ≡ Err left

-- things with commas between them, one at least, and the same in parentheses
abbrev pub separated_list : {A : Type 0} → ((A → Parser) → Parser) → (List A → (List A → Parser) → Parser) → (List A → Parser) → Parser
separated_list one list go = one (λ x. list (x ∷ []) go)

abbrev pub parenthesized : {A : Type 0} → ((A → Parser) → Parser) → (List A → (List A → Parser) → Parser) → (List A → Parser) → Parser
parenthesized one list go = await marks.OpenParen (separated_list one list (λ xs. await marks.CloseParen (go xs)))

-- Ends of modules.

-- the tokens are the end of a module of this kind, and then the rest
pub record Closes (kind : Kind) (tokens rest : List TextToken) : Type 0 where
  pub goes : (s : Parser) → all (end_of kind s) tokens ≡ all s rest

abbrev pub FailsEnd : Kind → List TextToken → Refusal → Type 0
FailsEnd kind tokens NoMemory = Refused
FailsEnd kind tokens (Expected left) = (s : Parser) → all (end_of kind s) tokens ≡ Err left

-- Expressions.

-- no operator before an operand comes next
abbrev pub IsNoUnary : Symbol → Type 0
IsNoUnary (sign (marks.Operator ops.Sub)) = ⊥
IsNoUnary (sign marks.Bang) = ⊥
IsNoUnary (sign marks.Tilde) = ⊥
IsNoUnary _ = Unit {0}

abbrev pub NoUnary : List TextToken → Type 0
NoUnary [] = Unit {0}
NoUnary (t ∷ ts) = IsNoUnary (symbol t)

-- no operator of this level or a tighter one comes next
abbrev pub StopsAt : ℕ → Option BinOp → Type 0
StopsAt n None = Unit {0}
StopsAt n (Some o) = level o < n

abbrev pub Stops : ℕ → List TextToken → Type 0
Stops n [] = Unit {0}
Stops n (t ∷ ts) = StopsAt n (infix_of (symbol t))

-- wherever an operand of this tightness is, the tokens are this expression and then the rest
pub record Follows (n : ℕ) (tokens : List TextToken) (e : Phrase) (rest : List TextToken) : Type 0 where
  pub goes : (h : Hole) → need h ≤ n → all (operand h) tokens ≡ all (value e h) rest
  pub shorter : length rest < length tokens

-- there they are refused where this number of them is left
abbrev pub FailsAt : ℕ → List TextToken → Refusal → Type 0
FailsAt n tokens NoMemory = Refused
FailsAt n tokens (Expected left) = (h : Hole) → need h ≤ n → all (operand h) tokens ≡ Err left

-- the same after an operator before its operand
pub record FollowsUnary (o : UnOp) (tokens : List TextToken) (e : Phrase) (rest : List TextToken) : Type 0 where
  pub goes : (h : Hole) → all (operand (after_unary o h)) tokens ≡ all (value e h) rest
  pub shorter : length rest < length tokens

abbrev pub FailsUnary : UnOp → List TextToken → Refusal → Type 0
FailsUnary o tokens NoMemory = Refused
FailsUnary o tokens (Expected left) = (h : Hole) → all (operand (after_unary o h)) tokens ≡ Err left

-- the tokens are one more index, and then the rest
pub record AddsIndex (tokens : List TextToken) (e : Phrase) (rest : List TextToken) : Type 0 where
  pub goes : (is : Phrases) (go : Phrases → Parser) → all (another_index is go) tokens ≡ all (another_index (snoc is e) go) rest

pub record LeavesIndex (tokens : List TextToken) : Type 0 where
  pub goes : (is : Phrases) (go : Phrases → Parser) → all (another_index is go) tokens ≡ all (go is) tokens

abbrev pub MissesIndex : List TextToken → Refusal → Type 0
MissesIndex tokens NoMemory = Refused
MissesIndex tokens (Expected left) = (is : Phrases) (go : Phrases → Parser) → all (another_index is go) tokens ≡ Err left

-- Statements.

-- the tokens are a target, and then the rest
pub record Targets (tokens : List TextToken) (x : Spot) (is : Phrases) (rest : List TextToken) : Type 0 where
  pub goes : (go : Spot → Phrases → Parser) → all (any_word (λ y. another_index none (go y))) tokens ≡ all (go x is) rest

abbrev pub FailsTarget : List TextToken → Refusal → Type 0
FailsTarget tokens NoMemory = Refused
FailsTarget tokens (Expected left) = (go : Spot → Phrases → Parser) → all (any_word (λ y. another_index none (go y))) tokens ≡ Err left

-- the tokens are an assignment up to a mark, and then the rest
pub record Sets (m : Mark) (tokens : List TextToken) (x : Spot) (is : Phrases) (e : Phrase) (rest : List TextToken) : Type 0 where
  pub goes : (go : Spot → Phrases → Phrase → Parser) → all (setting (λ y js f. await m (go y js f))) tokens ≡ all (go x is e) rest

abbrev pub FailsSetting : Mark → List TextToken → Refusal → Type 0
FailsSetting m tokens NoMemory = Refused
FailsSetting m tokens (Expected left) = (go : Spot → Phrases → Phrase → Parser) → all (setting (λ y js f. await m (go y js f))) tokens ≡ Err left

-- the tokens are one more statement, and then the rest
pub record AddsStmt (tokens : List TextToken) (d : Statements) (rest : List TextToken) : Type 0 where
  pub goes : (c : Statements) (go : Statements → Parser) → all (another_stmt c go) tokens ≡ all (another_stmt (join c d) go) rest

pub record LeavesStmts (tokens : List TextToken) : Type 0 where
  pub goes : (c : Statements) (go : Statements → Parser) → all (another_stmt c go) tokens ≡ all (go c) tokens

abbrev pub MissesStmt : List TextToken → Refusal → Type 0
MissesStmt tokens NoMemory = Refused
MissesStmt tokens (Expected left) = (c : Statements) (go : Statements → Parser) → all (another_stmt c go) tokens ≡ Err left

-- after an `if` the tokens are the rest of the choice, and then the rest
pub record FollowsIf (tokens : List TextToken) (d : Statements) (rest : List TextToken) : Type 0 where
  pub goes : (c : Statements) (go : Statements → Parser) → all (if_from c go) tokens ≡ all (another_stmt (join c d) go) rest

abbrev pub FailsIf : List TextToken → Refusal → Type 0
FailsIf tokens NoMemory = Refused
FailsIf tokens (Expected left) = (c : Statements) (go : Statements → Parser) → all (if_from c go) tokens ≡ Err left

-- Entries.

pub record AddsEntry (tokens : List TextToken) (e : EntryTree) (rest : List TextToken) : Type 0 where
  pub goes : (es : List EntryTree) → all (entries es) tokens ≡ all (entries (es ++ e ∷ [])) rest

abbrev pub MissesEntry : List TextToken → Refusal → Type 0
MissesEntry tokens NoMemory = Refused
MissesEntry tokens (Expected left) = (es : List EntryTree) → all (entries es) tokens ≡ Err left

-- the text is refused where this number of tokens is left
abbrev pub FailsText : List TextToken → Refusal → Type 0
FailsText tokens NoMemory = Refused
FailsText tokens (Expected left) = all (entries []) tokens ≡ Err left
