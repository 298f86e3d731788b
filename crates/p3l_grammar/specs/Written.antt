-- Programs as they are written: with parentheses, and with the position of every number.
use Rattle.std.specs.Prelude.{ℕ, ℤ, ◌<◌, ◌≤◌, Bool, true, false, List, [], ◌∷◌, map, Option, Some, None}
use Rattle.p3l_ast.specs.declared.position.Pos.{Pos}
use Rattle.p3l_ast.specs.declared.position.Spot.{Spot}
use Rattle.p3l_ast.specs.declared.port.Num.{Num}
use Rattle.p3l_ast.specs.declared.port.Num.TheVariants.{Digits, Named}
use Rattle.p3l_ast.specs.declared.port.Port.{Port}
use Rattle.p3l_ast.specs.declared.call.Sub.{Sub}
use Rattle.p3l_ast.specs.declared.call.Sub.TheVariants.{Whole, Free}
use Rattle.p3l_ast.specs.declared.call.Arg.{Arg}
use Rattle.p3l_ast.specs.declared.call.OutArg.{OutArg}
use Rattle.p3l_ast.specs.declared.call.OutArg.TheVariants.{Fresh, Old}
use Rattle.p3l_ast.specs.declared.call.Call.{Call}
use Rattle.p3l_ast.specs.declared.expression.UnOp.{UnOp}
use Rattle.p3l_ast.specs.declared.expression.BinOp.{BinOp}
use Rattle.p3l_ast.specs.declared.expression.BinOp.TheVariants as ops
use Rattle.p3l_ast.specs.declared.module.Kind.{Kind}
use Rattle.p3l_ast.specs.declared.module.Kind.TheVariants.{Seq, Comp, Pipe, Farm, Map, Reduce, Loop}
use Rattle.p3l_ast.specs.declared.module.Rescue.{Rescue}
use Rattle.p3l_ast.specs.declared.module.Clauses.{Clauses}
use Rattle.p3l_ast.specs.Tree as ast
use Rattle.p3l_ast.specs.Tree.{Phrase, number, read, unary, binary, Phrases, none, more, Statements, done, assign, body, calls, turning, InsideTree, EntryTree, constant, defined}
use Rattle.p3l_lexer.specs.declared.mark.Mark.{Mark}
use Rattle.p3l_lexer.specs.declared.mark.Mark.TheVariants as marks
use Rattle.p3l_ast.specs.Notation.{level}
use Rattle.p3l_grammar.specs.Symbol.{Symbol, word, digits, sign, unary_mark, kind_mark}

mutual
  -- an expression as it is written
  pub data Formula : Type 0 where
    numeral : ℤ → Pos → Formula
    place : Spot → Formulas → Formula
    prefix : UnOp → Formula → Formula
    infix_ : BinOp → Formula → Formula → Formula
    paren : Formula → Formula

  -- indices as they are written
  pub data Formulas : Type 0 where
    no_index : Formulas
    index : Formula → Formulas → Formulas

-- statements as they are written, each with those that follow it
pub data Script : Type 0 where
  stop : Script
  set : Spot → Formulas → Formula → Script → Script
  if_ : Formula → Script → Script → Script
  if_else : Formula → Script → Script → Script → Script
  while_ : Formula → Script → Script → Script
  for_ : Spot → Formulas → Formula → Formula → Spot → Formulas → Formula → Script → Script → Script

-- the name and the ports of a module
pub record Signature : Type 0 where
  pub at : Spot
  pub ins : List Port
  pub outs : List Port

-- an entry as it is written: a constant, a `seq` with its budget, rescue, locals and statements, a `pipe`, or a
-- `comp` with its rescue, a `farm`, `map` or `reduce` with its workers, or a `loop` with its turns, tokens, body
-- and condition
pub data Passage : Type 0 where
  fixed : Spot → ℤ → Pos → Passage
  bodied : Signature → Option Num → Option Rescue → List Port → Script → Passage
  chained : Kind → Signature → Option Rescue → List Call → Passage
  spread : Kind → Signature → Option Num → Call → Passage
  turned : Signature → Num → Option Num → Call → Call → Passage

-- Conditions under which these are texts of the language.

-- the level of the outermost construct of an expression
abbrev pub tight : Formula → ℕ
tight (numeral v p) = 10
tight (place x is) = 10
tight (prefix o e) = 10
tight (infix_ o a b) = level o
tight (paren e) = 10

-- the expression is grouped as its tokens are read: by levels, and to the left
abbrev mutual
  pub IsGrouped : Formula → Type 0
  IsGrouped (numeral v p) = Unit {0}
  IsGrouped (place x is) = AreGrouped is
  IsGrouped (prefix o e) = (10 ≤ tight e) × IsGrouped e
  IsGrouped (infix_ o a b) = (level o ≤ tight a) × (level o < tight b) × IsGrouped a × IsGrouped b
  IsGrouped (paren e) = IsGrouped e

  pub AreGrouped : Formulas → Type 0
  AreGrouped no_index = Unit {0}
  AreGrouped (index e is) = IsGrouped e × AreGrouped is

abbrev pub IsScript : Script → Type 0
IsScript stop = Unit {0}
IsScript (set x is e c) = AreGrouped is × IsGrouped e × IsScript c
IsScript (if_ e t c) = IsGrouped e × IsScript t × IsScript c
IsScript (if_else e t f c) = IsGrouped e × IsScript t × IsScript f × IsScript c
IsScript (while_ e b c) = IsGrouped e × IsScript b × IsScript c
IsScript (for_ x is e w y js f b c) =
    AreGrouped is × IsGrouped e × IsGrouped w × AreGrouped js × IsGrouped f × IsScript b × IsScript c

-- the list has an item
abbrev pub HasOne : {A : Type 0} → List A → Type 0
HasOne [] = ⊥
HasOne (x ∷ xs) = Unit {0}

abbrev pub IsSignature : Signature → Type 0
IsSignature h = HasOne h.ins × HasOne h.outs

abbrev pub IsCall : Call → Type 0
IsCall c = HasOne c.ins × HasOne c.outs

abbrev pub AreCalls : List Call → Type 0
AreCalls [] = Unit {0}
AreCalls (c ∷ cs) = IsCall c × AreCalls cs

-- a `comp` may have a rescue, and a `pipe` has none
abbrev pub IsChain : Kind → Option Rescue → Type 0
IsChain Pipe None = Unit {0}
IsChain Comp rescue = Unit {0}
IsChain _ _ = ⊥

abbrev pub IsSpread : Kind → Type 0
IsSpread Farm = Unit {0}
IsSpread Map = Unit {0}
IsSpread Reduce = Unit {0}
IsSpread _ = ⊥

abbrev pub IsPassage : Passage → Type 0
IsPassage (fixed x v p) = Unit {0}
IsPassage (bodied h b x ls c) = IsSignature h × IsScript c
IsPassage (chained k h x cs) = IsChain k x × IsSignature h × HasOne cs × AreCalls cs
IsPassage (spread k h w c) = IsSpread k × IsSignature h × IsCall c
IsPassage (turned h t n b c) = IsSignature h × IsCall b × IsCall c

abbrev pub IsText : List Passage → Type 0
IsText [] = Unit {0}
IsText (i ∷ is) = IsPassage i × IsText is

-- The tokens: those of the first argument, and then those of the last.

-- the symbols of each item, one after the other
abbrev pub each : {A : Type 0} → (A → List Symbol → List Symbol) → List A → List Symbol → List Symbol
each f [] r = r
each f (x ∷ xs) r = f x (each f xs r)

abbrev pub after_comma : {A : Type 0} → (A → List Symbol → List Symbol) → A → List Symbol → List Symbol
after_comma f x r = sign marks.Comma ∷ f x r

-- the symbols of each item, with commas between them
abbrev pub separated : {A : Type 0} → (A → List Symbol → List Symbol) → List A → List Symbol → List Symbol
separated f [] r = r
separated f (x ∷ xs) r = f x (each (after_comma f) xs r)

abbrev pub num_symbol : Num → Symbol
num_symbol (Digits v p) = digits v p
num_symbol (Named x) = word x

abbrev pub spell_size : Num → List Symbol → List Symbol
spell_size n r = sign marks.OpenBracket ∷ num_symbol n ∷ sign marks.CloseBracket ∷ r

abbrev pub spell_port : Port → List Symbol → List Symbol
spell_port p r = sign marks.Int ∷ word p.at ∷ each spell_size p.sizes r

-- the symbols after the bracket that opens
abbrev pub in_brackets : Sub → List Symbol → List Symbol
in_brackets Whole r = sign marks.CloseBracket ∷ r
in_brackets (Free x) r = sign (marks.Operator ops.Mul) ∷ word x ∷ sign marks.CloseBracket ∷ r

abbrev pub spell_sub : Sub → List Symbol → List Symbol
spell_sub s r = sign marks.OpenBracket ∷ in_brackets s r

abbrev pub spell_arg : Arg → List Symbol → List Symbol
spell_arg a r = word a.at ∷ each spell_sub a.subs r

abbrev pub spell_out : OutArg → List Symbol → List Symbol
spell_out (Fresh p) r = spell_port p r
spell_out (Old a) r = spell_arg a r

abbrev pub spell_call : Call → List Symbol → List Symbol
spell_call c r =
    word c.at ∷ sign marks.In ∷ sign marks.OpenParen ∷ separated spell_arg c.ins (sign marks.CloseParen
    ∷ sign marks.Out ∷ sign marks.OpenParen ∷ separated spell_out c.outs (sign marks.CloseParen ∷ r))

abbrev mutual
  pub spell : Formula → List Symbol → List Symbol
  spell (numeral v p) r = digits v p ∷ r
  spell (place x is) r = word x ∷ spell_index is r
  spell (prefix o e) r = sign (unary_mark o) ∷ spell e r
  spell (infix_ o a b) r = spell a (sign (marks.Operator o) ∷ spell b r)
  spell (paren e) r = sign marks.OpenParen ∷ spell e (sign marks.CloseParen ∷ r)

  pub spell_index : Formulas → List Symbol → List Symbol
  spell_index no_index r = r
  spell_index (index e is) r = sign marks.OpenBracket ∷ spell e (sign marks.CloseBracket ∷ spell_index is r)

abbrev pub spell_set : Spot → Formulas → Formula → List Symbol → List Symbol
spell_set x is e r = word x ∷ spell_index is (sign marks.Assign ∷ spell e r)

abbrev pub spell_script : Script → List Symbol → List Symbol
spell_script stop r = r
spell_script (set x is e c) r = spell_set x is e (sign marks.Semicolon ∷ spell_script c r)
spell_script (if_ e t c) r =
    sign marks.If ∷ sign marks.OpenParen ∷ spell e (sign marks.CloseParen
    ∷ sign marks.OpenBrace ∷ spell_script t (sign marks.CloseBrace ∷ spell_script c r))
spell_script (if_else e t f c) r =
    sign marks.If ∷ sign marks.OpenParen ∷ spell e (sign marks.CloseParen
    ∷ sign marks.OpenBrace ∷ spell_script t (sign marks.CloseBrace
    ∷ sign marks.Else ∷ sign marks.OpenBrace ∷ spell_script f (sign marks.CloseBrace ∷ spell_script c r)))
spell_script (while_ e b c) r =
    sign marks.While ∷ sign marks.OpenParen ∷ spell e (sign marks.CloseParen
    ∷ sign marks.OpenBrace ∷ spell_script b (sign marks.CloseBrace ∷ spell_script c r))
spell_script (for_ x is e w y js f b c) r =
    sign marks.For ∷ sign marks.OpenParen ∷ spell_set x is e (sign marks.Semicolon
    ∷ spell w (sign marks.Semicolon ∷ spell_set y js f (sign marks.CloseParen
    ∷ sign marks.OpenBrace ∷ spell_script b (sign marks.CloseBrace ∷ spell_script c r))))

abbrev pub spell_signature : Signature → List Symbol → List Symbol
spell_signature h r =
    word h.at ∷ sign marks.In ∷ sign marks.OpenParen ∷ separated spell_port h.ins (sign marks.CloseParen
    ∷ sign marks.Out ∷ sign marks.OpenParen ∷ separated spell_port h.outs (sign marks.CloseParen ∷ r))

-- a clause, where it is given
abbrev pub spell_clause : Mark → Option Num → List Symbol → List Symbol
spell_clause m None r = r
spell_clause m (Some n) r = sign m ∷ num_symbol n ∷ r

-- a number, after a minus where it is negated
abbrev pub spell_signed : Bool → Num → List Symbol → List Symbol
spell_signed false n r = num_symbol n ∷ r
spell_signed true n r = sign (marks.Operator ops.Sub) ∷ num_symbol n ∷ r

abbrev pub spell_rescue : Rescue → List Symbol → List Symbol
spell_rescue x r = spell_signed x.minus x.num r

-- a rescue, where it is given
abbrev pub spell_rescue_clause : Option Rescue → List Symbol → List Symbol
spell_rescue_clause None r = r
spell_rescue_clause (Some x) r = sign marks.Rescue ∷ spell_rescue x r

abbrev pub spell_local : Port → List Symbol → List Symbol
spell_local p r = spell_port p (sign marks.Semicolon ∷ r)

abbrev pub spell_end : Kind → List Symbol → List Symbol
spell_end k r = sign marks.End ∷ sign (kind_mark k) ∷ r

abbrev pub spell_passage : Passage → List Symbol → List Symbol
spell_passage (fixed x v p) r = sign marks.Const ∷ word x ∷ sign marks.Assign ∷ digits v p ∷ sign marks.Semicolon ∷ r
spell_passage (bodied h b x ls c) r =
    sign marks.Seq ∷ spell_signature h (spell_clause marks.Budget b (spell_rescue_clause x (sign marks.OpenBody
    ∷ each spell_local ls (spell_script c (sign marks.CloseBody ∷ spell_end Seq r)))))
spell_passage (chained k h x cs) r =
    sign (kind_mark k) ∷ spell_signature h (spell_rescue_clause x (each spell_call cs (spell_end k r)))
spell_passage (spread k h w c) r = sign (kind_mark k) ∷ spell_signature h (spell_clause marks.Workers w (spell_call c (spell_end k r)))
spell_passage (turned h t n b c) r =
    sign marks.Loop ∷ spell_signature h (sign marks.Turns ∷ num_symbol t ∷ spell_clause marks.Tokens n (spell_call b (sign marks.While
    ∷ spell_call c (spell_end Loop r))))

abbrev pub spell_text : List Passage → List Symbol → List Symbol
spell_text is r = each spell_passage is r

-- The program: what is written, without parentheses and without the positions that it does not keep.

abbrev mutual
  pub tree : Formula → Phrase
  tree (numeral v p) = number v
  tree (place x is) = read x (trees is)
  tree (prefix o e) = unary o (tree e)
  tree (infix_ o a b) = binary o (tree a) (tree b)
  tree (paren e) = tree e

  pub trees : Formulas → Phrases
  trees no_index = none
  trees (index e is) = more (tree e) (trees is)

abbrev pub script_tree : Script → Statements
script_tree stop = done
script_tree (set x is e c) = assign x (trees is) (tree e) (script_tree c)
script_tree (if_ e t c) = ast.if_ (tree e) (script_tree t) (script_tree c)
script_tree (if_else e t f c) = ast.if_else (tree e) (script_tree t) (script_tree f) (script_tree c)
script_tree (while_ e b c) = ast.while_ (tree e) (script_tree b) (script_tree c)
script_tree (for_ x is e w y js f b c) =
    ast.for_ x (trees is) (tree e) (tree w) y (trees js) (tree f) (script_tree b) (script_tree c)

-- the part of a module between its head and its end
pub record Filling : Type 0 where
  pub clauses : Clauses
  pub inside : InsideTree

abbrev pub body_filling : Option Num → Option Rescue → InsideTree → Filling
body_filling b x i = record {
  clauses = record { workers = None; turns = None; tokens = None; budget = b; rescue = x };
  inside = i;
}

abbrev pub chain_filling : Option Rescue → List Call → Filling
chain_filling x cs = record {
  clauses = record { workers = None; turns = None; tokens = None; budget = None; rescue = x };
  inside = calls cs;
}

abbrev pub spread_filling : Option Num → Call → Filling
spread_filling w c = record {
  clauses = record { workers = w; turns = None; tokens = None; budget = None; rescue = None };
  inside = calls (c ∷ []);
}

abbrev pub turning_filling : Num → Option Num → InsideTree → Filling
turning_filling t n i = record {
  clauses = record { workers = None; turns = Some t; tokens = n; budget = None; rescue = None };
  inside = i;
}

abbrev pub module_of : Kind → Signature → Filling → EntryTree
module_of k h f =
    defined (record { kind = k; at = h.at; ins = h.ins; outs = h.outs; clauses = f.clauses; inside = f.inside })

abbrev pub passage_tree : Passage → EntryTree
passage_tree (fixed x v p) = constant x v
passage_tree (bodied h b x ls c) = module_of Seq h (body_filling b x (body ls (script_tree c)))
passage_tree (chained k h x cs) = module_of k h (chain_filling x cs)
passage_tree (spread k h w c) = module_of k h (spread_filling w c)
passage_tree (turned h t n b c) = module_of Loop h (turning_filling t n (turning b c))

abbrev pub text_tree : List Passage → List EntryTree
text_tree is = map passage_tree is
