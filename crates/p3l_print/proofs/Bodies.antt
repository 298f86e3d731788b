-- The canonical text of a body is written with the tokens of its canonical form.
use Rattle.std.proofs.Common.{◌≡◌, ℕ, suc, ◌<◌, ◌^◌, Bool, true, false, List, [], ◌∷◌, ◌++◌, ℤ, pos, Some, refl, sym, subst, arith, append_assoc, codes}
use Rattle.std.specs.Prelude.{nat_le, nat_eq, if◌then◌else◌}
use Rattle.std.specs.Fmt.{signed_decimal}
use Rattle.std.specs.List.{list_all}
use Rattle.std.proofs.lemmas.Bool.Decides.{nat_tests}
use Rattle.p3l_ast.specs.declared.position.Spot.{Spot}
use Rattle.p3l_ast.specs.declared.expression.UnOp.{UnOp}
use Rattle.p3l_ast.specs.declared.expression.UnOp.TheVariants.{Neg, Not, Flip}
use Rattle.p3l_ast.specs.declared.expression.BinOp.{BinOp}
use Rattle.p3l_ast.specs.declared.expression.BinOp.TheVariants as ops
use Rattle.p3l_lexer.specs.declared.mark.Mark.{Mark}
use Rattle.p3l_lexer.specs.declared.mark.Mark.TheVariants as marks
use Rattle.p3l_lexer.specs.declared.token.Lexeme.TheVariants as lexemes
use Rattle.p3l_lexer.specs.declared.token.Piece.TheVariants as pieces
use Rattle.p3l_lexer.specs.Mark.{mark_text, punctuation_of}
use Rattle.p3l_lexer.specs.Piece.{is_blank, is_word_byte, piece_of}
use Rattle.p3l_lexer.specs.Cut.{Ends}
use Rattle.p3l_lexer.specs.Spelling.{goes_on}
use Rattle.p3l_lexer.proofs.Writing.{word_starts, digits_start, piece_of-decimal}
use Rattle.p3l_ast.specs.Notation.{level, operator_of}
use Rattle.p3l_grammar.specs.Symbol.{Symbol, word, sign, unary_mark}
use Rattle.p3l_grammar.specs.Written.{Formula, numeral, place, prefix, infix_, paren, Formulas, no_index, index, Script, stop, set, if_, if_else, while_, for_, spell, spell_index, spell_set, spell_script, tight, tree, trees, script_tree}
use Rattle.p3l_print.specs.Expression.{infix_text, operand_text, tightness, expression_text, index_text, target_text}
use Rattle.p3l_print.specs.Statement.{assignment_text, deeper, block_text, opening_text, for_opening_text, statements_text}
use Rattle.p3l_print.proofs.Canonical.{around, canonical_formula, canonical_formulas, canonical_script, tight_is}
use Rattle.p3l_print.proofs.Writing.{AreWritable, Writes, EndsWord, put_space, put_line, put_margin, put_mark, put_alone, open_bracket_alone, close_bracket_alone, open_paren_alone, close_paren_alone, semicolon_alone, open_brace_alone, put_word, put_digits}

-- the symbols after writable ones are writable too

mutual
  pub formula_passes : (e : Formula) (r : List Symbol) → AreWritable (spell e r) → AreWritable r
  formula_passes (numeral v p) r h = h.1
  formula_passes (place x is) r h = formulas_pass is r h.1
  formula_passes (prefix o e) r h = formula_passes e r h.1
  formula_passes (infix_ o a b) r h = formula_passes b r (formula_passes a (sign (marks.Operator o) ∷ spell b r) h).1
  formula_passes (paren e) r h = (formula_passes e (sign marks.CloseParen ∷ r) h.1).1

  pub formulas_pass : (is : Formulas) (r : List Symbol) → AreWritable (spell_index is r) → AreWritable r
  formulas_pass no_index r h = h
  formulas_pass (index e is) r h = formulas_pass is r (formula_passes e (sign marks.CloseBracket ∷ spell_index is r) h.1).1

-- an expression does not begin with `=`

NoEquals : List ℕ → Type 0
NoEquals rest = Ends (λ b. nat_eq b 61) rest

word_no_equals : (b : ℕ) → is_word_byte b ≡ true → nat_eq b 61 ≡ false
word_no_equals b h = grind (arith, nat_tests)

name_starts : (text rest name : List ℕ) → piece_of text ≡ Some (pieces.Token (lexemes.Word name)) → NoEquals (text ++ rest)
unfolding NoEquals piece_of
name_starts [] rest name h = absurd cc
name_starts (b ∷ text) rest name h = word_no_equals b (word_starts b text name h)

number_starts : (text rest : List ℕ) (v : ℤ) → piece_of text ≡ Some (pieces.Token (lexemes.Digits v)) → NoEquals (text ++ rest)
unfolding NoEquals piece_of
number_starts [] rest v h = absurd cc
number_starts (b ∷ text) rest v h = word_no_equals b (digits_start b text v h)

numeral_starts : (v : ℤ) (rest : List ℕ) (n : ℕ) → v ≡ pos n → n < 2 ^ 63 → NoEquals (signed_decimal v ++ rest)
numeral_starts v rest n p q = subst (λ u. NoEquals (signed_decimal u ++ rest)) (sym p) (number_starts (signed_decimal (pos n)) rest (pos n) (piece_of-decimal n q))

unary_starts : (o : UnOp) (rest : List ℕ) → NoEquals (mark_text (unary_mark o) ++ rest)
unfolding NoEquals
unary_starts Neg rest = refl
unary_starts Not rest = refl
unary_starts Flip rest = refl

operand_starts : (least tight : ℕ) (text rest : List ℕ) → ((q : List ℕ) → NoEquals (text ++ q)) → NoEquals (operand_text least tight text ++ rest)
unfolding operand_text NoEquals
operand_starts least tight text rest h = go (nat_le least tight)
  where
    go : (b : Bool) → NoEquals ((if b then text else codes "(" ++ text ++ codes ")") ++ rest)
    go true = h rest
    go false = refl

formula_starts : (e : Formula) (r : List Symbol) (rest : List ℕ) → AreWritable (spell e r) → NoEquals (expression_text (tree e) ++ rest)
formula_starts (numeral v p) r rest h = numeral_starts v rest h.0.0 h.0.1 h.0.2
formula_starts (place x is) r rest h = rw append_assoc (name_starts x.name (index_text (trees is) ++ rest) x.name h.0)
formula_starts (prefix o e) r rest h = rw append_assoc (unary_starts o _)
formula_starts (infix_ o a b) r rest h =
    rw (append_assoc, append_assoc) (operand_starts (level o) (tightness (tree a)) (expression_text (tree a)) _ (λ q. formula_starts a (sign (marks.Operator o) ∷ spell b r) q h))
formula_starts (paren e) r rest h = formula_starts e (sign marks.CloseParen ∷ r) rest h.1

-- expressions

equal_turned : (b : ℕ) → nat_eq b 61 ≡ false → nat_eq 61 b ≡ false
equal_turned b h = grind (arith, nat_tests)

unary_ends : (o : UnOp) (rest : List ℕ) → NoEquals rest → Ends (goes_on (mark_text (unary_mark o))) rest
unfolding NoEquals goes_on punctuation_of operator_of
unary_ends Neg [] h = tt
unary_ends Neg (b ∷ rest) h = refl
unary_ends Not [] h = tt
unary_ends Not (b ∷ rest) h = let t = equal_turned b h in rw t refl
unary_ends Flip [] h = tt
unary_ends Flip (b ∷ rest) h = refl

binary_space : (o : BinOp) → goes_on (mark_text (marks.Operator o)) 32 ≡ false
unfolding goes_on punctuation_of operator_of
binary_space ops.Or = refl
binary_space _ = refl

infix_writes : (o : BinOp) (s : List Symbol) (rest : List ℕ) → Writes rest s → Writes (infix_text o ++ rest) (sign (marks.Operator o) ∷ s)
unfolding infix_text
infix_writes o s rest w =
    let inner : Writes (mark_text (marks.Operator o) ++ 32 ∷ rest) (sign (marks.Operator o) ∷ s) = put_mark (marks.Operator o) (32 ∷ rest) s (binary_space o) (put_space rest s w) in
    let whole : Writes (32 ∷ mark_text (marks.Operator o) ++ 32 ∷ rest) (sign (marks.Operator o) ∷ s) = put_space (mark_text (marks.Operator o) ++ 32 ∷ rest) (sign (marks.Operator o) ∷ s) inner in
    simp append_assoc whole

infix_begins : (o : BinOp) (rest : List ℕ) → EndsWord (infix_text o ++ rest)
unfolding infix_text
infix_begins o rest = refl

-- an expression can be put in front of anything that does not go on with its last word
abbrev FormWrites : Formula → Type 0
FormWrites e = (s : List Symbol) (rest : List ℕ) → EndsWord rest → Writes rest s → Writes (expression_text (tree e) ++ rest) (spell (canonical_formula e) s)

operand_writes : (least : ℕ) (e : Formula) (s : List Symbol) (rest : List ℕ) → FormWrites e → EndsWord rest → Writes rest s
    → Writes (operand_text least (tightness (tree e)) (expression_text (tree e)) ++ rest) (spell (around least (canonical_formula e)) s)
unfolding operand_text
operand_writes least e s rest k ends w = subst (λ n. Writes ((if nat_le least n then expression_text (tree e) else codes "(" ++ expression_text (tree e) ++ codes ")") ++ rest) (spell (around least (canonical_formula e)) s)) (tight_is e) (go (nat_le least (tight (canonical_formula e))))
  where
    go : (b : Bool) → Writes ((if b then expression_text (tree e) else codes "(" ++ expression_text (tree e) ++ codes ")") ++ rest) (spell (if b then canonical_formula e else paren (canonical_formula e)) s)
    go true = k s rest ends w
    go false =
        let inner : Writes (40 ∷ expression_text (tree e) ++ 41 ∷ rest) (spell (paren (canonical_formula e)) s) =
        put_alone marks.OpenParen (expression_text (tree e) ++ 41 ∷ rest) (spell (canonical_formula e) (sign marks.CloseParen ∷ s)) open_paren_alone
        (k (sign marks.CloseParen ∷ s) (41 ∷ rest) refl (put_alone marks.CloseParen rest s close_paren_alone w)) in
        simp append_assoc inner

prefix_writes : (o : UnOp) (e : Formula) (r s : List Symbol) (rest : List ℕ) → AreWritable (spell e r) → FormWrites e → EndsWord rest → Writes rest s
    → Writes (expression_text (tree (prefix o e)) ++ rest) (spell (canonical_formula (prefix o e)) s)
prefix_writes o e r s rest h k ends w =
    let inner = operand_writes 10 e s rest k ends w in
    let starts = operand_starts 10 (tightness (tree e)) (expression_text (tree e)) rest (λ q. formula_starts e r q h) in
    rw append_assoc (put_mark (unary_mark o) (operand_text 10 (tightness (tree e)) (expression_text (tree e)) ++ rest) (spell (around 10 (canonical_formula e)) s) (unary_ends o _ starts) inner)

between_writes : (o : BinOp) (a b : Formula) (s : List Symbol) (rest : List ℕ) → FormWrites a → FormWrites b → EndsWord rest → Writes rest s
    → Writes (expression_text (tree (infix_ o a b)) ++ rest) (spell (canonical_formula (infix_ o a b)) s)
between_writes o a b s rest k l ends w =
    let right = operand_text (suc (level o)) (tightness (tree b)) (expression_text (tree b)) ++ rest in
    let after = spell (around (suc (level o)) (canonical_formula b)) s in
    let w1 : Writes right after = operand_writes (suc (level o)) b s rest l ends w in
    let w2 : Writes (infix_text o ++ right) (sign (marks.Operator o) ∷ after) = infix_writes o after right w1 in
    let w3 = operand_writes (level o) a (sign (marks.Operator o) ∷ after) (infix_text o ++ right) k (infix_begins o right) w2 in
    rw (append_assoc, append_assoc) w3

abbrev FormsWrite : Formulas → Type 0
FormsWrite is = (s : List Symbol) (rest : List ℕ) → EndsWord rest → Writes rest s → Writes (index_text (trees is) ++ rest) (spell_index (canonical_formulas is) s)

index_begins : (is : Formulas) (rest : List ℕ) → EndsWord rest → EndsWord (index_text (trees is) ++ rest)
index_begins no_index rest e = e
index_begins (index e is) rest h = refl

more_writes : (e : Formula) (is : Formulas) (s : List Symbol) (rest : List ℕ) → FormWrites e → FormsWrite is → EndsWord rest → Writes rest s
    → Writes (index_text (trees (index e is)) ++ rest) (spell_index (canonical_formulas (index e is)) s)
more_writes e is s rest k l ends w =
    let t1 = index_text (trees is) ++ rest in
    let s1 = spell_index (canonical_formulas is) s in
    let w1 : Writes t1 s1 = l s rest ends w in
    let w2 : Writes (93 ∷ t1) (sign marks.CloseBracket ∷ s1) = put_alone marks.CloseBracket t1 s1 close_bracket_alone w1 in
    let w3 : Writes (expression_text (tree e) ++ 93 ∷ t1) (spell (canonical_formula e) (sign marks.CloseBracket ∷ s1)) = k (sign marks.CloseBracket ∷ s1) (93 ∷ t1) refl w2 in
    let w4 : Writes (91 ∷ expression_text (tree e) ++ 93 ∷ t1) (spell_index (canonical_formulas (index e is)) s) =
    put_alone marks.OpenBracket (expression_text (tree e) ++ 93 ∷ t1) (spell (canonical_formula e) (sign marks.CloseBracket ∷ s1)) open_bracket_alone w3 in
    simp append_assoc w4

place_writes : (x : Spot) (is : Formulas) (s : List Symbol) (rest : List ℕ) → piece_of x.name ≡ Some (pieces.Token (lexemes.Word x.name)) → FormsWrite is → EndsWord rest → Writes rest s
    → Writes (target_text x (trees is) ++ rest) (word x ∷ spell_index (canonical_formulas is) s)
place_writes x is s rest h k ends w =
    rw append_assoc (put_word x (index_text (trees is) ++ rest) (spell_index (canonical_formulas is) s) h (index_begins is rest ends) (k s rest ends w))

mutual
  pub formula_writes : (e : Formula) (r : List Symbol) → AreWritable (spell e r) → FormWrites e
  formula_writes (numeral v p) r h s rest ends w = put_digits v rest s h.0.0 h.0.1 h.0.2 ends w
  formula_writes (place x is) r h s rest ends w = place_writes x is s rest h.0 (formulas_write is r h.1) ends w
  formula_writes (prefix o e) r h s rest ends w = prefix_writes o e r s rest h.1 (formula_writes e r h.1) ends w
  formula_writes (infix_ o a b) r h s rest ends w =
      between_writes o a b s rest (formula_writes a (sign (marks.Operator o) ∷ spell b r) h) (formula_writes b r (formula_passes a (sign (marks.Operator o) ∷ spell b r) h).1) ends w
  formula_writes (paren e) r h s rest ends w = formula_writes e (sign marks.CloseParen ∷ r) h.1 s rest ends w

  pub formulas_write : (is : Formulas) (r : List Symbol) → AreWritable (spell_index is r) → FormsWrite is
  formulas_write no_index r h s rest ends w = w
  formulas_write (index e is) r h s rest ends w =
      let inner = sign marks.CloseBracket ∷ spell_index is r in
      more_writes e is s rest (formula_writes e inner h.1) (formulas_write is r (formula_passes e inner h.1).1) ends w

-- statements

set_passes : (x : Spot) (is : Formulas) (e : Formula) (r : List Symbol) → AreWritable (spell_set x is e r) → AreWritable r
set_passes x is e r h = formula_passes e r (formulas_pass is (sign marks.Assign ∷ spell e r) h.1).1

set_writes : (x : Spot) (is : Formulas) (e : Formula) (r s : List Symbol) (rest : List ℕ) → AreWritable (spell_set x is e r) → EndsWord rest → Writes rest s
    → Writes (assignment_text x (trees is) (tree e) ++ rest) (spell_set x (canonical_formulas is) (canonical_formula e) s)
unfolding assignment_text goes_on punctuation_of operator_of
set_writes x is e r s rest h ends w =
    let right = sign marks.Assign ∷ spell e r in
    let t1 = expression_text (tree e) ++ rest in
    let s1 = spell (canonical_formula e) s in
    let w1 : Writes t1 s1 = formula_writes e r (formulas_pass is right h.1).1 s rest ends w in
    let w2 : Writes (61 ∷ 32 ∷ t1) (sign marks.Assign ∷ s1) = put_mark marks.Assign (32 ∷ t1) s1 refl (put_space t1 s1 w1) in
    let w3 : Writes (32 ∷ 61 ∷ 32 ∷ t1) (sign marks.Assign ∷ s1) = put_space (61 ∷ 32 ∷ t1) (sign marks.Assign ∷ s1) w2 in
    let w4 = place_writes x is (sign marks.Assign ∷ s1) (32 ∷ 61 ∷ 32 ∷ t1) h.0 (formulas_write is right h.1) refl w3 in
    rw (append_assoc, append_assoc) w4

-- a keyword with a condition in parentheses
test_writes : (m : Mark) (margin : List ℕ) (e : Formula) (r s : List Symbol) (rest : List ℕ) → goes_on (mark_text m) 32 ≡ false → list_all is_blank margin ≡ true → AreWritable (spell e r) → Writes rest s
    → Writes (opening_text margin (mark_text m) (tree e) ++ rest) (sign m ∷ sign marks.OpenParen ∷ spell (canonical_formula e) (sign marks.CloseParen ∷ s))
unfolding opening_text
test_writes m margin e r s rest space blank h w =
    let s1 = sign marks.CloseParen ∷ s in
    let s2 = spell (canonical_formula e) s1 in
    let t1 = expression_text (tree e) ++ 41 ∷ 32 ∷ rest in
    let w1 : Writes (41 ∷ 32 ∷ rest) s1 = put_alone marks.CloseParen (32 ∷ rest) s close_paren_alone (put_space rest s w) in
    let w2 : Writes t1 s2 = formula_writes e r h s1 (41 ∷ 32 ∷ rest) refl w1 in
    let w3 : Writes (40 ∷ t1) (sign marks.OpenParen ∷ s2) = put_alone marks.OpenParen t1 s2 open_paren_alone w2 in
    let w4 : Writes (mark_text m ++ 32 ∷ 40 ∷ t1) (sign m ∷ sign marks.OpenParen ∷ s2) = put_mark m (32 ∷ 40 ∷ t1) (sign marks.OpenParen ∷ s2) space (put_space (40 ∷ t1) (sign marks.OpenParen ∷ s2) w3) in
    let w5 : Writes (margin ++ (mark_text m ++ 32 ∷ 40 ∷ t1)) (sign m ∷ sign marks.OpenParen ∷ s2) = put_margin margin (mark_text m ++ 32 ∷ 40 ∷ t1) (sign m ∷ sign marks.OpenParen ∷ s2) blank w4 in
    simp append_assoc w5

-- lines can be put in front of anything
abbrev LinesWrite : List ℕ → (List Symbol → List Symbol) → Type 0
LinesWrite lines spelled = (s : List Symbol) (rest : List ℕ) → Writes rest s → Writes (lines ++ rest) (spelled s)

block_writes : (margin lines : List ℕ) (spelled : List Symbol → List Symbol) (s : List Symbol) (rest : List ℕ) → list_all is_blank margin ≡ true → LinesWrite lines spelled → Ends (goes_on (mark_text marks.CloseBrace)) rest → Writes rest s
    → Writes (block_text margin lines ++ rest) (sign marks.OpenBrace ∷ spelled (sign marks.CloseBrace ∷ s))
unfolding block_text
block_writes margin lines spelled s rest blank k ends w =
    let s1 = sign marks.CloseBrace ∷ s in
    let t1 = margin ++ 125 ∷ rest in
    let w1 : Writes t1 s1 = put_margin margin (125 ∷ rest) s1 blank (put_mark marks.CloseBrace rest s ends w) in
    let w2 : Writes (lines ++ t1) (spelled s1) = k s1 t1 w1 in
    let w3 : Writes (123 ∷ 10 ∷ lines ++ t1) (sign marks.OpenBrace ∷ spelled s1) = put_alone marks.OpenBrace (10 ∷ lines ++ t1) (spelled s1) open_brace_alone (put_line (lines ++ t1) (spelled s1) w2) in
    simp append_assoc w3

-- a block at the end of a line
last_writes : (margin lines : List ℕ) (spelled : List Symbol → List Symbol) (s : List Symbol) (rest : List ℕ) → list_all is_blank margin ≡ true → LinesWrite lines spelled → Writes rest s
    → Writes (block_text margin lines ++ 10 ∷ rest) (sign marks.OpenBrace ∷ spelled (sign marks.CloseBrace ∷ s))
unfolding goes_on punctuation_of operator_of
last_writes margin lines spelled s rest blank k w = block_writes margin lines spelled s (10 ∷ rest) blank k refl (put_line rest s w)

-- a block with `else` after it
else_writes : (margin lines : List ℕ) (spelled : List Symbol → List Symbol) (s : List Symbol) (rest : List ℕ) → list_all is_blank margin ≡ true → LinesWrite lines spelled → Writes rest s
    → Writes (block_text margin lines ++ (codes " else " ++ rest)) (sign marks.OpenBrace ∷ spelled (sign marks.CloseBrace ∷ sign marks.Else ∷ s))
unfolding goes_on punctuation_of operator_of
else_writes margin lines spelled s rest blank k w =
    let w1 : Writes (codes "else " ++ rest) (sign marks.Else ∷ s) = put_mark marks.Else (32 ∷ rest) s refl (put_space rest s w) in
    block_writes margin lines spelled (sign marks.Else ∷ s) (codes " else " ++ rest) blank k refl (put_space (codes "else " ++ rest) (sign marks.Else ∷ s) w1)

if_space : goes_on (mark_text marks.If) 32 ≡ false
unfolding goes_on punctuation_of operator_of
if_space = refl

while_space : goes_on (mark_text marks.While) 32 ≡ false
unfolding goes_on punctuation_of operator_of
while_space = refl

assign_writes : (margin : List ℕ) (x : Spot) (is : Formulas) (e : Formula) (c : Script) (r s : List Symbol) (rest : List ℕ) → list_all is_blank margin ≡ true → AreWritable (spell_set x is e r)
    → LinesWrite (statements_text margin (script_tree c)) (spell_script (canonical_script c)) → Writes rest s
    → Writes (statements_text margin (script_tree (set x is e c)) ++ rest) (spell_script (canonical_script (set x is e c)) s)
unfolding statements_text
assign_writes margin x is e c r s rest blank h k w =
    let t1 = statements_text margin (script_tree c) ++ rest in
    let s1 = spell_script (canonical_script c) s in
    let w1 : Writes (59 ∷ 10 ∷ t1) (sign marks.Semicolon ∷ s1) = put_alone marks.Semicolon (10 ∷ t1) s1 semicolon_alone (put_line t1 s1 (k s rest w)) in
    let w2 = set_writes x is e r (sign marks.Semicolon ∷ s1) (59 ∷ 10 ∷ t1) h refl w1 in
    let spelled = spell_set x (canonical_formulas is) (canonical_formula e) (sign marks.Semicolon ∷ s1) in
    let w3 = put_margin margin (assignment_text x (trees is) (tree e) ++ 59 ∷ 10 ∷ t1) spelled blank w2 in
    simp append_assoc w3

if_writes : (margin : List ℕ) (e : Formula) (t c : Script) (r s : List Symbol) (rest : List ℕ) → list_all is_blank margin ≡ true → AreWritable (spell e r)
    → LinesWrite (statements_text (deeper margin) (script_tree t)) (spell_script (canonical_script t)) → LinesWrite (statements_text margin (script_tree c)) (spell_script (canonical_script c)) → Writes rest s
    → Writes (statements_text margin (script_tree (if_ e t c)) ++ rest) (spell_script (canonical_script (if_ e t c)) s)
unfolding statements_text
if_writes margin e t c r s rest blank h k l w =
    let w1 = last_writes margin (statements_text (deeper margin) (script_tree t)) (spell_script (canonical_script t)) (spell_script (canonical_script c) s) (statements_text margin (script_tree c) ++ rest) blank k (l s rest w) in
    let w2 = test_writes marks.If margin e r _ _ if_space blank h w1 in
    simp append_assoc w2

if_else_writes : (margin : List ℕ) (e : Formula) (t u c : Script) (r s : List Symbol) (rest : List ℕ) → list_all is_blank margin ≡ true → AreWritable (spell e r)
    → LinesWrite (statements_text (deeper margin) (script_tree t)) (spell_script (canonical_script t)) → LinesWrite (statements_text (deeper margin) (script_tree u)) (spell_script (canonical_script u))
    → LinesWrite (statements_text margin (script_tree c)) (spell_script (canonical_script c)) → Writes rest s
    → Writes (statements_text margin (script_tree (if_else e t u c)) ++ rest) (spell_script (canonical_script (if_else e t u c)) s)
unfolding statements_text
if_else_writes margin e t u c r s rest blank h k m l w =
    let w1 = last_writes margin (statements_text (deeper margin) (script_tree u)) (spell_script (canonical_script u)) (spell_script (canonical_script c) s) (statements_text margin (script_tree c) ++ rest) blank m (l s rest w) in
    let w2 = else_writes margin (statements_text (deeper margin) (script_tree t)) (spell_script (canonical_script t)) _ _ blank k w1 in
    let w3 = test_writes marks.If margin e r _ _ if_space blank h w2 in
    simp append_assoc w3

while_writes : (margin : List ℕ) (e : Formula) (t c : Script) (r s : List Symbol) (rest : List ℕ) → list_all is_blank margin ≡ true → AreWritable (spell e r)
    → LinesWrite (statements_text (deeper margin) (script_tree t)) (spell_script (canonical_script t)) → LinesWrite (statements_text margin (script_tree c)) (spell_script (canonical_script c)) → Writes rest s
    → Writes (statements_text margin (script_tree (while_ e t c)) ++ rest) (spell_script (canonical_script (while_ e t c)) s)
unfolding statements_text
while_writes margin e t c r s rest blank h k l w =
    let w1 = last_writes margin (statements_text (deeper margin) (script_tree t)) (spell_script (canonical_script t)) (spell_script (canonical_script c) s) (statements_text margin (script_tree c) ++ rest) blank k (l s rest w) in
    let w2 = test_writes marks.While margin e r _ _ while_space blank h w1 in
    simp append_assoc w2

for_writes : (margin : List ℕ) (x : Spot) (is : Formulas) (e w : Formula) (y : Spot) (js : Formulas) (f : Formula) (b c : Script) (r1 r2 r3 s : List Symbol) (rest : List ℕ) → list_all is_blank margin ≡ true
    → AreWritable (spell_set x is e r1) → AreWritable (spell w r2) → AreWritable (spell_set y js f r3)
    → LinesWrite (statements_text (deeper margin) (script_tree b)) (spell_script (canonical_script b)) → LinesWrite (statements_text margin (script_tree c)) (spell_script (canonical_script c)) → Writes rest s
    → Writes (statements_text margin (script_tree (for_ x is e w y js f b c)) ++ rest) (spell_script (canonical_script (for_ x is e w y js f b c)) s)
unfolding statements_text for_opening_text goes_on punctuation_of operator_of
for_writes margin x is e w y js f b c r1 r2 r3 s rest blank h1 h2 h3 k l z =
    let next = spell_script (canonical_script c) s in
    let s1 = sign marks.OpenBrace ∷ spell_script (canonical_script b) (sign marks.CloseBrace ∷ next) in
    let t1 = block_text margin (statements_text (deeper margin) (script_tree b)) ++ 10 ∷ (statements_text margin (script_tree c) ++ rest) in
    let w1 : Writes t1 s1 = last_writes margin (statements_text (deeper margin) (script_tree b)) (spell_script (canonical_script b)) next (statements_text margin (script_tree c) ++ rest) blank k (l s rest z) in
    let s2 = sign marks.CloseParen ∷ s1 in
    let t2 = 41 ∷ 32 ∷ t1 in
    let w2 : Writes t2 s2 = put_alone marks.CloseParen (32 ∷ t1) s1 close_paren_alone (put_space t1 s1 w1) in
    let s3 = spell_set y (canonical_formulas js) (canonical_formula f) s2 in
    let t3 = assignment_text y (trees js) (tree f) ++ t2 in
    let w3 : Writes t3 s3 = set_writes y js f r3 s2 t2 h3 refl w2 in
    let s4 = sign marks.Semicolon ∷ s3 in
    let t4 = 59 ∷ 32 ∷ t3 in
    let w4 : Writes t4 s4 = put_alone marks.Semicolon (32 ∷ t3) s3 semicolon_alone (put_space t3 s3 w3) in
    let s5 = spell (canonical_formula w) s4 in
    let t5 = expression_text (tree w) ++ t4 in
    let w5 : Writes t5 s5 = formula_writes w r2 h2 s4 t4 refl w4 in
    let s6 = sign marks.Semicolon ∷ s5 in
    let t6 = 59 ∷ 32 ∷ t5 in
    let w6 : Writes t6 s6 = put_alone marks.Semicolon (32 ∷ t5) s5 semicolon_alone (put_space t5 s5 w5) in
    let s7 = spell_set x (canonical_formulas is) (canonical_formula e) s6 in
    let t7 = assignment_text x (trees is) (tree e) ++ t6 in
    let w7 : Writes t7 s7 = set_writes x is e r1 s6 t6 h1 refl w6 in
    let s8 = sign marks.For ∷ sign marks.OpenParen ∷ s7 in
    let w8 : Writes (codes "for (" ++ t7) s8 = put_mark marks.For (32 ∷ 40 ∷ t7) (sign marks.OpenParen ∷ s7) refl (put_space (40 ∷ t7) (sign marks.OpenParen ∷ s7) (put_alone marks.OpenParen t7 s7 open_paren_alone w7)) in
    let w9 : Writes (margin ++ (codes "for (" ++ t7)) s8 = put_margin margin (codes "for (" ++ t7) s8 blank w8 in
    simp append_assoc w9

stop_writes : (margin : List ℕ) → LinesWrite (statements_text margin (script_tree stop)) (spell_script (canonical_script stop))
unfolding statements_text
stop_writes margin s rest w = w

pub script_passes : (c : Script) (r : List Symbol) → AreWritable (spell_script c r) → AreWritable r
script_passes stop r h = h
script_passes (set x is e c) r h = script_passes c r (set_passes x is e (sign marks.Semicolon ∷ spell_script c r) h).1
script_passes (if_ e t c) r h =
    let r1 = spell_script c r in
    let inner = formula_passes e (sign marks.CloseParen ∷ sign marks.OpenBrace ∷ spell_script t (sign marks.CloseBrace ∷ r1)) h.1.1 in
    script_passes c r (script_passes t (sign marks.CloseBrace ∷ r1) inner.1.1).1
script_passes (if_else e t u c) r h =
    let r1 = spell_script c r in
    let r2 = sign marks.Else ∷ sign marks.OpenBrace ∷ spell_script u (sign marks.CloseBrace ∷ r1) in
    let inner = formula_passes e (sign marks.CloseParen ∷ sign marks.OpenBrace ∷ spell_script t (sign marks.CloseBrace ∷ r2)) h.1.1 in
    let other = script_passes t (sign marks.CloseBrace ∷ r2) inner.1.1 in
    script_passes c r (script_passes u (sign marks.CloseBrace ∷ r1) other.1.1.1).1
script_passes (while_ e t c) r h =
    let r1 = spell_script c r in
    let inner = formula_passes e (sign marks.CloseParen ∷ sign marks.OpenBrace ∷ spell_script t (sign marks.CloseBrace ∷ r1)) h.1.1 in
    script_passes c r (script_passes t (sign marks.CloseBrace ∷ r1) inner.1.1).1
script_passes (for_ x is e w y js f b c) r h =
    let r1 = spell_script c r in
    let r2 = sign marks.CloseParen ∷ sign marks.OpenBrace ∷ spell_script b (sign marks.CloseBrace ∷ r1) in
    let r3 = sign marks.Semicolon ∷ spell_set y js f r2 in
    let first = set_passes x is e (sign marks.Semicolon ∷ spell w r3) h.1.1 in
    let second = formula_passes w r3 first.1 in
    let third = set_passes y js f r2 second.1 in
    script_passes c r (script_passes b (sign marks.CloseBrace ∷ r1) third.1.1).1

pub script_writes : (c : Script) (margin : List ℕ) (r : List Symbol) → list_all is_blank margin ≡ true → AreWritable (spell_script c r) → LinesWrite (statements_text margin (script_tree c)) (spell_script (canonical_script c))
script_writes stop margin r blank h s rest w = stop_writes margin s rest w
script_writes (set x is e c) margin r blank h s rest w =
    let after = set_passes x is e (sign marks.Semicolon ∷ spell_script c r) h in
    assign_writes margin x is e c (sign marks.Semicolon ∷ spell_script c r) s rest blank h (script_writes c margin r blank after.1) w
script_writes (if_ e t c) margin r blank h s rest w =
    let r1 = spell_script c r in
    let test = sign marks.CloseParen ∷ sign marks.OpenBrace ∷ spell_script t (sign marks.CloseBrace ∷ r1) in
    let inner = formula_passes e test h.1.1 in
    let after = script_passes t (sign marks.CloseBrace ∷ r1) inner.1.1 in
    if_writes margin e t c test s rest blank h.1.1 (script_writes t (deeper margin) (sign marks.CloseBrace ∷ r1) blank inner.1.1) (script_writes c margin r blank after.1) w
script_writes (if_else e t u c) margin r blank h s rest w =
    let r1 = spell_script c r in
    let r2 = sign marks.Else ∷ sign marks.OpenBrace ∷ spell_script u (sign marks.CloseBrace ∷ r1) in
    let test = sign marks.CloseParen ∷ sign marks.OpenBrace ∷ spell_script t (sign marks.CloseBrace ∷ r2) in
    let inner = formula_passes e test h.1.1 in
    let other = script_passes t (sign marks.CloseBrace ∷ r2) inner.1.1 in
    let after = script_passes u (sign marks.CloseBrace ∷ r1) other.1.1.1 in
    if_else_writes margin e t u c test s rest blank h.1.1 (script_writes t (deeper margin) (sign marks.CloseBrace ∷ r2) blank inner.1.1)
    (script_writes u (deeper margin) (sign marks.CloseBrace ∷ r1) blank other.1.1.1) (script_writes c margin r blank after.1) w
script_writes (while_ e t c) margin r blank h s rest w =
    let r1 = spell_script c r in
    let test = sign marks.CloseParen ∷ sign marks.OpenBrace ∷ spell_script t (sign marks.CloseBrace ∷ r1) in
    let inner = formula_passes e test h.1.1 in
    let after = script_passes t (sign marks.CloseBrace ∷ r1) inner.1.1 in
    while_writes margin e t c test s rest blank h.1.1 (script_writes t (deeper margin) (sign marks.CloseBrace ∷ r1) blank inner.1.1) (script_writes c margin r blank after.1) w
script_writes (for_ x is e v y js f b c) margin r blank h s rest w =
    let r1 = spell_script c r in
    let r2 = sign marks.CloseParen ∷ sign marks.OpenBrace ∷ spell_script b (sign marks.CloseBrace ∷ r1) in
    let r3 = sign marks.Semicolon ∷ spell_set y js f r2 in
    let first = set_passes x is e (sign marks.Semicolon ∷ spell v r3) h.1.1 in
    let second = formula_passes v r3 first.1 in
    let third = set_passes y js f r2 second.1 in
    let after = script_passes b (sign marks.CloseBrace ∷ r1) third.1.1 in
    for_writes margin x is e v y js f b c (sign marks.Semicolon ∷ spell v r3) r3 r2 s rest blank h.1.1 first.1 second.1
    (script_writes b (deeper margin) (sign marks.CloseBrace ∷ r1) blank third.1.1) (script_writes c margin r blank after.1) w
