-- The canonical text is written with the tokens of its canonical form.
use Rattle.std.proofs.Common.{◌≡◌, ℕ, ◌<◌, ◌^◌, true, false, ◌&&◌, List, [], ◌∷◌, ◌++◌, ℤ, pos, Some, map, flat_map, refl, sym, subst, append_assoc, codes}
use Rattle.std.specs.Fmt.{signed_decimal}
use Rattle.std.specs.List.{join_by, list_all}
use Rattle.p3l_ast.specs.declared.position.Spot.{Spot}
use Rattle.p3l_ast.specs.declared.refusal.Fault.TheVariants.{BadByte}
use Rattle.p3l_ast.specs.declared.port.Num.{Num}
use Rattle.p3l_ast.specs.declared.port.Num.TheVariants.{Digits, Named}
use Rattle.p3l_ast.specs.declared.port.Port.{Port}
use Rattle.p3l_ast.specs.declared.call.Sub.{Sub}
use Rattle.p3l_ast.specs.declared.call.Sub.TheVariants.{Whole, Free}
use Rattle.p3l_ast.specs.declared.call.Arg.{Arg}
use Rattle.p3l_ast.specs.declared.call.OutArg.{OutArg}
use Rattle.p3l_ast.specs.declared.call.OutArg.TheVariants.{Fresh, Old}
use Rattle.p3l_ast.specs.declared.call.Call.{Call}
use Rattle.p3l_lexer.specs.declared.mark.Mark.{Mark}
use Rattle.p3l_ast.specs.declared.expression.BinOp.TheVariants as ops
use Rattle.p3l_lexer.specs.declared.mark.Mark.TheVariants as marks
use Rattle.p3l_lexer.specs.declared.token.Lexeme.{Lexeme}
use Rattle.p3l_lexer.specs.declared.token.Lexeme.TheVariants as lexemes
use Rattle.p3l_lexer.specs.declared.token.Piece.TheVariants as pieces
use Rattle.p3l_ast.specs.Notation.{operator_of}
use Rattle.p3l_lexer.specs.Mark.{mark_text, punctuation_of}
use Rattle.p3l_lexer.specs.Piece.{is_blank, is_word_byte, piece_of}
use Rattle.p3l_lexer.specs.Cut.{Ends}
use Rattle.p3l_lexer.specs.Spelling.{HasLexemes, goes_on}
use Rattle.p3l_lexer.proofs.Truths.{and_left, and_right}
use Rattle.p3l_lexer.proofs.Spelling.{piece_of-mark, blank_first, lexeme_first}
use Rattle.p3l_lexer.proofs.Writing.{word_starts, digits_start, piece_of-decimal}
use Rattle.p3l_grammar.specs.Symbol.{Symbol, word, digits, sign, faulty}
use Rattle.p3l_grammar.specs.Written.{each, after_comma, separated, num_symbol, spell_size, spell_port, spell_sub, spell_arg, spell_out, spell_call}
use Rattle.p3l_print.specs.Printer.{interface_text}
use Rattle.p3l_print.specs.Port.{num_text, size_text, port_text}
use Rattle.p3l_print.specs.Call.{sub_text, arg_text, out_arg_text, call_text}

-- symbols as a text can be written with them

abbrev pub lexeme_of : Symbol → Lexeme
lexeme_of (word x) = lexemes.Word x.name
lexeme_of (digits v p) = lexemes.Digits v
lexeme_of (sign m) = lexemes.Sign m
lexeme_of faulty = lexemes.Faulty BadByte

abbrev pub lexemes_of : List Symbol → List Lexeme
lexemes_of ss = map lexeme_of ss

-- a name that is a token, or a number that fits
abbrev pub IsWritable : Symbol → Type 0
IsWritable (word x) = piece_of x.name ≡ Some (pieces.Token (lexemes.Word x.name))
IsWritable (digits v p) = (n : ℕ) × (v ≡ pos n) × (n < 2 ^ 63)
IsWritable _ = Unit {0}

abbrev pub AreWritable : List Symbol → Type 0
AreWritable [] = Unit {0}
AreWritable (s ∷ ss) = IsWritable s × AreWritable ss

-- the bytes are written with these symbols
abbrev pub Writes : List ℕ → List Symbol → Type 0
Writes bytes ss = HasLexemes bytes (lexemes_of ss)

-- no letter and no digit comes next
abbrev pub EndsWord : List ℕ → Type 0
EndsWord rest = Ends is_word_byte rest

-- tokens and blanks in front

pub put_blank : (b : ℕ) (rest : List ℕ) (s : List Symbol) → is_blank b ≡ true → Writes rest s → Writes (b ∷ rest) s
put_blank b rest s p h = blank_first b rest (lexemes_of s) p h

pub put_space : (rest : List ℕ) (s : List Symbol) → Writes rest s → Writes (32 ∷ rest) s
put_space rest s h = put_blank 32 rest s refl h

pub put_line : (rest : List ℕ) (s : List Symbol) → Writes rest s → Writes (10 ∷ rest) s
put_line rest s h = put_blank 10 rest s refl h

pub put_margin : (margin rest : List ℕ) (s : List Symbol) → list_all is_blank margin ≡ true → Writes rest s → Writes (margin ++ rest) s
put_margin [] rest s p h = h
put_margin (b ∷ margin) rest s p h =
    put_blank b (margin ++ rest) s (and_left (is_blank b) _ p) (put_margin margin rest s (and_right (is_blank b) _ p) h)

pub put_mark : (m : Mark) (rest : List ℕ) (s : List Symbol) → Ends (goes_on (mark_text m)) rest → Writes rest s → Writes (mark_text m ++ rest) (sign m ∷ s)
put_mark m rest s e h = lexeme_first (mark_text m) rest (lexemes.Sign m) (lexemes_of s) (piece_of-mark m) tt e h

-- no longer mark begins with this one
abbrev pub IsAlone : Mark → Type 0
IsAlone m = (b : ℕ) → goes_on (mark_text m) b ≡ false

alone_ends : (m : Mark) (rest : List ℕ) → IsAlone m → Ends (goes_on (mark_text m)) rest
alone_ends m [] h = tt
alone_ends m (b ∷ rest) h = h b

pub put_alone : (m : Mark) (rest : List ℕ) (s : List Symbol) → IsAlone m → Writes rest s → Writes (mark_text m ++ rest) (sign m ∷ s)
put_alone m rest s a h = put_mark m rest s (alone_ends m rest a) h

pub open_bracket_alone : IsAlone marks.OpenBracket
unfolding goes_on punctuation_of operator_of
open_bracket_alone b = refl

pub close_bracket_alone : IsAlone marks.CloseBracket
unfolding goes_on punctuation_of operator_of
close_bracket_alone b = refl

pub open_paren_alone : IsAlone marks.OpenParen
unfolding goes_on punctuation_of operator_of
open_paren_alone b = refl

pub close_paren_alone : IsAlone marks.CloseParen
unfolding goes_on punctuation_of operator_of
close_paren_alone b = refl

pub comma_alone : IsAlone marks.Comma
unfolding goes_on punctuation_of operator_of
comma_alone b = refl

pub semicolon_alone : IsAlone marks.Semicolon
unfolding goes_on punctuation_of operator_of
semicolon_alone b = refl

pub star_alone : IsAlone (marks.Operator ops.Mul)
unfolding goes_on punctuation_of operator_of
star_alone b = refl

pub minus_alone : IsAlone (marks.Operator ops.Sub)
unfolding goes_on punctuation_of operator_of
minus_alone b = refl

pub open_brace_alone : IsAlone marks.OpenBrace
unfolding goes_on punctuation_of operator_of
open_brace_alone b = refl

-- a name or a number, with no letter and no digit after it

run_ends : (first : ℕ) (tail rest : List ℕ) → is_word_byte first ≡ true → EndsWord rest → Ends (goes_on (first ∷ tail)) rest
unfolding goes_on
run_ends first tail [] w e = tt
run_ends first tail (b ∷ rest) w e = rw w e

pub put_word : (x : Spot) (rest : List ℕ) (s : List Symbol) → IsWritable (word x) → EndsWord rest → Writes rest s → Writes (x.name ++ rest) (word x ∷ s)
unfolding piece_of
put_word x rest s p e h = lexeme_first x.name rest (lexemes.Word x.name) (lexemes_of s) p tt (ends x.name p) h
  where
    ends : (text : List ℕ) → piece_of text ≡ Some (pieces.Token (lexemes.Word x.name)) → Ends (goes_on text) rest
    ends [] q = absurd cc
    ends (b ∷ text) q = run_ends b text rest (word_starts b text x.name q) e

digits_piece : (v : ℤ) → ((n : ℕ) × (v ≡ pos n) × (n < 2 ^ 63)) → piece_of (signed_decimal v) ≡ Some (pieces.Token (lexemes.Digits v))
digits_piece v h = subst (λ u. piece_of (signed_decimal u) ≡ Some (pieces.Token (lexemes.Digits u))) (sym h.1) (piece_of-decimal h.0 h.2)

pub put_digits : (v : ℤ) (rest : List ℕ) (s : List Symbol) (n : ℕ) → v ≡ pos n → n < 2 ^ 63 → EndsWord rest → HasLexemes rest (lexemes_of s) → HasLexemes (signed_decimal v ++ rest) (lexemes.Digits v ∷ lexemes_of s)
unfolding piece_of
put_digits v rest s n p q e h =
    let piece = digits_piece v (n, p, q) in
    lexeme_first (signed_decimal v) rest (lexemes.Digits v) (lexemes_of s) piece tt (ends (signed_decimal v) piece) h
  where
    ends : (text : List ℕ) → piece_of text ≡ Some (pieces.Token (lexemes.Digits v)) → Ends (goes_on text) rest
    ends [] q = absurd cc
    ends (b ∷ text) q = run_ends b text rest (digits_start b text v q) e

-- a text writes the symbols spelled, and the symbols after them are writable too
pub record IsSpelling {X : Type 0} (text : X → List ℕ) (spelled : X → List Symbol → List Symbol) : Type 0 where
  pub writes : (x : X) (r s : List Symbol) (rest : List ℕ) → AreWritable (spelled x r) → EndsWord rest → Writes rest s → Writes (text x ++ rest) (spelled x s)
  pub passes : (x : X) (r : List Symbol) → AreWritable (spelled x r) → AreWritable r

-- its text never begins with a letter or a digit
pub record IsSeparated {X : Type 0} (text : X → List ℕ) : Type 0 where
  pub begins : (x : X) (rest : List ℕ) → EndsWord (text x ++ rest)

each_begins : {X : Type 0} (text : X → List ℕ) → IsSeparated text → (xs : List X) (rest : List ℕ) → EndsWord rest → EndsWord (flat_map text xs ++ rest)
each_begins text b [] rest e = e
each_begins text b (x ∷ xs) rest e = rw append_assoc (b.begins x (flat_map text xs ++ rest))

each_passes : {X : Type 0} (spelled : X → List Symbol → List Symbol) → ((x : X) (r : List Symbol) → AreWritable (spelled x r) → AreWritable r) → (xs : List X) (r : List Symbol) → AreWritable (each spelled xs r) → AreWritable r
each_passes spelled p [] r h = h
each_passes spelled p (x ∷ xs) r h = each_passes spelled p xs r (p x (each spelled xs r) h)

each_writes : {X : Type 0} (text : X → List ℕ) (spelled : X → List Symbol → List Symbol) → IsSpelling text spelled → IsSeparated text
    → (xs : List X) (r s : List Symbol) (rest : List ℕ) → AreWritable (each spelled xs r) → EndsWord rest → Writes rest s → Writes (flat_map text xs ++ rest) (each spelled xs s)
each_writes text spelled k b [] r s rest h e w = w
each_writes text spelled k b (x ∷ xs) r s rest h e w =
    rw append_assoc (k.writes x (each spelled xs r) (each spelled xs s) (flat_map text xs ++ rest) h (each_begins text b xs rest e)
    (each_writes text spelled k b xs r s rest (k.passes x (each spelled xs r) h) e w))

pub each_spelling : {X : Type 0} (text : X → List ℕ) (spelled : X → List Symbol → List Symbol) → IsSpelling text spelled → IsSeparated text → IsSpelling (flat_map text) (each spelled)
each_spelling text spelled k b = record { writes = each_writes text spelled k b; passes = each_passes spelled k.passes }

after_spelling : {X : Type 0} (text : X → List ℕ) (spelled : X → List Symbol → List Symbol) → IsSpelling text spelled → IsSpelling (λ x. codes ", " ++ text x) (after_comma spelled)
after_spelling text spelled k = record {
  writes = λ x r s rest h e w. put_alone marks.Comma (32 ∷ text x ++ rest) (spelled x s) comma_alone (put_space (text x ++ rest) (spelled x s) (k.writes x r s rest h.1 e w));
  passes = λ x r h. k.passes x r h.1;
}

after_separated : {X : Type 0} (text : X → List ℕ) → IsSeparated (λ x. codes ", " ++ text x)
after_separated text = record { begins = λ x rest. refl }

list_writes : {X : Type 0} (text : X → List ℕ) (spelled : X → List Symbol → List Symbol) → IsSpelling text spelled
    → (xs : List X) (r s : List Symbol) (rest : List ℕ) → AreWritable (separated spelled xs r) → EndsWord rest → Writes rest s → Writes (join_by text (codes ", ") xs ++ rest) (separated spelled xs s)
list_writes text spelled k [] r s rest h e w = w
list_writes text spelled k (x ∷ xs) r s rest h e w =
    let more = flat_map (λ y. codes ", " ++ text y) xs in
    let c = after_spelling text spelled k in
    let b = after_separated text in
    rw append_assoc (k.writes x (each (after_comma spelled) xs r) (each (after_comma spelled) xs s) (more ++ rest) h (each_begins (λ y. codes ", " ++ text y) b xs rest e)
    (each_writes (λ y. codes ", " ++ text y) (after_comma spelled) c b xs r s rest (k.passes x (each (after_comma spelled) xs r) h) e w))

list_passes : {X : Type 0} (text : X → List ℕ) (spelled : X → List Symbol → List Symbol) → IsSpelling text spelled → (xs : List X) (r : List Symbol) → AreWritable (separated spelled xs r) → AreWritable r
list_passes text spelled k [] r h = h
list_passes text spelled k (x ∷ xs) r h = each_passes (after_comma spelled) (λ y q g. k.passes y q g.1) xs r (k.passes x (each (after_comma spelled) xs r) h)

-- ports and calls

pub num_writes : (n : Num) (r s : List Symbol) (rest : List ℕ) → AreWritable (num_symbol n ∷ r) → EndsWord rest → Writes rest s → Writes (num_text n ++ rest) (num_symbol n ∷ s)
num_writes (Digits v p) r s rest h e w = put_digits v rest s h.0.0 h.0.1 h.0.2 e w
num_writes (Named x) r s rest h e w = put_word x rest s h.0 e w

size_writes : (n : Num) (r s : List Symbol) (rest : List ℕ) → AreWritable (spell_size n r) → EndsWord rest → Writes rest s → Writes (size_text n ++ rest) (spell_size n s)
size_writes n r s rest h e w =
    rw append_assoc
    (put_alone marks.OpenBracket (num_text n ++ 93 ∷ rest) (num_symbol n ∷ sign marks.CloseBracket ∷ s) open_bracket_alone
    (num_writes n (sign marks.CloseBracket ∷ r) (sign marks.CloseBracket ∷ s) (93 ∷ rest) h.1 refl (put_alone marks.CloseBracket rest s close_bracket_alone w)))

size_spelling : IsSpelling size_text spell_size
size_spelling = record { writes = size_writes; passes = λ n r h. h.1.1.1 }

size_separated : IsSeparated size_text
size_separated = record { begins = λ n rest. refl }

port_writes : (p : Port) (r s : List Symbol) (rest : List ℕ) → AreWritable (spell_port p r) → EndsWord rest → Writes rest s → Writes (port_text p ++ rest) (spell_port p s)
unfolding goes_on punctuation_of operator_of
port_writes p r s rest h e w =
    let sizes = flat_map size_text p.sizes ++ rest in
    let spelled = each spell_size p.sizes s in
    rw append_assoc
    (put_mark marks.Int (32 ∷ p.at.name ++ sizes) (word p.at ∷ spelled) refl
    (put_space (p.at.name ++ sizes) (word p.at ∷ spelled)
    (put_word p.at sizes spelled h.1.0 (each_begins size_text size_separated p.sizes rest e) (each_writes size_text spell_size size_spelling size_separated p.sizes r s rest h.1.1 e w))))

pub port_spelling : IsSpelling port_text spell_port
port_spelling = record { writes = port_writes; passes = λ p r h. each_passes spell_size (λ n q g. g.1.1.1) p.sizes r h.1.1 }

sub_writes : (b : Sub) (r s : List Symbol) (rest : List ℕ) → AreWritable (spell_sub b r) → EndsWord rest → Writes rest s → Writes (sub_text b ++ rest) (spell_sub b s)
sub_writes Whole r s rest h e w =
    put_alone marks.OpenBracket (93 ∷ rest) (sign marks.CloseBracket ∷ s) open_bracket_alone (put_alone marks.CloseBracket rest s close_bracket_alone w)
sub_writes (Free x) r s rest h e w =
    let last = sign marks.CloseBracket ∷ s in
    rw append_assoc
    (put_alone marks.OpenBracket (42 ∷ x.name ++ 93 ∷ rest) (sign (marks.Operator ops.Mul) ∷ word x ∷ last) open_bracket_alone
    (put_alone (marks.Operator ops.Mul) (x.name ++ 93 ∷ rest) (word x ∷ last) star_alone (put_word x (93 ∷ rest) last h.1.1.0 refl (put_alone marks.CloseBracket rest s close_bracket_alone w))))

sub_passes : (b : Sub) (r : List Symbol) → AreWritable (spell_sub b r) → AreWritable r
sub_passes Whole r h = h.1.1
sub_passes (Free x) r h = h.1.1.1.1

sub_spelling : IsSpelling sub_text spell_sub
sub_spelling = record { writes = sub_writes; passes = sub_passes }

sub_begins : (b : Sub) (rest : List ℕ) → EndsWord (sub_text b ++ rest)
sub_begins Whole rest = refl
sub_begins (Free x) rest = refl

sub_separated : IsSeparated sub_text
sub_separated = record { begins = sub_begins }

arg_writes : (a : Arg) (r s : List Symbol) (rest : List ℕ) → AreWritable (spell_arg a r) → EndsWord rest → Writes rest s → Writes (arg_text a ++ rest) (spell_arg a s)
arg_writes a r s rest h e w =
    rw append_assoc
    (put_word a.at (flat_map sub_text a.subs ++ rest) (each spell_sub a.subs s) h.0 (each_begins sub_text sub_separated a.subs rest e)
    (each_writes sub_text spell_sub sub_spelling sub_separated a.subs r s rest h.1 e w))

pub arg_spelling : IsSpelling arg_text spell_arg
arg_spelling = record { writes = arg_writes; passes = λ a r h. each_passes spell_sub sub_passes a.subs r h.1 }

out_writes : (a : OutArg) (r s : List Symbol) (rest : List ℕ) → AreWritable (spell_out a r) → EndsWord rest → Writes rest s → Writes (out_arg_text a ++ rest) (spell_out a s)
out_writes (Fresh p) r s rest h e w = port_writes p r s rest h e w
out_writes (Old a) r s rest h e w = arg_writes a r s rest h e w

out_passes : (a : OutArg) (r : List Symbol) → AreWritable (spell_out a r) → AreWritable r
out_passes (Fresh p) r h = port_spelling.passes p r h
out_passes (Old a) r h = arg_spelling.passes a r h

pub out_spelling : IsSpelling out_arg_text spell_out
out_spelling = record { writes = out_writes; passes = out_passes }

-- the symbols of inputs and outputs
abbrev pub spell_interface : {I O : Type 0} → (I → List Symbol → List Symbol) → List I → (O → List Symbol → List Symbol) → List O → List Symbol → List Symbol
spell_interface f is k os r =
    sign marks.In ∷ sign marks.OpenParen ∷ separated f is (sign marks.CloseParen ∷ sign marks.Out ∷ sign marks.OpenParen ∷ separated k os (sign marks.CloseParen ∷ r))

pub interface_writes : {I O : Type 0} (f : I → List ℕ) (g : I → List Symbol → List Symbol) (k : O → List ℕ) (l : O → List Symbol → List Symbol) → IsSpelling f g → IsSpelling k l
    → (is : List I) (os : List O) (r s : List Symbol) (rest : List ℕ) → AreWritable (spell_interface g is l os r) → Writes rest s → Writes (interface_text f is k os ++ rest) (spell_interface g is l os s)
unfolding interface_text goes_on punctuation_of operator_of
interface_writes f g k l p q is os r s rest h w =
    let s1 = sign marks.CloseParen ∷ s in
    let s2 = separated l os s1 in
    let s3 = sign marks.CloseParen ∷ sign marks.Out ∷ sign marks.OpenParen ∷ s2 in
    let r1 = sign marks.CloseParen ∷ r in
    let r3 = sign marks.CloseParen ∷ sign marks.Out ∷ sign marks.OpenParen ∷ separated l os r1 in
    let t1 = codes ")" ++ rest in
    let t2 = join_by k (codes ", ") os ++ t1 in
    let t3 = codes ") out(" ++ t2 in
    let t4 = join_by f (codes ", ") is ++ t3 in
    let w1 : Writes t1 s1 = put_alone marks.CloseParen rest s close_paren_alone w in
    let after = list_passes f g p is r3 h.1.1 in
    let w2 : Writes t2 s2 = list_writes k l q os r1 s1 t1 after.1.1.1 refl w1 in
    let w3 : Writes t3 s3 =
    put_alone marks.CloseParen (32 ∷ codes "out(" ++ t2) (sign marks.Out ∷ sign marks.OpenParen ∷ s2) close_paren_alone
    (put_space (codes "out(" ++ t2) (sign marks.Out ∷ sign marks.OpenParen ∷ s2)
    (put_mark marks.Out (40 ∷ t2) (sign marks.OpenParen ∷ s2) refl (put_alone marks.OpenParen t2 s2 open_paren_alone w2))) in
    let w4 : Writes t4 (separated g is s3) = list_writes f g p is r3 s3 t3 h.1.1 refl w3 in
    let w5 : Writes (codes " in(" ++ t4) (spell_interface g is l os s) =
    put_space (codes "in(" ++ t4) (spell_interface g is l os s) (put_mark marks.In (40 ∷ t4) (sign marks.OpenParen ∷ separated g is s3) refl (put_alone marks.OpenParen t4 (separated g is s3) open_paren_alone w4)) in
    simp append_assoc w5

pub interface_passes : {I O : Type 0} (f : I → List ℕ) (g : I → List Symbol → List Symbol) (k : O → List ℕ) (l : O → List Symbol → List Symbol) → IsSpelling f g → IsSpelling k l
    → (is : List I) (os : List O) (r : List Symbol) → AreWritable (spell_interface g is l os r) → AreWritable r
interface_passes f g k l p q is os r h =
    let r1 = sign marks.CloseParen ∷ r in
    (list_passes k l q os r1 (list_passes f g p is (sign marks.CloseParen ∷ sign marks.Out ∷ sign marks.OpenParen ∷ separated l os r1) h.1.1).1.1.1).1

pub interface_begins : {I O : Type 0} (f : I → List ℕ) (k : O → List ℕ) (is : List I) (os : List O) (rest : List ℕ) → EndsWord (interface_text f is k os ++ rest)
unfolding interface_text
interface_begins f k is os rest = refl

pub call_writes : (c : Call) (r s : List Symbol) (rest : List ℕ) → AreWritable (spell_call c r) → Writes rest s → Writes (call_text c ++ rest) (spell_call c s)
call_writes c r s rest h w =
    rw append_assoc
    (put_word c.at (interface_text arg_text c.ins out_arg_text c.outs ++ rest) (spell_interface spell_arg c.ins spell_out c.outs s) h.0 (interface_begins arg_text out_arg_text c.ins c.outs rest)
    (interface_writes arg_text spell_arg out_arg_text spell_out arg_spelling out_spelling c.ins c.outs r s rest h.1 w))

pub call_passes : (c : Call) (r : List Symbol) → AreWritable (spell_call c r) → AreWritable r
call_passes c r h = interface_passes arg_text spell_arg out_arg_text spell_out arg_spelling out_spelling c.ins c.outs r h.1

pub call_spelling : IsSpelling call_text spell_call
call_spelling = record { writes = λ c r s rest h e w. call_writes c r s rest h w; passes = call_passes }
