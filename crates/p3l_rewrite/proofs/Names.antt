-- Names with more behind them are names of the language.
use Rattle.std.proofs.Common.{◌≡◌, ℕ, ◌≤◌, ◌^◌, pos, Bool, true, false, cond, ◌||◌, ◌&&◌, List, [], ◌∷◌, ◌++◌, length, Option, Some, None, ltb, refl, ap, sym, subst, codes, arith}
use Rattle.std.specs.Prelude.{nat_eq, bytes_eq}
use Rattle.std.specs.List.{AllByRecursion, list_all, list_any}
use Rattle.std.proofs.lemmas.Bool.{le-leb}
use Rattle.std.proofs.lemmas.Slice.Eq.{bytes_eq-Decides}
use Rattle.p3l_ast.specs.declared.position.Spot.{Spot}
use Rattle.p3l_ast.specs.declared.refusal.Fault.TheVariants.{BadToken, NumberTooBig, NameTooLong}
use Rattle.p3l_lexer.specs.declared.mark.Mark.{Mark}
use Rattle.p3l_lexer.specs.declared.token.Lexeme.{Lexeme}
use Rattle.p3l_lexer.specs.declared.token.Lexeme.TheVariants.{Word, Digits, Faulty}
use Rattle.p3l_lexer.specs.declared.token.Piece.{Piece}
use Rattle.p3l_lexer.specs.declared.token.Piece.TheVariants.{Token}
use Rattle.p3l_lexer.specs.Mark.{mark_text, keywords, mark_among, keyword_of}
use Rattle.p3l_lexer.specs.Piece.{is_digit, is_letter, is_number, is_word_byte, number_of, piece_of, value_of, word_or_keyword}
use Rattle.p3l_lexer.proofs.Truths.{and_left, and_right}
use Rattle.p3l_lexer.proofs.Writing.{word_starts}
use Rattle.p3l_grammar.specs.Symbol.{word}
use Rattle.p3l_print.proofs.Writing.{IsWritable}
use Rattle.p3l_rewrite.specs.Candidates.{longer}

-- no keyword has a `_`

abbrev has_line : List ℕ → Bool
has_line bytes = list_any (λ b. nat_eq b 95) bytes

not_among : (text : List ℕ) (ms : List Mark) → has_line text ≡ true → AllByRecursion (λ m. has_line (mark_text m) ≡ false) ms → mark_among ms text ≡ None
not_among text [] has all = refl
not_among text (m ∷ ms) has all = by (not_among text ms has all.1) (bytes_eq (mark_text m) text) refl
  where
    by : mark_among ms text ≡ None → (b : Bool) → bytes_eq (mark_text m) text ≡ b → cond b (Some m) (mark_among ms text) ≡ None
    by later true e =
        let same : mark_text m ≡ text = (bytes_eq-Decides (mark_text m) text).0 e in
        let is : has_line (mark_text m) ≡ true = subst (λ t. has_line t ≡ true) (sym same) has in
        absurd (let p = all.0 in cc)
    by later false e = later

keywords_plain : AllByRecursion (λ m. has_line (mark_text m) ≡ false) keywords
keywords_plain = (refl, (refl, (refl, (refl, (refl, (refl, (refl, (refl, (refl, (refl, (refl, (refl, (refl, (refl, (refl, (refl, (refl, (refl, (refl, (refl, (refl, tt)))))))))))))))))))))

no_keyword : (text : List ℕ) → has_line text ≡ true → keyword_of text ≡ None
unfolding keyword_of
no_keyword text has = not_among text keywords has keywords_plain

line_behind : (xs ys : List ℕ) → has_line ys ≡ true → has_line (xs ++ ys) ≡ true
line_behind [] ys has = has
line_behind (x ∷ xs) ys has = by (nat_eq x 95) (line_behind xs ys has)
  where
    by : (b : Bool) → has_line (xs ++ ys) ≡ true → (b || has_line (xs ++ ys)) ≡ true
    by true later = refl
    by false later = later

-- a name begins with a letter, and has letters and digits behind it

record IsRun (text : List ℕ) : Type 0 where
  first : ℕ
  rest : List ℕ
  text_is : text ≡ first ∷ rest
  begins : is_letter first ≡ true
  goes_on : list_all is_word_byte rest ≡ true

number_is_none : (text name : List ℕ) → Some (Token (number_of text)) ≡ Some (Token (Word name)) → ⊥
unfolding number_of
number_is_none text name e = by (is_number text) (ltb (value_of text) (2 ^ 63)) e
  where
    by : (p q : Bool) → Some (Token (cond p (cond q (Digits (pos (value_of text))) (Faulty NumberTooBig)) (Faulty BadToken))) ≡ Some (Token (Word name)) → ⊥
    by true true e = absurd cc
    by true false e = absurd cc
    by false q e = absurd cc

is_run : (text : List ℕ) → piece_of text ≡ Some (Token (Word text)) → IsRun text
unfolding piece_of
is_run [] e = absurd cc
is_run (first ∷ rest) e =
    by (is_word_byte first) (list_all is_word_byte rest) (is_letter first) _ (word_starts first rest (first ∷ rest) e) refl refl e
  where
    by : (w l a : Bool) (other : Option Piece) → w ≡ true → list_all is_word_byte rest ≡ l → is_letter first ≡ a
        → cond w (cond l (Some (Token (cond a (word_or_keyword (keyword_of (first ∷ rest)) (first ∷ rest)) (number_of (first ∷ rest))))) None) other ≡ Some (Token (Word (first ∷ rest)))
        → IsRun (first ∷ rest)
    by true true true other starts all letter e = record { first = first; rest = rest; text_is = refl; begins = letter; goes_on = all }
    by true true false other starts all letter e = absurd (number_is_none (first ∷ rest) (first ∷ rest) e)
    by true false a other starts all letter e = absurd cc
    by false l a other starts all letter e = absurd cc

-- such a text is a name where it is no keyword and not too long

letter_is_word : (b : ℕ) → is_letter b ≡ true → is_word_byte b ≡ true
letter_is_word b e = by (is_letter b) e
  where
    by : (l : Bool) → l ≡ true → (l || is_digit b) ≡ true
    by true e = refl
    by false e = absurd cc

word_named : (found : Option Mark) (text : List ℕ) → found ≡ None → length text ≤ 64 → word_or_keyword found text ≡ Word text
unfolding word_or_keyword
word_named (Some m) text e short = absurd cc
word_named None text e short = ap (λ s. cond s (Word text) (Faulty NameTooLong)) (le-leb (length text) 64 short)

run_is_name : (first : ℕ) (rest : List ℕ) → is_letter first ≡ true → list_all is_word_byte rest ≡ true → keyword_of (first ∷ rest) ≡ None → length (first ∷ rest) ≤ 64
    → piece_of (first ∷ rest) ≡ Some (Token (Word (first ∷ rest)))
unfolding piece_of
run_is_name first rest letter all plain short =
    by (is_word_byte first) (list_all is_word_byte rest) (is_letter first) (word_or_keyword (keyword_of (first ∷ rest)) (first ∷ rest)) _
    (letter_is_word first letter) all letter (word_named (keyword_of (first ∷ rest)) (first ∷ rest) plain short)
  where
    by : (w l a : Bool) (named : Lexeme) (other : Option Piece) → w ≡ true → l ≡ true → a ≡ true → named ≡ Word (first ∷ rest)
        → cond w (cond l (Some (Token (cond a named (number_of (first ∷ rest))))) None) other ≡ Some (Token (Word (first ∷ rest)))
    by true true true named other p q r n = ap (λ (x : Lexeme). Some (Token x)) n
    by true true false named other p q r n = absurd cc
    by true false a named other p q r n = absurd cc
    by false l a named other p q r n = absurd cc

-- a name with `_farm` behind it, where that is no longer than a name may be
pub farm_name : (x : Spot) → IsWritable (word x) → length (x.name ++ codes "_farm") ≤ 64 → IsWritable (word (longer (codes "_farm") x))
farm_name x named short =
    let run = is_run x.name named in
    let first = run.first in
    let rest = run.rest ++ codes "_farm" in
    let same : x.name ++ codes "_farm" ≡ first ∷ rest = ap (λ t. t ++ codes "_farm") run.text_is in
    let all : list_all is_word_byte rest ≡ true = behind run.rest run.goes_on in
    let plain : keyword_of (first ∷ rest) ≡ None = no_keyword (first ∷ rest) (line_behind (first ∷ run.rest) (codes "_farm") refl) in
    subst (λ t. piece_of t ≡ Some (Token (Word t))) (sym same) (run_is_name first rest run.begins all plain (subst (λ t. length t ≤ 64) same short))
  where
    behind : (xs : List ℕ) → list_all is_word_byte xs ≡ true → list_all is_word_byte (xs ++ codes "_farm") ≡ true
    behind [] all = refl
    behind (b ∷ xs) all = by (is_word_byte b) (and_left (is_word_byte b) _ all) (behind xs (and_right (is_word_byte b) _ all))
      where
        by : (w : Bool) → w ≡ true → list_all is_word_byte (xs ++ codes "_farm") ≡ true → (w && list_all is_word_byte (xs ++ codes "_farm")) ≡ true
        by true e later = later
        by false e later = absurd cc

-- `main_work`
pub work_name : (x : Spot) → x.name ≡ codes "main" → IsWritable (word (longer (codes "_work") x))
unfolding keyword_of
work_name x is =
    subst (λ (n : List ℕ). piece_of (n ++ codes "_work") ≡ Some (Token (Word (n ++ codes "_work")))) (sym is)
    (run_is_name 109 (codes "ain_work") refl refl refl (omega arith))
