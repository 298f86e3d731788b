-- Spellings of names and numbers.
use Rattle.std.proofs.Common.{◌≡◌, ℕ, zero, suc, ◌+◌, ◌-◌, ◌*◌, ◌/◌, ◌%◌, ◌<◌, ◌≤◌, ◌^◌, Bool, true, false, cond, not, ◌||◌, List, [], ◌∷◌, ◌++◌, length, get_or, ℤ, pos, Option, Some, None, refl, ap, ◌∙◌, subst, arith}
use Rattle.std.specs.Prelude.{nat_eq, nat_le, nat_lt}
use Rattle.std.specs.List.{list_all}
use Rattle.std.specs.Fmt.{decimal}
use Rattle.std.proofs.lemmas.Bool.Decides.{nat_tests}
use Rattle.std.proofs.lemmas.List.Folds.{list_all-append}
use Rattle.std.proofs.lemmas.List.Sums.{fold-append}
use Rattle.std.proofs.lemmas.Fmt.{decimal_by_steps, decimal_digit, first_decimal, decimal_nonempty}
use Rattle.p3l_ast.specs.declared.refusal.Fault.TheVariants.{BadByte, BadToken, NumberTooBig, NameTooLong}
use Rattle.p3l_ast.specs.declared.refusal.Fault.{Fault}
use Rattle.p3l_lexer.specs.declared.mark.Mark.{Mark}
use Rattle.p3l_lexer.specs.declared.token.Lexeme.{Lexeme}
use Rattle.p3l_lexer.specs.declared.token.Lexeme.TheVariants as lexemes
use Rattle.p3l_lexer.specs.declared.token.Piece.TheVariants as pieces
use Rattle.p3l_lexer.specs.Mark.{keyword_of, punctuation_of}
use Rattle.p3l_lexer.specs.Position.{is_no_line_end}
use Rattle.p3l_lexer.specs.Piece.{is_blank, is_letter, is_digit, is_word_byte, is_number, value_of, word_or_keyword, number_of, sign_or_byte, after_close, block_of, slash_of, piece_of}
use Rattle.p3l_lexer.proofs.Pieces.{run_of, piece_of-run}
use Rattle.p3l_lexer.proofs.Truths.{and_left, and_right, and_both, or_right}

-- a name is written as itself
word_lexeme : (mark : Option Mark) (text name : List ℕ) → word_or_keyword mark text ≡ lexemes.Word name → text ≡ name
unfolding word_or_keyword
word_lexeme (Some mark) text name h = absurd cc
word_lexeme None text name h = go (nat_le (length text) 64) h
  where
    go : (b : Bool) → cond b (lexemes.Word text) (lexemes.Faulty NameTooLong) ≡ lexemes.Word name → text ≡ name
    go true e = cc
    go false e = absurd cc

number_lexeme : (text name : List ℕ) → number_of text ≡ lexemes.Word name → ⊥
unfolding number_of
number_lexeme text name h = go (is_number text) (nat_lt (value_of text) (2 ^ 63)) h
  where
    go : (a b : Bool) → cond a (cond b (lexemes.Digits (pos (value_of text))) (lexemes.Faulty NumberTooBig)) (lexemes.Faulty BadToken) ≡ lexemes.Word name → ⊥
    go true true e = cc
    go true false e = cc
    go false b e = cc

-- a name or a number
IsPlain : Lexeme → Type 0
IsPlain (lexemes.Word name) = Unit {0}
IsPlain (lexemes.Digits value) = Unit {0}
IsPlain lexeme = ⊥

no_fault : (fault : Fault) (lexeme : Lexeme) → IsPlain lexeme → pieces.Token (lexemes.Faulty fault) ≡ pieces.Token lexeme → ⊥
unfolding IsPlain
no_fault fault lexeme plain h = subst IsPlain (let q : lexeme ≡ lexemes.Faulty fault = cc in q) plain

sign_lexeme : (mark : Option Mark) (text : List ℕ) (lexeme : Lexeme) → IsPlain lexeme → sign_or_byte mark text ≡ Some (pieces.Token lexeme) → ⊥
unfolding sign_or_byte IsPlain
sign_lexeme (Some mark) text lexeme plain h = subst IsPlain (let q : lexeme ≡ lexemes.Sign mark = cc in q) plain
sign_lexeme None [] lexeme plain h = cc
sign_lexeme None (b ∷ c ∷ text) lexeme plain h = cc
sign_lexeme None (b ∷ []) lexeme plain h = go (is_blank b) (nat_eq b 36) h
  where
    go : (s t : Bool) → Some (cond s pieces.Gap (cond t (pieces.Token (lexemes.Faulty BadToken)) (pieces.Token (lexemes.Faulty BadByte)))) ≡ Some (pieces.Token lexeme) → ⊥
    go true t e = cc
    go false true e = no_fault BadToken lexeme plain (let q : pieces.Token (lexemes.Faulty BadToken) ≡ pieces.Token lexeme = cc in q)
    go false false e = no_fault BadByte lexeme plain (let q : pieces.Token (lexemes.Faulty BadByte) ≡ pieces.Token lexeme = cc in q)

slash_lexeme : (text : List ℕ) (lexeme : Lexeme) → IsPlain lexeme → slash_of text ≡ Some (pieces.Token lexeme) → ⊥
unfolding slash_of block_of
slash_lexeme [] lexeme plain h = sign_lexeme (punctuation_of []) [] lexeme plain h
slash_lexeme (a ∷ []) lexeme plain h = sign_lexeme (punctuation_of (a ∷ [])) (a ∷ []) lexeme plain h
slash_lexeme (a ∷ b ∷ body) lexeme plain h = go (nat_eq b 47) (nat_eq b 42) (list_all is_no_line_end body) (after_close body) h
  where
    by : (rest : Option (List ℕ)) → block_of rest ≡ Some (pieces.Token lexeme) → ⊥
    by None e = no_fault BadToken lexeme plain (let q : pieces.Token (lexemes.Faulty BadToken) ≡ pieces.Token lexeme = cc in q)
    by (Some []) e = cc
    by (Some (c ∷ rest)) e = cc

    go : (s t all : Bool) (rest : Option (List ℕ)) → cond s (cond all (Some pieces.Gap) None) (cond t (block_of rest) None) ≡ Some (pieces.Token lexeme) → ⊥
    go true t true rest e = cc
    go true t false rest e = cc
    go false true all rest e = by rest e
    go false false all rest e = cc

-- a name or a number is a run of letters and digits
record IsRun (text : List ℕ) (lexeme : Lexeme) : Type 0 where
  first : ℕ
  rest : List ℕ
  whole : text ≡ first ∷ rest
  run : run_of first rest ≡ pieces.Token lexeme

run_is : (text : List ℕ) (lexeme : Lexeme) → IsPlain lexeme → piece_of text ≡ Some (pieces.Token lexeme) → IsRun text lexeme
unfolding piece_of
run_is [] lexeme plain h = absurd cc
run_is (first ∷ rest) lexeme plain h = record { first = first; rest = rest; whole = refl; run = go (is_word_byte first) (list_all is_word_byte rest) (nat_eq first 47) h }
  where
    go : (w all s : Bool) → cond w (cond all (Some (run_of first rest)) None) (cond s (slash_of (first ∷ rest)) (sign_or_byte (punctuation_of (first ∷ rest)) (first ∷ rest))) ≡ Some (pieces.Token lexeme) → run_of first rest ≡ pieces.Token lexeme
    go true true s e = cc
    go true false s e = absurd cc
    go false all true e = absurd (slash_lexeme (first ∷ rest) lexeme plain e)
    go false all false e = absurd (sign_lexeme (punctuation_of (first ∷ rest)) (first ∷ rest) lexeme plain e)

run_lexeme : (first : ℕ) (rest name : List ℕ) → run_of first rest ≡ pieces.Token (lexemes.Word name) → first ∷ rest ≡ name
run_lexeme first rest name h = go (is_letter first) h
  where
    go : (b : Bool) → pieces.Token (cond b (word_or_keyword (keyword_of (first ∷ rest)) (first ∷ rest)) (number_of (first ∷ rest))) ≡ pieces.Token (lexemes.Word name) → first ∷ rest ≡ name
    go true e = word_lexeme (keyword_of (first ∷ rest)) (first ∷ rest) name (let q : word_or_keyword (keyword_of (first ∷ rest)) (first ∷ rest) ≡ lexemes.Word name = cc in q)
    go false e = absurd (number_lexeme (first ∷ rest) name (let q : number_of (first ∷ rest) ≡ lexemes.Word name = cc in q))

pub word_is : (text name : List ℕ) → piece_of text ≡ Some (pieces.Token (lexemes.Word name)) → text ≡ name
unfolding IsPlain
word_is text name h = let r = run_is text (lexemes.Word name) tt h in r.whole ∙ run_lexeme r.first r.rest name r.run

pub word_again : (text name : List ℕ) → piece_of text ≡ Some (pieces.Token (lexemes.Word name)) → piece_of name ≡ Some (pieces.Token (lexemes.Word name))
word_again text name h = subst (λ t. piece_of t ≡ Some (pieces.Token (lexemes.Word name))) (word_is text name h) h

-- it begins with a letter or a digit
plain_starts : (first : ℕ) (rest : List ℕ) (lexeme : Lexeme) → IsPlain lexeme → piece_of (first ∷ rest) ≡ Some (pieces.Token lexeme) → is_word_byte first ≡ true
unfolding piece_of
plain_starts first rest lexeme plain h = go (is_word_byte first) (list_all is_word_byte rest) (nat_eq first 47) h
  where
    go : (w all s : Bool) → cond w (cond all (Some (run_of first rest)) None) (cond s (slash_of (first ∷ rest)) (sign_or_byte (punctuation_of (first ∷ rest)) (first ∷ rest))) ≡ Some (pieces.Token lexeme) → w ≡ true
    go true all s e = refl
    go false all true e = absurd (slash_lexeme (first ∷ rest) lexeme plain e)
    go false all false e = absurd (sign_lexeme (punctuation_of (first ∷ rest)) (first ∷ rest) lexeme plain e)

pub word_starts : (first : ℕ) (rest name : List ℕ) → piece_of (first ∷ rest) ≡ Some (pieces.Token (lexemes.Word name)) → is_word_byte first ≡ true
unfolding IsPlain
word_starts first rest name h = plain_starts first rest (lexemes.Word name) tt h

pub digits_start : (first : ℕ) (rest : List ℕ) (value : ℤ) → piece_of (first ∷ rest) ≡ Some (pieces.Token (lexemes.Digits value)) → is_word_byte first ≡ true
unfolding IsPlain
digits_start first rest value h = plain_starts first rest (lexemes.Digits value) tt h

-- a number is at most 9223372036854775807, and has no sign
Counts : ℤ → Type 0
Counts value = (n : ℕ) × (value ≡ pos n) × (n < 2 ^ 63)

word_digits : (mark : Option Mark) (text : List ℕ) (value : ℤ) → word_or_keyword mark text ≡ lexemes.Digits value → ⊥
unfolding word_or_keyword
word_digits (Some mark) text value h = cc
word_digits None text value h = go (nat_le (length text) 64) h
  where
    go : (b : Bool) → cond b (lexemes.Word text) (lexemes.Faulty NameTooLong) ≡ lexemes.Digits value → ⊥
    go true e = cc
    go false e = cc

number_digits : (text : List ℕ) (value : ℤ) → number_of text ≡ lexemes.Digits value → Counts value
unfolding number_of Counts
number_digits text value h = go (is_number text) (nat_lt (value_of text) (2 ^ 63)) refl h
  where
    go : (a b : Bool) → nat_lt (value_of text) (2 ^ 63) ≡ b → cond a (cond b (lexemes.Digits (pos (value_of text))) (lexemes.Faulty NumberTooBig)) (lexemes.Faulty BadToken) ≡ lexemes.Digits value → (n : ℕ) × (value ≡ pos n) × (n < 2 ^ 63)
    go true true t e = (value_of text, (let q : value ≡ pos (value_of text) = cc in q), grind (arith, nat_tests))
    go true false t e = absurd cc
    go false b t e = absurd cc

pub digits_are : (text : List ℕ) (value : ℤ) → piece_of text ≡ Some (pieces.Token (lexemes.Digits value)) → (n : ℕ) × (value ≡ pos n) × (n < 2 ^ 63)
unfolding IsPlain Counts
digits_are text value h = let r = run_is text (lexemes.Digits value) tt h in go r.first r.rest r.run
  where
    go : (first : ℕ) (rest : List ℕ) → run_of first rest ≡ pieces.Token (lexemes.Digits value) → Counts value
    go first rest e = by (is_letter first) e
      where
        by : (b : Bool) → pieces.Token (cond b (word_or_keyword (keyword_of (first ∷ rest)) (first ∷ rest)) (number_of (first ∷ rest))) ≡ pieces.Token (lexemes.Digits value) → Counts value
        by true e = absurd (word_digits (keyword_of (first ∷ rest)) (first ∷ rest) value (let q : word_or_keyword (keyword_of (first ∷ rest)) (first ∷ rest) ≡ lexemes.Digits value = cc in q))
        by false e = number_digits (first ∷ rest) value (let q : number_of (first ∷ rest) ≡ lexemes.Digits value = cc in q)

-- the digits of a number are its numeral
Reads : ℕ → List ℕ → Type 0
Reads n digits = (list_all is_digit digits ≡ true) × (value_of digits ≡ n)

digit_test : (d : ℕ) → d < 10 → is_digit (48 + d) ≡ true
digit_test d h = grind (arith, nat_tests)

one_digit : (n : ℕ) → n < 10 → Reads n ((48 + n) ∷ [])
unfolding Reads
one_digit n h = (and_both (is_digit (48 + n)) true (digit_test n h) refl, omega arith)

digit_more : (n : ℕ) (digits : List ℕ) → 10 ≤ n → Reads (n / 10) digits → Reads n (digits ++ (48 + n % 10) ∷ [])
unfolding Reads
digit_more n digits h r =
    let small : n % 10 < 10 = omega arith in
    let last : list_all is_digit ((48 + n % 10) ∷ []) ≡ true = and_both (is_digit (48 + n % 10)) true (digit_test (n % 10) small) refl in
    let value : value_of (digits ++ (48 + n % 10) ∷ []) ≡ value_of digits * 10 + (48 + n % 10 - 48) = fold-append (λ v digit. v * 10 + (digit - 48)) 0 digits ((48 + n % 10) ∷ []) in
    let here : value_of digits ≡ n / 10 = r.1 in (
      list_all-append is_digit digits ((48 + n % 10) ∷ []) ∙ and_both (list_all is_digit digits) _ r.0 last,
      value ∙ (omega arith),
    )

decimal_reads : (n : ℕ) → n < 2 ^ 64 → Reads n (decimal n)
decimal_reads n h = decimal_by_steps Reads one_digit digit_more n h

no_leading : (n : ℕ) → n < 2 ^ 64 → (nat_eq (length (decimal n)) 1 || not (nat_eq (get_or (decimal n) 0 0) 48)) ≡ true
no_leading zero h = rw (decimal_digit 0 (omega arith)) refl
no_leading (suc n) h =
    let first : 48 < get_or (decimal (suc n)) 0 0 = first_decimal (suc n) (omega arith) h in
    let test : nat_eq (get_or (decimal (suc n)) 0 0) 48 ≡ false = grind (arith, nat_tests) in
    rw test (or_right (nat_eq (length (decimal (suc n))) 1) true refl)

number_of-decimal : (n : ℕ) → n < 2 ^ 63 → number_of (decimal n) ≡ lexemes.Digits (pos n)
unfolding number_of Reads
number_of-decimal n h =
    let wide : n < 2 ^ 64 = omega arith in
    let r = decimal_reads n wide in
    let numeral : is_number (decimal n) ≡ true = and_both (list_all is_digit (decimal n)) _ r.0 (no_leading n wide) in
    let small : nat_lt n (2 ^ 63) ≡ true = grind (arith, nat_tests) in
    rw (numeral, r.1, small) refl

digits_piece : (text : List ℕ) → 0 < length text → list_all is_digit text ≡ true → piece_of text ≡ Some (pieces.Token (number_of text))
digits_piece [] some h = absurd (omega arith)
digits_piece (d ∷ digits) some h =
    let here : is_digit d ≡ true = and_left (is_digit d) _ h in
    let word : is_word_byte d ≡ true = or_right (is_letter d) (is_digit d) here in
    let no_letter : is_letter d ≡ false = grind (arith, nat_tests) in
    piece_of-run d digits word (all digits (and_right (is_digit d) _ h)) ∙ rw no_letter refl
  where
    all : (ds : List ℕ) → list_all is_digit ds ≡ true → list_all is_word_byte ds ≡ true
    all [] e = refl
    all (b ∷ ds) e = and_both (is_word_byte b) _ (or_right (is_letter b) (is_digit b) (and_left (is_digit b) _ e)) (all ds (and_right (is_digit b) _ e))

-- a number is written by its decimal digits
pub piece_of-decimal : (n : ℕ) → n < 2 ^ 63 → piece_of (decimal n) ≡ Some (pieces.Token (lexemes.Digits (pos n)))
unfolding Reads
piece_of-decimal n h =
    let wide : n < 2 ^ 64 = omega arith in
    digits_piece (decimal n) (decimal_nonempty n wide) (decimal_reads n wide).0 ∙ ap (λ l. Some (pieces.Token l)) (number_of-decimal n h)
