-- Long words that aren't ended, and shorter ones that stand for them.
use Rattle.std.proofs.Common.{◌≡◌, ◌≢◌, ℕ, zero, suc, ◌+◌, ◌-◌, ◌*◌, ◌<◌, ◌≤◌, ◌^◌, ℤ, Bool, true, false, not, cond, ◌==◌, ◌||◌, ◌&&◌, nat_le, nat_lt, List, [], ◌∷◌, ◌++◌, length, take, drop, get_or, filter, Option, Some, None, Result, Err, position, refl, ap, sym, subst, ◌∙◌, arith, append_assoc, length-drop, take-append-drop}
use Rattle.std.specs.Char.{digit_value, is_ascii_digit}
use Rattle.std.specs.List.{list_all, onto_first, position_or_len, slice_split}
use Rattle.std.specs.Str.Lines.{strip_carriage_return}
use Rattle.std.specs.Str.Parse.{digits_value, digits_value_after, starts_with_minus}
use Rattle.std.proofs.lemmas.Bool.{and_from, and_parts, cond-false, cond-true, eqb-true, false_from_ne_true, le-leb, leb-true, lt-ltb, ltb-true}
use Rattle.std.proofs.lemmas.List.{drop_all, drop_more}
use Rattle.std.proofs.lemmas.Str.Parse.{digits_value-take-le}
use Rattle.p3l_stream.specs.declared.word.WordFault.{WordFault}
use Rattle.p3l_stream.specs.declared.word.WordFault.TheVariants as fault
use Rattle.p3l_stream.specs.Ended.{IsLine}
use Rattle.p3l_stream.specs.Lines.{line_from}
use Rattle.p3l_stream.specs.Long.{HasZeros, is_zero}
use Rattle.p3l_stream.specs.Part.{PartSeen, StandsFor, goes_on, has_fault, is_faulty, line_after}
use Rattle.p3l_stream.specs.Words.{digits_of, is_blank, is_filled, is_numeral, magnitude, number_of, numbers_of, put_number, signed_number, words_of}
use Rattle.p3l_stream.proofs.Feeds.{nothing_is_line, place, position-missed}
use Rattle.p3l_stream.proofs.Numerals.{bytes-of_numeral, is_numeral_byte, no_blank, no_feed, plain}
use Rattle.p3l_stream.proofs.Parts.{line_append, line_back, strip-append}
use Rattle.p3l_stream.proofs.Positions.{position-none}

-- the last byte, and those before it
pub parted : (held word : List ℕ) (len : ℕ) → len ≡ length held → 0 < len → word ≡ take (len - 1) held → held ≡ word ++ get_or held (len - 1) 0 ∷ []
parted held word len len_is some word_is =
    sym (take-append-drop (len - 1) held)
    ∙ ap (λ (l : List ℕ). l ++ drop (len - 1) held) (sym word_is)
    ∙ ap (λ (l : List ℕ). word ++ l) (drop_more held (len - 1) 0 (omega arith) ∙ ap (λ (l : List ℕ). get_or held (len - 1) 0 ∷ l) (drop_all (len - 1 + 1) held (omega arith)))

-- no byte is a blank
abbrev pub IsWord : List ℕ → Type 0
IsWord [] = Unit {0}
IsWord (byte ∷ bytes) = (is_blank byte ≡ false) × IsWord bytes

-- bytes have a first word, which goes on from the word before them, and others after it
pub record GoesOn (bytes : List ℕ) : Type 0 where
  pub more : List ℕ
  pub others : List (List ℕ)
  pub splits : slice_split is_blank bytes ≡ more ∷ others

goes_on_by : (bytes : List ℕ) → GoesOn bytes
goes_on_by [] = record { more = []; others = []; splits = refl }
goes_on_by (byte ∷ bytes) =
    elim (is_blank byte) as (λ t. is_blank byte ≡ t → GoesOn (byte ∷ bytes)) [
      | true ↦ λ blank. record { more = []; others = slice_split is_blank bytes; splits = cond-true (is_blank byte) _ _ blank }
      | false ↦ λ of_word. record {
        more = byte ∷ (goes_on_by bytes).more;
        others = (goes_on_by bytes).others;
        splits = cond-false (is_blank byte) _ _ of_word ∙ ap (onto_first byte) (goes_on_by bytes).splits;
      }
    ] refl

split_word : (word bytes more : List ℕ) (others : List (List ℕ)) → IsWord word → slice_split is_blank bytes ≡ more ∷ others → slice_split is_blank (word ++ bytes) ≡ (word ++ more) ∷ others
split_word [] bytes more others all splits = splits
split_word (byte ∷ word) bytes more others all splits = cond-false (is_blank byte) _ _ all.0 ∙ ap (onto_first byte) (split_word word bytes more others all.1 splits)

filled_more : (word more : List ℕ) → is_filled word ≡ true → is_filled (word ++ more) ≡ true
filled_more [] more some = absurd cc
filled_more (byte ∷ word) more some = refl

words_word : (word bytes : List ℕ) → IsWord word → is_filled word ≡ true → words_of (word ++ bytes) ≡ (word ++ (goes_on_by bytes).more) ∷ filter is_filled (goes_on_by bytes).others
words_word word bytes all some =
    ap (filter is_filled) (split_word word bytes _ _ all (goes_on_by bytes).splits)
    ∙ cond-true (is_filled (word ++ (goes_on_by bytes).more)) _ _ (filled_more word (goes_on_by bytes).more some)

-- words that write the same, however they go on
pub same_numbers : (word other bytes : List ℕ) → IsWord word → is_filled word ≡ true → IsWord other → is_filled other ≡ true → ((more : List ℕ) → number_of (word ++ more) ≡ number_of (other ++ more))
    → numbers_of (words_of (word ++ bytes)) ≡ numbers_of (words_of (other ++ bytes))
same_numbers word other bytes all some all' some' same =
    ap numbers_of (words_word word bytes all some)
    ∙ ap (λ (r : Result ℤ WordFault). put_number r (numbers_of (filter is_filled (goes_on_by bytes).others))) (same (goes_on_by bytes).more)
    ∙ sym (ap numbers_of (words_word other bytes all' some'))

-- a word that is no numeral, however it goes on
pub refused_numbers : (word bytes : List ℕ) → IsWord word → is_filled word ≡ true → ((more : List ℕ) → number_of (word ++ more) ≡ Err fault.Form) → numbers_of (words_of (word ++ bytes)) ≡ Err fault.Form
refused_numbers word bytes all some bad =
    ap numbers_of (words_word word bytes all some)
    ∙ ap (λ (r : Result ℤ WordFault). put_number r (numbers_of (filter is_filled (goes_on_by bytes).others))) (bad (goes_on_by bytes).more)

-- a shorter word, before the last byte at hand
pub stands_shorter : (part : PartSeen) (word other : List ℕ) (last : ℕ) (so_far : List ℕ) → IsWord word → is_filled word ≡ true → IsLine word → IsWord other → is_filled other ≡ true → IsLine other
    → ((more : List ℕ) → number_of (word ++ more) ≡ number_of (other ++ more)) → StandsFor part (word ++ last ∷ []) so_far → StandsFor part (other ++ last ∷ []) so_far
stands_shorter part word other last so_far all some line all' some' line' same was = record {
  held_is = line_append other (last ∷ []) line' (line_back word (last ∷ []) line was.held_is);
  line_is = was.line_is;
  begun = was.begun ∙ ap (λ b. part.begun || b) (filled_more word (last ∷ []) some ∙ sym (filled_more other (last ∷ []) some'));
  holds = λ tail.
      was.holds tail
      ∙ ap (λ (l : List ℕ). line_after part (numbers_of (words_of l))) (stripped word tail)
      ∙ ap (line_after part) (same_numbers word other (strip_carriage_return (last ∷ tail)) all some all' some' same)
      ∙ sym (ap (λ (l : List ℕ). line_after part (numbers_of (words_of l))) (stripped other tail));
}
  where
    stripped : (w tail : List ℕ) → strip_carriage_return ((w ++ last ∷ []) ++ tail) ≡ w ++ strip_carriage_return (last ∷ tail)
    stripped w tail = ap strip_carriage_return (append_assoc w (last ∷ []) tail) ∙ strip-append w last tail

or_some : (b : Bool) → (b || true) ≡ true
or_some true = refl
or_some false = refl

-- a line that such a word refuses
pub stands_refused : (part : PartSeen) (word : List ℕ) (last : ℕ) (so_far : List ℕ) → IsWord word → is_filled word ≡ true → is_faulty part ≡ false
    → ((more : List ℕ) → number_of (word ++ more) ≡ Err fault.Form) → StandsFor part (word ++ last ∷ []) so_far → StandsFor (record part { fault = Some fault.Form; begun = true }) [] so_far
stands_refused part word last so_far all some fine bad was = record {
  held_is = nothing_is_line;
  line_is = was.line_is;
  begun = was.begun ∙ ap (λ b. part.begun || b) (filled_more word (last ∷ []) some) ∙ or_some part.begun;
  holds = λ tail.
      was.holds tail
      ∙ ap (λ (l : List ℕ). line_after part (numbers_of (words_of l))) (ap strip_carriage_return (append_assoc word (last ∷ []) tail) ∙ strip-append word last tail)
      ∙ ap (line_after part) (refused_numbers word (strip_carriage_return (last ∷ tail)) all some bad)
      ∙ at_fault part.fault part.width part.count part.numbers fine;
}
  where
    at_fault : (first : Option WordFault) (width count : ℕ) (numbers : List ℤ) → has_fault first ≡ false → goes_on first width count numbers (Err fault.Form) ≡ line_from width (Err fault.Form)
    at_fault None width count numbers is = refl
    at_fault (Some first) width count numbers is = absurd cc

-- a word after its sign
abbrev pub signed : Bool → List ℕ → List ℕ
signed true digits = 45 ∷ digits
signed false digits = digits

all_append : (p : ℕ → Bool) (xs ys : List ℕ) → list_all p (xs ++ ys) ≡ (list_all p xs && list_all p ys)
all_append p [] ys = refl
all_append p (x ∷ xs) ys = ap (λ b. p x && b) (all_append p xs ys) ∙ assoc (p x) (list_all p xs) (list_all p ys)
  where
    assoc : (a b c : Bool) → (a && (b && c)) ≡ ((a && b) && c)
    assoc true b c = refl
    assoc false b c = refl

and_true : (a b : Bool) → a ≡ true → (a && b) ≡ b
and_true true b is = refl
and_true false b is = absurd cc

and_false : (a b : Bool) → a ≡ false → (a && b) ≡ false
and_false true b is = absurd cc
and_false false b is = refl

false_and : (a b : Bool) → b ≡ false → (a && b) ≡ false
false_and true b is = is
false_and false b is = refl

numeral_more : (digits more : List ℕ) → is_filled digits ≡ true → list_all is_ascii_digit digits ≡ true → (is_filled (digits ++ more) && list_all is_ascii_digit (digits ++ more)) ≡ list_all is_ascii_digit more
numeral_more digits more some all =
    and_true (is_filled (digits ++ more)) (list_all is_ascii_digit (digits ++ more)) (filled_more digits more some)
    ∙ all_append is_ascii_digit digits more
    ∙ and_true (list_all is_ascii_digit digits) (list_all is_ascii_digit more) all

plain_more : (digits more : List ℕ) → is_filled digits ≡ true → list_all is_ascii_digit digits ≡ true → starts_with_minus (digits ++ more) ≡ false
plain_more [] more some all = absurd cc
plain_more (digit ∷ digits) more some all = plain (digit ∷ digits) all

-- the number of a sign and digits that go on
number_signed : (minus : Bool) (digits more : List ℕ) → is_filled digits ≡ true → list_all is_ascii_digit digits ≡ true
    → number_of (signed minus digits ++ more) ≡ cond (list_all is_ascii_digit more) (signed_number minus (digits_value 10 (digits ++ more))) (Err fault.Form)
number_signed true digits more some all =
    ap (λ b. cond b (signed_number true (digits_value 10 (digits ++ more))) (Err fault.Form)) (numeral_more digits more some all)
number_signed false digits more some all =
    ap (λ b. cond (is_filled (cond b (drop 1 (digits ++ more)) (digits ++ more)) && list_all is_ascii_digit (cond b (drop 1 (digits ++ more)) (digits ++ more))) (signed_number b (digits_value 10 (cond b (drop 1 (digits ++ more)) (digits ++ more)))) (Err fault.Form)) (plain_more digits more some all)
    ∙ ap (λ b. cond b (signed_number false (digits_value 10 (digits ++ more))) (Err fault.Form)) (numeral_more digits more some all)

minus_is : (word : List ℕ) → starts_with_minus word ≡ true → word ≡ 45 ∷ drop 1 word
minus_is [] minus = absurd cc
minus_is (byte ∷ bytes) minus = ap (λ (b : ℕ). b ∷ bytes) (eqb-true byte 45 minus)

-- a numeral is a sign and digits
pub record IsSigned (word : List ℕ) (minus : Bool) (digits : List ℕ) : Type 0 where
  pub word_is : word ≡ signed minus digits
  pub sign : starts_with_minus word ≡ minus
  pub digits_are : digits_of word ≡ digits
  pub some : is_filled digits ≡ true
  pub all : list_all is_ascii_digit digits ≡ true

signed_of : (word : List ℕ) (minus : Bool) → starts_with_minus word ≡ minus → is_numeral word ≡ true → IsSigned word minus (cond minus (drop 1 word) word)
signed_of word true sign numeral =
    let digits_are : digits_of word ≡ drop 1 word = cond-true (starts_with_minus word) _ _ sign in
    let both = and_parts (is_filled (drop 1 word)) _ (sym (ap (λ (l : List ℕ). is_filled l && list_all is_ascii_digit l) digits_are) ∙ numeral) in
    record { word_is = minus_is word sign; sign = sign; digits_are = digits_are; some = both.0; all = both.1 }
signed_of word false sign numeral =
    let digits_are : digits_of word ≡ word = cond-false (starts_with_minus word) _ _ sign in
    let both = and_parts (is_filled word) _ (sym (ap (λ (l : List ℕ). is_filled l && list_all is_ascii_digit l) digits_are) ∙ numeral) in
    record { word_is = refl; sign = sign; digits_are = digits_are; some = both.0; all = both.1 }

pub word_of_bytes : (word : List ℕ) → list_all is_numeral_byte word ≡ true → IsWord word
word_of_bytes [] all = tt
word_of_bytes (byte ∷ bytes) all =
    let both = and_parts (is_numeral_byte byte) (list_all is_numeral_byte bytes) all in (no_blank byte both.0, word_of_bytes bytes both.1)

pub line_of_bytes : (word : List ℕ) → list_all is_numeral_byte word ≡ true → IsLine word
line_of_bytes word all = position-missed word (no_place word all)
  where
    no_place : (word : List ℕ) → list_all is_numeral_byte word ≡ true → place word ≡ length word
    no_place [] all = refl
    no_place (byte ∷ bytes) all =
        let both = and_parts (is_numeral_byte byte) (list_all is_numeral_byte bytes) all in
        let rest : place bytes ≡ length bytes = no_place bytes both.1 in
        ap (λ b. cond (not b) (1 + place bytes) 0) (no_feed byte both.0) ∙ omega arith

-- out of range, however it goes on
numeral_of_range : (word : List ℕ) → number_of word ≡ Err fault.Range → is_numeral word ≡ true
numeral_of_range word is =
    elim (is_numeral word) as (λ b. cond b (signed_number (starts_with_minus word) (magnitude word)) (Err fault.Form) ≡ Err fault.Range → b ≡ true) [
      | true ↦ λ e. refl
      | false ↦ λ e. absurd cc
    ] is

out_true : (n m : ℕ) (b : Bool) (number : Result ℤ WordFault) → nat_le n (2 ^ 63) ≡ b → ◌≢◌ number (Err fault.Range) → cond b number (Err fault.Range) ≡ Err fault.Range → n ≤ m → m ≤ 2 ^ 63 → ⊥
out_true n m true number is differs e below within = differs e
out_true n m false number is differs e below within =
    let yes : nat_le n (2 ^ 63) ≡ true = le-leb n (2 ^ 63) (omega arith) in absurd (cc)

out_false : (n m : ℕ) (b : Bool) (number : Result ℤ WordFault) → nat_lt n (2 ^ 63) ≡ b → ◌≢◌ number (Err fault.Range) → cond b number (Err fault.Range) ≡ Err fault.Range → n ≤ m → m < 2 ^ 63 → ⊥
out_false n m true number is differs e below within = differs e
out_false n m false number is differs e below within =
    let yes : nat_lt n (2 ^ 63) ≡ true = lt-ltb n (2 ^ 63) (omega arith) in absurd (cc)

still_out : (minus : Bool) (n m : ℕ) → signed_number minus n ≡ Err fault.Range → n ≤ m → signed_number minus m ≡ Err fault.Range
still_out true n m out below =
    cond-false (nat_le m (2 ^ 63)) _ _ (false_from_ne_true _ (λ within. out_true n m (nat_le n (2 ^ 63)) _ refl (λ e. cc) out below (leb-true m (2 ^ 63) within)))
still_out false n m out below =
    cond-false (nat_lt m (2 ^ 63)) _ _ (false_from_ne_true _ (λ within. out_false n m (nat_lt n (2 ^ 63)) _ refl (λ e. cc) out below (ltb-true m (2 ^ 63) within)))

take-front : (first more : List ℕ) → take (length first) (first ++ more) ≡ first
take-front [] more = refl
take-front (byte ∷ first) more = ap (λ (l : List ℕ). byte ∷ l) (take-front first more)

value_grows : (digits more : List ℕ) → digits_value 10 digits ≤ digits_value 10 (digits ++ more)
value_grows digits more = subst (λ (l : List ℕ). digits_value 10 l ≤ digits_value 10 (digits ++ more)) (take-front digits more) (digits_value-take-le 10 (digits ++ more) (length digits) (omega arith))

pub range_more : (word more : List ℕ) → number_of word ≡ Err fault.Range → number_of (word ++ more) ≡ cond (list_all is_ascii_digit more) (Err fault.Range) (Err fault.Form)
range_more word more is =
    let numeral : is_numeral word ≡ true = numeral_of_range word is in
    let minus : Bool = starts_with_minus word in
    let digits : List ℕ = cond minus (drop 1 word) word in
    let it : IsSigned word minus digits = signed_of word minus refl numeral in
    let out : signed_number minus (digits_value 10 digits) ≡ Err fault.Range = sym (cond-true (is_numeral word) _ _ numeral) ∙ is in
    ap (λ (w : List ℕ). number_of (w ++ more)) it.word_is
    ∙ number_signed minus digits more it.some it.all
    ∙ ap (λ (r : Result ℤ WordFault). cond (list_all is_ascii_digit more) r (Err fault.Form)) (still_out minus _ _ out (value_grows digits more))

-- no numeral, however it goes on
digits_more : (word more : List ℕ) → is_filled word ≡ true → digits_of (word ++ more) ≡ digits_of word ++ more
digits_more [] more some = absurd cc
digits_more (byte ∷ bytes) more some =
    elim (byte == 45) as (λ b. cond b (bytes ++ more) ((byte ∷ bytes) ++ more) ≡ cond b bytes (byte ∷ bytes) ++ more) [
      | true ↦ refl
      | false ↦ refl
    ]

pub form_more : (word more : List ℕ) → is_filled word ≡ true → list_all is_ascii_digit (digits_of word) ≡ false → number_of (word ++ more) ≡ Err fault.Form
form_more word more some bad =
    cond-false (is_numeral (word ++ more)) _ _
    (false_and (is_filled (digits_of (word ++ more))) _
    (ap (list_all is_ascii_digit) (digits_more word more some) ∙ all_append is_ascii_digit (digits_of word) more ∙ and_false _ (list_all is_ascii_digit more) bad))

pub filled_of_digits : (word : List ℕ) → is_filled (digits_of word) ≡ true → is_filled word ≡ true
filled_of_digits [] some = some
filled_of_digits (byte ∷ bytes) some = refl

pub word_of_none : (word : List ℕ) → position is_blank word ≡ None → IsWord word
word_of_none word none = from word (position-none is_blank word none)
  where
    from : (word : List ℕ) → position_or_len is_blank word ≡ length word → IsWord word
    from [] all = tt
    from (byte ∷ bytes) all =
        elim (is_blank byte) as (λ b. cond (not b) (1 + position_or_len is_blank bytes) 0 ≡ suc (length bytes) → (b ≡ false) × IsWord bytes) [
          | true ↦ λ e. absurd (omega arith)
          | false ↦ λ e. (refl, from bytes (omega arith))
        ] all

-- zeros before other digits
zeros_before : (count : ℕ) (digits : List ℕ) → count ≤ length digits → list_all is_zero (take count digits) ≡ true → (more : List ℕ) → digits_value 10 (digits ++ more) ≡ digits_value 10 (drop count digits ++ more)
zeros_before zero digits within zeros more = refl
zeros_before (suc count) [] within zeros more = absurd (omega arith)
zeros_before (suc count) (digit ∷ digits) within zeros more =
    let both = and_parts (is_zero digit) (list_all is_zero (take count digits)) zeros in
    ap (λ (d : ℕ). digits_value_after 10 (0 * 10 + digit_value d) (digits ++ more)) (eqb-true digit 48 both.0)
    ∙ zeros_before count digits (omega arith) both.1 more

all_drop : (p : ℕ → Bool) (count : ℕ) (xs : List ℕ) → list_all p xs ≡ true → list_all p (drop count xs) ≡ true
all_drop p zero xs all = all
all_drop p (suc count) [] all = refl
all_drop p (suc count) (x ∷ xs) all = all_drop p count xs (and_parts (p x) (list_all p xs) all).1

filled_drop : (count : ℕ) (xs : List ℕ) → count < length xs → is_filled (drop count xs) ≡ true
filled_drop count xs below = some (drop count xs) (omega (arith, length-drop count xs))
  where
    some : (ys : List ℕ) → 0 < length ys → is_filled ys ≡ true
    some [] none = absurd (omega arith)
    some (y ∷ ys) more = refl

pub zeros_more : (word more : List ℕ) (minus : Bool) (count : ℕ) → HasZeros word minus count → number_of (word ++ more) ≡ number_of (signed minus (drop count (digits_of word)) ++ more)
zeros_more word more minus count zeros =
    let digits : List ℕ = cond minus (drop 1 word) word in
    let it : IsSigned word minus digits = signed_of word minus zeros.sign zeros.numeral in
    let before : count < length digits = omega (arith, zeros.before, ap length it.digits_are) in
    let are : list_all is_zero (take count digits) ≡ true = sym (ap (λ (l : List ℕ). list_all is_zero (take count l)) it.digits_are) ∙ zeros.zeros in
    ap (λ (w : List ℕ). number_of (w ++ more)) it.word_is
    ∙ number_signed minus digits more it.some it.all
    ∙ ap (λ (n : ℕ). cond (list_all is_ascii_digit more) (signed_number minus n) (Err fault.Form)) (zeros_before count digits (omega arith) are more)
    ∙ sym (number_signed minus (drop count digits) more (filled_drop count digits before) (all_drop is_ascii_digit count digits it.all))
    ∙ ap (λ (l : List ℕ). number_of (signed minus (drop count l) ++ more)) (sym it.digits_are)

-- the shorter word has bytes of numerals alone
digit_bytes : (bytes : List ℕ) → list_all is_ascii_digit bytes ≡ true → list_all is_numeral_byte bytes ≡ true
digit_bytes [] all = refl
digit_bytes (byte ∷ bytes) all =
    let both = and_parts (is_ascii_digit byte) (list_all is_ascii_digit bytes) all in
    and_from _ _ (ap (λ b. b || (byte == 45)) both.0) (digit_bytes bytes both.1)

signed_bytes : (minus : Bool) (digits : List ℕ) → list_all is_ascii_digit digits ≡ true → list_all is_numeral_byte (signed minus digits) ≡ true
signed_bytes true digits all = digit_bytes digits all
signed_bytes false digits all = digit_bytes digits all

pub zeros_bytes : (word : List ℕ) (minus : Bool) (count : ℕ) → HasZeros word minus count → list_all is_numeral_byte (signed minus (drop count (digits_of word))) ≡ true
zeros_bytes word minus count zeros =
    let it : IsSigned word minus (cond minus (drop 1 word) word) = signed_of word minus zeros.sign zeros.numeral in
    signed_bytes minus _ (ap (λ (l : List ℕ). list_all is_ascii_digit (drop count l)) it.digits_are ∙ all_drop is_ascii_digit count _ it.all)

pub zeros_filled : (word : List ℕ) (minus : Bool) (count : ℕ) → HasZeros word minus count → is_filled (signed minus (drop count (digits_of word))) ≡ true
zeros_filled word true count zeros = refl
zeros_filled word false count zeros = filled_drop count (digits_of word) zeros.before

drop_none : (count : ℕ) → drop {A = ℕ} count [] ≡ []
drop_none zero = refl
drop_none (suc count) = refl

drop_one : (count : ℕ) (xs : List ℕ) → drop 1 (drop count xs) ≡ drop count (drop 1 xs)
drop_one zero xs = refl
drop_one (suc count) [] = refl
drop_one (suc count) (x ∷ xs) = drop_one count xs ∙ deeper count xs
  where
    deeper : (count : ℕ) (xs : List ℕ) → drop count (drop 1 xs) ≡ drop (suc count) xs
    deeper count [] = drop_none count
    deeper count (y ∷ ys) = refl

-- zeros dropped from bytes that begin with the word
front_drop : (count : ℕ) (word back : List ℕ) → count ≤ length word → drop count (word ++ back) ≡ drop count word ++ back
front_drop zero word back within = refl
front_drop (suc count) [] back within = absurd (omega arith)
front_drop (suc count) (byte ∷ word) back within = front_drop count word back (omega arith)

digits_within : (word : List ℕ) (minus : Bool) (count : ℕ) → HasZeros word minus count → count < length word
digits_within word minus count zeros = by (starts_with_minus word) refl
  where
    by : (b : Bool) → starts_with_minus word ≡ b → count < length word
    by true sign = omega (arith, zeros.before, ap length (cond-true (starts_with_minus word) (drop 1 word) word sign), length-drop 1 word)
    by false sign = omega (arith, zeros.before, ap length (cond-false (starts_with_minus word) (drop 1 word) word sign))

cut_first : (word back : List ℕ) → 0 < length word → drop 1 (word ++ back) ≡ drop 1 word ++ back
cut_first [] back some = absurd (omega arith)
cut_first (byte ∷ word) back some = refl

-- the digits left when the zeros are dropped, with the sign in the place of the last of them
pub zeros_dropped : (word : List ℕ) (minus : Bool) (count last : ℕ) (held : List ℕ) → HasZeros word minus count → minus ≡ true → held ≡ word ++ last ∷ []
    → 45 ∷ drop 1 (drop count held) ≡ signed minus (drop count (digits_of word)) ++ last ∷ []
zeros_dropped word minus count last held zeros is held_is =
    let digits_are : digits_of word ≡ drop 1 word = cond-true (starts_with_minus word) _ _ (zeros.sign ∙ is) in
    let within : count < length word = digits_within word minus count zeros in
    ap (λ (l : List ℕ). 45 ∷ drop 1 l) (ap (drop count) held_is ∙ front_drop count word (last ∷ []) (omega arith))
    ∙ ap (λ (l : List ℕ). 45 ∷ l) (cut_first (drop count word) (last ∷ []) (omega (arith, length-drop count word)))
    ∙ ap (λ (l : List ℕ). 45 ∷ (l ++ last ∷ [])) (drop_one count word ∙ ap (drop count) (sym digits_are))
    ∙ sym (ap (λ b. signed b (drop count (digits_of word)) ++ last ∷ []) is)

pub zeros_plain : (word : List ℕ) (minus : Bool) (count last : ℕ) (held : List ℕ) → HasZeros word minus count → minus ≡ false → held ≡ word ++ last ∷ []
    → drop count held ≡ signed minus (drop count (digits_of word)) ++ last ∷ []
zeros_plain word minus count last held zeros is held_is =
    let digits_are : digits_of word ≡ word = cond-false (starts_with_minus word) _ _ (zeros.sign ∙ is) in
    let within : count < length word = digits_within word minus count zeros in
    ap (drop count) held_is
    ∙ front_drop count word (last ∷ []) (omega arith)
    ∙ ap (λ (l : List ℕ). drop count l ++ last ∷ []) (sym digits_are)
    ∙ sym (ap (λ b. signed b (drop count (digits_of word)) ++ last ∷ []) is)

-- a word without the zeros stands for it
pub stands_zeros : (part : PartSeen) (word : List ℕ) (last : ℕ) (so_far : List ℕ) (minus : Bool) (count : ℕ) → HasZeros word minus count → StandsFor part (word ++ last ∷ []) so_far → StandsFor part (signed minus (drop count (digits_of word)) ++ last ∷ []) so_far
stands_zeros part word last so_far minus count zeros was =
    let bytes : list_all is_numeral_byte word ≡ true = bytes-of_numeral word zeros.numeral in
    let bytes' : list_all is_numeral_byte (signed minus (drop count (digits_of word))) ≡ true = zeros_bytes word minus count zeros in
    stands_shorter part word (signed minus (drop count (digits_of word))) last so_far (word_of_bytes word bytes) (filled_of_digits word (and_parts (is_filled (digits_of word)) _ zeros.numeral).0) (line_of_bytes word bytes)
    (word_of_bytes (signed minus (drop count (digits_of word))) bytes') (zeros_filled word minus count zeros) (line_of_bytes (signed minus (drop count (digits_of word))) bytes') (λ more. zeros_more word more minus count zeros) was

-- digits that are out of range
abbrev pub nines : List ℕ
nines = 57 ∷ (57 ∷ (57 ∷ (57 ∷ (57 ∷ (57 ∷ (57 ∷ (57 ∷ (57 ∷ (57 ∷ (57 ∷ (57 ∷ (57 ∷ (57 ∷ (57 ∷ (57 ∷ (57 ∷ (57 ∷ (57 ∷ (57 ∷ [])))))))))))))))))))

-- and stand for any such word
pub stands_nines : (part : PartSeen) (word : List ℕ) (last : ℕ) (so_far : List ℕ) → number_of word ≡ Err fault.Range → StandsFor part (word ++ last ∷ []) so_far
    → StandsFor part (nines ++ last ∷ []) so_far
stands_nines part word last so_far out was =
    let numeral : is_numeral word ≡ true = numeral_of_range word out in
    let bytes : list_all is_numeral_byte word ≡ true = bytes-of_numeral word numeral in
    stands_shorter part word nines last so_far (word_of_bytes word bytes) (filled_of_digits word (and_parts (is_filled (digits_of word)) _ numeral).0) (line_of_bytes word bytes)
    (word_of_bytes nines refl) refl (line_of_bytes nines refl) (λ more. range_more word more out ∙ sym (range_more nines more refl)) was

-- they were put in its place
pub put_nines : (start mid end bytes held : List ℕ) (n : ℕ) → end ≡ mid ++ get_or bytes n 0 ∷ [] → mid ≡ start ++ nines → start ≡ [] → bytes ≡ held → end ≡ nines ++ get_or held n 0 ∷ []
put_nines start mid end bytes held n end_is mid_is start_is bytes_are =
    end_is ∙ ap (λ (l : List ℕ). l ++ get_or bytes n 0 ∷ []) (mid_is ∙ ap (λ (l : List ℕ). l ++ nines) start_is) ∙ ap (λ (l : List ℕ). nines ++ get_or l n 0 ∷ []) bytes_are
