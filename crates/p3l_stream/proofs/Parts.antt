-- Lines that are read before they are ended.
use Rattle.std.proofs.Common.{◌≡◌, ℕ, suc, ◌+◌, ◌-◌, ◌<◌, ℤ, Bool, true, false, cond, ◌==◌, ◌||◌, List, [], ◌∷◌, ◌++◌, length, take, drop, get_or, filter, Option, Some, None, Result, Ok, Err, refl, ap, sym, ◌∙◌, arith, append_assoc, length-append, take-append-drop}
use Rattle.std.specs.List.{slice_split, onto_first}
use Rattle.std.specs.Str.Lines.{strip_carriage_return}
use Rattle.std.proofs.lemmas.Bool.{cond-false, cond-true}
use Rattle.std.proofs.lemmas.Bool.Decides.{nat_tests}
use Rattle.std.proofs.lemmas.List.{drop_more}
use Rattle.std.proofs.lemmas.List.Elements.{filter-append}
use Rattle.p3l_stream.specs.declared.line.LineContent.{LineContent}
use Rattle.p3l_stream.specs.declared.word.WordFault.{WordFault}
use Rattle.p3l_stream.specs.Ended.{IsLine, held_by}
use Rattle.p3l_stream.specs.Lines.{line_from}
use Rattle.p3l_stream.specs.Part.{PartSeen, StandsFor, counted, goes_on, has_fault, is_faulty, line_after, no_part, put_all, put_each}
use Rattle.p3l_stream.specs.Words.{is_blank, is_filled, number_of, numbers_of, put_number, words_of}
use Rattle.p3l_stream.proofs.Feeds.{front_of_line, nothing_is_line, place, place-after, place-line, position-missed}

-- a line of numbers, counted
line_from-counted : (width : ℕ) (numbers : List ℤ) → line_from width (Ok numbers) ≡ counted width (0 + length numbers) numbers
line_from-counted width [] = refl
line_from-counted width (number ∷ numbers) = ap (λ (n : ℕ). counted width n (number ∷ numbers)) (sym (zero_plus (length (number ∷ numbers))))
  where
    zero_plus : (n : ℕ) → 0 + n ≡ n
    zero_plus n = omega arith

starts_by : (width : ℕ) (read : Result (List ℤ) WordFault) → line_from width read ≡ line_after (no_part width) read
starts_by width (Ok numbers) = line_from-counted width numbers
starts_by width (Err first) = refl

-- if nothing was read, the bytes at hand are the line
pub stands_first : (width : ℕ) (held : List ℕ) → IsLine held → StandsFor (no_part width) held held
stands_first width held is_line = record {
  held_is = is_line;
  line_is = is_line;
  begun = refl;
  holds = λ tail. starts_by width (numbers_of (words_of (strip_carriage_return (held ++ tail))));
}

pub is_filled-append : (xs ys : List ℕ) → is_filled (xs ++ ys) ≡ (is_filled xs || is_filled ys)
is_filled-append [] ys = refl
is_filled-append (x ∷ xs) ys = refl

or_assoc : (a b c : Bool) → ((a || b) || c) ≡ (a || (b || c))
or_assoc true b c = refl
or_assoc false b c = refl

pub line_append : (xs ys : List ℕ) → IsLine xs → IsLine ys → IsLine (xs ++ ys)
line_append xs ys front back =
    let rest : place ys ≡ length ys = place-line ys back in
    let all : place (xs ++ ys) ≡ length xs + place ys = place-after xs ys (place-line xs front) in
    position-missed (xs ++ ys) (omega (arith, length-append xs ys))

pub line_back : (xs ys : List ℕ) → IsLine xs → IsLine (xs ++ ys) → IsLine ys
line_back xs ys front whole =
    let all : place (xs ++ ys) ≡ length xs + place ys = place-after xs ys (place-line xs front) in
    let size : place (xs ++ ys) ≡ length (xs ++ ys) = place-line (xs ++ ys) whole in
    position-missed ys (omega (arith, length-append xs ys))

-- more bytes come
pub stands_more : (part : PartSeen) (held so_far piece : List ℕ) → StandsFor part held so_far → IsLine (held ++ piece) → StandsFor part (held ++ piece) (so_far ++ piece)
stands_more part held so_far piece was is_line = record {
  held_is = is_line;
  line_is = line_append so_far piece was.line_is (line_back held piece was.held_is is_line);
  begun = is_filled-append so_far piece ∙ ap (λ b. b || is_filled piece) was.begun ∙ or_assoc part.begun (is_filled held) (is_filled piece) ∙ ap (λ b. part.begun || b) (sym (is_filled-append held piece));
  holds = λ tail.
      ap (held_by part.width) (append_assoc so_far piece tail)
      ∙ was.holds (piece ++ tail)
      ∙ ap (λ (l : List ℕ). line_after part (numbers_of (words_of (strip_carriage_return l)))) (sym (append_assoc held piece tail));
}

-- a first word at fault decides
pub stands_faulty : (part : PartSeen) (held so_far : List ℕ) → StandsFor part held so_far → is_faulty part ≡ true → part.begun ≡ true → StandsFor part [] so_far
stands_faulty part held so_far was faulty begun = record {
  held_is = nothing_is_line;
  line_is = was.line_is;
  begun = was.begun ∙ ap (λ b. b || is_filled held) begun ∙ sym (ap (λ b. b || false) begun);
  holds = λ tail. was.holds tail ∙ decided part.fault part.width part.count part.numbers _ _ faulty;
}
  where
    decided : (first : Option WordFault) (width count : ℕ) (numbers : List ℤ) (others more : Result (List ℤ) WordFault) → has_fault first ≡ true → goes_on first width count numbers others ≡ goes_on first width count numbers more
    decided (Some first) width count numbers others more is = refl
    decided None width count numbers others more is = absurd cc

or_filled : (b : Bool) (bytes : List ℕ) → 0 < length bytes → (b || is_filled bytes) ≡ true
or_filled true bytes some = refl
or_filled false [] some = absurd (omega arith)
or_filled false (byte ∷ bytes) some = refl

-- bytes of the line were read
pub stands_begun : (part : PartSeen) (held so_far : List ℕ) → StandsFor part held so_far → 0 < length held → StandsFor (record part { begun = true }) held so_far
stands_begun part held so_far was some = record {
  held_is = was.held_is;
  line_is = was.line_is;
  begun = was.begun ∙ or_filled part.begun held some;
  holds = was.holds;
}

-- a carriage return at the end of bytes is one of the last of them
pub strip-cons : (x y : ℕ) (ys : List ℕ) → strip_carriage_return (x ∷ (y ∷ ys)) ≡ x ∷ strip_carriage_return (y ∷ ys)
strip-cons x y ys =
    let top : length (x ∷ (y ∷ ys)) - 1 ≡ suc (length ys) = omega arith in
    let rest : length (y ∷ ys) - 1 ≡ length ys = omega arith in
    ap (λ (n : ℕ). cond (get_or (x ∷ (y ∷ ys)) n 0 == 13) (take n (x ∷ (y ∷ ys))) (x ∷ (y ∷ ys))) top
    ∙ elim (get_or (y ∷ ys) (length ys) 0 == 13) as (
    λ b. cond b (x ∷ take (length ys) (y ∷ ys)) (x ∷ (y ∷ ys)) ≡ x ∷ cond b (take (length ys) (y ∷ ys)) (y ∷ ys)
    ) [
      | true ↦ refl
      | false ↦ refl
    ]
    ∙ ap (λ (n : ℕ). x ∷ cond (get_or (y ∷ ys) n 0 == 13) (take n (y ∷ ys)) (y ∷ ys)) (sym rest)

pub strip-append : (xs : List ℕ) (y : ℕ) (ys : List ℕ) → strip_carriage_return (xs ++ y ∷ ys) ≡ xs ++ strip_carriage_return (y ∷ ys)
strip-append [] y ys = refl
strip-append (x ∷ xs) y ys = first xs ∙ ap (λ (l : List ℕ). x ∷ l) (strip-append xs y ys)
  where
    first : (xs : List ℕ) → strip_carriage_return ((x ∷ xs) ++ y ∷ ys) ≡ x ∷ strip_carriage_return (xs ++ y ∷ ys)
    first [] = strip-cons x y ys
    first (z ∷ zs) = strip-cons x z (zs ++ y ∷ ys)

no_return : (b : ℕ) → is_blank b ≡ true → (b == 13) ≡ false
no_return b blank = grind (arith, nat_tests)

strip-blank : (b : ℕ) (xs : List ℕ) → is_blank b ≡ true → strip_carriage_return (b ∷ xs) ≡ b ∷ strip_carriage_return xs
strip-blank b [] blank = cond-false (b == 13) _ _ (no_return b blank)
strip-blank b (x ∷ xs) blank = strip-cons b x xs

-- the words before a blank, and those after it
split-blank : (xs : List ℕ) (b : ℕ) (ys : List ℕ) → is_blank b ≡ true → slice_split is_blank (xs ++ b ∷ ys) ≡ slice_split is_blank xs ++ slice_split is_blank ys
split-blank [] b ys blank = cond-true (is_blank b) _ _ blank
split-blank (x ∷ xs) b ys blank =
    elim (is_blank x) as (
    λ t. cond t ([] ∷ slice_split is_blank (xs ++ b ∷ ys)) (onto_first x (slice_split is_blank (xs ++ b ∷ ys)))
    ≡ cond t ([] ∷ slice_split is_blank xs) (onto_first x (slice_split is_blank xs)) ++ slice_split is_blank ys
    ) [
      | true ↦ ap (λ (l : List (List ℕ)). [] ∷ l) (split-blank xs b ys blank)
      | false ↦ ap (onto_first x) (split-blank xs b ys blank) ∙ onto_append x xs (slice_split is_blank ys)
    ]
  where
    onto_append : (x : ℕ) (xs : List ℕ) (more : List (List ℕ)) → onto_first x (slice_split is_blank xs ++ more) ≡ onto_first x (slice_split is_blank xs) ++ more
    onto_append x [] more = refl
    onto_append x (y ∷ ys) more =
        elim (is_blank y) as (
        λ t. onto_first x (cond t ([] ∷ slice_split is_blank ys) (onto_first y (slice_split is_blank ys)) ++ more)
        ≡ onto_first x (cond t ([] ∷ slice_split is_blank ys) (onto_first y (slice_split is_blank ys))) ++ more
        ) [
          | true ↦ refl
          | false ↦ by_parts (slice_split is_blank ys)
        ]
      where
        by_parts : (parts : List (List ℕ)) → onto_first x (onto_first y parts ++ more) ≡ onto_first x (onto_first y parts) ++ more
        by_parts [] = refl
        by_parts (part ∷ parts) = refl

words-blank : (xs : List ℕ) (b : ℕ) (ys : List ℕ) → is_blank b ≡ true → words_of (xs ++ b ∷ ys) ≡ words_of xs ++ words_of ys
words-blank xs b ys blank = ap (filter is_filled) (split-blank xs b ys blank) ∙ filter-append is_filled (slice_split is_blank xs) (slice_split is_blank ys)

put_all-put : (first : Result ℤ WordFault) (read others : Result (List ℤ) WordFault) → put_number first (put_all read others) ≡ put_all (put_number first read) others
put_all-put (Err f) read others = refl
put_all-put (Ok n) (Err f) others = refl
put_all-put (Ok n) (Ok ns) others = refl

numbers-append : (xs ys : List (List ℕ)) → numbers_of (xs ++ ys) ≡ put_all (numbers_of xs) (numbers_of ys)
numbers-append [] ys = refl
numbers-append (x ∷ xs) ys = ap (put_number (number_of x)) (numbers-append xs ys) ∙ put_all-put (number_of x) (numbers_of xs) (numbers_of ys)

pub line_rest : (xs ys : List ℕ) → IsLine (xs ++ ys) → IsLine ys
line_rest [] ys whole = whole
line_rest (x ∷ xs) ys whole = line_rest xs ys (position-missed (xs ++ ys) (front_of_line x (xs ++ ys) (place-line (x ∷ (xs ++ ys)) whole)).1)

or_true : (b : Bool) → (b || true) ≡ true
or_true true = refl
or_true false = refl

filled_blank : (front : List ℕ) (b : ℕ) (held : List ℕ) → is_filled (front ++ b ∷ held) ≡ true
filled_blank [] b held = refl
filled_blank (x ∷ front) b held = refl

-- the words before a blank were read
pub stands_after : (part now : PartSeen) (front : List ℕ) (b : ℕ) (held so_far : List ℕ) → StandsFor part (front ++ b ∷ held) so_far → is_blank b ≡ true → now.width ≡ part.width → now.begun ≡ true
    → ((others : Result (List ℤ) WordFault) → line_after part (put_all (numbers_of (words_of front)) others) ≡ line_after now others) → StandsFor now held so_far
stands_after part now front b held so_far was blank width begun read = record {
  held_is = line_rest (b ∷ []) held (line_rest front (b ∷ held) was.held_is);
  line_is = was.line_is;
  begun = was.begun ∙ ap (λ t. part.begun || t) (filled_blank front b held) ∙ or_true part.begun ∙ sym (ap (λ t. t || is_filled held) begun);
  holds = λ tail.
      ap (λ w. held_by w (so_far ++ tail)) width
      ∙ was.holds tail
      ∙ ap (λ (l : List ℕ). line_after part (numbers_of (words_of (strip_carriage_return l)))) (append_assoc front (b ∷ held) tail)
      ∙ ap (λ (l : List ℕ). line_after part (numbers_of (words_of l))) (strip-append front b (held ++ tail) ∙ ap (λ (l : List ℕ). front ++ l) (strip-blank b (held ++ tail) blank))
      ∙ ap (λ (l : List (List ℕ)). line_after part (numbers_of l)) (words-blank front b (strip_carriage_return (held ++ tail)) blank)
      ∙ ap (line_after part) (numbers-append (words_of front) (words_of (strip_carriage_return (held ++ tail))))
      ∙ read (numbers_of (words_of (strip_carriage_return (held ++ tail))));
}

-- bytes, parted at one of them
pub parted_at : (held front : List ℕ) (end : ℕ) → end < length held → front ≡ take end held → held ≡ front ++ get_or held end 0 ∷ drop (end + 1) held
parted_at held front end within front_is =
    sym (take-append-drop end held)
    ∙ ap (λ (l : List ℕ). l ++ drop end held) (sym front_is)
    ∙ ap (λ (l : List ℕ). front ++ l) (drop_more held end 0 within)

-- nothing comes after the words that were read
put_each-none : (numbers : List ℤ) → put_each numbers (Ok []) ≡ Ok numbers
put_each-none [] = refl
put_each-none (number ∷ numbers) = ap (put_number (Ok number)) (put_each-none numbers)

pub put_all-none : (read : Result (List ℤ) WordFault) → put_all read (Ok []) ≡ read
put_all-none (Err first) = refl
put_all-none (Ok numbers) = put_each-none numbers

-- the content of the line, after its other words were read
pub line_after-read : (part now : PartSeen) (bytes line_bytes : List ℕ) (holds : LineContent)
    → ((others : Result (List ℤ) WordFault) → line_after part (put_all (numbers_of (words_of bytes)) others) ≡ line_after now others) → holds ≡ line_after now (Ok []) → bytes ≡ strip_carriage_return line_bytes
    → line_after part (numbers_of (words_of (strip_carriage_return line_bytes))) ≡ holds
line_after-read part now bytes line_bytes holds read holds_is bytes_are =
    ap (λ (l : List ℕ). line_after part (numbers_of (words_of l))) (sym bytes_are)
    ∙ ap (line_after part) (sym (put_all-none (numbers_of (words_of bytes))))
    ∙ read (Ok [])
    ∙ sym holds_is
