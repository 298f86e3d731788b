-- The text of a trace is read as it is spelled.
use Rattle.std.proofs.Common.{◌≡◌, ℕ, zero, suc, ◌<◌, ◌^◌, ◌/◌, ◌%◌, ◌==◌, Bool, true, false, cond, List, [], ◌∷◌, ◌++◌, length, None, Ok, refl, subst, arith}
use Rattle.std.specs.Fmt.{decimal, digit_glyph, digits, digits_onto}
use Rattle.std.proofs.lemmas.Bool.{le-leb, lt-ltb, ne_eqb}
use Rattle.std.proofs.lemmas.List.{append-nil, length-append}
use Rattle.p3l_trace.specs.declared.trace.TraceLine.{TraceLine}
use Rattle.p3l_trace.specs.declared.line.LineItem.{LineItem}
use Rattle.p3l_trace.specs.Kind.{said_format}
use Rattle.p3l_trace.specs.Text.{header, end_word, space, feed, most_pick, most_count, pick_format, line_format, next_line, first_line, lines_format, counts_format, body_format, trace_format}
use Rattle.p3l_trace.specs.laws.Kind.{lawful_said}
use Rattle.p3l_format.specs.Text.{after_text, then_text}
use Rattle.p3l_format.specs.Decimal.{number_text, number_then}
use Rattle.p3l_format.specs.Format.{as_form, pair, within}
use Rattle.p3l_format.specs.Line.{line}
use Rattle.p3l_format.specs.Lawful.{IsLawful}
use Rattle.p3l_format.specs.laws.Formats.{lawful_both, lawful_record}
use Rattle.p3l_format.specs.laws.Text.{lawful_text_then, lawful_then_text, before_any, any_rest}
use Rattle.p3l_format.specs.laws.Decimal.{lawful_number_then}
use Rattle.p3l_format.specs.laws.Line.{lawful_line}
use Rattle.p3l_format.specs.laws.Series.{IsSeries, lawful_until}

pub lawful_pick : IsLawful pick_format
unfolding pick_format
lawful_pick = lawful_record _ _ _ (λ _. refl) (λ _. refl)
    (lawful_both _ _ (lawful_number_then 0 most_pick space (λ rest. refl)) (lawful_then_text any_rest said_format feed (λ rest. refl) (before_any any_rest said_format lawful_said)))

pub lawful_line_of : (item : LineItem) → IsLawful (line_format item)
unfolding line_format
lawful_line_of item = lawful_line _ lawful_pick

pub lawful_counts : IsLawful counts_format
unfolding counts_format
lawful_counts = lawful_both _ _ (lawful_number_then 0 most_count space (λ rest. refl)) (lawful_number_then 0 most_count feed (λ rest. refl))

-- ---- a number begins with a digit

abbrev BeginsPlain : List ℕ → Type 0
BeginsPlain [] = ⊥
BeginsPlain (d ∷ ds) = d < 58

either_plain : (b : Bool) (s t : List ℕ) → BeginsPlain s → BeginsPlain t → BeginsPlain (cond b s t)
either_plain true s t x y = x
either_plain false s t x y = y

glyph_plain : (n : ℕ) → digit_glyph false (n % 10) < 58
glyph_plain n = let small : n % 10 < 10 = omega arith in rw (lt-ltb (n % 10) 10 small) (omega arith)

onto_plain : (k n : ℕ) (acc : List ℕ) → BeginsPlain acc → BeginsPlain (digits_onto k 10 false n acc)
onto_plain zero n acc plain = plain
onto_plain (suc k) n acc plain = either_plain (n / 10 == 0) _ _ (glyph_plain n) (onto_plain k (n / 10) (digit_glyph false (n % 10) ∷ acc) (glyph_plain n))

number_plain : (n : ℕ) → BeginsPlain (decimal n)
unfolding digits
number_plain n = onto_plain_first 63 n
  where
    onto_plain_first : (k n : ℕ) → BeginsPlain (digits_onto (suc k) 10 false n [])
    onto_plain_first k n = either_plain (n / 10 == 0) _ _ (glyph_plain n) (onto_plain k (n / 10) (digit_glyph false (n % 10) ∷ []) (glyph_plain n))

front_plain : (s t : List ℕ) → BeginsPlain s → BeginsPlain (s ++ t)
front_plain [] t plain = absurd plain
front_plain (d ∷ ds) t plain = plain

-- so it doesn't begin as the last line does
no_end : (s : List ℕ) → BeginsPlain s → after_text end_word s ≡ None
no_end [] plain = absurd plain
no_end (d ∷ ds) plain = rw (ne_eqb 101 d (λ same. omega arith)) refl

plain_some : (s : List ℕ) → BeginsPlain s → 0 < length s
plain_some [] plain = absurd plain
plain_some (d ∷ ds) plain = omega arith

line_plain : (item : LineItem) (v : TraceLine) (rest : List ℕ) → BeginsPlain ((line_format item).spell v ++ rest)
unfolding line_format line pick_format pair as_form number_then then_text within number_text
line_plain item v rest = front_plain _ rest (front_plain _ _ (front_plain _ space (number_plain v.pick)))

pub lines_series : IsSeries any_rest line_format end_word
lines_series = record {
  items = λ p. before_any any_rest (line_format p) (lawful_line_of p);
  starts = λ p v rest. refl;
  stops = λ rest. refl;
  differs = λ p v rest. no_end _ (line_plain p v rest);
  some = λ p v. subst (λ (s : List ℕ). 0 < length s) (append-nil ((line_format p).spell v)) (plain_some _ (line_plain p v []));
}

pub lawful_lines : IsLawful lines_format
unfolding lines_format
lawful_lines = lawful_until any_rest line_format next_line first_line end_word lines_series

pub lawful_body : IsLawful body_format
unfolding body_format
lawful_body = lawful_record _ _ _ (λ _. refl) (λ _. refl) (lawful_both _ _ lawful_lines lawful_counts)

pub lawful_trace : IsLawful trace_format
unfolding trace_format
lawful_trace = lawful_text_then header body_format lawful_body

-- reading a line takes some bytes
pub line_takes : (item : LineItem) (s : List ℕ) (v : TraceLine) (rest : List ℕ) → (line_format item).read s ≡ Ok (v, rest) → length rest < length s
line_takes item s v rest e =
    let is = (lines_series.items item).spelled s v rest e in
    let some = lines_series.some item v in
    rw is (omega (arith, length-append ((line_format item).spell v) rest))

-- each pick, and each two counts, have a spelling
pub pick_fits : (l : TraceLine) → l.pick < 2 ^ 32 → pick_format.fits l ≡ true
unfolding pick_format pair as_form number_then then_text within number_text said_format
pick_fits l small = rw (lt-ltb l.pick (2 ^ 128) (omega arith), le-leb 0 l.pick (omega arith), le-leb l.pick most_pick (omega arith)) refl

pub counts_fit : (fired idle : ℕ) → fired < 2 ^ 64 → idle < 2 ^ 64 → counts_format.fits (fired, idle) ≡ true
unfolding counts_format pair number_then then_text within number_text
counts_fit fired idle first second =
    rw (lt-ltb fired (2 ^ 128) (omega arith), le-leb 0 fired (omega arith), le-leb fired most_count (omega arith), lt-ltb idle (2 ^ 128) (omega arith), le-leb 0 idle (omega arith), le-leb idle most_count (omega arith)) refl
