-- Lines that are one numeral.
use Rattle.std.proofs.Common.{◌≡◌, ℕ, ℤ, ◌-◌, ◌<◌, ◌==◌, true, false, List, [], ◌∷◌, length, get_or, take, filter, Some, Ok, position, sym, ap, ◌∙◌, arith}
use Rattle.std.specs.List.{All}
use Rattle.std.specs.Str.Lines.{strip_carriage_return}
use Rattle.std.proofs.lemmas.Bool.{cond-false, eq-eqb}
use Rattle.std.proofs.lemmas.List.Elements.{All-get_or, All-weaker}
use Rattle.std.proofs.lemmas.List.Splits.{slice_split_none}
use Rattle.std.proofs.lemmas.List.Sums.{position_or_len_is}
use Rattle.p3l_stream.specs.declared.line.LineContent.TheVariants as line
use Rattle.p3l_stream.specs.Ended.{held_by}
use Rattle.p3l_stream.specs.Lines.{is_feed, line_from, line_of}
use Rattle.p3l_stream.specs.Words.{is_blank, is_filled, number_of, numbers_of, put_number, words_of}
use Rattle.p3l_stream.proofs.Feeds.{place, position-at}
use Rattle.p3l_stream.proofs.Numerals.{all_bytes, byte-of_numeral, is_numeral_byte, no_blank, no_feed, no_return}

-- a line feed after a numeral is the first
pub first_feed-numeral : (bytes : List ℕ) (len : ℕ) (number : ℤ) → len < length bytes → number_of (take len bytes) ≡ Ok number → get_or bytes len 0 ≡ 10 → Some len ≡ position is_feed bytes
first_feed-numeral bytes len number within is feed =
    let at : place bytes ≡ len =
    position_or_len_is is_feed bytes len 0 (omega arith) (λ k below. no_feed (get_or bytes k 0) (byte-of_numeral bytes len number (omega arith) is k below)) (λ _. eq-eqb _ 10 feed) in
    ap (λ (n : ℕ). Some n) (sym at) ∙ sym (position-at bytes (omega (arith, at)))

-- no carriage return is at the end of a numeral
no_return_after : (word : List ℕ) (number : ℤ) → number_of word ≡ Ok number → strip_carriage_return word ≡ word
no_return_after [] number is = absurd cc
no_return_after (byte ∷ bytes) number is =
    let word : List ℕ = byte ∷ bytes in
    let last : ℕ = length word - 1 in
    cond-false (get_or word last 0 == 13) _ _ (no_return (get_or word last 0) (All-get_or (λ b. is_numeral_byte b ≡ true) word last 0 (omega arith) (all_bytes word number is)))

-- a numeral is the one word of its line
one_word : (word : List ℕ) (number : ℤ) → number_of word ≡ Ok number → words_of word ≡ word ∷ []
one_word [] number is = absurd cc
one_word (byte ∷ bytes) number is =
    let word : List ℕ = byte ∷ bytes in
    let apart : All (λ b. is_blank b ≡ false) word = All-weaker (λ b. is_numeral_byte b ≡ true) (λ b. is_blank b ≡ false) no_blank word (all_bytes word number is) in
    ap (filter is_filled) (slice_split_none is_blank word apart)

-- the line of a numeral is an item of one word
pub held_by-numeral : (word : List ℕ) (number : ℤ) → number_of word ≡ Ok number → held_by 1 word ≡ line.Item (number ∷ [])
held_by-numeral word number is =
    ap (line_of 1) (no_return_after word number is)
    ∙ ap (λ words. line_from 1 (numbers_of words)) (one_word word number is)
    ∙ ap (λ read. line_from 1 (put_number read (Ok []))) is
