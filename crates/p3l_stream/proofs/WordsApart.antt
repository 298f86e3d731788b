-- The order of the words of a line.
use Rattle.std.proofs.Common.{◌≡◌, ℕ, suc, ◌+◌, ◌<◌, true, false, not, cond, List, [], ◌∷◌, length, take, drop, filter, Some, unwrap_or, position, length-drop, refl, ap, sym, subst, ◌∙◌, arith}
use Rattle.std.specs.List.{onto_first, position_or_len, slice_split}
use Rattle.std.proofs.Math.Nat.{zero-lt-suc}
use Rattle.std.proofs.Math.Numerals.{one-add}
use Rattle.p3l_stream.proofs.Positions.{position-some, unwrap_or-position}
use Rattle.p3l_stream.specs.Words.{IsFirstWord, is_blank, is_filled, is_of_word, words_of}

-- the place of the first blank, or the end
abbrev pub word_len : List ℕ → ℕ
word_len bytes = position_or_len is_blank bytes

-- the place where the first word begins, or the end
abbrev pub word_start : List ℕ → ℕ
word_start bytes = position_or_len is_of_word bytes

-- the first part ends at the first blank, and the words of the other parts are those from there on
pub record SplitsAtBlank (bytes : List ℕ) : Type 0 where
  pub parts : List (List ℕ)
  pub split : slice_split is_blank bytes ≡ take (word_len bytes) bytes ∷ parts
  pub others : filter is_filled parts ≡ words_of (drop (word_len bytes) bytes)

onto_next : (byte : ℕ) (bytes : List ℕ) → is_blank byte ≡ false → SplitsAtBlank bytes → SplitsAtBlank (byte ∷ bytes)
onto_next byte bytes of_word apart =
    let len : word_len (byte ∷ bytes) ≡ suc (word_len bytes) = ap (λ b. cond (not b) (1 + word_len bytes) 0) of_word ∙ one-add (word_len bytes) in
    record {
      parts = apart.parts;
      split = ap (λ b. cond b ([] ∷ slice_split is_blank bytes) (onto_first byte (slice_split is_blank bytes))) of_word
          ∙ ap (onto_first byte) apart.split
          ∙ ap (λ n. take n (byte ∷ bytes) ∷ apart.parts) (sym len);
      others = apart.others ∙ ap (λ n. words_of (drop n (byte ∷ bytes))) (sym len);
    }

at_blank : (byte : ℕ) (bytes : List ℕ) → is_blank byte ≡ true → SplitsAtBlank (byte ∷ bytes)
at_blank byte bytes blank =
    let len : word_len (byte ∷ bytes) ≡ 0 = ap (λ b. cond (not b) (1 + word_len bytes) 0) blank in
    let split : slice_split is_blank (byte ∷ bytes) ≡ [] ∷ slice_split is_blank bytes =
    ap (λ b. cond b ([] ∷ slice_split is_blank bytes) (onto_first byte (slice_split is_blank bytes))) blank in
    record {
      parts = slice_split is_blank bytes;
      split = split ∙ ap (λ n. take n (byte ∷ bytes) ∷ slice_split is_blank bytes) (sym len);
      others = sym (ap (λ n. words_of (drop n (byte ∷ bytes))) len ∙ ap (filter is_filled) split);
    }

pub splits_at_blank : (bytes : List ℕ) → SplitsAtBlank bytes
splits_at_blank [] = record { parts = []; split = refl; others = refl }
splits_at_blank (byte ∷ bytes) =
    elim (is_blank byte) as (λ b. is_blank byte ≡ b → SplitsAtBlank (byte ∷ bytes)) [
      | true ↦ at_blank byte bytes
      | false ↦ λ of_word. onto_next byte bytes of_word (splits_at_blank bytes)
    ] refl

-- these words begin with the one that begins here
pub record BeginsAt (bytes : List ℕ) (words : List (List ℕ)) (start : ℕ) : Type 0 where
  pub first : words ≡ take (word_len (drop start bytes)) (drop start bytes) ∷ words_of (drop (word_len (drop start bytes)) (drop start bytes))
  pub some : 0 < word_len (drop start bytes)

begins_here : (byte : ℕ) (bytes : List ℕ) → is_blank byte ≡ false → BeginsAt (byte ∷ bytes) (words_of (byte ∷ bytes)) 0
begins_here byte bytes of_word =
    let apart : SplitsAtBlank (byte ∷ bytes) = splits_at_blank (byte ∷ bytes) in
    let len : word_len (byte ∷ bytes) ≡ suc (word_len bytes) = ap (λ b. cond (not b) (1 + word_len bytes) 0) of_word ∙ one-add (word_len bytes) in
    let kept : is_filled (take (word_len (byte ∷ bytes)) (byte ∷ bytes)) ≡ true = ap (λ n. is_filled (take n (byte ∷ bytes))) len in
    record {
      first = ap (filter is_filled) apart.split
          ∙ ap (λ b. cond b (take (word_len (byte ∷ bytes)) (byte ∷ bytes) ∷ filter is_filled apart.parts) (filter is_filled apart.parts)) kept
          ∙ ap (λ words. take (word_len (byte ∷ bytes)) (byte ∷ bytes) ∷ words) apart.others;
      some = subst (λ n. 0 < n) (sym len) (zero-lt-suc (word_len bytes));
    }

-- the first word is that of the first byte that is no blank
pub words_of-first : (bytes : List ℕ) → word_start bytes < length bytes → BeginsAt bytes (words_of bytes) (word_start bytes)
words_of-first [] within = absurd (omega arith)
words_of-first (byte ∷ bytes) within =
    elim (is_blank byte) as (
    λ b. is_blank byte ≡ b → cond (not (not b)) (1 + word_start bytes) 0 < length (byte ∷ bytes)
    → BeginsAt (byte ∷ bytes) (filter is_filled (cond b ([] ∷ slice_split is_blank bytes) (onto_first byte (slice_split is_blank bytes)))) (cond (not (not b)) (1 + word_start bytes) 0)
    ) [
      | true ↦ λ blank below. subst (λ n. BeginsAt (byte ∷ bytes) (words_of bytes) n) (sym (one-add (word_start bytes))) (later byte bytes (words_of-first bytes (omega arith)))
      | false ↦ λ of_word below. subst (λ b. BeginsAt (byte ∷ bytes) (filter is_filled (cond b ([] ∷ slice_split is_blank bytes) (onto_first byte (slice_split is_blank bytes)))) 0) of_word (begins_here byte bytes of_word)
    ] refl within
  where
    later : (byte : ℕ) (bytes : List ℕ) → BeginsAt bytes (words_of bytes) (word_start bytes) → BeginsAt (byte ∷ bytes) (words_of bytes) (suc (word_start bytes))
    later byte bytes begins = record { first = begins.first; some = begins.some }

-- if no byte is of a word, there is no word
pub words_of-none : (bytes : List ℕ) → word_start bytes ≡ length bytes → words_of bytes ≡ []
words_of-none [] none = refl
words_of-none (byte ∷ bytes) none =
    elim (is_blank byte) as (
    λ b. cond (not (not b)) (1 + word_start bytes) 0 ≡ suc (length bytes)
    → filter is_filled (cond b ([] ∷ slice_split is_blank bytes) (onto_first byte (slice_split is_blank bytes))) ≡ []
    ) [
      | true ↦ λ all. words_of-none bytes (omega arith)
      | false ↦ λ all. absurd (omega arith)
    ] none

-- the first word of bytes where a byte of a word was found
pub IsFirstWord-found : (bytes : List ℕ) (start at : ℕ) (rest word after : List ℕ) → Some start ≡ position is_of_word bytes → rest ≡ drop start bytes → at ≡ unwrap_or (position is_blank rest) (length rest) → word ≡ take at rest → after ≡ drop at rest → IsFirstWord bytes (Some (word, after))
IsFirstWord-found bytes start at rest word after found rest_is at_is word_is after_is =
    let first : (word_start bytes ≡ start) × (word_start bytes < length bytes) = position-some is_of_word bytes start (sym found) in
    let from : rest ≡ drop (word_start bytes) bytes = rest_is ∙ ap (λ n. drop n bytes) (sym first.0) in
    let ends : at ≡ word_len rest = at_is ∙ unwrap_or-position is_blank rest in
    let begins : BeginsAt bytes (words_of bytes) (word_start bytes) = words_of-first bytes first.1 in
    let ends_so : word_len (drop (word_start bytes) bytes) ≡ at = sym (ends ∙ ap word_len from) in
    let some : 0 < at = subst (λ n. 0 < n) ends_so begins.some in
    let same_rest : drop (word_start bytes) bytes ≡ rest = sym from in (
      begins.first
          ∙ ap (λ ys. take (word_len ys) ys ∷ words_of (drop (word_len ys) ys)) same_rest
          ∙ ap (λ n. take n rest ∷ words_of (drop n rest)) (sym ends)
          ∙ ap (λ w. w ∷ words_of (drop at rest)) (sym word_is)
          ∙ ap (λ ys. word ∷ words_of ys) (sym after_is),
      shorter start at bytes rest after (subst (λ n. n < length bytes) first.0 first.1) some rest_is after_is,
    )
  where
    shorter : (start at : ℕ) (bytes rest after : List ℕ) → start < length bytes → 0 < at → rest ≡ drop start bytes → after ≡ drop at rest → length after < length bytes
    shorter start at bytes rest after below some rest_is after_is =
        omega (arith, ap length rest_is, ap length after_is, length-drop start bytes, length-drop at rest)
