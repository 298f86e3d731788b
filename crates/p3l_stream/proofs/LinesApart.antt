-- The order of the lines of a text.
use Rattle.std.proofs.Common.{◌≡◌, ℕ, suc, ◌+◌, ◌<◌, true, false, not, cond, List, [], ◌∷◌, length, take, drop, Some, None, position, refl, ap, sym, ◌∙◌, arith}
use Rattle.std.specs.List.{after_first, onto_first, position_or_len, slice_split}
use Rattle.std.specs.Str.Lines.{strip_carriage_return}
use Rattle.std.proofs.lemmas.List.Splits.{slice_split_first}
use Rattle.p3l_stream.specs.declared.taken.Cutoff.{Cutoff}
use Rattle.p3l_stream.specs.Lines.{is_feed, last_line, lines_between, lines_of}
use Rattle.p3l_stream.proofs.Positions.{position-none, position-some}

more_parts : (how : Cutoff) (part : List ℕ) (parts : List (List ℕ)) (bytes : List ℕ) → slice_split is_feed bytes ≡ parts → lines_between how (part ∷ slice_split is_feed bytes) ≡ strip_carriage_return part ∷ lines_between how (slice_split is_feed bytes)
more_parts how part parts [] is = refl
more_parts how part parts (byte ∷ bytes) is =
    elim (is_feed byte) as (
    λ b. lines_between how (part ∷ cond b ([] ∷ slice_split is_feed bytes) (onto_first byte (slice_split is_feed bytes)))
    ≡ strip_carriage_return part ∷ lines_between how (cond b ([] ∷ slice_split is_feed bytes) (onto_first byte (slice_split is_feed bytes)))
    ) [
      | true ↦ refl
      | false ↦ onto (slice_split is_feed bytes)
    ]
  where
    onto : (rest : List (List ℕ)) → lines_between how (part ∷ onto_first byte rest) ≡ strip_carriage_return part ∷ lines_between how (onto_first byte rest)
    onto [] = refl
    onto (next ∷ rest) = refl

-- a line ends at the first line feed
pub lines_of-feed : (how : Cutoff) (bytes : List ℕ) (end : ℕ) → Some end ≡ position is_feed bytes → lines_of how bytes ≡ strip_carriage_return (take end bytes) ∷ lines_of how (drop (end + 1) bytes)
lines_of-feed how bytes end found =
    let first : (position_or_len is_feed bytes ≡ end) × (position_or_len is_feed bytes < length bytes) = position-some is_feed bytes end (sym found) in
    ap (lines_between how) (slice_split_first is_feed bytes 0 first.1)
    ∙ more_parts how _ _ (after_first is_feed bytes) refl
    ∙ ap (λ n. strip_carriage_return (take n bytes) ∷ lines_of how (drop (n + 1) bytes)) first.0

one_part : (bytes : List ℕ) → position_or_len is_feed bytes ≡ length bytes → slice_split is_feed bytes ≡ bytes ∷ []
one_part [] none = refl
one_part (byte ∷ bytes) none =
    elim (is_feed byte) as (
    λ b. cond (not b) (1 + position_or_len is_feed bytes) 0 ≡ suc (length bytes)
    → cond b ([] ∷ slice_split is_feed bytes) (onto_first byte (slice_split is_feed bytes)) ≡ (byte ∷ bytes) ∷ []
    ) [
      | true ↦ λ all. absurd (omega arith)
      | false ↦ λ all. ap (onto_first byte) (one_part bytes (omega arith))
    ] none

-- without a line feed the bytes are the last part
pub lines_of-last : (how : Cutoff) (bytes : List ℕ) → None ≡ position is_feed bytes → lines_of how bytes ≡ last_line how bytes
lines_of-last how bytes none = ap (lines_between how) (one_part bytes (position-none is_feed bytes (sym none)))
