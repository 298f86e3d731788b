-- Lengths of the generated texts.
use Rattle.std.proofs.Common.{◌≡◌, ℕ, zero, suc, ◌+◌, ◌*◌, ◌<◌, ◌≤◌, ◌^◌, List, [], ◌++◌, length, codes, decimal, arith, length-append, if◌then◌else◌, ◌==◌, true, false}
use Rattle.std.specs.List.{flat_map, range_with_len}
use Rattle.std.proofs.Math.Nat.{mul-suc}
use Rattle.std.proofs.lemmas.Fmt.{length-decimal-le}
use Rattle.p3l_gen.specs.Texts.{factor_of, line_text, program_head, program_tail, program_text, stream_text, word_text, words_each}

-- a row of texts of this number of bytes at most
row_short : (f : ℕ → List ℕ) (most n low : ℕ) → ((k : ℕ) → k < low + n → length (f k) ≤ most) → length (flat_map f (range_with_len low n)) ≤ most * n
row_short f most zero low short = omega arith
row_short f most (suc n) low short =
    let here : length (f low) ≤ most = short low (omega arith) in
    let rest : length (flat_map f (range_with_len (low + 1) n)) ≤ most * n = row_short f most n (low + 1) (λ k below. short k (omega arith)) in
    let whole : length (f low ++ flat_map f (range_with_len (low + 1) n)) ≡ length (f low) + length (flat_map f (range_with_len (low + 1) n)) = length-append (f low) (flat_map f (range_with_len (low + 1) n)) in
    let more : most * suc n ≡ most * n + most = mul-suc most n in
    omega arith

word_short : (first i : ℕ) → first + i < 10 ^ 11 → length (word_text first i) ≤ 12
word_short first i small =
    let digits = length-decimal-le 11 (first + i) (omega arith) small (omega arith) in
    let whole = length-append (if i == 0 then [] else codes " ") (decimal (first + i)) in
    let gap : length (if i == 0 then [] else codes " ") ≤ 1 = elim (i == 0) as (λ b. length (if b then [] else codes " ") ≤ 1) [ true ↦ omega arith | false ↦ omega arith ] in
    omega arith

line_short : (first : ℕ) → first < 10 ^ 10 → length (line_text first) ≤ 193
line_short first small =
    let words = row_short (word_text first) 12 16 0 (λ k below. word_short first k (omega arith)) in
    let whole = length-append (flat_map (word_text first) (range_with_len 0 words_each)) (codes "\n") in
    omega arith

pub stream_short : (number items : ℕ) → number < 2 ^ 32 → items ≤ 100000 → length (stream_text number items) < 2 ^ 36
stream_short number items small few =
    let lines = row_short (λ k. line_text (number + k)) 193 items 1 (λ k below. line_short (number + k) (omega arith)) in
    omega arith

pub program_short : (number : ℕ) → length (program_text number) ≤ 1048576
program_short number =
    let digits = length-decimal-le 2 (factor_of number) (omega arith) (omega arith) (omega arith) in
    let whole = length-append program_head (decimal (factor_of number) ++ program_tail) in
    let after = length-append (decimal (factor_of number)) program_tail in
    omega arith
