-- The sum of the words of outcomes.
use Rattle.std.specs.Prelude.{ℤ, pos, ◌+ℤ◌, List, fold}
use Rattle.std.specs.Int.{w64, int_wrap}
use Rattle.p3l_base.specs.declared.outcome.Outcome.{Outcome}
use Rattle.p3l_base.specs.declared.outcome.Outcome.TheVariants.{Value, Trapped}

-- a sum and one word more, which wraps at 64 bits
abbrev pub add_word : ℤ → ℤ → ℤ
add_word sum word = int_wrap w64 (sum +ℤ word)

-- a sum and some words more
abbrev pub add_words : ℤ → List ℤ → ℤ
add_words sum words = fold add_word sum words

-- the sum after one more outcome: a trap has no words
abbrev pub sum_after : ℤ → Outcome → ℤ
sum_after sum (Value words) = add_words sum words
sum_after sum (Trapped trap) = sum

-- the sum of all words of the values among outcomes
abbrev pub sum_of : List Outcome → ℤ
sum_of outcomes = fold sum_after (pos 0) outcomes
