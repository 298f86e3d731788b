-- The text that outcomes are written as.
use Rattle.std.specs.Prelude.{ℕ, zero, suc, ℤ, List, [], ◌∷◌, ◌++◌, map}
use Rattle.std.specs.List.{join_with_byte}
use Rattle.std.specs.Fmt.{signed_decimal}
use Rattle.p3l_base.specs.declared.outcome.Outcome.{Outcome}
use Rattle.p3l_base.specs.declared.outcome.Outcome.TheVariants.{Value, Trapped}

-- a word after n others: in decimal without leading zeros, and after a space if it is not the first
abbrev pub word_text : ℕ → ℤ → List ℕ
word_text zero word = signed_decimal word
word_text (suc index) word = 32 ∷ signed_decimal word

-- words in decimal without leading zeros, separated by one space
abbrev pub words_text : List ℤ → List ℕ
words_text words = join_with_byte 32 (map signed_decimal words)

-- the line of an item, ended by a line feed
abbrev pub item_text : List ℤ → List ℕ
item_text words = words_text words ++ 10 ∷ []

-- one line for each value, in order, and nothing for a trap
abbrev pub text_of : List Outcome → List ℕ
text_of [] = []
text_of (Value words ∷ outcomes) = item_text words ++ text_of outcomes
text_of (Trapped trap ∷ outcomes) = text_of outcomes
