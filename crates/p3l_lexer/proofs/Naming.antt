-- Words are texts.
use Rattle.std.proofs.Common.{◌≡◌, ℕ, ◌<◌, true, List, [], ◌∷◌, arith}
use Rattle.std.specs.Prelude.{IsAscii, IsUtf8}
use Rattle.std.specs.List.{list_all}
use Rattle.std.proofs.lemmas.Bool.Decides.{nat_tests}
use Rattle.std.proofs.lemmas.Str.{IsUtf8-from_ascii}
use Rattle.std.proofs.lemmas.Str.Ascii.{IsAscii-nil, IsAscii-cons}
use Rattle.p3l_lexer.specs.Piece.{is_word_byte}
use Rattle.p3l_lexer.proofs.Truths.{and_left, and_right}

small : (b : ℕ) → is_word_byte b ≡ true → b < 128
small b h = grind (arith, nat_tests)

ascii : (bytes : List ℕ) → list_all is_word_byte bytes ≡ true → IsAscii bytes
ascii [] h = IsAscii-nil
ascii (b ∷ bytes) h = IsAscii-cons b bytes (small b (and_left (is_word_byte b) _ h)) (ascii bytes (and_right (is_word_byte b) _ h))

pub words_are_text : (bytes : List ℕ) → list_all is_word_byte bytes ≡ true → IsUtf8 bytes
words_are_text bytes h = IsUtf8-from_ascii bytes (ascii bytes h)
