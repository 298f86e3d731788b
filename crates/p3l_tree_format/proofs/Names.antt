-- Names are text.
use Rattle.std.proofs.Common.{◌≡◌, ℕ, zero, suc, ◌<◌, ◌≤◌, Bool, true, false, ◌&&◌, ◌||◌, leb, eqb, List, [], ◌∷◌, ◌⊎◌, inl, inr, refl, arith, lit<}
use Rattle.std.specs.List.{list_all}
use Rattle.std.specs.Str.{IsAscii, IsUtf8}
use Rattle.std.proofs.lemmas.Bool.{leb-true, eqb-true}
use Rattle.std.proofs.lemmas.Str.{IsUtf8-from_ascii}
use Rattle.p3l_lexer.specs.Piece.{is_letter, is_digit, is_word_byte}
use Rattle.p3l_format.specs.laws.Parts.{first_true, second_true}
use Rattle.p3l_tree_format.specs.Module.{is_word, is_name}

either : (a b : Bool) → (a || b) ≡ true → (a ≡ true) ⊎ (b ≡ true)
either true b e = inl refl
either false b e = inr e

below : (b high : ℕ) → (low : Bool) → (low && leb b high) ≡ true → b ≤ high
below b high low e = leb-true b high (second_true low (leb b high) e)

letter_small : (b : ℕ) → is_letter b ≡ true → b < 128
letter_small b e =
    elim (either (eqb b 95) ((leb 97 b && leb b 122) || (leb 65 b && leb b 90)) e) [
      | inl p ↦ let h = eqb-true b 95 p in omega arith
      | inr q ↦ elim (either (leb 97 b && leb b 122) (leb 65 b && leb b 90) q) [
        | inl p ↦ let h = below b 122 (leb 97 b) p in omega arith
        | inr p ↦ let h = below b 90 (leb 65 b) p in omega arith
      ]
    ]

word_small : (b : ℕ) → is_word_byte b ≡ true → b < 128
word_small b e =
    elim (either (is_letter b) (is_digit b) e) [
      | inl p ↦ letter_small b p
      | inr p ↦ let h = below b 57 (leb 48 b) p in omega arith
    ]

words_ascii : (bs : List ℕ) → list_all is_word_byte bs ≡ true → IsAscii bs
words_ascii [] e i = lit< tt
words_ascii (b ∷ bs) e zero = word_small b (first_true (is_word_byte b) (list_all is_word_byte bs) e)
words_ascii (b ∷ bs) e (suc i) = words_ascii bs (second_true (is_word_byte b) (list_all is_word_byte bs) e) i

word_ascii : (bs : List ℕ) → is_word bs ≡ true → IsAscii bs
word_ascii [] e i = lit< tt
word_ascii (b ∷ bs) e zero = letter_small b (first_true (is_letter b) (list_all is_word_byte bs) e)
word_ascii (b ∷ bs) e (suc i) = words_ascii bs (second_true (is_letter b) (list_all is_word_byte bs) e) i

pub name_is_text : (bs : List ℕ) → is_name bs ≡ true → IsUtf8 bs
name_is_text bs e = IsUtf8-from_ascii bs (word_ascii bs (first_true (is_word bs) _ e))
