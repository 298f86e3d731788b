-- Words after others.
use Rattle.std.proofs.Common.{◌≡◌, ℕ, suc, ◌+◌, ℤ, List, [], ◌∷◌, ◌++◌, refl, ap, sym, ◌∙◌, append-nil, add-one}
use Rattle.std.specs.Fmt.{signed_decimal}
use Rattle.p3l_stream.specs.Text.{word_text, words_text}

-- the text of words after n others
abbrev pub words_from : ℕ → List ℤ → List ℕ
words_from index [] = []
words_from index (word ∷ words) = word_text index word ++ words_from (index + 1) words

after_first : (index : ℕ) (first : ℤ) (words : List ℤ) → words_text (first ∷ words) ≡ signed_decimal first ++ words_from (suc index) words
after_first index first [] = sym (append-nil (signed_decimal first))
after_first index first (word ∷ words) =
    ap (λ rest. signed_decimal first ++ 32 ∷ rest) (after_first (suc index) word words)
    ∙ ap (λ n. signed_decimal first ++ 32 ∷ (signed_decimal word ++ words_from n words)) (sym (add-one (suc index)))

-- the words after no others are the whole text
pub words_from-zero : (words : List ℤ) → words_from 0 words ≡ words_text words
words_from-zero [] = refl
words_from-zero (first ∷ words) = ap (λ n. signed_decimal first ++ words_from n words) (add-one 0) ∙ sym (after_first 0 first words)
