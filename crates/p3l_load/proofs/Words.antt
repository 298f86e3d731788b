-- A text that is one word of the language is a name.
use Rattle.std.proofs.Common.{◌≡◌, ℕ, pos, ◌^◌, ◌≤◌, Bool, true, false, cond, ◌&&◌, ltb, leb, List, [], ◌∷◌, length, Option, Some, None, refl, sym, subst}
use Rattle.std.specs.Prelude.{nat_eq, not, is_some, bytes_eq, codes, ◌||◌}
use Rattle.std.specs.List.{list_all}
use Rattle.std.proofs.lemmas.Bool.{leb-true}
use Rattle.p3l_ast.specs.declared.refusal.Fault.TheVariants.{BadByte, BadToken, NumberTooBig, NameTooLong}
use Rattle.p3l_lexer.specs.declared.mark.Mark.{Mark}
use Rattle.p3l_lexer.specs.declared.token.Lexeme.TheVariants.{Word, Digits, Faulty}
use Rattle.p3l_lexer.specs.declared.token.Piece.TheVariants.{Gap, Token}
use Rattle.p3l_lexer.specs.Mark.{keyword_of, punctuation_of}
use Rattle.p3l_lexer.specs.Piece.{after_close, block_of, is_blank, is_letter, is_number, is_word_byte, number_of, piece_of, sign_or_byte, slash_of, value_of, word_or_keyword}
use Rattle.p3l_lexer.specs.Position.{is_no_line_end}
use Rattle.p3l_format.specs.laws.Parts.{both_true}
use Rattle.p3l_tree_format.specs.Module.{is_name}

sign_is_none : (found : Option Mark) (text name : List ℕ) → sign_or_byte found text ≡ Some (Token (Word name)) → ⊥
unfolding sign_or_byte
sign_is_none (Some mark) text name e = absurd cc
sign_is_none None [] name e = absurd cc
sign_is_none None (b ∷ (c ∷ d)) name e = absurd cc
sign_is_none None (b ∷ []) name e = by (is_blank b) (nat_eq b 36) e
  where
    by : (p q : Bool) → Some (cond p Gap (cond q (Token (Faulty BadToken)) (Token (Faulty BadByte)))) ≡ Some (Token (Word name)) → ⊥
    by true q e = absurd cc
    by false true e = absurd cc
    by false false e = absurd cc

block_is_none : (rest : Option (List ℕ)) (name : List ℕ) → block_of rest ≡ Some (Token (Word name)) → ⊥
unfolding block_of
block_is_none None name e = absurd cc
block_is_none (Some []) name e = absurd cc
block_is_none (Some (b ∷ bs)) name e = absurd cc

slash_is_none : (text name : List ℕ) → slash_of text ≡ Some (Token (Word name)) → ⊥
unfolding slash_of
slash_is_none [] name e = sign_is_none (punctuation_of []) [] name e
slash_is_none (s ∷ []) name e = sign_is_none (punctuation_of (s ∷ [])) (s ∷ []) name e
slash_is_none (s ∷ (t ∷ body)) name e = by (nat_eq t 47) (list_all is_no_line_end body) (nat_eq t 42) e
  where
    by : (p q r : Bool) → cond p (cond q (Some Gap) None) (cond r (block_of (after_close body)) None) ≡ Some (Token (Word name)) → ⊥
    by true true r e = absurd cc
    by true false r e = absurd cc
    by false q true e = block_is_none (after_close body) name e
    by false q false e = absurd cc

number_is_none : (text name : List ℕ) → Some (Token (number_of text)) ≡ Some (Token (Word name)) → ⊥
unfolding number_of
number_is_none text name e = by (is_number text) (ltb (value_of text) (2 ^ 63)) e
  where
    by : (p q : Bool) → Some (Token (cond p (cond q (Digits (pos (value_of text))) (Faulty NumberTooBig)) (Faulty BadToken))) ≡ Some (Token (Word name)) → ⊥
    by true true e = absurd cc
    by true false e = absurd cc
    by false q e = absurd cc

or_right : (a b : Bool) → b ≡ true → (a || b) ≡ true
or_right true b e = refl
or_right false b e = e

-- a word that is no keyword, and not too long
word_is : (found : Option Mark) (text name : List ℕ) → Some (Token (word_or_keyword found text)) ≡ Some (Token (Word name)) → (name ≡ text) × (not (is_some found) ≡ true) × (length text ≤ 64)
unfolding word_or_keyword
word_is (Some mark) text name e = absurd cc
word_is None text name e = by (leb (length text) 64) refl e
  where
    by : (p : Bool) → leb (length text) 64 ≡ p → Some (Token (cond p (Word text) (Faulty NameTooLong))) ≡ Some (Token (Word name)) → (name ≡ text) × (true ≡ true) × (length text ≤ 64)
    by true short e = (cc, refl, leb-true (length text) 64 short)
    by false short e = absurd cc

pub word_is_name : (text name : List ℕ) → piece_of text ≡ Some (Token (Word name)) → (is_name name ≡ true) × (length name ≤ 64)
unfolding piece_of
word_is_name [] name e = absurd cc
word_is_name (first ∷ rest) name e =
    by (is_word_byte first) (list_all is_word_byte rest) (is_letter first) (nat_eq first 47) refl refl e
  where
    by : (w l a s : Bool) → list_all is_word_byte rest ≡ l → is_letter first ≡ a
        → cond w (cond l (Some (Token (cond a (word_or_keyword (keyword_of (first ∷ rest)) (first ∷ rest)) (number_of (first ∷ rest))))) None)
        (cond s (slash_of (first ∷ rest)) (sign_or_byte (punctuation_of (first ∷ rest)) (first ∷ rest))) ≡ Some (Token (Word name))
        → (is_name name ≡ true) × (length name ≤ 64)
    by true true true s all letter e =
        let is = word_is (keyword_of (first ∷ rest)) (first ∷ rest) name e in
        let word : (is_letter first && list_all is_word_byte rest) ≡ true = both_true (is_letter first) (list_all is_word_byte rest) letter all in (
          subst (λ (n : List ℕ). is_name n ≡ true) (sym is.0) (both_true (is_letter first && list_all is_word_byte rest) _ word
              (or_right (bytes_eq (first ∷ rest) (codes "rescue")) (not (is_some (keyword_of (first ∷ rest)))) is.1)),
          subst (λ (n : List ℕ). length n ≤ 64) (sym is.0) is.2,
        )
    by true true false s all letter e = absurd (number_is_none (first ∷ rest) name e)
    by true false a s all letter e = absurd cc
    by false l a true all letter e = absurd (slash_is_none (first ∷ rest) name e)
    by false l a false all letter e = absurd (sign_is_none (punctuation_of (first ∷ rest)) (first ∷ rest) name e)
