-- Places at which words begin and end.
use Rattle.std.proofs.Common.{◌≡◌, ℕ, zero, suc, ◌+◌, ◌<◌, ◌≤◌, Bool, true, false, not, cond, ltb, List, [], ◌∷◌, ◌++◌, length, take, drop, Option, Some, None, position, unwrap_or, refl, ap, ap₂, sym, subst, ◌∙◌, arith, take-append-drop}
use Rattle.std.specs.List.{position_or_len}
use Rattle.std.proofs.lemmas.Bool.{ltb-true}
use Rattle.std.proofs.lemmas.List.{take_all}
use Rattle.std.proofs.lemmas.List.Sums.{prefix_len-le-length}
use Rattle.p3l_sched.specs.Picks.{AreGap, AreOfWord, EndsWord, IsAtWord, IsWord, is_gap, is_of_word}

found : (at size i : ℕ) (b : Bool) → ltb at size ≡ b → cond b (Some at) None ≡ Some i → (at ≡ i) × (at < size)
found at size i true below is = (cc, ltb-true at size below)
found at size i false below is = absurd cc

-- a place that was found is the first, within the list
pub position-some : (p : ℕ → Bool) (xs : List ℕ) (i : ℕ) → position p xs ≡ Some i → (position_or_len p xs ≡ i) × (position_or_len p xs < length xs)
position-some p xs i is = found (position_or_len p xs) (length xs) i _ refl is

missing : (at size : ℕ) (b : Bool) → ltb at size ≡ b → at ≤ size → ◌≡◌ {A = Option ℕ} (cond b (Some at) None) None → at ≡ size
missing at size true below within is = absurd cc
missing at size false below within is = grind arith

-- if none is found, the first place is the length
pub position-none : (p : ℕ → Bool) (xs : List ℕ) → position p xs ≡ None → position_or_len p xs ≡ length xs
position-none p xs is = missing (position_or_len p xs) (length xs) _ refl (prefix_len-le-length _ xs) is

gap_by : (byte : ℕ) (bytes : List ℕ) (n : ℕ) (b : Bool) → is_gap byte ≡ b → suc n ≤ cond (not (not b)) (1 + position_or_len is_of_word bytes) 0
    → (n ≤ position_or_len is_of_word bytes → AreGap (take n bytes)) → (is_gap byte ≡ true) × AreGap (take n bytes)
gap_by byte bytes n true e low rest = (e, rest (omega arith))
gap_by byte bytes n false e low rest = absurd (omega arith)

-- before the first byte of a word is a gap
pub gap_before : (bytes : List ℕ) (n : ℕ) → n ≤ position_or_len is_of_word bytes → AreGap (take n bytes)
gap_before bytes zero low = tt
gap_before [] (suc n) low = tt
gap_before (byte ∷ bytes) (suc n) low = gap_by byte bytes n (is_gap byte) refl low (λ l. gap_before bytes n l)

word_by : (byte : ℕ) (bytes : List ℕ) (n : ℕ) (b : Bool) → is_gap byte ≡ b → suc n ≤ cond (not b) (1 + position_or_len is_gap bytes) 0
    → (n ≤ position_or_len is_gap bytes → AreOfWord (take n bytes)) → (is_gap byte ≡ false) × AreOfWord (take n bytes)
word_by byte bytes n true e low rest = absurd (omega arith)
word_by byte bytes n false e low rest = (e, rest (omega arith))

-- before the first byte of a gap are bytes of a word
pub word_before : (bytes : List ℕ) (n : ℕ) → n ≤ position_or_len is_gap bytes → AreOfWord (take n bytes)
word_before bytes zero low = tt
word_before [] (suc n) low = tt
word_before (byte ∷ bytes) (suc n) low = word_by byte bytes n (is_gap byte) refl low (λ l. word_before bytes n l)

ends_by : (byte : ℕ) (bytes : List ℕ) (n : ℕ) (b : Bool) → is_gap byte ≡ b → cond (not b) (1 + position_or_len is_gap bytes) 0 ≡ n
    → ((m : ℕ) → position_or_len is_gap bytes ≡ m → EndsWord (drop m bytes)) → EndsWord (drop n (byte ∷ bytes))
ends_by byte bytes zero b e is rest = first b e is
  where
    first : (b : Bool) → is_gap byte ≡ b → cond (not b) (1 + position_or_len is_gap bytes) 0 ≡ 0 → is_gap byte ≡ true
    first true e is = e
    first false e is = absurd (omega arith)
ends_by byte bytes (suc n) true e is rest = absurd (omega arith)
ends_by byte bytes (suc n) false e is rest = rest n (omega arith)

-- a word ends before the first byte of a gap
pub ends_before : (bytes : List ℕ) (n : ℕ) → position_or_len is_gap bytes ≡ n → EndsWord (drop n bytes)
ends_before [] zero is = tt
ends_before [] (suc n) is = tt
ends_before (byte ∷ bytes) n is = ends_by byte bytes n (is_gap byte) refl is (λ m at. ends_before bytes m at)

-- bytes that begin with one of a word
abbrev StartsWord : List ℕ → Type 0
StartsWord [] = ⊥
StartsWord (byte ∷ bytes) = is_gap byte ≡ false

starts_by : (byte : ℕ) (bytes : List ℕ) (n : ℕ) (b : Bool) → is_gap byte ≡ b → cond (not (not b)) (1 + position_or_len is_of_word bytes) 0 ≡ n → n < suc (length bytes)
    → ((m : ℕ) → position_or_len is_of_word bytes ≡ m → m < length bytes → StartsWord (drop m bytes)) → StartsWord (drop n (byte ∷ bytes))
starts_by byte bytes zero b e is below rest = first b e is
  where
    first : (b : Bool) → is_gap byte ≡ b → cond (not (not b)) (1 + position_or_len is_of_word bytes) 0 ≡ 0 → is_gap byte ≡ false
    first true e is = absurd (omega arith)
    first false e is = e
starts_by byte bytes (suc n) true e is below rest = rest n (omega arith) (omega arith)
starts_by byte bytes (suc n) false e is below rest = absurd (omega arith)

-- a word begins at its first byte
pub starts_at : (bytes : List ℕ) (n : ℕ) → position_or_len is_of_word bytes ≡ n → n < length bytes → StartsWord (drop n bytes)
starts_at [] n is below = absurd (omega arith)
starts_at (byte ∷ bytes) n is below = starts_by byte bytes n (is_gap byte) refl is (omega arith) (λ m at l. starts_at bytes m at l)

first_word : (bytes : List ℕ) (n : ℕ) → StartsWord bytes → position_or_len is_gap bytes ≡ n → IsWord (take n bytes)
first_word [] n starts is = absurd starts
first_word (byte ∷ bytes) n starts is = by_length n is (word_before (byte ∷ bytes) n (omega arith))
  where
    some : (b : Bool) → is_gap byte ≡ b → b ≡ false → cond (not b) (1 + position_or_len is_gap bytes) 0 ≡ 0 → ⊥
    some true e other here = absurd cc
    some false e other here = omega arith

    by_length : (n : ℕ) → cond (not (is_gap byte)) (1 + position_or_len is_gap bytes) 0 ≡ n → AreOfWord (take n (byte ∷ bytes)) → IsWord (take n (byte ∷ bytes))
    by_length zero is all = absurd (some (is_gap byte) refl starts is)
    by_length (suc n) is all = all

-- the first word of a text, cut out at its place
pub at_word : (text gap rest word after : List ℕ) (start size : ℕ) → gap ≡ take start text → rest ≡ drop start text → word ≡ take size rest → after ≡ drop size rest
    → Some start ≡ position is_of_word text → size ≡ position_or_len is_gap rest → IsAtWord text gap word after
at_word text gap rest word after start size gap_is rest_is word_is after_is found sized =
    let at : (position_or_len is_of_word text ≡ start) × (position_or_len is_of_word text < length text) = position-some is_of_word text start (sym found) in
    let starts : StartsWord rest = rw rest_is (starts_at text start at.0 (omega (arith, at.0, at.1))) in
    record {
      text_is =
          sym (take-append-drop start text)
          ∙ ap (λ (t : List ℕ). t ++ drop start text) (sym gap_is)
          ∙ ap (λ (t : List ℕ). gap ++ t) (sym rest_is ∙ sym (take-append-drop size rest) ∙ ap₂ (λ (w : List ℕ) (a : List ℕ). w ++ a) (sym word_is) (sym after_is));
      are_gap = rw gap_is (gap_before text start (omega (arith, at.0)));
      is_word = rw word_is (first_word rest size starts (sym sized));
      ends = rw after_is (ends_before rest size (sym sized));
    }

-- without a byte of a word all is a gap
pub all_gap : (text : List ℕ) → None ≡ position is_of_word text → AreGap text
all_gap text none =
    let all : position_or_len is_of_word text ≡ length text = position-none is_of_word text (sym none) in
    subst AreGap (take_all (length text) text (omega arith)) (gap_before text (length text) (omega (arith, all)))

else_length : (at size : ℕ) (b : Bool) → ltb at size ≡ b → at ≤ size → unwrap_or (cond b (Some at) None) size ≡ at
else_length at size true below within = refl
else_length at size false below within = grind arith

-- the place found, and else the length
pub unwrap_or-position : (p : ℕ → Bool) (xs : List ℕ) → unwrap_or (position p xs) (length xs) ≡ position_or_len p xs
unwrap_or-position p xs = else_length (position_or_len p xs) (length xs) _ refl (prefix_len-le-length _ xs)
