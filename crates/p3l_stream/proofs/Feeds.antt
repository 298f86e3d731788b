-- Places of line feeds among bytes.
use Rattle.std.proofs.Common.{◌≡◌, ℕ, zero, suc, ◌+◌, ◌-◌, ◌<◌, ◌≤◌, Bool, true, false, not, cond, ltb, List, [], ◌∷◌, ◌++◌, length, take, drop, Option, Some, None, position, refl, ap, sym, ◌∙◌, arith, length-append, length-take, length-drop, take-append-drop}
use Rattle.std.specs.List.{position_or_len}
use Rattle.std.proofs.lemmas.Bool.{eqb-true}
use Rattle.std.proofs.lemmas.Grind.{common_steps}
use Rattle.p3l_stream.specs.Ended.{IsLine}
use Rattle.p3l_stream.specs.Lines.{is_feed}
use Rattle.p3l_stream.proofs.Positions.{position-none, position-some}

-- the place of the first line feed, or the length
abbrev pub place : List ℕ → ℕ
place = position_or_len is_feed

found_at : (at size : ℕ) → at < size → cond (ltb at size) (Some at) None ≡ Some at
found_at at size below = grind (arith, common_steps)

missed_at : (at size : ℕ) → at ≡ size → ◌≡◌ {A = Option ℕ} (cond (ltb at size) (Some at) None) None
missed_at at size all = grind (arith, common_steps)

pub position-at : (bytes : List ℕ) → place bytes < length bytes → position is_feed bytes ≡ Some (place bytes)
position-at bytes below = found_at _ _ below

pub position-missed : (bytes : List ℕ) → place bytes ≡ length bytes → position is_feed bytes ≡ None
position-missed bytes all = missed_at _ _ all

-- a line has no place of a line feed
pub place-line : (bytes : List ℕ) → IsLine bytes → place bytes ≡ length bytes
place-line bytes none = position-none is_feed bytes none

-- the first byte of a line is no line feed, and those after it are a line
pub front_of_line : (byte : ℕ) (bytes : List ℕ) → place (byte ∷ bytes) ≡ suc (length bytes) → (is_feed byte ≡ false) × (place bytes ≡ length bytes)
front_of_line byte bytes all =
    elim (is_feed byte) as (λ b. cond (not b) (1 + place bytes) 0 ≡ suc (length bytes) → (b ≡ false) × (place bytes ≡ length bytes)) [
      | true ↦ λ e. absurd (omega arith)
      | false ↦ λ e. (refl, omega arith)
    ] all

-- after a line the first line feed is that of the other bytes
pub place-after : (bytes more : List ℕ) → place bytes ≡ length bytes → place (bytes ++ more) ≡ length bytes + place more
place-after [] more all = grind arith
place-after (byte ∷ bytes) more all =
    let front : (is_feed byte ≡ false) × (place bytes ≡ length bytes) = front_of_line byte bytes all in
    let rest : place (bytes ++ more) ≡ length bytes + place more = place-after bytes more front.1 in
    ap (λ b. cond (not b) (1 + place (bytes ++ more)) 0) front.0 ∙ omega arith

-- the bytes before the first line feed are a line
pub place-take : (bytes : List ℕ) (n : ℕ) → n ≤ place bytes → n ≤ length bytes → place (take n bytes) ≡ n
place-take bytes zero low high = refl
place-take [] (suc n) low high = absurd (omega arith)
place-take (byte ∷ bytes) (suc n) low high =
    elim (is_feed byte) as (λ b. suc n ≤ cond (not b) (1 + place bytes) 0 → cond (not b) (1 + place (take n bytes)) 0 ≡ suc n) [
      | true ↦ λ l. absurd (omega arith)
      | false ↦ λ l. let rest : place (take n bytes) ≡ n = place-take bytes n (omega arith) (omega arith) in omega arith
    ] low

feed_is : (byte : ℕ) → is_feed byte ≡ true → byte ≡ 10
feed_is byte e = eqb-true byte 10 e

-- the bytes, split at a line feed of this place
abbrev Separated : List ℕ → ℕ → Type 0
Separated bytes n = bytes ≡ take n bytes ++ 10 ∷ drop (n + 1) bytes

separated_first : (byte : ℕ) (bytes : List ℕ) (n : ℕ) → is_feed byte ≡ true → n ≡ 0 → Separated (byte ∷ bytes) n
separated_first byte bytes n feed none = rw none (ap (λ (x : ℕ). x ∷ bytes) (feed_is byte feed))

separated_later : (byte : ℕ) (bytes : List ℕ) (m n : ℕ) → n ≡ suc m → Separated bytes m → Separated (byte ∷ bytes) n
separated_later byte bytes m n more tail =
    let next : suc m + 1 ≡ suc (m + 1) = omega arith in
    rw (more, next) (ap (λ (l : List ℕ). byte ∷ l) tail)

separated_by : (byte : ℕ) (bytes : List ℕ) (n : ℕ) (b : Bool) → is_feed byte ≡ b → cond (not b) (1 + place bytes) 0 ≡ n → n < suc (length bytes) → (place bytes < length bytes → Separated bytes (place bytes)) → Separated (byte ∷ bytes) n
separated_by byte bytes n true feed is below tail = separated_first byte bytes n feed (omega arith)
separated_by byte bytes n false feed is below tail = separated_later byte bytes (place bytes) n (omega arith) (tail (omega arith))

-- a line feed is at its place
pub bytes-at_place : (bytes : List ℕ) (n : ℕ) → place bytes ≡ n → n < length bytes → Separated bytes n
bytes-at_place [] n is below = absurd (omega arith)
bytes-at_place (byte ∷ bytes) n is below =
    separated_by byte bytes n (is_feed byte) refl is (omega arith) (λ l. bytes-at_place bytes (place bytes) refl l)

-- bytes in which a line feed comes after a line have fewer after it than come after the line
pub fewer_after : (xs ys zs ws : List ℕ) → place xs ≡ length xs → xs ++ ys ≡ zs ++ 10 ∷ ws → length ws < length ys
fewer_after [] ys zs ws all e = omega (arith, ap length e, length-append {A = ℕ})
fewer_after (x ∷ xs) ys [] ws all e =
    let front : (is_feed x ≡ false) × (place xs ≡ length xs) = front_of_line x xs all in
    absurd (let ten : x ≡ 10 = cc in let no : is_feed 10 ≡ false = ap is_feed (sym ten) ∙ front.0 in cc)
fewer_after (x ∷ xs) ys (z ∷ zs) ws all e =
    let front : (is_feed x ≡ false) × (place xs ≡ length xs) = front_of_line x xs all in
    let rest : xs ++ ys ≡ zs ++ 10 ∷ ws = cc in
    fewer_after xs ys zs ws front.1 rest

-- a line and a line after it are one
pub line_by_halves : (bytes : List ℕ) (n : ℕ) → IsLine (take n bytes) → IsLine (drop n bytes) → IsLine bytes
line_by_halves bytes n front back =
    let whole : take n bytes ++ drop n bytes ≡ bytes = take-append-drop n bytes in
    let all : place (take n bytes ++ drop n bytes) ≡ length (take n bytes) + place (drop n bytes) = place-after _ _ (place-line _ front) in
    let rest : place (drop n bytes) ≡ length (drop n bytes) = place-line _ back in
    position-missed bytes (sym (ap place whole) ∙ all ∙ ap (λ m. length (take n bytes) + m) rest ∙ sym (length-append (take n bytes) (drop n bytes)) ∙ ap length whole)

-- after a line the first line feed of the rest is the first of all
pub feed_after : (bytes : List ℕ) (n i : ℕ) → n ≤ length bytes → IsLine (take n bytes) → Some i ≡ position is_feed (drop n bytes) → Some (n + i) ≡ position is_feed bytes
feed_after bytes n i within front found =
    let at : (place (drop n bytes) ≡ i) × (place (drop n bytes) < length (drop n bytes)) = position-some is_feed (drop n bytes) i (sym found) in
    let whole : take n bytes ++ drop n bytes ≡ bytes = take-append-drop n bytes in
    let all : place (take n bytes ++ drop n bytes) ≡ length (take n bytes) + place (drop n bytes) = place-after _ _ (place-line _ front) in
    let here : place bytes ≡ n + i = sym (ap place whole) ∙ all ∙ omega (arith, at.0, length-take n bytes) in
    let size : length (drop n bytes) ≡ length bytes - n = length-drop n bytes in
    let below : place bytes < length bytes = omega (arith, at.0, at.1) in
    ap (λ (m : ℕ). Some m) (sym here) ∙ sym (position-at bytes below)

-- the first line feed parts the bytes
pub record PartsAt (bytes : List ℕ) (n : ℕ) : Type 0 where
  pub is_line : IsLine (take n bytes)
  pub whole : bytes ≡ take n bytes ++ 10 ∷ drop (n + 1) bytes
  pub within : n < length bytes

pub parts_at : (bytes : List ℕ) (n : ℕ) → Some n ≡ position is_feed bytes → PartsAt bytes n
parts_at bytes n found =
    let at : (place bytes ≡ n) × (place bytes < length bytes) = position-some is_feed bytes n (sym found) in
    let short : n ≤ length bytes = omega (arith, at.0, at.1) in
    let front : place (take n bytes) ≡ n = place-take bytes n (omega (arith, at.0)) short in
    let size : length (take n bytes) ≡ n = length-take n bytes ∙ omega arith in
    record {
      is_line = position-missed (take n bytes) (front ∙ sym size);
      whole = bytes-at_place bytes n at.0 (omega (arith, at.0, at.1));
      within = omega (arith, at.0, at.1);
    }

-- no byte is a line
pub nothing_is_line : IsLine []
nothing_is_line = refl
