-- The segments of a token's words, found by halves.
use Rattle.std.proofs.Common.{◌≡◌, ℕ, ℤ, zero, suc, ◌+◌, ◌-◌, ◌*◌, ◌/◌, ◌^◌, ◌<◌, ◌≤◌, nat_lt, false, List, [], ◌∷◌, ◌++◌, take, drop, length, get_or, refl, sym, ap, ap₂, ◌∙◌, subst, arith, inl, inr, length-take, length-drop}
use Rattle.std.specs.Int.{IsPowerOfTwo}
use Rattle.std.specs.List.{flat_map}
use Rattle.std.proofs.Math.ListN.{get_or-append}
use Rattle.std.proofs.Math.Nat.{mul-div_cancel, pow-succ'}
use Rattle.std.proofs.Math.Pow.{pow-lt}
use Rattle.std.proofs.lemmas.Bool.{cases_lt, cond-false}
use Rattle.std.proofs.lemmas.List.{drop-drop, drop-take, take-take, take-append-drop, get_or-append_right}
use Rattle.std.proofs.lemmas.Nat.{pow_pos}
use Rattle.p3l_skel.proofs.Elements.{length-pieces}
use Rattle.p3l_skel.specs.Item.{pieces, elements}
use Rattle.p3l_skel.specs.Fold.{segments}
use Rattle.p3l_skel.proofs.Folds.{segments-top, length-segments}
use Rattle.p3l_firing.specs.Segments.{level_up_to, segment_words}
use Rattle.p3l_net.specs.Forms.{IsInElements}

not_less : (n m : ℕ) → m ≤ n → nat_lt n m ≡ false
not_less n m h = grind arith

-- a power of two can be halved as often as its exponent says
level_of_power : (k most : ℕ) → k ≤ most → level_up_to most (2 ^ k) ≡ k
unfolding level_up_to
level_of_power zero zero few = refl
level_of_power zero (suc most) few = refl
level_of_power (suc k) zero few = absurd (omega (arith, few))
level_of_power (suc k) (suc most) few =
    let twice : 2 ^ suc k ≡ 2 * 2 ^ k = pow-succ' 2 k in
    let some = pow_pos k in
    let half : 2 ^ suc k / 2 ≡ 2 ^ k = omega (arith, twice) in
    cond-false _ _ _ (not_less (2 ^ suc k) 2 (omega (arith, twice, some)))
    ∙ ap (λ n. suc (level_up_to most n)) half
    ∙ ap suc (level_of_power k most (omega (arith, few)))

-- pieces of the front and of the back of words, and all of them
pieces_front : (h k size : ℕ) (words : List ℤ) → h ≤ k → take h (pieces k size words) ≡ pieces h size (take (h * size) words)
pieces_front zero k size words less = refl
pieces_front (suc h) zero size words less = absurd (omega (arith, less))
pieces_front (suc h) (suc k) size words less =
    let front : List ℤ = take (suc h * size) words in
    let more : suc h * size ≡ size + h * size = omega arith in
    let first : take size front ≡ take size words = take-take size (suc h * size) words (omega (arith, more)) in
    let rest : drop size front ≡ take (h * size) (drop size words) = ap (λ n. drop size (take n words)) more ∙ drop-take size (h * size) words in
    ap₂ (λ x xs. x ∷ xs) (sym first) (pieces_front h k size (drop size words) (omega (arith, less)) ∙ ap (pieces h size) (sym rest))

pieces_back : (h k size : ℕ) (words : List ℤ) → h ≤ k → drop h (pieces k size words) ≡ pieces (k - h) size (drop (h * size) words)
pieces_back zero k size words less =
    let all : k ≡ k - zero = omega arith in
    let none : 0 ≡ zero * size = omega arith in
    ap₂ (λ n m. pieces n size (drop m words)) all none
pieces_back (suc h) zero size words less = absurd (omega (arith, less))
pieces_back (suc h) (suc k) size words less =
    let left : k - h ≡ suc k - suc h = omega arith in
    let more : size + h * size ≡ suc h * size = omega arith in
    pieces_back h k size (drop size words) (omega (arith, less))
    ∙ ap₂ (λ n ws. pieces n size ws) left (drop-drop (h * size) size words ∙ ap (λ n. drop n words) more)

pieces_whole : (k size : ℕ) (words : List ℤ) → length words ≡ k * size → flat_map (λ element. element) (pieces k size words) ≡ words
pieces_whole zero size [] fits = refl
pieces_whole zero size (x ∷ xs) fits = absurd (omega (arith, fits))
pieces_whole (suc k) size words fits =
    ap (λ ws. take size words ++ ws) (pieces_whole k size (drop size words) (omega (arith, length-drop size words, fits)))
    ∙ take-append-drop size words

-- the elements of the front and of the back of words of h + j elements
module _ (elem : ℕ) (some : 0 < elem) where
  elements_are : (k : ℕ) (words : List ℤ) → length words ≡ k * elem → elements elem words ≡ pieces k elem words
  elements_are k words long = ap (λ n. pieces n elem words) (ap (λ m. m / elem) long ∙ mul-div_cancel k some)

  -- segment s of a number of segments that is a power of two
  as_power : (k s : ℕ) (words : List ℤ) → k ≤ 9 → segment_words elem (2 ^ k) s words ≡ flat_map (λ element. element) (get_or (segments k (elements elem words)) s [])
  unfolding segment_words
  as_power k s words small =
      ap (λ l. flat_map (λ element. element) (get_or (segments l (elements elem words)) s [])) (level_of_power k 9 small)

  only_segment : (count : ℕ) (words : List ℤ) → length words ≡ count * elem → segment_words elem (2 ^ 0) 0 words ≡ words
  unfolding segments
  only_segment count words long =
      as_power 0 0 words (omega arith) ∙ ap (flat_map (λ element. element)) (elements_are count words long) ∙ pieces_whole count elem words long

  module _ (h j : ℕ) (words : List ℤ) (long : length words ≡ (h + j) * elem) where
    parts : (h + j) * elem ≡ h * elem + j * elem
    parts = omega arith

    front_long : length (take (h * elem) words) ≡ h * elem
    front_long = let both = parts in omega (arith, length-take (h * elem) words, long, both)

    back_long : length (drop (h * elem) words) ≡ j * elem
    back_long = let both = parts in omega (arith, length-drop (h * elem) words, long, both)

    front_elements : elements elem (take (h * elem) words) ≡ take h (elements elem words)
    front_elements =
        elements_are h (take (h * elem) words) front_long ∙ sym (pieces_front h (h + j) elem words (omega arith))
        ∙ ap (take h) (sym (elements_are (h + j) words long))

    back_elements : elements elem (drop (h * elem) words) ≡ drop h (elements elem words)
    back_elements =
        let left : j ≡ h + j - h = omega arith in
        elements_are j (drop (h * elem) words) back_long ∙ ap (λ n. pieces n elem (drop (h * elem) words)) left
        ∙ sym (pieces_back h (h + j) elem words (omega arith)) ∙ ap (drop h) (sym (elements_are (h + j) words long))

  module _ (count d : ℕ) (words : List ℤ) (long : length words ≡ count * elem) (few : d < 9) where
    h : ℕ
    h = count / 2

    j : ℕ
    j = count - count / 2

    halved_long : length words ≡ (h + j) * elem
    unfolding h j
    halved_long = let whole : count ≡ count / 2 + (count - count / 2) = omega arith in long ∙ ap (λ n. n * elem) whole

    front : List ℤ
    front = take (h * elem) words

    back : List ℤ
    back = drop (h * elem) words

    -- the segments of the whole are those of both halves
    top : segments (suc d) (elements elem words) ≡ segments d (elements elem front) ++ segments d (elements elem back)
    unfolding front back h
    top =
        let xs = elements elem words in
        let many : length xs ≡ count = ap length (elements_are count words long) ∙ length-pieces count elem words in
        segments-top d xs
        ∙ ap (λ n. segments d (take (n / 2) xs) ++ segments d (drop (n / 2) xs)) many
        ∙ ap₂ (λ fs bs. segments d fs ++ segments d bs) (sym (front_elements h j words halved_long)) (sym (back_elements h j words halved_long))

    in_front : (s : ℕ) → s < 2 ^ d → segment_words elem (2 ^ d) s front ≡ segment_words elem (2 ^ suc d) s words
    in_front s less =
        let inside : s < length (segments d (elements elem front)) = subst (λ n. s < n) (sym (length-segments d (elements elem front))) less in
        as_power d s front (omega (arith, few))
        ∙ ap (flat_map (λ element. element)) (sym (get_or-append (segments d (elements elem front)) (segments d (elements elem back)) [] s inside) ∙ ap (λ xss. get_or xss s []) (sym top))
        ∙ sym (as_power (suc d) s words (omega (arith, few)))

    in_back : (s : ℕ) → 2 ^ d ≤ s → segment_words elem (2 ^ d) (s - 2 ^ d) back ≡ segment_words elem (2 ^ suc d) s words
    in_back s more =
        as_power d (s - 2 ^ d) back (omega (arith, few))
        ∙ ap (flat_map (λ element. element)) (sym (get_or-append_right (segments d (elements elem front)) (segments d (elements elem back)) (2 ^ d) s [] (length-segments d (elements elem front)) more) ∙ ap (λ xss. get_or xss s []) (sym top))
        ∙ sym (as_power (suc d) s words (omega (arith, few)))

-- a power of two that is no less than 2 is twice another one
abbrev Doubled : ℕ → Type 0
Doubled n = (d : ℕ) × (n ≡ 2 ^ suc d)

doubled : (n : ℕ) → IsPowerOfTwo n → 2 ≤ n → Doubled n
doubled n power several = by_exponent power.0 power.1
  where
    by_exponent : (k : ℕ) → n ≡ 2 ^ k → (d : ℕ) × (n ≡ 2 ^ suc d)
    by_exponent zero is = absurd (omega (arith, is, several))
    by_exponent (suc d) is = (d, is)

-- segment s of n of words of whole elements that are cut in half
module _ (elem n : ℕ) (words : List ℤ) (some : 0 < elem) (whole : IsInElements elem (length words)) (power : IsPowerOfTwo n) (few : n ≤ 512) where
  abbrev middle : ℕ
  middle = length words / elem / 2 * elem

  middle_is : middle ≡ whole.0 / 2 * elem
  middle_is = ap (λ m. m / 2 * elem) (ap (λ m. m / elem) whole.1 ∙ mul-div_cancel whole.0 some)

  pub one_segment : n < 2 → (s : ℕ) → s < n → words ≡ segment_words elem n s words
  one_segment less s there =
      let positive = pow_pos power.0 in
      let is = power.1 in
      let one : n ≡ 2 ^ 0 = omega (arith, less, positive, is) in
      let first : s ≡ 0 = omega (arith, less, there) in
      sym (ap₂ (λ m i. segment_words elem m i words) one first ∙ only_segment elem some whole.0 words whole.1)

  module _ (several : 2 ≤ n) where
    exponent : Doubled n
    exponent = doubled n power several

    half : n / 2 ≡ 2 ^ exponent.0
    half =
        let is = exponent.1 in
        let twice : 2 ^ suc exponent.0 ≡ 2 * 2 ^ exponent.0 = pow-succ' 2 exponent.0 in
        omega (arith, is, twice)

    small : exponent.0 < 9
    small =
        elim (cases_lt exponent.0 9) [
          | inl less ↦ less
          | inr more ↦
              let is = exponent.1 in
              let over : 2 ^ 9 < 2 ^ suc exponent.0 = pow-lt {i = 9} {j = suc exponent.0} (omega (arith, more)) in
              absurd (omega (arith, is, over, few))
        ]

    pub half_power : IsPowerOfTwo (n / 2)
    half_power = (exponent.0, half)

    pub half_twice : n ≡ n / 2 + n / 2
    half_twice =
        let is = exponent.1 in
        let twice : 2 ^ suc exponent.0 ≡ 2 * 2 ^ exponent.0 = pow-succ' 2 exponent.0 in
        let one_half = half in
        omega (arith, is, twice, one_half)

    module _ (part : List ℤ) where
      module _ (is : part ≡ take middle words) where
        same_front : part ≡ front elem some whole.0 exponent.0 words whole.1 small
        unfolding front h
        same_front = is ∙ ap (λ m. take m words) middle_is

        pub front_whole : IsInElements elem (length part)
        unfolding front h j
        front_whole =
            (whole.0 / 2, ap length same_front ∙ front_long elem some (whole.0 / 2) (whole.0 - whole.0 / 2) words (halved_long elem some whole.0 exponent.0 words whole.1 small))

        pub front_segment : (s : ℕ) → s < n / 2 → segment_words elem (n / 2) s part ≡ segment_words elem n s words
        front_segment s less =
            ap₂ (λ m ws. segment_words elem m s ws) half same_front
            ∙ in_front elem some whole.0 exponent.0 words whole.1 small s (subst (λ m. s < m) half less)
            ∙ ap (λ m. segment_words elem m s words) (sym exponent.1)

      module _ (is : part ≡ drop middle words) where
        same_back : part ≡ back elem some whole.0 exponent.0 words whole.1 small
        unfolding back h
        same_back = is ∙ ap (λ m. drop m words) middle_is

        pub back_whole : IsInElements elem (length part)
        unfolding back h j
        back_whole =
            (whole.0 - whole.0 / 2, ap length same_back ∙ back_long elem some (whole.0 / 2) (whole.0 - whole.0 / 2) words (halved_long elem some whole.0 exponent.0 words whole.1 small))

        pub back_segment : (s : ℕ) → n / 2 ≤ s → segment_words elem (n / 2) (s - n / 2) part ≡ segment_words elem n s words
        back_segment s more =
            ap₂ (λ m ws. segment_words elem m (s - m) ws) half same_back
            ∙ in_back elem some whole.0 exponent.0 words whole.1 small s (subst (λ m. m ≤ s) half more)
            ∙ ap (λ m. segment_words elem m s words) (sym exponent.1)
