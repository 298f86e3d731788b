-- The segments of a token have the lengths that are said.
use Rattle.std.proofs.Common.{◌≡◌, ℕ, ℤ, zero, suc, ◌-◌, ◌*◌, ◌/◌, ◌<◌, List, [], ◌∷◌, take, drop, map, length, get_or, refl, sym, ap, ap₂, ◌∙◌, subst, arith, length-append, length-take, length-drop}
use Rattle.std.specs.List.{AllByRecursion, flat_map}
use Rattle.std.proofs.Math.Nat.{mul-div_cancel}
use Rattle.std.proofs.Math.ListN.{get_or-map}
use Rattle.p3l_skel.specs.Item.{pieces, elements}
use Rattle.p3l_skel.specs.Fold.{halves, segments}
use Rattle.p3l_firing.specs.Segments.{level_of, halved, segment_lengths, segment_length, segment_words}

module _ {X : Type 0} where
  halved_lengths : (xss : List (List X)) → map length (flat_map halves xss) ≡ halved (map length xss)
  unfolding halved
  halved_lengths [] = refl
  halved_lengths (xs ∷ xss) =
      let first : length (take (length xs / 2) xs) ≡ length xs / 2 = omega (arith, length-take (length xs / 2) xs) in
      let rest : length (drop (length xs / 2) xs) ≡ length xs - length xs / 2 = omega (arith, length-drop (length xs / 2) xs) in
      ap₂ (λ a b. a ∷ (b ∷ map length (flat_map halves xss))) first rest ∙ ap (λ ls. (length xs / 2) ∷ ((length xs - length xs / 2) ∷ ls)) (halved_lengths xss)

  -- the segments of a list have the lengths that are said
  pub lengths-segments : (level : ℕ) (xs : List X) → map length (segments level xs) ≡ segment_lengths level (length xs)
  unfolding segments segment_lengths
  lengths-segments zero xs = refl
  lengths-segments (suc level) xs = halved_lengths (segments level xs) ∙ ap halved (lengths-segments level xs)

  all-take : (P : X → Type 0) (k : ℕ) (xs : List X) → AllByRecursion P xs → AllByRecursion P (take k xs)
  all-take P zero xs all = tt
  all-take P (suc k) [] all = tt
  all-take P (suc k) (x ∷ xs) all = (all.0, all-take P k xs all.1)

  all-drop : (P : X → Type 0) (k : ℕ) (xs : List X) → AllByRecursion P xs → AllByRecursion P (drop k xs)
  all-drop P zero xs all = all
  all-drop P (suc k) [] all = tt
  all-drop P (suc k) (x ∷ xs) all = all-drop P k xs all.1

  all-halves : (P : X → Type 0) (xss : List (List X)) → AllByRecursion (AllByRecursion P) xss → AllByRecursion (AllByRecursion P) (flat_map halves xss)
  all-halves P [] all = tt
  all-halves P (xs ∷ xss) all = (all-take P (length xs / 2) xs all.0, (all-drop P (length xs / 2) xs all.0, all-halves P xss all.1))

  all-segments : (P : X → Type 0) (level : ℕ) (xs : List X) → AllByRecursion P xs → AllByRecursion (AllByRecursion P) (segments level xs)
  unfolding segments
  all-segments P zero xs all = (all, tt)
  all-segments P (suc level) xs all = all-halves P (segments level xs) (all-segments P level xs all)

  all-read : (P : X → Type 0) (xss : List (List X)) (k : ℕ) → AllByRecursion (AllByRecursion P) xss → AllByRecursion P (get_or xss k [])
  all-read P [] k all = tt
  all-read P (xs ∷ xss) zero all = all.0
  all-read P (xs ∷ xss) (suc k) all = all-read P xss k all.1

-- elements of one length, one after the other
joined_length : (elem : ℕ) (xs : List (List ℤ)) → AllByRecursion (λ x. length x ≡ elem) xs → length (flat_map (λ x. x) xs) ≡ length xs * elem
joined_length elem [] all = omega arith
joined_length elem (x ∷ xs) all =
    let rest = joined_length elem xs all.1 in
    let here = all.0 in
    omega (arith, length-append x (flat_map (λ x. x) xs), rest, here)

pieces_long : (k elem : ℕ) (words : List ℤ) → length words ≡ k * elem → (length (pieces k elem words) ≡ k) × AllByRecursion (λ x. length x ≡ elem) (pieces k elem words)
pieces_long zero elem words fits = (refl, tt)
pieces_long (suc k) elem words fits =
    let rest : length (drop elem words) ≡ k * elem = omega (arith, length-drop elem words, fits) in
    let first : length (take elem words) ≡ elem = omega (arith, length-take elem words, fits) in
    let more = pieces_long k elem (drop elem words) rest in
    (ap suc more.0, (first, more.1))

-- a segment has the words of its elements
pub segment_long : (elem len n s : ℕ) (words : List ℤ) → 0 < elem → length words ≡ len * elem → length (segment_words elem n s words) ≡ segment_length len n s * elem
unfolding segment_words
segment_long elem len n s words some long =
    let count : length words / elem ≡ len = ap (λ k. k / elem) long ∙ mul-div_cancel len some in
    let cut = pieces_long len elem words long in
    let parts : List (List ℤ) = elements elem words in
    let is : parts ≡ pieces len elem words = ap (λ k. pieces k elem words) count in
    let all : AllByRecursion (λ x. length x ≡ elem) parts = subst (AllByRecursion (λ x. length x ≡ elem)) (sym is) cut.1 in
    let many : length parts ≡ len = ap length is ∙ cut.0 in
    joined_length elem (get_or (segments (level_of n) parts) s []) (all-read (λ x. length x ≡ elem) (segments (level_of n) parts) s (all-segments (λ x. length x ≡ elem) (level_of n) parts all))
    ∙ ap (λ k. k * elem)
    (sym (get_or-map length (segments (level_of n) parts) s [])
    ∙ ap (λ ls. get_or ls s 0) (lengths-segments (level_of n) parts)
    ∙ ap (λ k. get_or (segment_lengths (level_of n) k) s 0) many)
