-- A map has no more elements than its results have words: each of its free indices is that of a dimension of its first out slice.
use Rattle.std.proofs.Common.{◌≡◌, ℕ, suc, ◌+◌, ◌*◌, ◌^◌, ◌≤◌, List, [], ◌∷◌, length, inl, inr, refl, sym, ap, ◌∙◌, subst, arith}
use Rattle.std.specs.Prelude.{◌⊎◌}
use Rattle.std.specs.List.{All}
use Rattle.std.proofs.Math.Nat.{le-mul_of_pos_right, mul-le-mul_left, mul_assoc, mul_comm, pow-succ', pow-zero}
use Rattle.p3l_base.specs.declared.cut.Cut.{Cut}
use Rattle.p3l_base.specs.declared.slice.Dim.{Dim}
use Rattle.p3l_base.specs.declared.slice.Place.{Place}
use Rattle.p3l_base.specs.declared.slice.Place.TheVariants.{Rest, First, Second}
use Rattle.p3l_base.specs.declared.slice.Slice.{Slice}
use Rattle.p3l_base.specs.Cut.{HasFreeSizes, HasIndexSize, HasLawfulOuts, element_count, first_count, one_at_first, one_at_second, second_count, token_size}
use Rattle.p3l_base.specs.Slice.{array_size}

of_one : (n : ℕ) → n ^ 1 ≡ n
of_one n = let next : n ^ suc 0 ≡ n * n ^ 0 = pow-succ' n 0 in let none : n ^ 0 ≡ 1 = pow-zero n in next ∙ ap (λ z. n * z) none ∙ omega arith

-- the size of a dimension is that of the free index that it has, if it has one
module _ (first second size a b x y rest : ℕ) (some : 1 ≤ size) (low : first ^ a * second ^ b ≤ rest) where
  Low : Type 0
  Low = first ^ x * second ^ y ≤ size * rest

  counted : first ^ a * second ^ b ≤ size * rest → x ≡ a → y ≡ b → Low
  unfolding Low
  counted is e f = subst (λ z. first ^ z * second ^ y ≤ size * rest) (sym e) (subst (λ z. first ^ a * second ^ z ≤ size * rest) (sym f) is)

  rest_low : x ≡ a → y ≡ b → Low
  rest_low e f = let more : rest ≤ rest * size = le-mul_of_pos_right rest some in counted (omega (arith, low, more, mul_comm rest size)) e f

  first_low : size ≡ first → x ≡ suc a → y ≡ b → Low
  unfolding Low
  first_low is e f =
      let next : first ^ suc a ≡ first * first ^ a = pow-succ' first a in
      let assoc : (first * first ^ a) * second ^ b ≡ first * (first ^ a * second ^ b) = mul_assoc first (first ^ a) (second ^ b) in
      let more : first * (first ^ a * second ^ b) ≤ first * rest = mul-le-mul_left first low in
      let all : (first * first ^ a) * second ^ b ≤ first * rest = omega (arith, assoc, more) in
      subst (λ z. first ^ x * second ^ y ≤ z * rest) (sym is)
      (subst (λ z. first ^ x * second ^ z ≤ first * rest) (sym f)
      (subst (λ z. first ^ z * second ^ b ≤ first * rest) (sym e) (subst (λ z. z * second ^ b ≤ first * rest) (sym next) all)))

  second_low : size ≡ second → x ≡ a → y ≡ suc b → Low
  unfolding Low
  second_low is e f =
      let next : second ^ suc b ≡ second * second ^ b = pow-succ' second b in
      let one : (first ^ a * second) * second ^ b ≡ first ^ a * (second * second ^ b) = mul_assoc (first ^ a) second (second ^ b) in
      let two : (first ^ a * second) * second ^ b ≡ (second * first ^ a) * second ^ b = ap (λ z. z * second ^ b) (mul_comm (first ^ a) second) in
      let three : (second * first ^ a) * second ^ b ≡ second * (first ^ a * second ^ b) = mul_assoc second (first ^ a) (second ^ b) in
      let more : second * (first ^ a * second ^ b) ≤ second * rest = mul-le-mul_left second low in
      let all : first ^ a * (second * second ^ b) ≤ second * rest = omega (arith, one, two, three, more) in
      subst (λ z. first ^ x * second ^ y ≤ z * rest) (sym is)
      (subst (λ z. first ^ z * second ^ y ≤ second * rest) (sym e)
      (subst (λ z. first ^ a * second ^ z ≤ second * rest) (sym f) (subst (λ z. first ^ a * z ≤ second * rest) (sym next) all)))

  dim_low : (place : Place) → HasIndexSize first second place size → x ≡ one_at_first place + a → y ≡ one_at_second place + b →
      first ^ x * second ^ y ≤ size * rest
  unfolding Low
  dim_low Rest is e f = rest_low (omega (arith, e)) (omega (arith, f))
  dim_low First is e f = first_low is (omega (arith, e)) (omega (arith, f))
  dim_low Second is e f = second_low is (omega (arith, e)) (omega (arith, f))

dims_low : (first second : ℕ) (ds : List Dim) → All (λ (d : Dim). 1 ≤ d.size) ds →
    All (λ (d : Dim). HasIndexSize first second d.place d.size) ds →
    first ^ first_count ds * second ^ second_count ds ≤ array_size ds
dims_low first second [] some sizes =
    let none : first ^ 0 ≡ 1 = pow-zero first in
    let neither : second ^ 0 ≡ 1 = pow-zero second in
    subst (λ z. z * second ^ 0 ≤ 1) (sym none) (subst (λ z. 1 * z ≤ 1) (sym neither) (omega arith))
dims_low first second (d ∷ ds) some sizes =
    dim_low first second d.size (first_count ds) (second_count ds) (first_count (d ∷ ds)) (second_count (d ∷ ds)) (array_size ds)
    (some 0 d (omega arith))
    (dims_low first second ds (λ k x inside. some (suc k) x (omega (arith, inside))) (λ k x inside. sizes (suc k) x (omega (arith, inside))))
    d.place (sizes 0 d (omega arith)) refl refl

module _ (cut : Cut) (lawful : HasLawfulOuts cut) where
  -- of the first of the out slices
  slice_low : (s : Slice) → All (λ (d : Dim). 1 ≤ d.size) s.dims → HasFreeSizes cut.first cut.second s → first_count s.dims ≡ 1 →
      (second_count s.dims ≡ 1) ⊎ ((cut.second ≡ 1) × (second_count s.dims ≡ 0)) → element_count cut ≤ array_size s.dims
  slice_low s some sizes one (inl two) =
      let low = dims_low cut.first cut.second s.dims some sizes in
      let at : cut.first ^ 1 * cut.second ^ 1 ≤ array_size s.dims =
      subst (λ z. cut.first ^ 1 * cut.second ^ z ≤ array_size s.dims) two
      (subst (λ z. cut.first ^ z * cut.second ^ second_count s.dims ≤ array_size s.dims) one low) in
      subst (λ z. cut.first * z ≤ array_size s.dims) (of_one cut.second)
      (subst (λ z. z * cut.second ^ 1 ≤ array_size s.dims) (of_one cut.first) at)
  slice_low s some sizes one (inr none) =
      let low = dims_low cut.first cut.second s.dims some sizes in
      let at : cut.first ^ 1 * cut.second ^ 0 ≤ array_size s.dims =
      subst (λ z. cut.first ^ 1 * cut.second ^ z ≤ array_size s.dims) none.1
      (subst (λ z. cut.first ^ z * cut.second ^ second_count s.dims ≤ array_size s.dims) one low) in
      let nought : cut.second ^ 0 ≡ 1 = pow-zero cut.second in
      let first : cut.first * 1 ≤ array_size s.dims =
      subst (λ z. z * 1 ≤ array_size s.dims) (of_one cut.first) (subst (λ z. cut.first ^ 1 * z ≤ array_size s.dims) nought at) in
      subst (λ z. cut.first * z ≤ array_size s.dims) (sym none.0) first

  outs_low : (ss : List Slice) → 1 ≤ length ss → All (λ (s : Slice). All (λ (d : Dim). 1 ≤ d.size) s.dims) ss →
      All (HasFreeSizes cut.first cut.second) ss → All (λ (s : Slice). first_count s.dims ≡ 1) ss →
      All (λ (s : Slice). second_count s.dims ≡ 1) ss ⊎ ((cut.second ≡ 1) × All (λ (s : Slice). second_count s.dims ≡ 0) ss) →
      element_count cut ≤ token_size ss
  outs_low [] some all sizes one two = absurd (omega (arith, some))
  outs_low (s ∷ ss) some all sizes one two =
      let low = slice_low s (all 0 s (omega arith)) (sizes 0 s (omega arith)) (one 0 s (omega arith)) (at_first two) in
      omega (arith, low)
    where
      at_first : All (λ (x : Slice). second_count x.dims ≡ 1) (s ∷ ss) ⊎ ((cut.second ≡ 1) × All (λ (x : Slice). second_count x.dims ≡ 0) (s ∷ ss)) →
          (second_count s.dims ≡ 1) ⊎ ((cut.second ≡ 1) × (second_count s.dims ≡ 0))
      at_first (inl each) = inl (each 0 s (omega arith))
      at_first (inr none) = inr (none.0, none.1 0 s (omega arith))

  pub elements_low : All (λ (s : Slice). All (λ (d : Dim). 1 ≤ d.size) s.dims) cut.outs → element_count cut ≤ token_size cut.outs
  elements_low all = outs_low cut.outs lawful.some_out all lawful.out_sizes lawful.out_first lawful.out_second
