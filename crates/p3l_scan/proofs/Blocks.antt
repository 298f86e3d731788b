-- A map over blocks: its elements are the pieces of its words, and its results stand one after the other.
use Rattle.std.proofs.Common.{◌≡◌, ℕ, ℤ, pos, zero, suc, ◌+◌, ◌*◌, ◌/◌, ◌%◌, ◌<◌, ◌≤◌, inr, List, [], ◌∷◌, ◌++◌, take, drop, drop-cons, length, get_or, map, refl, arith, ap, ap₂, sym, ◌∙◌, subst, append-nil}
use Rattle.std.proofs.Math.Nat.{suc-mul, mul-le-mul_right}
use Rattle.std.proofs.Math.Seq.{take-append_seam, drop-append_seam}
use Rattle.std.proofs.lemmas.List.{length-map}
use Rattle.std.proofs.lemmas.List.Elements.{All-cons, All-nil, All-from_recursion}
use Rattle.std.specs.List.{All, flat_map, range_with_len}
use Rattle.p3l_base.specs.declared.outcome.Outcome.{Outcome}
use Rattle.p3l_base.specs.declared.outcome.Outcome.TheVariants.{Value, Trapped}
use Rattle.p3l_base.specs.declared.outcome.Trap.{Trap}
use Rattle.p3l_base.specs.declared.slice.Dim.{Dim}
use Rattle.p3l_base.specs.declared.slice.Place.TheVariants.{First, Rest}
use Rattle.p3l_base.specs.declared.slice.Slice.{Slice}
use Rattle.p3l_base.specs.Cut.{HasFreeSizes, HasIndexSize, HasLawfulOuts, IsLawfulCut, element_size, element_words, first_count, joined_words, second_count}
use Rattle.p3l_base.specs.Slice.{LiesWithin, cut_words}
use Rattle.p3l_base.proofs.Pieces.{blocks_joined}
use Rattle.p3l_base.proofs.Result.{joined_words_is}
use Rattle.p3l_base.proofs.Unique.{joined_once}
use Rattle.p3l_skel.specs.Item.{gathered, mapped, pieces}
use Rattle.p3l_skel.specs.Tree.{HasLength}
use Rattle.p3l_skel.proofs.Elements.{length-pieces}
use Rattle.p3l_skel.proofs.Mapped.{gathered-values}
use Rattle.p3l_scan.specs.Plan.{blocks_cut, blocks_slice}
use Rattle.p3l_scan.specs.Row.{in_row, with_next}
use Rattle.p3l_scan.proofs.Sized.{Sized, flat, flat-length}

-- THE CUT

single : {X : Type 0} (P : X → Type 0) (x : X) → P x → All P (x ∷ [])
single P x p = All-cons P x [] p (All-nil P)

pub lawful_outs : (n b : ℕ) → 1 ≤ n → HasLawfulOuts (blocks_cut n b)
lawful_outs n b some = record {
  some_first = some;
  some_second = omega arith;
  some_out = omega arith;
  out_sizes = single (HasFreeSizes n 1) (blocks_slice n b)
      (All-cons (λ (d : Dim). HasIndexSize n 1 d.place d.size) (record { size = n; place = First }) (record { size = b; place = Rest } ∷ []) refl
      (single (λ (d : Dim). HasIndexSize n 1 d.place d.size) (record { size = b; place = Rest }) tt));
  out_first = single (λ (s : Slice). first_count s.dims ≡ 1) (blocks_slice n b) refl;
  out_second = inr (refl, single (λ (s : Slice). second_count s.dims ≡ 0) (blocks_slice n b) refl);
  out_tiles = (refl, tt);
}

array : (n b : ℕ) → n * (b * 1) ≡ n * b
array n b = let e : b * 1 ≡ b = omega arith in ap (λ z. n * z) e

pub lawful_cut : (n b : ℕ) → 1 ≤ n → IsLawfulCut (blocks_cut n b) (n * b) (n * b) b b
lawful_cut n b some = record {
  lawful_outs = lawful_outs n b some;
  lawful_ins = record {
    some_in = omega arith;
    in_sizes = single (HasFreeSizes n 1) (blocks_slice n b)
        (All-cons (λ (d : Dim). HasIndexSize n 1 d.place d.size) (record { size = n; place = First }) (record { size = b; place = Rest } ∷ []) refl
        (single (λ (d : Dim). HasIndexSize n 1 d.place d.size) (record { size = b; place = Rest }) tt));
    in_first = single (λ (s : Slice). first_count s.dims ≤ 1) (blocks_slice n b) (omega arith);
    in_second = single (λ (s : Slice). second_count s.dims ≤ 1) (blocks_slice n b) (omega arith);
    in_second_of_outs = λ h. single (λ (s : Slice). second_count s.dims ≡ 0) (blocks_slice n b) refl;
    in_within = single (λ (s : Slice). LiesWithin s (n * b)) (blocks_slice n b) (omega (arith, array n b));
  };
  outs_end = omega (arith, array n b);
  part_ins_fit = omega arith;
  part_outs_fit = omega arith;
}

-- ELEMENTS ARE PIECES

-- the words at the places from `low` on
run_at : (words : List ℤ) (low b : ℕ) → low + b ≤ length words →
    map (λ k. get_or words k (pos 0)) (map (λ k. k) (range_with_len low b)) ≡ take b (drop low words)
run_at words low zero l = refl
run_at words low (suc b) l =
    let more : suc low ≡ low + 1 = omega arith in
    ap (λ ys. get_or words low (pos 0) ∷ ys) (run_at words (low + 1) b (omega (arith, l)))
    ∙ sym (ap (take (suc b)) (drop-cons words low (pos 0) (omega (arith, l)) ∙ ap (λ k. get_or words low (pos 0) ∷ drop k words) more))

block-places : (low b : ℕ) → flat_map (λ k. (low + k * 1) ∷ []) (range_with_len 0 b) ≡ map (λ k. k) (range_with_len low b)
block-places low b =
    blocks_joined (λ k. (low + k * 1) ∷ []) (λ k. k) low 1 b (λ k l. refl)
    ∙ let count : b * 1 ≡ b = omega arith in ap (λ z. map (λ k. k) (range_with_len low z)) count

within : (n b e : ℕ) (words : List ℤ) → length words ≡ n * b → e < n → e * b + b ≤ length words
within n b e words long l =
    let steps : suc e * b ≤ n * b = mul-le-mul_right b (omega (arith, l)) in omega (arith, steps, suc-mul e b, long)

pub element-is : (n b e : ℕ) (words : List ℤ) → length words ≡ n * b → e < n →
    element_words (blocks_slice n b ∷ []) 1 words e ≡ take b (drop (e * b) words)
element-is n b e words long l =
    let one : e / 1 ≡ e = omega arith in
    let none : e % 1 ≡ 0 = omega arith in
    let size : 0 + e * (b * 1) ≡ e * b = omega (arith, array e b) in
    append-nil (cut_words (blocks_slice n b) words (e / 1) (e % 1))
    ∙ ap₂ (λ i j. cut_words (blocks_slice n b) words i j) one none
    ∙ ap (λ ys. map (λ k. get_or words k (pos 0)) ys)
    (append-nil (flat_map (λ k. (0 + e * (b * 1) + k * 1) ∷ []) (range_with_len 0 b))
    ∙ ap (λ z. flat_map (λ k. (z + k * 1) ∷ []) (range_with_len 0 b)) size ∙ block-places (e * b) b)
    ∙ run_at words (e * b) b (within n b e words long l)

pub drop-more : (a b : ℕ) (xs : List ℤ) → drop b (drop a xs) ≡ drop (a + b) xs
drop-more zero b xs = let e : b ≡ 0 + b = omega arith in ap (λ k. drop k xs) e
drop-more (suc a) zero [] = let e : suc (a + 0) ≡ suc a + 0 = omega arith in ap (λ k. drop k []) e
drop-more (suc a) (suc b) [] = let e : suc (a + suc b) ≡ suc a + suc b = omega arith in ap (λ k. drop k []) e
drop-more (suc a) b (x ∷ xs) =
    let e : suc (a + b) ≡ suc a + b = omega arith in drop-more a b xs ∙ ap (λ k. drop k (x ∷ xs)) e

from-place : (f : List ℤ → Outcome) (n b k : ℕ) (words : List ℤ) →
    map (λ e. f (take b (drop (e * b) words))) (range_with_len k n) ≡ map f (pieces n b (drop (k * b) words))
from-place f zero b k words = refl
from-place f (suc n) b k words =
    let more : suc k ≡ k + 1 = omega arith in
    let next : k * b + b ≡ (k + 1) * b = omega (arith, suc-mul k b, ap (λ z. z * b) more) in
    ap (λ ys. f (take b (drop (k * b) words)) ∷ ys)
    (from-place f n b (k + 1) words
    ∙ ap (λ ys. map f (pieces n b ys)) (sym (drop-more (k * b) b words ∙ ap (λ z. drop z words) next)))

same_map : (f g : ℕ → Outcome) (k n : ℕ) → ((e : ℕ) → k ≤ e → e < k + n → f e ≡ g e) → map f (range_with_len k n) ≡ map g (range_with_len k n)
same_map f g k zero h = refl
same_map f g k (suc n) h =
    ap₂ (λ x ys. x ∷ ys) (h k (omega arith) (omega arith)) (same_map f g (k + 1) n (λ e a b. h e (omega (arith, a)) (omega (arith, b))))

pub outcomes-are : (n b : ℕ) (part : List ℤ → Outcome) (words : List ℤ) → length words ≡ n * b →
    map (λ e. part (element_words (blocks_slice n b ∷ []) 1 words e)) (range_with_len 0 (n * 1)) ≡ map part (pieces n b words)
outcomes-are n b part words long =
    let count : n * 1 ≡ n = omega arith in
    ap (λ z. map (λ e. part (element_words (blocks_slice n b ∷ []) 1 words e)) (range_with_len 0 z)) count
    ∙ same_map (λ e. part (element_words (blocks_slice n b ∷ []) 1 words e)) (λ e. part (take b (drop (e * b) words))) 0 n
    (λ e low high. ap part (element-is n b e words long (omega (arith, high))))
    ∙ from-place part n b 0 words
    ∙ let start : 0 * b ≡ 0 = omega arith in ap (λ k. map part (pieces n b (drop k words))) start

-- RESULTS STAND IN A ROW

piece-of-flat : (b : ℕ) (results : List (List ℤ)) (e : ℕ) → Sized b results → e < length results →
    take b (drop (e * b) (flat results)) ≡ get_or results e []
piece-of-flat b [] e h l = absurd (omega arith)
piece-of-flat b (x ∷ xs) zero h l =
    let start : 0 * b ≡ 0 = omega arith in
    ap (λ k. take b (drop k (x ++ flat xs))) start ∙ subst (λ n. take n (x ++ flat xs) ≡ x) h.0 (take-append_seam x (flat xs))
piece-of-flat b (x ∷ xs) (suc e) h l =
    let place : suc e * b ≡ b + e * b = omega (arith, suc-mul e b) in
    let past : drop b (x ++ flat xs) ≡ flat xs = subst (λ n. drop n (x ++ flat xs) ≡ flat xs) h.0 (drop-append_seam x (flat xs)) in
    ap (λ z. take b (drop z (x ++ flat xs))) place ∙ ap (take b) (sym (drop-more b (e * b) (x ++ flat xs)))
    ∙ ap (λ ys. take b (drop (e * b) ys)) past ∙ piece-of-flat b xs e h.1 (omega (arith, l))

joined-are : (n b : ℕ) (results : List (List ℤ)) → 1 ≤ n → length results ≡ n → Sized b results →
    joined_words (blocks_cut n b) results ≡ flat results
joined-are n b results some count sized =
    let outs = lawful_outs n b some in
    let element : element_size (blocks_slice n b ∷ []) ≡ b = omega arith in
    let all : All (λ words. length words ≡ element_size (blocks_slice n b ∷ [])) results =
    subst (λ z. All (λ words. length words ≡ z) results) (sym element) (All-from_recursion (λ words. length words ≡ b) results sized) in
    let long : length (flat results) ≡ n * b = flat-length b results sized ∙ ap (λ z. z * b) count in
    joined_once (blocks_cut n b) results (joined_words (blocks_cut n b) results) (flat results) outs
    (joined_words_is (blocks_cut n b) results outs (omega (arith, count)) all)
    (record {
      whole = omega (arith, long, array n b);
      cuts = λ e l.
          element-is n b e (flat results) long (omega (arith, l))
          ∙ piece-of-flat b results e sized (omega (arith, l, count));
    })

-- either all are values, or there is a first trap
data Split (outcomes : List Outcome) : Type 0 where
  all_values : (results : List (List ℤ)) → outcomes ≡ map (λ r. Value r) results → Split outcomes
  first_trap : (results : List (List ℤ)) (trap : Trap) (more : List Outcome) →
      outcomes ≡ map (λ r. Value r) results ++ (Trapped trap ∷ more) → Split outcomes

split : (outcomes : List Outcome) → Split outcomes
split [] = all_values [] refl
split (Trapped trap ∷ more) = first_trap [] trap more refl
split (Value words ∷ more) = elim (split more) [
  | all_values results e ↦ all_values (words ∷ results) (ap (λ ys. Value words ∷ ys) e)
  | first_trap results trap rest e ↦ first_trap (words ∷ results) trap rest (ap (λ ys. Value words ∷ ys) e)
]

gathered-first : (join : List (List ℤ) → List ℤ) (results : List (List ℤ)) (trap : Trap) (more : List Outcome) →
    gathered join (map (λ r. Value r) results ++ (Trapped trap ∷ more)) ≡ Trapped trap
gathered-first join [] trap more = refl
gathered-first join (r ∷ rs) trap more = gathered-first (λ results. join (r ∷ results)) rs trap more

row-values : (results : List (List ℤ)) → in_row (map (λ r. Value r) results) ≡ Value (flat results)
unfolding in_row
row-values [] = refl
row-values (r ∷ rs) = ap (with_next (Value r)) (row-values rs)

row-first : (results : List (List ℤ)) (trap : Trap) (more : List Outcome) →
    in_row (map (λ r. Value r) results ++ (Trapped trap ∷ more)) ≡ Trapped trap
unfolding in_row
row-first [] trap more = refl
row-first (r ∷ rs) trap more = ap (with_next (Value r)) (row-first rs trap more)

-- each value of these has `b` words
unfoldable pub HaveLength : ℕ → List Outcome → Type 0
HaveLength b [] = Unit {0}
HaveLength b (o ∷ os) = HasLength b o × HaveLength b os

values-sized : (b : ℕ) (results : List (List ℤ)) → HaveLength b (map (λ r. Value r) results) → Sized b results
unfolding HaveLength
values-sized b [] h = tt
values-sized b (r ∷ rs) h = (h.0, values-sized b rs h.1)

pub gathered-is : (n b : ℕ) (outcomes : List Outcome) → 1 ≤ n → length outcomes ≡ n → HaveLength b outcomes →
    gathered (joined_words (blocks_cut n b)) outcomes ≡ in_row outcomes
gathered-is n b outcomes some count have = elim (split outcomes) [
  | all_values results e ↦
      let long : length results ≡ n = sym (length-map results (λ r. Value r)) ∙ ap length (sym e) ∙ count in
      let sized : Sized b results = values-sized b results (subst (HaveLength b) e have) in
      ap (gathered (joined_words (blocks_cut n b))) e ∙ gathered-values (joined_words (blocks_cut n b)) results
      ∙ ap Value (joined-are n b results some long sized) ∙ sym (row-values results) ∙ ap in_row (sym e)
  | first_trap results trap more e ↦
      ap (gathered (joined_words (blocks_cut n b))) e ∙ gathered-first (joined_words (blocks_cut n b)) results trap more
      ∙ sym (row-first results trap more) ∙ ap in_row (sym e)
]

-- A MAP OVER BLOCKS makes of words what its part makes of their pieces, in a row
pub mapped-is : (n b : ℕ) (part : List ℤ → Outcome) (words : List ℤ) → 1 ≤ n → length words ≡ n * b →
    HaveLength b (map part (pieces n b words)) → mapped (blocks_cut n b) part words ≡ in_row (map part (pieces n b words))
mapped-is n b part words some long have =
    ap (gathered (joined_words (blocks_cut n b))) (outcomes-are n b part words long)
    ∙ gathered-is n b (map part (pieces n b words)) some (length-map (pieces n b words) part ∙ length-pieces n b words) have
