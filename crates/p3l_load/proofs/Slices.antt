-- The slices and the cut of a lawful map are in their ranges.
use Rattle.std.proofs.Common.{◌≡◌, ℕ, ◌+◌, ◌<◌, ◌≤◌, true, List, [], ◌∷◌, ◌⊎◌, inl, inr, length, refl, arith}
use Rattle.std.specs.List.{All, list_all}
use Rattle.std.proofs.Math.Nat.{mul-pos}
use Rattle.p3l_base.specs.declared.slice.Place.{Place}
use Rattle.p3l_base.specs.declared.slice.Place.TheVariants.{Rest, First, Second}
use Rattle.p3l_base.specs.declared.slice.Dim.{Dim}
use Rattle.p3l_base.specs.declared.slice.Slice.{Slice}
use Rattle.p3l_base.specs.declared.cut.Cut.{Cut}
use Rattle.p3l_base.specs.Slice.{array_size, cut_size, taken_size, LiesWithin}
use Rattle.p3l_base.specs.Cut.{HasIndexSize, HasFreeSizes, FollowOneAnother, IsLawfulCut, element_size, first_count, second_count, one_at_first, one_at_second, token_size}
use Rattle.p3l_skel.specs.Lawful.{HasSizes, IsSize}
use Rattle.p3l_format.specs.Format.{as_form, pair, counted, coded}
use Rattle.p3l_format.specs.Numbers.{u8_format, u8_in, u32_in, one_of}
use Rattle.p3l_format.specs.laws.Parts.{both_true}
use Rattle.p3l_tree_format.specs.Slice.{place_format, dim_format, slice_format, slices_format, cut_format}
use Rattle.p3l_load.proofs.Ranges.{after_first, first_of, fits_byte, fits_in, list_fits}

abbrev AreSizes : List Dim → Type 0
AreSizes dims = All (λ (d : Dim). IsSize d.size) dims

array_some : (dims : List Dim) → AreSizes dims → 0 < array_size dims
array_some [] sizes = omega arith
array_some (d ∷ ds) sizes =
    let here : 0 < d.size = omega (arith, (first_of (λ (d : Dim). IsSize d.size) d ds sizes).0) in
    mul-pos here (array_some ds (after_first (λ (d : Dim). IsSize d.size) d ds sizes))

taken_some : (place : Place) (n : ℕ) → 0 < n → 0 < taken_size place n
taken_some Rest n some = some
taken_some First n some = omega arith
taken_some Second n some = omega arith

cut_some : (dims : List Dim) → AreSizes dims → 0 < cut_size dims
cut_some [] sizes = omega arith
cut_some (d ∷ ds) sizes =
    let here : 0 < d.size = omega (arith, (first_of (λ (d : Dim). IsSize d.size) d ds sizes).0) in
    mul-pos (taken_some d.place d.size here) (cut_some ds (after_first (λ (d : Dim). IsSize d.size) d ds sizes))

place_fits : (place : Place) → place_format.fits place ≡ true
unfolding one_of coded u8_format
place_fits Rest = refl
place_fits First = refl
place_fits Second = refl

dim_fits : (d : Dim) → IsSize d.size → dim_format.fits d ≡ true
unfolding dim_format as_form pair
dim_fits d size = both_true ((u32_in 1 65536).fits d.size) (place_format.fits d.place) (fits_in 1 65536 d.size size.0 size.1 (omega (arith, size.1))) (place_fits d.place)

dims_fit : (dims : List Dim) → AreSizes dims → list_all dim_format.fits dims ≡ true
dims_fit [] sizes = refl
dims_fit (d ∷ ds) sizes =
    both_true (dim_format.fits d) (list_all dim_format.fits ds) (dim_fits d (first_of (λ (d : Dim). IsSize d.size) d ds sizes))
    (dims_fit ds (after_first (λ (d : Dim). IsSize d.size) d ds sizes))

slice_fits : (s : Slice) → s.start ≤ 65535 → HasSizes s → slice_format.fits s ≡ true
unfolding slice_format as_form pair counted
slice_fits s low sizes =
    both_true ((u32_in 0 65535).fits s.start) _ (fits_in 0 65535 s.start (omega arith) low (omega (arith, low)))
    (both_true ((u8_in 0 3).fits (length s.dims)) (list_all dim_format.fits s.dims)
    (fits_byte 0 3 (length s.dims) (omega arith) sizes.0 (omega (arith, sizes.0))) (dims_fit s.dims sizes.1))

slices_few : (ss : List Slice) → All HasSizes ss → length ss ≤ element_size ss
slices_few [] sizes = omega arith
slices_few (s ∷ ss) sizes =
    let some = cut_some s.dims (first_of HasSizes s ss sizes).1 in
    let rest = slices_few ss (after_first HasSizes s ss sizes) in
    omega (arith, some, rest)

ins_fit : (ins : ℕ) (ss : List Slice) → ins ≤ 65536 → All HasSizes ss → All (λ (s : Slice). LiesWithin s ins) ss → list_all slice_format.fits ss ≡ true
ins_fit ins [] low sizes within = refl
ins_fit ins (s ∷ ss) low sizes within =
    let own = first_of HasSizes s ss sizes in
    let some = array_some s.dims own.1 in
    let here = first_of (λ (s : Slice). LiesWithin s ins) s ss within in
    both_true (slice_format.fits s) (list_all slice_format.fits ss) (slice_fits s (omega (arith, some, here, low)) own)
    (ins_fit ins ss low (after_first HasSizes s ss sizes) (after_first (λ (s : Slice). LiesWithin s ins) s ss within))

outs_fit : (start : ℕ) (ss : List Slice) → start + token_size ss ≤ 65536 → All HasSizes ss → FollowOneAnother start ss → list_all slice_format.fits ss ≡ true
outs_fit start [] low sizes follow = refl
outs_fit start (s ∷ ss) low sizes follow =
    let own = first_of HasSizes s ss sizes in
    let some = array_some s.dims own.1 in
    both_true (slice_format.fits s) (list_all slice_format.fits ss) (slice_fits s (omega (arith, some, follow.0, low)) own)
    (outs_fit (start + array_size s.dims) ss (omega (arith, low)) (after_first HasSizes s ss sizes) follow.1)

-- the first free index has the size of its dimension
first_here : (first second n more : ℕ) (p : Place) → HasIndexSize first second p n → IsSize n → one_at_first p + more ≡ 1 → (more ≡ 1 → first ≤ 65536) → first ≤ 65536
first_here first second n more First free size once rest = omega (arith, free, size.1)
first_here first second n more Rest free size once rest = rest (omega (arith, once))
first_here first second n more Second free size once rest = rest (omega (arith, once))

second_here : (first second n more : ℕ) (p : Place) → HasIndexSize first second p n → IsSize n → one_at_second p + more ≡ 1 → (more ≡ 1 → second ≤ 65536) → second ≤ 65536
second_here first second n more Second free size once rest = omega (arith, free, size.1)
second_here first second n more Rest free size once rest = rest (omega (arith, once))
second_here first second n more First free size once rest = rest (omega (arith, once))

module _ (first second : ℕ) where
  abbrev IsFree : Dim → Type 0
  IsFree d = HasIndexSize first second d.place d.size

  first_small : (dims : List Dim) → All IsFree dims → AreSizes dims → first_count dims ≡ 1 → first ≤ 65536
  first_small [] free sizes once = absurd (omega (arith, once))
  first_small (d ∷ ds) free sizes once =
      first_here first second d.size (first_count ds) d.place (first_of IsFree d ds free) (first_of (λ (d : Dim). IsSize d.size) d ds sizes) once
      (first_small ds (after_first IsFree d ds free) (after_first (λ (d : Dim). IsSize d.size) d ds sizes))

  second_small : (dims : List Dim) → All IsFree dims → AreSizes dims → second_count dims ≡ 1 → second ≤ 65536
  second_small [] free sizes once = absurd (omega (arith, once))
  second_small (d ∷ ds) free sizes once =
      second_here first second d.size (second_count ds) d.place (first_of IsFree d ds free) (first_of (λ (d : Dim). IsSize d.size) d ds sizes) once
      (second_small ds (after_first IsFree d ds free) (after_first (λ (d : Dim). IsSize d.size) d ds sizes))

  abbrev AreFree : Slice → Type 0
  AreFree s = HasFreeSizes first second s

  firsts_small : (ss : List Slice) → 1 ≤ length ss → All AreFree ss → All HasSizes ss → All (λ (s : Slice). first_count s.dims ≡ 1) ss → first ≤ 65536
  firsts_small [] some free sizes once = absurd (omega (arith, some))
  firsts_small (s ∷ ss) some free sizes once =
      first_small s.dims (first_of AreFree s ss free) (first_of HasSizes s ss sizes).1 (first_of (λ (s : Slice). first_count s.dims ≡ 1) s ss once)

  seconds_small : (ss : List Slice) → 1 ≤ length ss → All AreFree ss → All HasSizes ss
      → All (λ (s : Slice). second_count s.dims ≡ 1) ss ⊎ ((second ≡ 1) × All (λ (s : Slice). second_count s.dims ≡ 0) ss) → second ≤ 65536
  seconds_small [] some free sizes once = absurd (omega (arith, some))
  seconds_small (s ∷ ss) some free sizes (inl once) =
      second_small s.dims (first_of AreFree s ss free) (first_of HasSizes s ss sizes).1 (first_of (λ (s : Slice). second_count s.dims ≡ 1) s ss once)
  seconds_small (s ∷ ss) some free sizes (inr one) = omega (arith, one.0)

pub cut_fits : (cut : Cut) (ins outs part_ins part_outs : ℕ) → IsLawfulCut cut ins outs part_ins part_outs → All HasSizes cut.ins → All HasSizes cut.outs
    → ins ≤ 65536 → outs ≤ 65536 → part_ins ≤ 65536 → part_outs ≤ 65536 → cut_format.fits cut ≡ true
unfolding cut_format as_form pair
cut_fits cut ins outs part_ins part_outs is in_sizes out_sizes low_ins low_outs low_part_ins low_part_outs =
    let lo = is.lawful_outs in
    let li = is.lawful_ins in
    let first = firsts_small cut.first cut.second cut.outs lo.some_out lo.out_sizes out_sizes lo.out_first in
    let second = seconds_small cut.first cut.second cut.outs lo.some_out lo.out_sizes out_sizes lo.out_second in
    let few_ins = slices_few cut.ins in_sizes in
    let few_outs = slices_few cut.outs out_sizes in
    both_true ((u32_in 1 65536).fits cut.first) _ (fits_in 1 65536 cut.first lo.some_first first (omega (arith, first)))
    (both_true ((u32_in 1 65536).fits cut.second) _ (fits_in 1 65536 cut.second lo.some_second second (omega (arith, second)))
    (both_true (slices_format.fits cut.ins) (slices_format.fits cut.outs)
    (list_fits 0 slice_format cut.ins (omega arith) (omega (arith, few_ins, is.part_ins_fit, low_part_ins)) (ins_fit ins cut.ins low_ins in_sizes li.in_within))
    (list_fits 0 slice_format cut.outs (omega arith) (omega (arith, few_outs, is.part_outs_fit, low_part_outs)) (outs_fit 0 cut.outs (omega (arith, is.outs_end, low_outs)) out_sizes lo.out_tiles))))
