-- Slices and cuts are read as they are spelled.
use Rattle.std.proofs.Common.{◌≡◌, Some, refl}
use Rattle.std.specs.List.{slice_get}
use Rattle.p3l_base.specs.Limits.{most_sizes, most_words}
use Rattle.p3l_base.specs.declared.slice.Place.{Place}
use Rattle.p3l_base.specs.declared.slice.Place.TheVariants.{Rest, First, Second}
use Rattle.p3l_format.specs.Lawful.{IsLawful}
use Rattle.p3l_format.specs.laws.Formats.{lawful_both, lawful_record, lawful_counted}
use Rattle.p3l_format.specs.laws.Numbers.{lawful_u8_in, lawful_u32_in, lawful_one_of}
use Rattle.p3l_tree_format.specs.Slice.{places, place_number, place_format, dim_format, slice_format, slices_format, cut_format}

-- the laws of the parts, by which `search` finds those of what is put together
ruleset parts = (lawful_both, lawful_counted, lawful_u8_in, lawful_u32_in)

place_there : (p : Place) → slice_get places (place_number p) ≡ Some p
place_there Rest = refl
place_there First = refl
place_there Second = refl

pub lawful_place : IsLawful place_format
lawful_place = lawful_one_of places place_number refl place_there

pub lawful_dim : IsLawful dim_format
unfolding dim_format
lawful_dim = lawful_record _ _ _ (λ _. refl) (λ _. refl) (lawful_both _ _ (lawful_u32_in 1 most_words) lawful_place)

pub lawful_slice : IsLawful slice_format
unfolding slice_format
lawful_slice = lawful_record _ _ _ (λ _. refl) (λ _. refl) (lawful_both _ _ (lawful_u32_in 0 65535) (lawful_counted _ _ (lawful_u8_in 0 most_sizes) (λ _. lawful_dim)))

pub lawful_slices : IsLawful slices_format
lawful_slices = lawful_counted _ _ (lawful_u32_in 0 4294967295) (λ _. lawful_slice)

pub lawful_cut : IsLawful cut_format
unfolding cut_format
lawful_cut = lawful_record _ _ _ (λ _. refl) (λ _. refl) (search (parts, lawful_slices))
