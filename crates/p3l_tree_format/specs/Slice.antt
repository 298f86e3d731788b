-- The format of slices and cuts.
use Rattle.std.specs.Prelude.{ℕ, List, [], ◌∷◌}
use Rattle.p3l_base.specs.Limits.{most_sizes, most_words}
use Rattle.p3l_base.specs.declared.slice.Place.{Place}
use Rattle.p3l_base.specs.declared.slice.Place.TheVariants.{Rest, First, Second}
use Rattle.p3l_base.specs.declared.slice.Dim.{Dim}
use Rattle.p3l_base.specs.declared.slice.Slice.{Slice}
use Rattle.p3l_base.specs.declared.cut.Cut.{Cut}
use Rattle.p3l_format.specs.Format.{Format, both, record_of, counted}
use Rattle.p3l_format.specs.Numbers.{u8_in, u32_in, one_of}

abbrev pub places : List Place
places = Rest ∷ First ∷ Second ∷ []

abbrev pub place_number : Place → ℕ
place_number Rest = 0
place_number First = 1
place_number Second = 2

abbrev pub place_format : Format ℕ Place
place_format = one_of places place_number

unfoldable pub dim_format : Format ℕ Dim
dim_format = record_of (λ p. record { size = p.0; place = p.1 }) (λ d. (d.size, d.place)) (both (u32_in 1 most_words) place_format)

unfoldable pub slice_format : Format ℕ Slice
slice_format = record_of (λ p. record { start = p.0; dims = p.1 }) (λ s. (s.start, s.dims)) (both (u32_in 0 65535) (counted (u8_in 0 most_sizes) (λ _. dim_format)))

abbrev pub slices_format : Format ℕ (List Slice)
slices_format = counted (u32_in 0 4294967295) (λ _. slice_format)

unfoldable pub cut_format : Format ℕ Cut
cut_format = record_of (λ p. record { first = p.0; second = p.1.0; ins = p.1.1.0; outs = p.1.1.1 }) (λ c. (c.first, (c.second, (c.ins, c.outs))))
    (both (u32_in 1 most_words) (both (u32_in 1 most_words) (both slices_format slices_format)))
