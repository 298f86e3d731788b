-- The channels of the segments of a reduce, by halves.
use Rattle.std.proofs.Common.{◌≡◌, ℕ, zero, suc, ◌+◌, ◌-◌, ◌/◌, ◌^◌, ◌≢◌, List, [], ◌∷◌, ◌++◌, map, replicate, refl, ap, ◌∙◌, arith}
use Rattle.std.proofs.lemmas.List.{map-append}
use Rattle.p3l_firing.specs.Segments.{halved, segment_lengths}
use Rattle.p3l_template.specs.declared.width.Width.{Width}
use Rattle.p3l_reduce.specs.ReduceKind.{reduce_widths, segment_width}

halved_append : (xs ys : List ℕ) → halved (xs ++ ys) ≡ halved xs ++ halved ys
unfolding halved
halved_append [] ys = refl
halved_append (x ∷ xs) ys = ap (λ zs. (x / 2) ∷ ((x - x / 2) ∷ zs)) (halved_append xs ys)

-- the segments of both halves
lengths_halved : (level len : ℕ) →
    segment_lengths (suc level) len ≡ segment_lengths level (len / 2) ++ segment_lengths level (len - len / 2)
unfolding segment_lengths halved
lengths_halved zero len = refl
lengths_halved (suc level) len =
    ap halved (lengths_halved level len) ∙ halved_append (segment_lengths level (len / 2)) (segment_lengths level (len - len / 2))

-- at level 0 there is one segment
pub segments_none : (elem t level len : ℕ) → level ≡ 0 →
    map (segment_width elem t) (segment_lengths level len) ≡ segment_width elem t len ∷ []
unfolding segment_lengths
segments_none elem t zero len none = refl
segments_none elem t (suc level) len none = absurd (omega arith)

pub segments_halved : (elem t level len : ℕ) → level ≢ 0 →
    map (segment_width elem t) (segment_lengths level len)
    ≡ map (segment_width elem t) (segment_lengths (level - 1) (len / 2))
    ++ map (segment_width elem t) (segment_lengths (level - 1) (len - len / 2))
segments_halved elem t zero len some = absurd (some refl)
segments_halved elem t (suc level) len some =
    let e : level ≡ suc level - 1 = omega arith in
    ap (map (segment_width elem t)) (lengths_halved level len)
    ∙ map-append (segment_width elem t) (segment_lengths level (len / 2)) (segment_lengths level (len - len / 2))
    ∙ ap (λ z. map (segment_width elem t) (segment_lengths z (len / 2)) ++ map (segment_width elem t) (segment_lengths z (len - len / 2))) e

pub reduce_none : (elem len t level : ℕ) (joined : Width) → level ≡ 0 → reduce_widths elem len t joined level ≡ []
unfolding reduce_widths
reduce_none elem len t zero joined none = refl
reduce_none elem len t (suc level) joined none = absurd (omega arith)

pub reduce_some : (elem len t level : ℕ) (joined : Width) → level ≢ 0 →
    reduce_widths elem len t joined level
    ≡ map (segment_width elem t) (segment_lengths level len) ++ replicate (2 ^ level + 2 ^ level - 2) joined
unfolding reduce_widths
reduce_some elem len t zero joined some = absurd (some refl)
reduce_some elem len t (suc level) joined some = refl
