-- A template round pieces that are those of the templates at its slots places what the nested template does (`whole_is_nested`).
use Rattle.std.proofs.Common.{◌≡◌, ℕ, suc, ◌+◌, ◌<◌, List, [], ◌∷◌, length, get_or, refl, sym, ap, ◌∙◌, subst, arith}
use Rattle.p3l_link.specs.Net.{Piece, base_at, followed, inner_pieces, own_piece, whole_piece}
use Rattle.p3l_scan.specs.Nested.{AreInner, nested, nested_piece}
use Rattle.p3l_template.specs.Placed.{IsLawfulShape}
use Rattle.p3l_template.specs.Shape.{Base, Slot, Blueprint, no_slot}
use Rattle.p3l_scan.specs.laws.NestedLaw.{nested_procs}

inner_same : (f g : ℕ → Base → Piece) (xs : List Slot) (p c : ℕ) →
    ((v : ℕ) → v < length xs → (b : Base) → f (get_or xs v no_slot).part b ≡ g (get_or xs v no_slot).part b) →
    inner_pieces f xs p c ≡ inner_pieces g xs p c
unfolding inner_pieces
inner_same f g [] p c each = refl
inner_same f g (x ∷ xs) p c each =
    let b : Base = base_at x p c in
    ap (λ (F : Piece). followed F (inner_pieces f xs (p + length F.procs) (c + length F.chans))) (each 0 (omega arith) b)
    ∙ ap (followed (g x.part b)) (inner_same f g xs (p + length (g x.part b).procs) (c + length (g x.part b).chans)
    (λ v l b. each (suc v) (omega arith) b))

pub whole_is_nested : (outer : Blueprint) (which : ℕ → ℕ) (inner : ℕ → Blueprint) (law : IsLawfulShape outer)
    (are : AreInner outer which inner) (cap : ℕ) (f : ℕ → Base → Piece) (base : Base) →
    ((v : ℕ) → v < outer.inner → (b : Base) → f (which v) b ≡ own_piece (inner (which v)) cap b) →
    whole_piece outer cap f base ≡ own_piece (nested outer inner) cap base
whole_is_nested outer which inner law are cap f base each =
    ap (followed (own_piece outer cap base))
    (inner_same f (λ v. own_piece (inner v) cap) (outer.slots base) _ _
    (λ v l b.
    let i : v < outer.inner = omega (arith, l, law.count base) in
    subst (λ z. f z b ≡ own_piece (inner z) cap b) (sym (are.part base v i)) (each v i b)))
    ∙ ap (λ z. record { procs = z; chans = (nested_piece outer inner cap base).chans })
    (nested_procs outer which inner law are cap 1 base)
