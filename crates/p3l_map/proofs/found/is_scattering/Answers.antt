use Rattle.std.proofs.Common.{◌≡◌, ◌<◌, ◌&&◌, ℕ, nat_eq, nat_lt, true, List, [], ◌∷◌, length, map, refl, sym, ap, ◌∙◌, arith, eq-eqb, ne_eqb}
use Rattle.std.proofs.lemmas.List.{length-map}
use Rattle.p3l_firing.specs.Shot.{token_of}
use Rattle.p3l_firing.specs.declared.token.Token.{Token}
use Rattle.p3l_map.specs.Map.{scatter_ok}
use Rattle.p3l_map.specs.MapKind.{bare_pieces}
use Rattle.p3l_map.proofs.found.is_scattering.Goals as goal

none : (number lines k : ℕ) (ts : List Token) → length ts ≡ 0 → true ≡ scatter_ok (bare_pieces number lines) ts k
unfolding scatter_ok
none number lines k [] h = refl
none number lines k (t ∷ ts) h = absurd (omega (arith, h))

some : (number lines k : ℕ) (ts : List Token) → 0 < length ts →
    (nat_eq (length ts) 1 && nat_lt k number) ≡ scatter_ok (bare_pieces number lines) ts k
unfolding scatter_ok
some number lines k [] l = absurd (omega (arith, l))
some number lines k (t ∷ []) l = ap (λ b. b && nat_lt k number) (eq-eqb (length (t ∷ [])) 1 refl)
some number lines k (t ∷ (u ∷ us)) l = ap (λ b. b && nat_lt k number) (ne_eqb (length (t ∷ (u ∷ us))) 1 (λ d. omega (arith, d)))

pub returns-then-sending-eq0 : goal.returns-then-sending-eq0
returns-then-sending-eq0 c = λ lines. none c.args.number lines c.args.sent (map token_of c.args.sending.now) (omega (arith, length-map c.args.sending.now token_of, c.if-sending-eq0.true))

pub returns : goal.returns
returns c = λ lines.
    let same = length-map c.args.sending.now token_of in
    ap (λ n. nat_eq n 1 && nat_lt c.args.sent c.args.number) (sym same)
    ∙ some c.args.number lines c.args.sent (map token_of c.args.sending.now) (omega (arith, same, c.if-sending-eq0.false))
