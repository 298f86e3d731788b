use Rattle.std.proofs.Common.{◌≡◌, ◌<◌, ℕ, List, [], ◌∷◌, length, map, refl, arith}
use Rattle.std.proofs.lemmas.List.{length-map}
use Rattle.p3l_firing.specs.Shot.{token_of}
use Rattle.p3l_firing.specs.declared.token.Token.{Token}
use Rattle.p3l_map.specs.Map.{next_piece}
use Rattle.p3l_map.proofs.found.next_piece.Goals as goal

none : (ts : List Token) (k : ℕ) → length ts ≡ 0 → 0 ≡ next_piece ts k
unfolding next_piece
none [] k h = refl
none (t ∷ ts) k h = absurd (omega (arith, h))

some : (ts : List Token) (k : ℕ) → 0 < length ts → k ≡ next_piece ts k
unfolding next_piece
some [] k l = absurd (omega (arith, l))
some (t ∷ ts) k l = refl

pub returns-then-sending-eq0 : goal.returns-then-sending-eq0
returns-then-sending-eq0 c = none (map token_of c.args.sending.now) c.args.sent (omega (arith, length-map c.args.sending.now token_of, c.if-sending-eq0.true))

pub returns-else-sending-eq0 : goal.returns-else-sending-eq0
returns-else-sending-eq0 c = some (map token_of c.args.sending.now) c.args.sent (omega (arith, length-map c.args.sending.now token_of, c.if-sending-eq0.false))
