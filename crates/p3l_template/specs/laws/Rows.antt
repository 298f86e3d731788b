-- All that a template uses of the table of rows: where process q is at p, p can fire and fires as
-- the row of q's kind says (`can_at`, `cannot_at`, `fire_at`), or in one of its ways (`way_at`, `strict_at`). The rest says what moving
-- a token from a to b does to each channel, and which channel has room.
use Rattle.std.proofs.Common.{◌≡◌, ℕ, true, false, List, [], ◌∷◌, Some, slice_get, sym, ◌∙◌}
use Rattle.p3l_firing.specs.declared.net.Net.{Net}
use Rattle.p3l_firing.specs.declared.process.Proc.{Proc}
use Rattle.p3l_firing.specs.declared.token.Token.{Token}
use Rattle.p3l_firing.specs.Lists.{has_first, first_or, rest_of}
use Rattle.p3l_firing.specs.Token.{credit, has_trap}
use Rattle.p3l_firing.specs.State.{State}
use Rattle.p3l_firing.specs.Ways.{eyes_of, row_ways, MayFire, IsStrict}
use Rattle.p3l_firing.proofs.Rows as rows
use Rattle.p3l_firing.proofs.WaysLaw.{ways_at, one_way}
use Rattle.p3l_firing.specs.Fire.{row_can, row_fire, is_ready, can_fire, fire}
use Rattle.p3l_template.specs.Units.{Units}
pub use Rattle.p3l_ready.proofs.AtLemmas.{at-same, at-other}
pub use Rattle.p3l_firing.proofs.Rows.{moved-in, moved-out, moved-other, and_left_true, and_right_true, room_when_empty}

pub front : (ts : List Token) → has_first ts ≡ true → ts ≡ first_or credit ts ∷ rest_of ts
front = rows.front_split credit

pub emptied : (ts : List Token) → has_first ts ≡ false → ts ≡ []
emptied = rows.no_first

module _ (net : Net) (units : Units) (s : State) (p : ℕ) (q : Proc) (stands : slice_get net.procs p ≡ Some q) where
  pub fire_at : fire units.tree units.leaf net s p ≡ row_fire q.kind units.tree units.leaf net s p (s.own p) q
  fire_at = rows.fire_at units.tree net s p q stands units.leaf

  pub can_at : is_ready units.tree net s p ≡ true → row_can q.kind units.tree net s (s.own p) q ≡ true
  can_at h = sym (rows.ready_at units.tree net s p q stands) ∙ h

  -- q fires in one of its ways
  pub way_at : (t : State) → MayFire units.tree units.leaf net s p t →
      row_ways q.kind units.tree units.leaf (eyes_of net s) s p (s.own p) q t
  way_at t way = ways_at units.tree units.leaf net s p t q stands (eyes_of net s) way

  -- and where it has one way alone
  pub strict_at : (t : State) → IsStrict q.kind → MayFire units.tree units.leaf net s p t →
      (is_ready units.tree net s p ≡ true) × (t ≡ fire units.tree units.leaf net s p)
  strict_at t strict way = one_way units.tree units.leaf net s t p q stands strict way

  pub cannot_at : has_trap s.emitted ≡ false → can_fire units.tree net s p ≡ false →
      row_can q.kind units.tree net s (s.own p) q ≡ false
  cannot_at = rows.cannot_at units.tree net s p q stands
