-- Findings about parts of a net: whether the part is orderly, and its pending tokens without their outcomes.
use Rattle.std.specs.Prelude.{◌≡◌, ◌+◌, length, ℕ, Bool, ◌&&◌, Option, Some, None, cond, List, [], ◌∷◌, ◌++◌, map}
use Rattle.p3l_base.specs.declared.outcome.Outcome.TheVariants.{Value}
use Rattle.p3l_skel.specs.declared.tree.Tree.{Tree}
use Rattle.p3l_firing.specs.declared.token.Token.{Token}
use Rattle.p3l_firing.specs.State.{State}
use Rattle.p3l_template.specs.Part.{Part, all_orderly}
use Rattle.p3l_template.specs.Placed.{proc_end, chan_end}
use Rattle.p3l_template.specs.Shape.{Base, Role, Slot, Blueprint}
use Rattle.p3l_template.specs.Units.{Units}

-- a part's order and pending tokens: true if it is orderly, and the tokens without their outcomes
pub record Finding : Type 0 where
  pub orderly : Bool
  pub pending : List Token

-- the token without its outcome
abbrev pub bare : Token → Token
bare x = record { tags = x.tags; body = Value [] }

abbrev pub bares : List Token → List Token
bares = map bare

-- the tokens pending in a part, without their outcomes
abbrev pub pending_of : State → Part → List Token
pending_of s P = bares (P.pending s)

abbrev pub finding_of : State → Part → Finding
finding_of s P = record { orderly = P.orderly s; pending = pending_of s P }

-- the pending tokens, if the part is orderly
unfoldable pub if_orderly : Finding → Option (List Token)
if_orderly f = cond f.orderly (Some f.pending) None

-- the line of an inner part between these channels with these tokens pending, without the outcomes
abbrev pub line_of : State → (input output : ℕ) → List Token → List Token
line_of s input output pending = bares (s.tokens output) ++ (bares pending ++ bares (s.tokens input))

-- the parts stand at these slots
unfoldable pub AreSlots : List Slot → List Part → Type 0
AreSlots [] [] = Unit {0}
AreSlots (x ∷ xs) (P ∷ Ps) = ((P.input ≡ x.input) × (P.output ≡ x.output)) × AreSlots xs Ps
AreSlots [] (P ∷ Ps) = ⊥
AreSlots (x ∷ xs) [] = ⊥

-- a template's part stands between the base's two channels, and ends after its inner parts
pub record EndsAt (shape : Blueprint) (base : Base) (parts : List Part) (P : Part) : Type 0 where
  pub input : P.input ≡ base.input
  pub output : P.output ≡ base.output
  pub proc_to : P.proc_to ≡ proc_end (base.proc + length (shape.procs base)) parts
  pub chan_to : P.chan_to ≡ chan_end (base.chan + shape.chans base) parts

-- a template's own finding in a state, given the tokens pending in its inner parts
abbrev pub Finds : Type 0
Finds = Tree → Base → State → List (List Token) → Finding

-- THE LAW OF WHAT IS FOUND: a template's part is orderly where its inner parts are and the template finds so, and what is
-- pending in it follows from what is pending in these and from the tags in its own channels and processes: whatever the
-- units make of words
pub record IsFoundShape (shape : Blueprint) (finds : Finds) : Type 0 where
  pub orderly : (units : Units) (roles : ℕ → Role) (base : Base) (parts : List Part) (s : State) →
      AreSlots (shape.slots base) parts →
      (shape.part units roles base parts).orderly s
      ≡ (all_orderly parts s && (finds units.tree base s (map (pending_of s) parts)).orderly)
  pub pending : (units : Units) (roles : ℕ → Role) (base : Base) (parts : List Part) (s : State) →
      AreSlots (shape.slots base) parts →
      pending_of s (shape.part units roles base parts) ≡ (finds units.tree base s (map (pending_of s) parts)).pending
  pub ends : (units : Units) (roles : ℕ → Role) (base : Base) (parts : List Part) → AreSlots (shape.slots base) parts →
      EndsAt shape base parts (shape.part units roles base parts)
  pub laid : (cap : ℕ) (base : Base) → length (shape.laid cap base) ≡ shape.chans base
