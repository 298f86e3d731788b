-- A template placed in a net round lawful parts, and the law that every template must satisfy.
use Rattle.std.specs.Prelude.{◌≡◌, ◌≢◌, ℕ, suc, ◌+◌, ◌≤◌, ◌<◌, List, [], ◌∷◌, length, slice_get, Some, get_or, ◌⊎◌}
use Rattle.p3l_firing.specs.declared.net.Chan.{Chan}
use Rattle.p3l_firing.specs.declared.net.Net.{Net}
use Rattle.p3l_firing.specs.declared.process.Proc.{Proc}
use Rattle.p3l_firing.specs.State.{chan_at, no_chan}
use Rattle.p3l_template.specs.Part.{Part, IsLawfulPart}
use Rattle.p3l_template.specs.Shape.{Role, Base, Slot, Blueprint, no_slot}
use Rattle.p3l_template.specs.Units.{Units}

-- these processes are in the net from number p on
unfoldable pub AreStanding : Net → ℕ → List Proc → Type 0
AreStanding net p [] = Unit {0}
AreStanding net p (q ∷ qs) = (slice_get net.procs p ≡ Some q) × AreStanding net (suc p) qs

-- these channels are in the net from number c on
pub record AreLaid (net : Net) (c : ℕ) (chans : List Chan) : Type 0 where
  pub at : (k : ℕ) → k < length chans → chan_at net (c + k) ≡ get_or chans k no_chan

-- the n channels from number c on have room for a token each
pub record HaveRoom (net : Net) (c n : ℕ) : Type 0 where
  pub room : (k : ℕ) → c ≤ k → k < c + n → 0 < (chan_at net k).cap

-- a lawful part is placed at this slot, from process p and channel c on, and does what the node's
-- part there does
pub record IsSlot (net : Net) (units : Units) (roles : ℕ → Role) (p c : ℕ) (slot : Slot) (P : Part) : Type 0 where
  pub input : P.input ≡ slot.input
  pub output : P.output ≡ slot.output
  pub proc : P.proc_from ≡ p
  pub chan : P.chan_from ≡ c
  pub meaning : P.meaning ≡ (roles slot.part).meaning
  pub firings : P.firings ≡ (roles slot.part).firings
  pub lawful : IsLawfulPart net units P

-- lawful parts are placed at these slots, one after the other
unfoldable pub AreChained : Net → Units → (ℕ → Role) → ℕ → ℕ → List Slot → List Part → Type 0
AreChained net units roles p c [] [] = Unit {0}
AreChained net units roles p c (x ∷ xs) (P ∷ Ps) =
    IsSlot net units roles p c x P × AreChained net units roles P.proc_to P.chan_to xs Ps
AreChained net units roles p c [] (P ∷ Ps) = ⊥
AreChained net units roles p c (x ∷ xs) [] = ⊥

-- the process and the channel after the last of these parts
unfoldable pub proc_end : ℕ → List Part → ℕ
proc_end p [] = p
proc_end p (P ∷ Ps) = proc_end P.proc_to Ps

unfoldable pub chan_end : ℕ → List Part → ℕ
chan_end c [] = c
chan_end c (P ∷ Ps) = chan_end P.chan_to Ps

-- a place that a template may be placed at: between two channels that were given out before, the second with room for a
-- token
pub record IsGoodBase (net : Net) (base : Base) : Type 0 where
  pub input : base.input < base.chan
  pub output : base.output < base.chan
  pub apart : base.input ≢ base.output
  pub room : 0 < (chan_at net base.output).cap

-- the template is placed at the base, round these inner parts
pub record IsPlaced (net : Net) (units : Units) (roles : ℕ → Role) (shape : Blueprint) (base : Base) (parts : List Part) :
    Type 0 where
  pub good : IsGoodBase net base
  pub procs : AreStanding net base.proc (shape.procs base)
  pub chans : HaveRoom net base.chan (shape.chans base)
  pub cap : ℕ
  pub pos : 0 < cap
  pub laid : AreLaid net base.chan (shape.laid cap base)
  pub inner : AreChained net units roles (base.proc + length (shape.procs base)) (base.chan + (shape.chans base))
      (shape.slots base) parts

-- the part is the template's, and lies from the base to the end of its inner parts
pub record LiesAt (shape : Blueprint) (units : Units) (roles : ℕ → Role) (base : Base) (parts : List Part) (P : Part) :
    Type 0 where
  pub meaning : P.meaning ≡ shape.meaning units roles
  pub firings : P.firings ≡ shape.firings units roles
  pub input : P.input ≡ base.input
  pub output : P.output ≡ base.output
  pub proc_from : P.proc_from ≡ base.proc
  pub chan_from : P.chan_from ≡ base.chan
  pub proc_to : P.proc_to ≡ proc_end (base.proc + length (shape.procs base)) parts
  pub chan_to : P.chan_to ≡ chan_end (base.chan + (shape.chans base)) parts

-- a slot that an inner part may be placed at: between two channels that were given out before the inner parts, the second of
-- them the template's own or its out channel
pub record IsGoodSlot (base : Base) (chans : ℕ) (slot : Slot) : Type 0 where
  pub input : slot.input < base.chan + chans
  pub output : slot.output < base.chan + chans
  pub apart : slot.input ≢ slot.output
  pub out : (slot.output ≡ base.output) ⊎ (base.chan ≤ slot.output)

-- THE LAW OF A TEMPLATE: placed round lawful parts, it is a lawful part
pub record IsLawfulShape (shape : Blueprint) : Type 0 where
  pub lawful : (net : Net) (units : Units) (roles : ℕ → Role) (base : Base) (parts : List Part) →
      IsPlaced net units roles shape base parts → IsLawfulPart net units (shape.part units roles base parts)
  pub lies : (net : Net) (units : Units) (roles : ℕ → Role) (base : Base) (parts : List Part) →
      IsPlaced net units roles shape base parts → LiesAt shape units roles base parts (shape.part units roles base parts)
  pub count : (base : Base) → length (shape.slots base) ≡ shape.inner
  pub laid : (cap : ℕ) (base : Base) → length (shape.laid cap base) ≡ shape.chans base
  pub rooms : (cap : ℕ) (base : Base) (k : ℕ) → 0 < cap → k < length (shape.laid cap base) →
      0 < (get_or (shape.laid cap base) k no_chan).cap
  pub slots : (net : Net) (base : Base) → IsGoodBase net base → (v : ℕ) → v < shape.inner →
      IsGoodSlot base (shape.chans base) (get_or (shape.slots base) v no_slot)

-- both channels of each slot are below `low`
unfoldable pub AreBelow : ℕ → List Slot → Type 0
AreBelow low slots = (v : ℕ) → v < length slots → ((get_or slots v no_slot).input < low) × ((get_or slots v no_slot).output < low)
