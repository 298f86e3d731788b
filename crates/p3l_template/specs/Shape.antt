-- Shapes of templates: the processes and channels that a template places, over any inner parts.
use Rattle.std.specs.Prelude.{ℕ, zero, suc, ◌+◌, ◌≤◌, List, [], ◌∷◌, ◌++◌, length}
use Rattle.p3l_base.specs.declared.outcome.Outcome.{Outcome}
use Rattle.p3l_firing.specs.declared.net.Chan.{Chan}
use Rattle.p3l_firing.specs.declared.net.Net.{Net}
use Rattle.p3l_firing.specs.declared.process.Proc.{Proc}
use Rattle.p3l_template.specs.declared.template.Ports.{Ports}
use Rattle.p3l_template.specs.Part.{Part}
use Rattle.p3l_template.specs.Units.{Units}

-- a node's meaning: its outcome for an outcome, and the number of its firings for one token
pub record Role : Type 0 where
  pub meaning : Outcome → Outcome
  pub firings : ℕ

-- the place of a template: the two channels that it is between, and its first process and
-- channel
pub record Base : Type 0 where
  pub input : ℕ
  pub output : ℕ
  pub proc : ℕ
  pub chan : ℕ

-- the place of an inner part: the two channels that it is between, and its number among the node's
-- parts
pub record Slot : Type 0 where
  pub input : ℕ
  pub output : ℕ
  pub part : ℕ

-- the default for a number without a slot
unfoldable pub no_slot : Slot
no_slot = record { input = 0; output = 0; part = 0 }

-- the channels of a slot
abbrev pub ports_of : Slot → Ports
ports_of slot = record { input = slot.input; output = slot.output }

pub record Blueprint : Type 0 where
  -- its own processes, in order
  pub procs : Base → List Proc
  -- the number of channels that it adds
  pub chans : Base → ℕ
  -- these channels in order, in a net whose channels have this capacity
  pub laid : ℕ → Base → List Chan
  -- the number of its inner parts
  pub inner : ℕ
  -- the slots of its inner parts, in order
  pub slots : Base → List Slot
  -- the outcome of its node for an outcome, given the meanings of the node's parts
  pub meaning : Units → (ℕ → Role) → Outcome → Outcome
  -- the number of its firings for one token
  pub firings : Units → (ℕ → Role) → ℕ
  -- the whole part, over its inner parts
  pub part : Units → (ℕ → Role) → Base → List Part → Part

-- the place at these ports, after what is built so far
abbrev pub base_of : Ports → Net → Base
base_of at built = record { input = at.input; output = at.output; proc = length built.procs; chan = length built.chans }

-- the net built so far, with these processes and channels after it
abbrev pub added : Net → List Proc → List Chan → Net
added built procs chans = record { procs = built.procs ++ procs; chans = built.chans ++ chans }

-- `procs` more processes and `chans` channels keep within the limits of a net
abbrev pub HasRoomFor : Net → ℕ → ℕ → Type 0
HasRoomFor built procs chans = (length built.procs + procs ≤ 1048576) × (length built.chans + chans ≤ 1048576)

-- a template's own processes and channels keep within the limits of a net
abbrev pub FitsAt : Blueprint → Base → Type 0
FitsAt shape base = (base.proc + length (shape.procs base) ≤ 1048576) × (base.chan + shape.chans base ≤ 1048576)

-- a channel that begins empty
abbrev pub empty_chan : ℕ → Chan
empty_chan cap = record { cap = cap; credits = 0 }

-- n numbers from c on
unfoldable pub numbers_from : ℕ → ℕ → List ℕ
numbers_from c zero = []
numbers_from c (suc n) = c ∷ numbers_from (suc c) n

-- the slots of n workers, whose in channels are those from i on and whose out channels those from o on
unfoldable pub fan_slots : ℕ → ℕ → ℕ → List Slot
fan_slots i o zero = []
fan_slots i o (suc n) = record { input = i; output = o; part = 0 } ∷ fan_slots (suc i) (suc o) n
