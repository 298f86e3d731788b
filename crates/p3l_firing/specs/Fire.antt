-- Readiness of processes, and effects of their firings, by the table of kinds.
use Rattle.std.specs.Prelude.{◌≡◌, ℕ, Bool, false, not, ◌&&◌, Option, Some, None, slice_get}
use Rattle.p3l_skel.specs.declared.tree.Tree.{Tree}
use Rattle.p3l_firing.specs.declared.process.Proc.{Proc}
use Rattle.p3l_firing.specs.declared.net.Net.{Net}
use Rattle.p3l_firing.specs.Token.{has_trap}
use Rattle.p3l_firing.specs.Nodes.{Leaf}
use Rattle.p3l_firing.specs.State.{LocalState, State}
unfoldable pub use Rattle.p3l_firing.specs.kinds.{row_can, row_fire, row_reads, row_wants_memory}

unfoldable pub ready_of : Option Proc → Tree → Net → State → LocalState → Bool
ready_of None tree net s o = false
ready_of (Some q) tree net s o = row_can q.kind tree net s o q

unfoldable pub fire_of : Option Proc → Tree → Leaf → Net → State → ℕ → LocalState → State
fire_of None tree leaf net s p o = s
fire_of (Some q) tree leaf net s p o = row_fire q.kind tree leaf net s p o q

unfoldable pub wants_memory_of : Option Proc → Net → State → LocalState → Bool
wants_memory_of None net s o = false
wants_memory_of (Some q) net s o = row_wants_memory q.kind net s o q

-- the channels and what process p keeps allow it to fire
unfoldable pub is_ready : Tree → Net → State → ℕ → Bool
is_ready tree net s p = ready_of (slice_get net.procs p) tree net s (s.own p)

-- process p can fire: it is ready, and no trap was emitted
unfoldable pub can_fire : Tree → Net → State → ℕ → Bool
can_fire tree net s p = not (has_trap s.emitted) && is_ready tree net s p

-- the state after process p fired
unfoldable pub fire : Tree → Leaf → Net → State → ℕ → State
fire tree leaf net s p = fire_of (slice_get net.procs p) tree leaf net s p (s.own p)

-- a firing of process p may need memory
unfoldable pub wants_memory : Net → State → ℕ → Bool
wants_memory net s p = wants_memory_of (slice_get net.procs p) net s (s.own p)

-- no process can fire
abbrev pub IsStuck : Tree → Net → State → Type 0
IsStuck tree net s = (p : ℕ) → can_fire tree net s p ≡ false
