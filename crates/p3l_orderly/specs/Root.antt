-- Decides whether a saved machine is in a state that a run of a linked net can have, apart from the widths of tokens and their traps.
use Rattle.std.specs.Prelude.{◌≡◌, ◌+◌, List, [], length, ℕ}
use Rattle.p3l_base.specs.declared.outcome.Outcome.{Outcome}
use Rattle.p3l_skel.specs.declared.tree.Tree.{Tree}
use Rattle.p3l_firing.specs.State.{State}
use Rattle.p3l_firing.specs.declared.net.Net.{Net}
use Rattle.p3l_firing.specs.declared.shot.Shot.{Shot}
use Rattle.p3l_net.specs.Machine.{state_of}
use Rattle.p3l_net.specs.Shot.{restored}
use Rattle.p3l_template.specs.Units.{Units}
use Rattle.p3l_link.specs.Laws.{IsOrderly}
use Rattle.p3l_link.specs.Part.{root_part}

-- the state that was saved, where these outcomes were emitted
abbrev pub saved_state : Tree → Net → Shot → List Outcome → State
saved_state tree net shot emitted = state_of (restored tree net shot) emitted

-- of the items sent as many were emitted, and each of the others is in channel 1, pending in the root or in channel 0
abbrev pub AreBalanced : Units → List ℕ → (sent emitted : ℕ) → State → Type 0
AreBalanced units counts sent emitted s =
    sent ≡ emitted + (length (s.tokens 1) + (length ((root_part units counts).pending s) + length (s.tokens 0)))

-- it is so of what was saved
abbrev pub IsBalanced : Units → List ℕ → Net → Shot → Type 0
IsBalanced units counts net shot = AreBalanced units counts shot.sent shot.emitted (saved_state units.tree net shot [])

-- the root is orderly, an item in the inbox has its in words, and no item was lost or added
pub record IsOrderlyShot (units : Units) (counts : List ℕ) (net : Net) (shot : Shot) : Type 0 where
  pub orderly : IsOrderly units counts (saved_state units.tree net shot [])
  pub balanced : IsBalanced units counts net shot
