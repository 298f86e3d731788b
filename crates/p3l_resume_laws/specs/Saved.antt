-- Linked nets and what was saved of machines that run them.
use Rattle.std.specs.Prelude.{◌≡◌, ℕ, ◌≤◌, false, List, [], length}
use Rattle.p3l_base.specs.Limits.{most_tokens}
use Rattle.p3l_base.specs.declared.outcome.Outcome.{Outcome}
use Rattle.p3l_skel.specs.declared.tree.Tree.{Tree}
use Rattle.p3l_skel.specs.Counts.{HasLawfulCounts}
use Rattle.p3l_firing.specs.State.{State}
use Rattle.p3l_firing.specs.Token.{has_trap}
use Rattle.p3l_firing.specs.Typed.{IsTyped}
use Rattle.p3l_firing.specs.declared.shot.Shot.{Shot}
use Rattle.p3l_net.specs.Fitting.{Fitting}
use Rattle.p3l_net.specs.Shot.{CanRestore}
use Rattle.p3l_template.specs.Units.{Units}
use Rattle.p3l_link.specs.Laws.{IsLinkable, IsOrderly, net_of}
use Rattle.p3l_link.specs.Net.{linked_net}
use Rattle.p3l_fitting.specs.Survey.{linked_loops, linked_widths}
use Rattle.p3l_orderly.specs.Root as root
use Rattle.p3l_resume.specs.Ranges.{HasRanges, IsFew}
use Rattle.p3l_resume.specs.Saved.{CanBeWritten}
use Rattle.p3l_resume.specs.declared.saved.Saved.{Saved}
use Rattle.p3l_resume_laws.specs.Linked.{CanResume, IsBalanced}

-- a shot fits the net that is linked for a tree under these counts
abbrev pub FitsLinked : Tree → List ℕ → (cap : ℕ) → Shot → Type 0
FitsLinked tree counts cap shot = Fitting tree (linked_net tree counts cap) (linked_widths tree counts) (linked_loops tree counts) shot

-- the state that was saved of a linked net, where these outcomes were emitted
abbrev pub saved_state : Units → List ℕ → (cap : ℕ) → Shot → List Outcome → State
saved_state units counts cap shot emitted = root.saved_state units.tree (net_of units counts cap) shot emitted

-- from what fits a machine can be restored
abbrev pub EveryFittingShotCanBeRestored : Type 0
EveryFittingShotCanBeRestored =
    (tree : Tree) (counts : List ℕ) (cap : ℕ) (shot : Shot) → IsTyped tree (linked_net tree counts cap) → HasLawfulCounts tree counts
    → FitsLinked tree counts cap shot → CanRestore tree (linked_net tree counts cap) shot

-- a run can continue from the saved state, if the root is orderly besides
abbrev pub EveryOrderlyShotCanResume : Type 0
EveryOrderlyShotCanResume =
    (units : Units) (counts : List ℕ) (cap : ℕ) (typed : IsTyped units.tree (net_of units counts cap)) (shot : Shot)
    (emitted : List Outcome)
    → IsLinkable units counts cap → FitsLinked units.tree counts cap shot → IsOrderly units counts (saved_state units counts cap shot [])
    → has_trap emitted ≡ false → CanResume units counts cap typed (saved_state units counts cap shot emitted)

-- the saved state is balanced if the shot is: each item sent was emitted or is still in the net
abbrev pub EveryBalancedShotIsBalanced : Type 0
EveryBalancedShotIsBalanced =
    (units : Units) (counts : List ℕ) (cap : ℕ) (shot : Shot) (emitted : List Outcome)
    → IsLinkable units counts cap
    → root.IsBalanced units counts (net_of units counts cap) shot
    → length emitted ≡ shot.emitted → IsBalanced units counts (saved_state units counts cap shot emitted)

-- a shot that fits can be written, with an image that can be counted in 32 bits
abbrev pub EveryFittingShotCanBeWritten : Type 0
EveryFittingShotCanBeWritten =
    (tree : Tree) (counts : List ℕ) (cap : ℕ) (saved : Saved) → IsTyped tree (linked_net tree counts cap) → HasLawfulCounts tree counts
    → cap ≤ most_tokens → FitsLinked tree counts cap saved.shot → HasRanges saved → IsFew saved.image → CanBeWritten saved
