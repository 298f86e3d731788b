-- The places of the loops of linked nets: what is said of a snapshot by the places that are surveyed is said of loops that are there.
use Rattle.std.specs.Prelude.{◌≡◌, ℕ, List, Some, slice_get}
use Rattle.std.specs.List.{All}
use Rattle.p3l_firing.specs.declared.net.Net.{Net}
use Rattle.p3l_firing.specs.declared.process.Proc.{Proc}
use Rattle.p3l_firing.specs.declared.process.ProcKind.TheVariants as kinds
use Rattle.p3l_firing.specs.Typed.{IsTyped}
use Rattle.p3l_net.specs.Fitting.{LoopPlace}
use Rattle.p3l_fitting.specs.Survey.{linked_loops}
use Rattle.p3l_link.specs.Laws.{IsLinkable, net_of}
use Rattle.p3l_template.specs.Units.{Units}

-- a net has the head and the tail of a loop at a place
pub record HasLoopAt (net : Net) (place : LoopPlace) : Type 0 where
  pub head : Proc
  pub tail : Proc
  pub head_is : slice_get net.procs place.head ≡ Some head
  pub tail_is : slice_get net.procs place.tail ≡ Some tail
  pub enters : head.kind ≡ kinds.Head
  pub leaves : tail.kind ≡ kinds.Tail
  pub node : tail.node ≡ head.node

-- a linked net has one at each place that is surveyed for it
abbrev pub EveryLoopIsThere : Type 0
EveryLoopIsThere =
    (units : Units) (counts : List ℕ) (cap : ℕ) → IsTyped units.tree (net_of units counts cap) → IsLinkable units counts cap
    → All (HasLoopAt (net_of units counts cap)) (linked_loops units.tree counts)
