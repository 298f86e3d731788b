-- Costs of a node that its rule can take.
use Rattle.std.specs.Prelude.{◌≤◌, ◌<◌, ⊤}
use Rattle.p3l_model.specs.declared.cost.NodeCost.{NodeCost}
use Rattle.p3l_model.specs.declared.cost.NodeCost.TheVariants.{Unit, Stages, Workers, Segments, Loop}
use Rattle.p3l_model.specs.Costed.{IsSharing}
use Rattle.p3l_base.specs.Limits.{most_processors}

-- workers have something to share and are few, and a loop turns
abbrev pub IsUsable : NodeCost → Type 0
IsUsable (Unit s) = ⊤
IsUsable Stages = ⊤
IsUsable (Workers r h e) = IsSharing h × (r.low ≤ most_processors)
IsUsable (Segments r fold) = ⊤
IsUsable (Loop turns e) = 0 < turns
