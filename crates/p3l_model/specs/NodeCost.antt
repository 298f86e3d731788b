-- The cost of a node without its parts, as the program keeps it: times are counted up to one that no service
-- time reaches.
use Rattle.std.specs.Prelude.{ℕ, ◌+◌, ◌*◌, min, Option, Some, None}
use Rattle.std.specs.Int.{div_ceil}
use Rattle.p3l_base.specs.Cut.{element_count}
use Rattle.p3l_base.specs.Limits.{most_workers}
use Rattle.p3l_skel.specs.declared.tree.Form.{Form}
use Rattle.p3l_skel.specs.declared.tree.Form.TheVariants.{Seq, Comp, Pipe, Farm, Map, Reduce}
use Rattle.p3l_skel.specs.declared.tree.Form.TheVariants as form
use Rattle.p3l_skel.specs.declared.tree.Tree.{Tree}
use Rattle.p3l_skel.specs.Tree.{node_at, part_at}
use Rattle.p3l_cost.specs.declared.costs.Costs.{Costs}
use Rattle.p3l_model.specs.declared.cost.Span.{Span}
use Rattle.p3l_model.specs.declared.cost.Sharing.{Sharing}
use Rattle.p3l_model.specs.declared.cost.Sharing.TheVariants.{Items, Elements}
use Rattle.p3l_model.specs.declared.cost.FoldCost.{FoldCost}
use Rattle.p3l_model.specs.declared.cost.NodeCost.{NodeCost}
use Rattle.p3l_model.specs.declared.cost.NodeCost.TheVariants.{Unit, Stages, Workers, Segments, Loop}
use Rattle.p3l_model.specs.Service.{ticks, unit_service, farm_ends, map_ends, loop_ends, expected_turns, reduce_service}

-- a time that no service time reaches: 2 ^ 100
abbrev pub never : ℕ
never = 1267650600228229401496703205376

-- a time, as far as it counts
abbrev pub timed : ℕ → ℕ
timed n = min n never

-- the service time of n workers, where their part has this one
abbrev pub shared : Sharing → ℕ → ℕ → ℕ
shared Items n part = div_ceil part n
shared (Elements count) n part = div_ceil count n * part

-- the service time of a reduce with m segments
abbrev pub segments_service : FoldCost → ℕ → ℕ
segments_service fold m = reduce_service (λ w. fold.setup + fold.word * w) fold.len fold.elem fold.operator m

-- the numbers from the least on, or the clause's alone
abbrev pub span_up_to : Option ℕ → ℕ → Span
span_up_to None high = record { low = 1; high = high }
span_up_to (Some n) high = record { low = n; high = n }

-- the numbers of workers that a node of this form may have
abbrev pub span_of : Form → Span
span_of Seq = record { low = 0; high = 0 }
span_of Comp = record { low = 0; high = 0 }
span_of Pipe = record { low = 0; high = 0 }
span_of (Farm w) = span_up_to w most_workers
span_of (Map w cut) = span_up_to w (min (element_count cut) most_workers)
span_of (Reduce w len elem) = span_up_to w (min len most_workers)
span_of (form.Loop turns tokens) = record { low = 0; high = 0 }

-- the cost of a node of this form
abbrev pub node_cost_row : Tree → Costs → ℕ → Form → NodeCost
node_cost_row tree costs k Seq = Unit (timed (unit_service tree costs k))
node_cost_row tree costs k Comp = Unit (timed (unit_service tree costs k))
node_cost_row tree costs k Pipe = Stages
node_cost_row tree costs k (Farm w) = Workers (span_of (Farm w)) Items (timed (farm_ends tree costs k))
node_cost_row tree costs k (Map w cut) = Workers (span_of (Map w cut)) (Elements (element_count cut)) (timed (map_ends tree costs k cut))
node_cost_row tree costs k (Reduce w len elem) =
    Segments (span_of (Reduce w len elem)) (record { setup = costs.setup; word = costs.word; len = len; elem = elem; operator = timed (ticks tree costs (part_at tree k 0)) })
node_cost_row tree costs k (form.Loop turns tokens) = Loop (expected_turns tree costs k) (timed (loop_ends tree costs k))

-- the cost of a node
unfoldable pub node_cost : Tree → Costs → ℕ → NodeCost
node_cost tree costs k = node_cost_row tree costs k (node_at tree k).form
