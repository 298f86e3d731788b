-- The bottleneck of a tree, and the part of its time that makes it so.
use Rattle.std.specs.Prelude.{ℕ, ◌+◌, ◌-◌, ◌*◌, ◌==◌, max, nat_le, if◌then◌else◌, Bool, true, false, List, [], ◌∷◌, find, unwrap_or}
use Rattle.std.specs.List.{flat_map}
use Rattle.std.specs.Int.{div_ceil}
use Rattle.p3l_base.specs.Cut.{element_count}
use Rattle.p3l_skel.specs.declared.tree.Form.{Form}
use Rattle.p3l_skel.specs.declared.tree.Form.TheVariants.{Seq, Comp, Pipe, Farm, Map, Reduce, Loop}
use Rattle.p3l_skel.specs.declared.tree.Tree.{Tree}
use Rattle.p3l_skel.specs.Counts.{outside_parts}
use Rattle.p3l_skel.specs.Tree.{node_at, part_at, by_parts, nesting}
use Rattle.p3l_cost.specs.declared.costs.Costs.{Costs}
use Rattle.p3l_model.specs.declared.cost.NodeCost.{NodeCost}
use Rattle.p3l_model.specs.declared.cost.NodeCost.TheVariants as cost
use Rattle.p3l_model.specs.Service.{service, transfer, ticks, farm_ends, map_ends, loop_ends, expected_turns, split_service, join_service}
use Rattle.p3l_advise.specs.declared.bottleneck.Term.{Term}
use Rattle.p3l_advise.specs.declared.bottleneck.Term.TheVariants.{Reading, Work, Writing}

-- true exactly if a node of this form is a stage of its own, as all but pipes are
abbrev pub is_stage : Form → Bool
is_stage Seq = true
is_stage Comp = true
is_stage Pipe = false
is_stage (Farm w) = true
is_stage (Map w cut) = true
is_stage (Reduce w len elem) = true
is_stage (Loop turns tokens) = true

-- the stages of a node, in preorder, down to a depth: the nodes other than pipes that are reached from it
-- through pipes alone
unfoldable pub stages_from : Tree → ℕ → ℕ → List ℕ
stages_from tree =
    by_parts (λ below k. if is_stage (node_at tree k).form then k ∷ [] else flat_map below (outside_parts (node_at tree k).form (node_at tree k).parts)) (λ k. k ∷ [])

-- the stages of the whole, whose service time is the greatest of theirs
abbrev pub stages : Tree → List ℕ
stages tree = stages_from tree nesting 0

-- the bottleneck: the first stage whose service time is that of the whole
abbrev pub bottleneck : Tree → Costs → (counts : List ℕ) → ℕ
bottleneck tree costs counts =
    unwrap_or (find (λ k. service tree costs counts k == service tree costs counts 0) (stages tree)) 0

-- the greatest part of the time of one process, which reads, works and writes in turn
abbrev pub in_turn : (time reading writing : ℕ) → Term
in_turn time reading writing =
    if nat_le (max writing (time - (reading + writing))) reading then Reading
    else if nat_le (time - (reading + writing)) writing then Writing else Work

-- the part that takes the whole time, where one process reads and another writes; `ends` is the greater
-- of their times
abbrev pub at_once : (time reading ends : ℕ) → Term
at_once time reading ends = if time == reading then Reading else if time == ends then Writing else Work

-- the part of a reduce's time with m segments: one process, or one that splits, some that fold and some that join
abbrev pub reduce_term : Costs → (time len elem operator m : ℕ) → Term
reduce_term costs time len elem operator m =
    if m == 1 then in_turn time (transfer costs (len * elem)) (transfer costs elem)
    else at_once time (split_service (transfer costs) (len * elem) (div_ceil len m * elem) m) (join_service (transfer costs) elem operator)

-- the part of a node's own time that makes its service time
abbrev pub term_row : Tree → Costs → ℕ → Form → (time count : ℕ) → Term
term_row tree costs k Seq time count = in_turn time (transfer costs (node_at tree k).ins) (transfer costs (node_at tree k).outs)
term_row tree costs k Comp time count = in_turn time (transfer costs (node_at tree k).ins) (transfer costs (node_at tree k).outs)
term_row tree costs k Pipe time count = Work
term_row tree costs k (Farm w) time count = at_once time (2 * transfer costs (node_at tree k).ins) (farm_ends tree costs k)
term_row tree costs k (Map w cut) time count =
    at_once time (transfer costs (node_at tree k).ins + element_count cut * transfer costs (node_at tree (part_at tree k 0)).ins) (map_ends tree costs k cut)
term_row tree costs k (Reduce w len elem) time count = reduce_term costs time len elem (ticks tree costs (part_at tree k 0)) count
term_row tree costs k (Loop turns tokens) time count =
    at_once time (2 * (expected_turns tree costs k * transfer costs (node_at tree k).ins)) (loop_ends tree costs k)

-- the greater of the times of a node's two ends, as the program keeps it
abbrev pub ends_of : NodeCost → ℕ
ends_of (cost.Unit s) = 0
ends_of cost.Stages = 0
ends_of (cost.Workers r h e) = e
ends_of (cost.Segments r fold) = 0
ends_of (cost.Loop t e) = e

-- the part of the time of a node of this cost, if it is a reduce
abbrev pub segments_term : NodeCost → Costs → (time m : ℕ) → Term
segments_term (cost.Unit s) costs time m = Work
segments_term cost.Stages costs time m = Work
segments_term (cost.Workers r h e) costs time m = Work
segments_term (cost.Segments r fold) costs time m = reduce_term costs time fold.len fold.elem fold.operator m
segments_term (cost.Loop t e) costs time m = Work
