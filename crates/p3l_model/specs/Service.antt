-- The cost model: the ticks of an item in one process, and the service time of a node, which is the time
-- from one item to the next where items never end.
use Rattle.std.specs.Prelude.{ℕ, ◌+◌, ◌-◌, ◌*◌, ◌==◌, max, if◌then◌else◌, List, [], ◌∷◌, sum_by, slice_index}
use Rattle.std.specs.Int.{div_ceil}
use Rattle.p3l_base.specs.declared.cut.Cut.{Cut}
use Rattle.p3l_base.specs.Cut.{element_count}
use Rattle.p3l_skel.specs.declared.tree.Form.{Form}
use Rattle.p3l_skel.specs.declared.tree.Form.TheVariants.{Seq, Comp, Pipe, Farm, Map, Reduce, Loop}
use Rattle.p3l_skel.specs.declared.tree.Tree.{Tree}
use Rattle.p3l_skel.specs.Tree.{node_at, part_at, by_parts, nesting}
use Rattle.p3l_skel.specs.Counts.{outside_parts, count_of}
use Rattle.p3l_cost.specs.declared.costs.Costs.{Costs}

-- the ticks in which a token of n words is taken or handed on
abbrev pub transfer : Costs → ℕ → ℕ
transfer costs words = costs.setup + costs.word * words

-- the ticks of a sequential node of this form, whose module has `own` and whose parts have `inner` in all
abbrev pub ticks_row : Form → ℕ → ℕ → ℕ
ticks_row Seq own inner = own
ticks_row Comp own inner = inner
ticks_row Pipe own inner = 0
ticks_row (Farm w) own inner = 0
ticks_row (Map w cut) own inner = element_count cut * inner
ticks_row (Reduce w len elem) own inner = (len - 1) * inner
ticks_row (Loop turns tokens) own inner = 0

-- the ticks of a node, down to a depth
unfoldable pub ticks_to : Tree → Costs → ℕ → ℕ → ℕ
ticks_to tree costs =
    by_parts (λ below k. ticks_row (node_at tree k).form (slice_index costs.ticks (node_at tree k).module) (sum_by below (node_at tree k).parts)) (λ k. 0)

-- the ticks of an item in a sequential node
abbrev pub ticks : Tree → Costs → ℕ → ℕ
ticks tree costs node = ticks_to tree costs nesting node

-- the service time of a process that runs a node
abbrev pub unit_service : Tree → Costs → ℕ → ℕ
unit_service tree costs k = ticks tree costs k + transfer costs (node_at tree k).ins + transfer costs (node_at tree k).outs

-- the greater of the service times of a farm's two ends
abbrev pub farm_ends : Tree → Costs → ℕ → ℕ
farm_ends tree costs k = max (2 * transfer costs (node_at tree k).ins) (2 * transfer costs (node_at tree k).outs)

-- the greater of the service times of a map's two ends: one scatters the elements, one gathers the results
abbrev pub map_ends : Tree → Costs → ℕ → Cut → ℕ
map_ends tree costs k cut =
    max (transfer costs (node_at tree k).ins + element_count cut * transfer costs (node_at tree (part_at tree k 0)).ins)
    (element_count cut * transfer costs (node_at tree (part_at tree k 0)).outs + transfer costs (node_at tree k).outs)

-- the turns that are expected of a loop
abbrev pub expected_turns : Tree → Costs → ℕ → ℕ
expected_turns tree costs k = slice_index costs.turns (node_at tree k).module

-- the greater of the service times of a loop's two ends: one lets items in, one tests the condition
abbrev pub loop_ends : Tree → Costs → ℕ → ℕ
loop_ends tree costs k =
    max (2 * (expected_turns tree costs k * transfer costs (node_at tree k).ins))
    (expected_turns tree costs k * (ticks tree costs (part_at tree k 1) + 2 * transfer costs (node_at tree k).ins))

-- the service time of a process that folds `len` elements of `elem` words each
abbrev pub fold_service : (ℕ → ℕ) → ℕ → ℕ → ℕ → ℕ
fold_service transfer len elem operator = (len - 1) * operator + (transfer (len * elem) + transfer elem)

-- the service time of the process that splits the whole into m segments, the longest of `long` words
abbrev pub split_service : (ℕ → ℕ) → ℕ → ℕ → ℕ → ℕ
split_service transfer whole long m = transfer whole + m * transfer long

-- the service time of a process that joins two results
abbrev pub join_service : (ℕ → ℕ) → ℕ → ℕ → ℕ
join_service transfer elem operator = operator + 3 * transfer elem

-- the service time of a reduce with m segments
abbrev pub reduce_service : (ℕ → ℕ) → ℕ → ℕ → ℕ → ℕ → ℕ
reduce_service transfer len elem operator m =
    if m == 1 then fold_service transfer len elem operator
    else max (max (split_service transfer (len * elem) (div_ceil len m * elem) m) (fold_service transfer (div_ceil len m) elem operator)) (join_service transfer elem operator)

-- the greatest of some numbers
abbrev pub greatest_by : (ℕ → ℕ) → List ℕ → ℕ
greatest_by f [] = 0
greatest_by f (x ∷ xs) = max (f x) (greatest_by f xs)

-- the greatest of what the parts of a node that are outside units come to
abbrev pub inner_greatest : Tree → (ℕ → ℕ) → ℕ → ℕ
inner_greatest tree below node = greatest_by below (outside_parts (node_at tree node).form (node_at tree node).parts)

-- the service time of a node of this form with n workers, where the slowest of its parts outside
-- units has `inner`
abbrev pub service_row : Tree → Costs → ℕ → Form → ℕ → ℕ → ℕ
service_row tree costs k Seq n inner = unit_service tree costs k
service_row tree costs k Comp n inner = unit_service tree costs k
service_row tree costs k Pipe n inner = inner
service_row tree costs k (Farm w) n inner = max (farm_ends tree costs k) (div_ceil inner n)
service_row tree costs k (Map w cut) n inner = max (map_ends tree costs k cut) (div_ceil (element_count cut) n * inner)
service_row tree costs k (Reduce w len elem) n inner = reduce_service (transfer costs) len elem (ticks tree costs (part_at tree k 0)) n
service_row tree costs k (Loop turns tokens) n inner = max (loop_ends tree costs k) (expected_turns tree costs k * inner)

-- the service time of a node, where it is known how many workers each node has, down to a depth
unfoldable pub service_by : Tree → Costs → (ℕ → ℕ) → ℕ → ℕ → ℕ
service_by tree costs count =
    by_parts (λ below k. service_row tree costs k (node_at tree k).form (count k) (inner_greatest tree below k)) (λ k. 0)

-- the service time of a node
abbrev pub service : Tree → Costs → List ℕ → ℕ → ℕ
service tree costs counts node = service_by tree costs (count_of tree counts) nesting node
