-- Counts of a tree's processes, and of their firings for one item.
use Rattle.std.specs.Prelude.{ℕ, zero, suc, ◌+◌, ◌-◌, ◌*◌, ◌^◌, ◌≤◌, ◌==◌, nat_le, if◌then◌else◌, unwrap_or, List, sum_by}
use Rattle.p3l_base.specs.Cut.{element_count}
use Rattle.p3l_skel.specs.declared.tree.Form.{Form}
use Rattle.p3l_skel.specs.declared.tree.Form.TheVariants.{Seq, Comp, Pipe, Farm, Map, Reduce, Loop}
use Rattle.p3l_skel.specs.declared.tree.Tree.{Tree}
use Rattle.p3l_skel.specs.declared.work.Joining.{Joining}
use Rattle.p3l_skel.specs.declared.work.Joining.TheVariants.{Flat}
use Rattle.p3l_skel.specs.declared.work.Joining.TheVariants as joining
use Rattle.p3l_skel.specs.Tree.{node_at, by_parts, nesting}
use Rattle.p3l_skel.specs.Counts.{outside_parts, count_of, HasLawfulCounts}

-- the processes of a reduce with m segments: one that folds the whole, or one for each segment,
-- one that splits, and the others that join the segments' results two by two
abbrev pub joined_procs : ℕ → ℕ
joined_procs m = if m == 1 then 1 else 2 * m

-- the firings of such a reduce for one item
abbrev pub joined_firings : ℕ → ℕ
joined_firings m = if m == 1 then 1 else 3 * m

-- the firings of a reduce for one item where one process gathers the results of all segments
abbrev pub flat_firings : ℕ → ℕ
flat_firings m = if m == 1 then 1 else 3 * m + 2

-- the firings of a reduce, as its segments' results come together
abbrev pub reduce_firings : Joining → ℕ → ℕ
reduce_firings Flat m = flat_firings m
reduce_firings joining.Tree m = joined_firings m

-- the processes of a node of this form with n workers, where its parts outside units have
-- `inner` in all
abbrev pub procs_row : Form → ℕ → ℕ → ℕ
procs_row Seq n inner = 1
procs_row Comp n inner = 1
procs_row Pipe n inner = inner
procs_row (Farm w) n inner = 2 + n * inner
procs_row (Map w cut) n inner = 2 + n * inner
procs_row (Reduce w len elem) n inner = joined_procs n
procs_row (Loop turns tokens) n inner = 2 + inner

-- the sum over a node's parts that are outside units
abbrev pub inner_sum : Tree → (ℕ → ℕ) → ℕ → ℕ
inner_sum tree below node = sum_by below (outside_parts (node_at tree node).form (node_at tree node).parts)

-- the processes of a node, where it is known how many workers each node has, down to a depth
unfoldable pub procs_by : Tree → (ℕ → ℕ) → ℕ → ℕ → ℕ
procs_by tree count =
    by_parts (λ below k. procs_row (node_at tree k).form (count k) (inner_sum tree below k)) (λ k. 1)

-- the processes of a node
abbrev pub procs : Tree → List ℕ → ℕ → ℕ
procs tree counts node = procs_by tree (count_of tree counts) nesting node

-- lawful counts with which the tree has no more processes than there are processors
pub record Fits (tree : Tree) (processors : ℕ) (counts : List ℕ) : Type 0 where
  pub lawful : HasLawfulCounts tree counts
  pub few : procs tree counts 0 ≤ processors

-- the firings of a node of this form for one item, where its parts outside units have `inner` in
-- all; `reduce` gives those of a reduce with a number of segments
abbrev pub firings_row : (ℕ → ℕ) → Form → ℕ → ℕ → ℕ
firings_row reduce Seq n inner = 1
firings_row reduce Comp n inner = 1
firings_row reduce Pipe n inner = inner
firings_row reduce (Farm w) n inner = 2 + inner
firings_row reduce (Map w cut) n inner = 2 + 2 * element_count cut + element_count cut * inner
firings_row reduce (Reduce w len elem) n inner = reduce n
firings_row reduce (Loop turns tokens) n inner = turns * inner + 2 * turns + 1

-- the firings of a node for one item, where it is known how many segments each reduce has, down to
-- a depth
unfoldable pub firings_by : (ℕ → ℕ) → Tree → (ℕ → ℕ) → ℕ → ℕ → ℕ
firings_by reduce tree count =
    by_parts (λ below k. firings_row reduce (node_at tree k).form (count k) (inner_sum tree below k)) (λ k. 1)

-- the firings of the whole network for one item: the root's, the source's and the sink's
abbrev pub firings : Tree → List ℕ → ℕ
firings tree counts = firings_by joined_firings tree (count_of tree counts) nesting 0 + 2

-- the most firings of the whole network for `items` items
abbrev pub bound : Tree → List ℕ → ℕ → ℕ
bound tree counts items = items * firings tree counts

-- the greatest number of body runs of a node of this form for one item, if its parts have `inner`
-- in all
abbrev pub runs_row : Form → ℕ → ℕ
runs_row Seq inner = 1
runs_row Comp inner = inner
runs_row Pipe inner = inner
runs_row (Farm w) inner = inner
runs_row (Map w cut) inner = element_count cut * inner
runs_row (Reduce w len elem) inner = (len - 1) * inner
runs_row (Loop turns tokens) inner = turns * inner

-- the greatest number of body runs of a node for one item, down to a depth
unfoldable pub runs_to : Tree → ℕ → ℕ → ℕ
runs_to tree = by_parts (λ below k. runs_row (node_at tree k).form (sum_by below (node_at tree k).parts)) (λ k. 1)

-- the greatest number of body runs of a node for one item
abbrev pub runs : Tree → ℕ → ℕ
runs tree node = runs_to tree nesting node

-- the greatest power of two, with an exponent up to this one, that is at most n
unfoldable pub power_up_to : ℕ → ℕ → ℕ
power_up_to zero n = 1
power_up_to (suc k) n = if nat_le (2 ^ (suc k)) n then 2 ^ (suc k) else power_up_to k n

-- the most segments that a reduce of this form may have: its clause's number, else the greatest
-- power of two up to its length and 512
abbrev pub most_segments : Form → ℕ
most_segments Seq = 1
most_segments Comp = 1
most_segments Pipe = 1
most_segments (Farm w) = 1
most_segments (Map w cut) = 1
most_segments (Reduce w len elem) = unwrap_or w (power_up_to 9 len)
most_segments (Loop turns tokens) = 1

-- the most segments that a node may have
abbrev pub segments_at : Tree → ℕ → ℕ
segments_at tree node = most_segments (node_at tree node).form

-- the most firings of a tree's root for one item under any lawful counts
abbrev pub most_firings : (ℕ → ℕ) → Tree → ℕ
most_firings reduce tree = firings_by reduce tree (segments_at tree) nesting 0
