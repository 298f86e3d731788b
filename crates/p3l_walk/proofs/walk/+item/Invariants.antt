use Rattle.std.proofs.Common.{◌≡◌, ◌+◌, ◌-◌, ◌*◌, ◌^◌, drop, map, length, slice_index}
use Rattle.std.specs.List.{All, range_with_len}
use Rattle.p3l_base.specs.declared.outcome.Outcome.TheVariants.{Value}
use Rattle.p3l_base.specs.Cut.{element_words}
use Rattle.p3l_skel.specs.Tree.{node_at}
use Rattle.p3l_skel.specs.Item.{in_order, item, turned, turns_spent}
use Rattle.p3l_skel.proofs.Stages.{FitsStages}
use Rattle.p3l_walk.specs.Notes.{element_notes, noted_by, notes, stage_notes, turn_notes}
use Rattle.p3l_walk.proofs.walk.+item.Given as goal

-- parts have greater numbers than their node, and the parts of a fold are shorter
abbrev pub decreases-item_outcome : goal.decreases-item_outcome
decreases-item_outcome g l = (128 - l.node) * 2 ^ 65

abbrev pub decreases-next_outcome : goal.decreases-next_outcome
decreases-next_outcome g l = (128 - l.node) * 2 ^ 65 + 1

abbrev pub decreases-stages_outcome : goal.decreases-stages_outcome
decreases-stages_outcome g l = (128 - slice_index l.node.now.parts 0) * 2 ^ 65 + 2

abbrev pub decreases-map_outcome : goal.decreases-map_outcome
decreases-map_outcome g l = (128 - l.part) * 2 ^ 65 + 1

abbrev pub decreases-fold_outcome : goal.decreases-fold_outcome
decreases-fold_outcome g l = (128 - l.operator) * 2 ^ 65 + 2 + length l.elements.now

abbrev pub decreases-loop_outcome : goal.decreases-loop_outcome
decreases-loop_outcome g l = (128 - slice_index l.node.now.parts 0) * 2 ^ 65 + 1

-- the stages that are left make of the outcome what all make of the words, and they fit it; what is
-- noted of them is what is left to note
abbrev pub invariant-stages_outcome-loop-stage : goal.invariant-stages_outcome-loop-stage
invariant-stages_outcome-loop-stage g l = record {
  so_far : in_order (item l.tree (g.L.Leaves.leaf l.leaves)) (drop l.stage-index l.stage-items) l.outcome ≡ in_order (item l.tree (g.L.Leaves.leaf l.leaves)) l.stage-items (Value l.words);
  chain : FitsStages l.tree l.node.outs (drop l.stage-index l.stage-items) l.outcome;
  noted : noted_by g.L.Leaves.noted l.tally (stage_notes (item l.tree (g.L.Leaves.leaf l.leaves)) (notes l.tree (g.L.Leaves.leaf l.leaves) (g.L.Leaves.steps l.leaves)) (drop l.stage-index l.stage-items) l.outcome) ≡ noted_by g.L.Leaves.noted l.fn.tally (stage_notes (item l.tree (g.L.Leaves.leaf l.leaves)) (notes l.tree (g.L.Leaves.leaf l.leaves) (g.L.Leaves.steps l.leaves)) l.stage-items (Value l.words));
}

-- the elements so far gave the results; those that are left are left to note
abbrev pub invariant-map_outcome-loop-e : goal.invariant-map_outcome-loop-e
invariant-map_outcome-loop-e g l =
    let part = item l.tree (g.L.Leaves.leaf l.leaves) l.part in
    record {
      so_far : map (λ result. Value result) l.results ≡ map (λ e. part (element_words l.cut.ins l.cut.second l.words e)) (range_with_len 0 l.e);
      sized : All (λ result. length result ≡ (node_at l.tree l.part).outs) l.results;
      noted : noted_by g.L.Leaves.noted l.tally (element_notes (λ e. part (element_words l.cut.ins l.cut.second l.words e)) (λ e. notes l.tree (g.L.Leaves.leaf l.leaves) (g.L.Leaves.steps l.leaves) l.part (element_words l.cut.ins l.cut.second l.words e)) (range_with_len l.e (l.cut.first * l.cut.second - l.e)))
          ≡ noted_by g.L.Leaves.noted l.fn.tally (element_notes (λ e. part (element_words l.cut.ins l.cut.second l.words e)) (λ e. notes l.tree (g.L.Leaves.leaf l.leaves) (g.L.Leaves.steps l.leaves) l.part (element_words l.cut.ins l.cut.second l.words e)) (range_with_len 0 (l.cut.first * l.cut.second)));
    }

-- the turns that are left make of the state what all make of the words, and are left to note
abbrev pub invariant-loop_outcome-loop-made : goal.invariant-loop_outcome-loop-made
invariant-loop_outcome-loop-made g l =
    let body = item l.tree (g.L.Leaves.leaf l.leaves) (slice_index l.node.parts 0) in
    let condition = item l.tree (g.L.Leaves.leaf l.leaves) (slice_index l.node.parts 1) in
    let left = turn_notes l.node.module body condition (notes l.tree (g.L.Leaves.leaf l.leaves) (g.L.Leaves.steps l.leaves) (slice_index l.node.parts 0)) (notes l.tree (g.L.Leaves.leaf l.leaves) (g.L.Leaves.steps l.leaves) (slice_index l.node.parts 1)) in
    record {
      so_far : turned body condition (turns_spent l.node.module) (l.turns - l.made) l.state ≡ turned body condition (turns_spent l.node.module) l.turns l.words;
      sized : length l.state ≡ l.node.ins;
      noted : noted_by g.L.Leaves.noted l.tally (left l.made (l.turns - l.made) l.state) ≡ noted_by g.L.Leaves.noted l.fn.tally (left 0 l.turns l.words);
    }
