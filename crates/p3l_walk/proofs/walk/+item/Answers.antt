use Rattle.std.proofs.Common.{◌≡◌, ◌<◌, ◌≤◌, ◌*◌, ◌-◌, ◌+◌, ◌∙◌, ℕ, ℤ, List, length, map, get_or, slice_index, refl, ap, sym, subst, arith, rules, ◌/◌, length-drop}
use Rattle.std.specs.List.{All, range_with_len}
use Rattle.p3l_base.specs.declared.outcome.Outcome.TheVariants.{Value, Trapped}
use Rattle.p3l_base.specs.Cut.{element_words, element_count, joined_words}
use Rattle.p3l_base.specs.laws.Cut.{length-element_words}
use Rattle.p3l_skel.specs.declared.tree.Form.TheVariants.{Comp, Pipe, Seq}
use Rattle.p3l_skel.specs.declared.tree.Node.{Node}
use Rattle.p3l_skel.specs.declared.tree.Tree.{Tree}
use Rattle.p3l_skel.specs.Tree.{node_at, rescue_of, HasLength, GivesOuts}
use Rattle.p3l_skel.specs.Fold.{tree_fold}
use Rattle.p3l_skel.specs.Item.{in_order, item, mapped, rescued, turned, turns_spent}
use Rattle.p3l_walk.proofs.Given.{given-alone, given-along, given-same}
use Rattle.p3l_skel.proofs.Mapped.{mapped-trap, mapped-more, mapped-all, mapped-count, fold-one, fold-more, paired-fits}
use Rattle.p3l_skel.proofs.Elements.{sized-more}
use Rattle.p3l_skel.proofs.Parts.{some_elements, along_ins, form_at, fits_at, fitting, row_at, next_keeps, value_keeps, first_later, least, farm_part, map_part, reduce_part, loop_parts}
use Rattle.p3l_skel.proofs.Stages.{FitsStages, stage_there, stage_fits, stages_fit, in_order-more, in_order-all, FitsStages-first}
use Rattle.p3l_walk.specs.Notes.{element_notes, fold_notes, map_notes, noted_by, notes, notes_on, ran, stage_notes, turn_notes}
use Rattle.p3l_walk.proofs.ByParts.{notes_at}
use Rattle.p3l_walk.proofs.Noting.{noted_by-none, noted_by-one, on_ok, on_ok-along, stage_noted-more, stage_noted-all, element_noted-trap, element_noted-more, element_noted-all, fold_noted-one, fold_noted-trap, fold_noted-more, turn_noted-body_trap, turn_noted-condition_trap, turn_noted-done, turn_noted-again, turn_noted-none}
use Rattle.p3l_walk.proofs.Turned.{turned-body_trap, turned-condition_trap, turned-done, turned-again, turned-none}
use Rattle.p3l_walk.proofs.walk.+item.Goals as goal

pub fold_outcome-returns-then-elements-eq1-clause-folded :
    goal.fold_outcome-returns-then-elements-eq1-clause-folded
fold_outcome-returns-then-elements-eq1-clause-folded g t c =
    fold-one (item c.args.tree.now (g.L.Leaves.leaf c.args.leaves.now) c.args.operator) c.args.elements.now _ _ (omega arith) (c.in_ok-copied.ensures ∙ c.index-elements-0.is)

pub fold_outcome-next_outcome-requires : goal.fold_outcome-next_outcome-requires
fold_outcome-next_outcome-requires g t c κs within =
    let several : 2 ≤ length c.args.elements.now = omega arith in
    let fits = paired-fits (node_at c.args.tree.now c.args.operator).outs (node_at c.args.tree.now c.args.operator).ins (Value c.in-Value.left) c.in_ok-right.right c.in_ok-both.both c.in_ok-both.ensures c.requires.takes_two (subst (HasLength (node_at c.args.tree.now c.args.operator).outs) c.in-Value.is c.in_ok-left.ensures.sized) c.in_ok-right.ensures.sized in
    (omega arith, (within.0, (within.1, (c.requires.lawful, (c.requires.served, (c.requires.there, fits))))))

pub fold_outcome-returns-clause-folded : goal.fold_outcome-returns-clause-folded
fold_outcome-returns-clause-folded g t c =
    let operator = item c.args.tree.now (g.L.Leaves.leaf c.args.leaves.now) c.args.operator in
    let several : 2 ≤ length c.args.elements.now = omega arith in
    given-same _ c.next_outcome.result _ _
    (fold-more operator c.args.elements.now _ _ (Value c.in-Value.left) c.in_ok-right.right c.in_ok-both.both several c.split_at.ensures.front c.split_at.ensures.back (sym c.in-Value.is ∙ c.in_ok-left.ensures.folded) c.in_ok-right.ensures.folded (c.in_ok-both.ensures operator))
    c.next_outcome.ensures.item

pub fold_outcome-returns-clause-sized : goal.fold_outcome-returns-clause-sized
fold_outcome-returns-clause-sized g t c =
    let tree = c.args.tree.now in
    let leaf = g.L.Leaves.leaf c.args.leaves.now in
    let gives = subst (λ (tr : Tree). GivesOuts tr leaf) c.requires.served (g.met.L.Leaves.gives_outs c.args.leaves.now) in
    let fits = paired-fits (node_at tree c.args.operator).outs (node_at tree c.args.operator).ins (Value c.in-Value.left) c.in_ok-right.right c.in_ok-both.both c.in_ok-both.ensures c.requires.takes_two (subst (HasLength (node_at c.args.tree.now c.args.operator).outs) c.in-Value.is c.in_ok-left.ensures.sized) c.in_ok-right.ensures.sized in
    given-along _ (HasLength (node_at tree c.args.operator).outs) c.next_outcome.result _
    (next_keeps tree c.requires.lawful leaf gives c.args.operator c.in_ok-both.both c.requires.there fits)
    c.next_outcome.ensures.item

pub item_outcome-item_outcome-requires : goal.item_outcome-item_outcome-requires
item_outcome-item_outcome-requires g t c κs within =
    let tree = c.args.tree.now in
    let node = c.in-Some.found.now in
    let part : c.part.result ≡ slice_index node.parts 0 = c.part.ensures in
    let farm = farm_part tree c.requires.lawful node c.args.node c.in-Some.ensures.found c.requires.there c.in-Farm.is in
    let low : c.args.node < c.part.result = omega (arith, farm.1, part) in
    let there : c.part.result < length tree.nodes = omega (arith, farm.0.in_tree, part) in
    let fit : length c.args.words.now ≡ node.ins = fitting tree c.requires.lawful node c.args.node _ _ c.in-Some.ensures.found c.in-Farm.is c.requires.fits in
    let same : length c.args.words.now ≡ (node_at tree c.part.result).ins = fit ∙ (sym farm.0.takes ∙ ap (λ p. (node_at tree p).ins) (sym part)) in
    (omega arith, (within.0, (within.1, (c.requires.lawful, (c.requires.served, (there, fits_at tree c.requires.lawful c.part.result _ there same))))))

pub item_outcome-map_outcome-requires : goal.item_outcome-map_outcome-requires
item_outcome-map_outcome-requires g t c κs within =
    let tree = c.args.tree.now in
    let node = c.in-Some.found.now in
    let part : c.part-in-Map.result ≡ slice_index node.parts 0 = c.part-in-Map.ensures in
    let cuts = map_part tree c.requires.lawful node c.args.node c.in-Some.ensures.found c.requires.there c.in-Map.is in
    let low : c.args.node < c.part-in-Map.result = omega (arith, cuts.1, part) in
    let there : c.part-in-Map.result < length tree.nodes = omega (arith, cuts.0.in_tree, part) in
    let fit : length c.args.words.now ≡ node.ins = fitting tree c.requires.lawful node c.args.node _ _ c.in-Some.ensures.found c.in-Map.is c.requires.fits in
    (omega arith, (within.0, (within.1, (c.requires.lawful, (c.requires.served, (there, rw part (along_ins c.in-Map.cut _ _ _ _ _ fit cuts.0.cuts)))))))

pub item_outcome-fold_outcome-requires : goal.item_outcome-fold_outcome-requires
item_outcome-fold_outcome-requires g t c κs within =
    let tree = c.args.tree.now in
    let node = c.in-Some.found.now in
    let part : c.part-in-Reduce.result ≡ slice_index node.parts 0 = c.part-in-Reduce.ensures in
    let reduce = reduce_part tree c.requires.lawful node c.args.node c.in-Some.ensures.found c.requires.there c.in-Reduce.is in
    let low : c.args.node < c.part-in-Reduce.result = omega (arith, reduce.1, part) in
    let there : c.part-in-Reduce.result < length tree.nodes = omega (arith, reduce.0.operator.in_tree, part) in
    let fit = fitting tree c.requires.lawful node c.args.node _ (length c.args.words.now) c.in-Some.ensures.found c.in-Reduce.is c.requires.fits in
    let takes : (node_at tree c.part-in-Reduce.result).ins ≡ 2 * c.in-Reduce.elem = ap (λ p. (node_at tree p).ins) part ∙ reduce.0.operator.takes in
    let gives : (node_at tree c.part-in-Reduce.result).outs ≡ c.in-Reduce.elem = ap (λ p. (node_at tree p).outs) part ∙ reduce.0.operator.gives in
    let list = c.as_slice.ensures ∙ c.in_ok-list-in-Reduce.ensures.elements in
    let some : 1 ≤ length c.as_slice.result.now = rw list (some_elements c.in-Reduce.elem 0 c.args.words.now reduce.2 fit) in
    let sized = subst (λ n. All (λ (e : List ℤ). length e ≡ n) c.as_slice.result.now) (sym gives) (subst (All (λ (e : List ℤ). length e ≡ c.in-Reduce.elem)) (sym c.as_slice.ensures) c.in_ok-list-in-Reduce.ensures.sized) in
    (omega arith, (within.0, (within.1, (c.requires.lawful, (c.requires.served, (there, (takes ∙ ap (λ n. 2 * n) (sym gives), (some, sized))))))))

pub item_outcome-loop_outcome-requires : goal.item_outcome-loop_outcome-requires
item_outcome-loop_outcome-requires g t c κs within =
    let tree = c.args.tree.now in
    let node = c.in-Some.found.now in
    let parts = loop_parts tree c.requires.lawful node c.args.node c.in-Some.ensures.found c.requires.there c.in-Loop.is in
    let low : c.args.node < slice_index node.parts 0 = parts.1 in
    let fit : length c.args.words.now ≡ node.ins = fitting tree c.requires.lawful node c.args.node _ _ c.in-Some.ensures.found c.in-Loop.is c.requires.fits in
    (omega arith, (within.0, (within.1, (c.requires.lawful, (c.requires.served, (parts.0.parts, (parts.2, fit)))))))

pub item_outcome-stages_outcome-requires : goal.item_outcome-stages_outcome-requires
item_outcome-stages_outcome-requires g t c κs within =
    let tree = c.args.tree.now in
    let node = c.in-Some.found.now in
    let lawful = form_at tree c.requires.lawful node c.args.node Comp c.in-Some.ensures.found c.requires.there c.in-Comp.is in
    let low : c.args.node < slice_index node.parts 0 = first_later tree c.requires.lawful node c.args.node c.in-Some.ensures.found c.requires.there lawful.0 in
    let fit : length c.args.words.now ≡ node.ins = fitting tree c.requires.lawful node c.args.node Comp _ c.in-Some.ensures.found c.in-Comp.is c.requires.fits in
    (omega arith, (within.0, (within.1, (c.requires.lawful, (c.requires.served, (lawful.1, (least tree c.requires.lawful node c.args.node c.in-Some.ensures.found c.requires.there, fit)))))))

pub item_outcome-stages_outcome-requires-in-Pipe : goal.item_outcome-stages_outcome-requires-in-Pipe
item_outcome-stages_outcome-requires-in-Pipe g t c κs within =
    let tree = c.args.tree.now in
    let node = c.in-Some.found.now in
    let lawful = form_at tree c.requires.lawful node c.args.node Pipe c.in-Some.ensures.found c.requires.there c.in-Pipe.is in
    let low : c.args.node < slice_index node.parts 0 = first_later tree c.requires.lawful node c.args.node c.in-Some.ensures.found c.requires.there lawful.0 in
    let fit : length c.args.words.now ≡ node.ins = fitting tree c.requires.lawful node c.args.node Pipe _ c.in-Some.ensures.found c.in-Pipe.is c.requires.fits in
    (omega arith, (within.0, (within.1, (c.requires.lawful, (c.requires.served, (lawful.1, (least tree c.requires.lawful node c.args.node c.in-Some.ensures.found c.requires.there, fit)))))))

pub item_outcome-returns-in-Farm-clause-item : goal.item_outcome-returns-in-Farm-clause-item
item_outcome-returns-in-Farm-clause-item g t c =
    let tree = c.args.tree.now in
    let leaf = g.L.Leaves.leaf c.args.leaves.now in
    given-same _ c.item_outcome.result _ _
    (ap (λ p. item tree leaf p c.args.words.now) c.part.ensures ∙ row_at tree c.requires.lawful leaf c.in-Some.found.now c.args.node _ c.args.words.now c.in-Some.ensures.found c.requires.there c.in-Farm.is)
    c.item_outcome.ensures.item

pub item_outcome-returns-in-Map-clause-item : goal.item_outcome-returns-in-Map-clause-item
item_outcome-returns-in-Map-clause-item g t c =
    let tree = c.args.tree.now in
    let leaf = g.L.Leaves.leaf c.args.leaves.now in
    given-same _ c.map_outcome.result _ _
    (ap (λ p. mapped c.in-Map.cut (item tree leaf p) c.args.words.now) c.part-in-Map.ensures ∙ row_at tree c.requires.lawful leaf c.in-Some.found.now c.args.node _ c.args.words.now c.in-Some.ensures.found c.requires.there c.in-Map.is)
    c.map_outcome.ensures.item

pub item_outcome-returns-in_ok-list-in-Reduce-clause-item : goal.item_outcome-returns-in_ok-list-in-Reduce-clause-item
item_outcome-returns-in_ok-list-in-Reduce-clause-item g t c =
    let tree = c.args.tree.now in
    let leaf = g.L.Leaves.leaf c.args.leaves.now in
    let list = c.as_slice.ensures ∙ c.in_ok-list-in-Reduce.ensures.elements in
    given-same _ c.fold_outcome.result _ _
    (ap (λ p. tree_fold (item tree leaf p) (map (λ (e : List ℤ). Value e) c.as_slice.result.now)) c.part-in-Reduce.ensures
    ∙ (ap (λ (l : List (List ℤ)). tree_fold (item tree leaf (slice_index c.in-Some.found.now.parts 0)) (map (λ e. Value e) l)) list
    ∙ row_at tree c.requires.lawful leaf c.in-Some.found.now c.args.node _ c.args.words.now c.in-Some.ensures.found c.requires.there c.in-Reduce.is))
    c.fold_outcome.ensures.folded

pub item_outcome-returns-in-Loop-clause-item : goal.item_outcome-returns-in-Loop-clause-item
item_outcome-returns-in-Loop-clause-item g t c =
    given-same _ c.loop_outcome.result _ _
    (row_at c.args.tree.now c.requires.lawful (g.L.Leaves.leaf c.args.leaves.now) c.in-Some.found.now c.args.node _ c.args.words.now c.in-Some.ensures.found c.requires.there c.in-Loop.is)
    c.loop_outcome.ensures.item

pub item_outcome-returns-in_ok-outcome-in-Comp-clause-item : goal.item_outcome-returns-in_ok-outcome-in-Comp-clause-item
item_outcome-returns-in_ok-outcome-in-Comp-clause-item g t c =
    let node = c.in-Some.found.now in
    given-alone _ c.rescue.result _ _
    (ap (rescued (rescue_of c.args.tree.now node.module) node.outs) c.in_ok-outcome-in-Comp.ensures.item
    ∙ row_at c.args.tree.now c.requires.lawful (g.L.Leaves.leaf c.args.leaves.now) node c.args.node Comp c.args.words.now c.in-Some.ensures.found c.requires.there c.in-Comp.is)
    c.rescue.ensures

pub item_outcome-returns-in-Pipe-clause-item : goal.item_outcome-returns-in-Pipe-clause-item
item_outcome-returns-in-Pipe-clause-item g t c =
    given-same _ c.stages_outcome-in-Pipe.result _ _
    (row_at c.args.tree.now c.requires.lawful (g.L.Leaves.leaf c.args.leaves.now) c.in-Some.found.now c.args.node Pipe c.args.words.now c.in-Some.ensures.found c.requires.there c.in-Pipe.is)
    c.stages_outcome-in-Pipe.ensures.item

pub loop_outcome-item_outcome-requires : goal.loop_outcome-item_outcome-requires
loop_outcome-item_outcome-requires g t c κs within =
    let tree = c.args.tree.now in
    let part : c.part.result ≡ slice_index c.args.node.now.parts 0 = c.part.ensures in
    let body = c.requires.parts.turned in
    let there : c.part.result < length tree.nodes = omega (arith, body.in_tree, part) in
    let same : length c.loop-made.state ≡ (node_at tree c.part.result).ins = c.loop-made.invariant.sized ∙ (sym body.takes ∙ ap (λ p. (node_at tree p).ins) (sym part)) in
    (omega arith, (within.0, (within.1, (c.requires.lawful, (c.requires.served, (there, fits_at tree c.requires.lawful c.part.result _ there same))))))

pub loop_outcome-returns-in-Trapped-clause-item : goal.loop_outcome-returns-in-Trapped-clause-item
loop_outcome-returns-in-Trapped-clause-item g t c =
    let tree = c.args.tree.now in
    let leaf = g.L.Leaves.leaf c.args.leaves.now in
    let left : 0 < c.args.turns - c.loop-made.made = omega arith in
    turned-body_trap (item c.args.tree.now leaf (slice_index c.args.node.now.parts 0)) (item c.args.tree.now leaf (slice_index c.args.node.now.parts 1)) (turns_spent c.args.node.now.module) (c.args.turns - c.loop-made.made) c.loop-made.state c.in-Trapped.trap left
    (sym c.in-Trapped.is ∙ (c.in_ok-next.ensures.item ∙ ap (λ p. item tree leaf p c.loop-made.state) c.part.ensures))
    ∙ c.loop-made.invariant.so_far

pub loop_outcome-item_outcome-requires-in-loop-made :
    goal.loop_outcome-item_outcome-requires-in-loop-made
loop_outcome-item_outcome-requires-in-loop-made g t c κs within =
    let tree = c.args.tree.now in
    let leaf = g.L.Leaves.leaf c.args.leaves.now in
    let gives = subst (λ (tr : Tree). GivesOuts tr leaf) c.requires.served (g.met.L.Leaves.gives_outs c.args.leaves.now) in
    let part : c.part-in-loop-made.result ≡ slice_index c.args.node.now.parts 1 = c.part-in-loop-made.ensures in
    let first = slice_index c.args.node.now.parts 0 in
    let body = c.requires.parts.turned in
    let test = c.requires.parts.tested in
    let there : c.part-in-loop-made.result < length tree.nodes = omega (arith, test.in_tree, part) in
    let is = sym c.in-Value.is ∙ (c.in_ok-next.ensures.item ∙ ap (λ p. item tree leaf p c.loop-made.state) c.part.ensures) in
    let long = value_keeps tree c.requires.lawful leaf gives first c.loop-made.state c.in-Value.next body.in_tree (c.loop-made.invariant.sized ∙ sym body.takes) is in
    let same : length c.in-Value.next ≡ (node_at tree c.part-in-loop-made.result).ins = long ∙ (body.gives ∙ (sym c.requires.parts.same_words ∙ (sym test.takes ∙ ap (λ p. (node_at tree p).ins) (sym part)))) in
    (omega arith, (within.0, (within.1, (c.requires.lawful, (c.requires.served, (there, fits_at tree c.requires.lawful c.part-in-loop-made.result _ there same))))))

pub loop_outcome-returns-in-Value-2-clause-item : goal.loop_outcome-returns-in-Value-2-clause-item
loop_outcome-returns-in-Value-2-clause-item g t c =
    let tree = c.args.tree.now in
    let leaf = g.L.Leaves.leaf c.args.leaves.now in
    let left : 0 < c.args.turns - c.loop-made.made = omega arith in
    turned-done (item c.args.tree.now leaf (slice_index c.args.node.now.parts 0)) (item c.args.tree.now leaf (slice_index c.args.node.now.parts 1)) (turns_spent c.args.node.now.module) (c.args.turns - c.loop-made.made) c.loop-made.state c.in-Value.next c.in-Value-2.answer left
    (sym c.in-Value.is ∙ (c.in_ok-next.ensures.item ∙ ap (λ p. item tree leaf p c.loop-made.state) c.part.ensures))
    (sym c.in-Value-2.is ∙ (c.in_ok-answer.ensures.item ∙ ap (λ p. item tree leaf p c.in-Value.next) c.part-in-loop-made.ensures))
    (sym c.is_done.ensures ∙ c.if-is_done.true)
    ∙ c.loop-made.invariant.so_far

pub loop_outcome-returns-in-Trapped-2-clause-item : goal.loop_outcome-returns-in-Trapped-2-clause-item
loop_outcome-returns-in-Trapped-2-clause-item g t c =
    let tree = c.args.tree.now in
    let leaf = g.L.Leaves.leaf c.args.leaves.now in
    let left : 0 < c.args.turns - c.loop-made.made = omega arith in
    turned-condition_trap (item c.args.tree.now leaf (slice_index c.args.node.now.parts 0)) (item c.args.tree.now leaf (slice_index c.args.node.now.parts 1)) (turns_spent c.args.node.now.module) (c.args.turns - c.loop-made.made) c.loop-made.state c.in-Value.next c.in-Trapped-2.trap left
    (sym c.in-Value.is ∙ (c.in_ok-next.ensures.item ∙ ap (λ p. item tree leaf p c.loop-made.state) c.part.ensures))
    (sym c.in-Trapped-2.is ∙ (c.in_ok-answer.ensures.item ∙ ap (λ p. item tree leaf p c.in-Value.next) c.part-in-loop-made.ensures))
    ∙ c.loop-made.invariant.so_far

pub loop_outcome-returns-clause-item : goal.loop_outcome-returns-clause-item
loop_outcome-returns-clause-item g t c =
    let none : c.args.turns - c.loop-made.made ≡ 0 = omega arith in
    turned-none (item c.args.tree.now (g.L.Leaves.leaf c.args.leaves.now) (slice_index c.args.node.now.parts 0)) (item c.args.tree.now (g.L.Leaves.leaf c.args.leaves.now) (slice_index c.args.node.now.parts 1)) (turns_spent c.args.node.now.module) (c.args.turns - c.loop-made.made) c.loop-made.state none ∙ c.loop-made.invariant.so_far

pub map_outcome-item_outcome-requires : goal.map_outcome-item_outcome-requires
map_outcome-item_outcome-requires g t c κs within =
    let tree = c.args.tree.now in
    let cut = c.args.cut.now in
    let same : length c.in_ok-element.element ≡ (node_at tree c.args.part).ins = ap length c.in_ok-element.ensures ∙ (length-element_words cut.ins cut.second c.args.words.now c.loop-e.e ∙ c.requires.cuts.part_ins_fit) in
    (omega arith, (within.0, (within.1, (c.requires.lawful, (c.requires.served, (c.requires.there, fits_at tree c.requires.lawful c.args.part _ c.requires.there same))))))

pub map_outcome-returns-in-Trapped-clause-item : goal.map_outcome-returns-in-Trapped-clause-item
map_outcome-returns-in-Trapped-clause-item g t c =
    let part = item c.args.tree.now (g.L.Leaves.leaf c.args.leaves.now) c.args.part in
    let cut = c.args.cut.now in
    mapped-trap (λ e. part (element_words cut.ins cut.second c.args.words.now e)) (joined_words cut) c.loop-e.results c.in-Trapped.trap c.loop-e.e (element_count cut) (omega arith) c.loop-e.invariant.so_far
    (sym c.in-Trapped.is ∙ (c.in_ok-result.ensures.item ∙ ap part c.in_ok-element.ensures))

pub map_outcome-join-requires-clause-count : goal.map_outcome-join-requires-clause-count
map_outcome-join-requires-clause-count g t c =
    let part = item c.args.tree.now (g.L.Leaves.leaf c.args.leaves.now) c.args.part in
    let cut = c.args.cut.now in
    let count = mapped-count (λ e. part (element_words cut.ins cut.second c.args.words.now e)) c.loop-e.results c.loop-e.e c.loop-e.invariant.so_far in
    omega (arith, count)

pub map_outcome-join-requires-clause-sizes : goal.map_outcome-join-requires-clause-sizes
map_outcome-join-requires-clause-sizes g t c =
    subst (λ n. All (λ (r : List ℤ). length r ≡ n) c.loop-e.results) (sym c.requires.cuts.part_outs_fit) c.loop-e.invariant.sized

pub map_outcome-returns-clause-item : goal.map_outcome-returns-clause-item
map_outcome-returns-clause-item g t c =
    let part = item c.args.tree.now (g.L.Leaves.leaf c.args.leaves.now) c.args.part in
    let cut = c.args.cut.now in
    mapped-all (λ e. part (element_words cut.ins cut.second c.args.words.now e)) (joined_words cut) c.loop-e.results _ c.loop-e.e (element_count cut) (omega arith) c.loop-e.invariant.so_far c.in_ok-join.ensures

pub stages_outcome-next_outcome-requires : goal.stages_outcome-next_outcome-requires
stages_outcome-next_outcome-requires g t c κs within =
    let tree = c.args.tree.now in
    let items = c.as_slice-stage-items.result.now in
    let i = c.loop-stage.stage-index in
    let first = slice_index c.args.node.now.parts 0 in
    let low : first ≤ get_or items i 0 = subst (All (λ p. first ≤ p)) (sym c.as_slice-stage-items.ensures) c.requires.preorder i 0 c.loop-stage-test.true in
    let there : get_or items i 0 < length tree.nodes = stage_there tree _ items i c.loop-stage-test.true c.loop-stage.outcome c.loop-stage.invariant.chain in
    (omega arith, (within.0, (within.1, (c.requires.lawful, (c.requires.served, (there, stage_fits tree _ items i c.loop-stage-test.true c.loop-stage.outcome c.loop-stage.invariant.chain))))))

pub stages_outcome-returns-clause-item : goal.stages_outcome-returns-clause-item
stages_outcome-returns-clause-item g t c =
    let part = item c.args.tree.now (g.L.Leaves.leaf c.args.leaves.now) in
    in_order-all part c.as_slice-stage-items.result.now c.loop-stage.stage-index c.loop-stage.outcome _ c.loop-stage-test.false c.loop-stage.invariant.so_far
    ∙ ap (λ ps. in_order part ps (Value c.args.words.now)) c.as_slice-stage-items.ensures

pub stages_outcome-loop-stage-init : goal.stages_outcome-loop-stage-init
stages_outcome-loop-stage-init g t c =
    let tree = c.args.tree.now in
    let node = c.args.node.now in
    let part = item tree (g.L.Leaves.leaf c.args.leaves.now) in
    let copy = c.in_ok-copied.field-0 in
    record {
      so_far = ap (λ (w : List ℤ). in_order part c.as_slice-stage-items.result.now (Value w)) c.in_ok-copied.ensures;
      chain = subst (λ (ps : List ℕ). FitsStages tree node.outs ps (Value copy)) (sym c.as_slice-stage-items.ensures)
          (FitsStages-first tree node.ins node.outs node.parts (Value copy) c.requires.chain (ap length c.in_ok-copied.ensures ∙ c.requires.fits));
      noted = ap (λ (w : List ℤ). noted_by g.L.Leaves.noted c.args.tally.now (stage_notes part (notes tree (g.L.Leaves.leaf c.args.leaves.now) (g.L.Leaves.steps c.args.leaves.now)) c.as_slice-stage-items.result.now (Value w))) c.in_ok-copied.ensures;
    }

pub stages_outcome-loop-stage-preserved : goal.stages_outcome-loop-stage-preserved
stages_outcome-loop-stage-preserved g t c =
    let tree = c.args.tree.now in
    let leaf = g.L.Leaves.leaf c.args.leaves.now in
    let gives = subst (λ (tr : Tree). GivesOuts tr leaf) c.requires.served (g.met.L.Leaves.gives_outs c.args.leaves.now) in
    let items = c.as_slice-stage-items.result.now in
    let i = c.loop-stage.stage-index in
    let outs = c.args.node.now.outs in
    let now = c.loop-stage.outcome in
    let next = c.in_ok-outcome.outcome in
    let chain = c.loop-stage.invariant.chain in
    let long = subst (HasLength (node_at tree (get_or items i 0)).outs) (sym c.in_ok-outcome.ensures.item)
    (next_keeps tree c.requires.lawful leaf gives (get_or items i 0) now (stage_there tree outs items i c.loop-stage-test.true now chain) (stage_fits tree outs items i c.loop-stage-test.true now chain)) in
    record {
      so_far = in_order-more tree outs items i c.loop-stage-test.true now (item tree leaf) _ next c.loop-stage.invariant.so_far c.in_ok-outcome.ensures.item;
      chain = stages_fit tree outs items i c.loop-stage-test.true now next chain long;
      noted = stage_noted-more g.L.Leaves.noted (item tree leaf) (notes tree (g.L.Leaves.leaf c.args.leaves.now) (g.L.Leaves.steps c.args.leaves.now)) items i c.loop-stage-test.true now next c.loop-stage.tally c.next_outcome.new.tally _ c.loop-stage.invariant.noted c.in_ok-outcome.ensures.noted c.in_ok-outcome.ensures.item;
    }

pub map_outcome-loop-e-preserved : goal.map_outcome-loop-e-preserved
map_outcome-loop-e-preserved g t c =
    let tree = c.args.tree.now in
    let leaf = g.L.Leaves.leaf c.args.leaves.now in
    let gives = subst (λ (tr : Tree). GivesOuts tr leaf) c.requires.served (g.met.L.Leaves.gives_outs c.args.leaves.now) in
    let part = item tree leaf c.args.part in
    let cut = c.args.cut.now in
    let element = c.in_ok-element.element in
    let result = c.in-Value.result in
    let of_element : Value result ≡ part element = sym c.in-Value.is ∙ c.in_ok-result.ensures.item in
    let same : length element ≡ (node_at tree c.args.part).ins = ap length c.in_ok-element.ensures ∙ (length-element_words cut.ins cut.second c.args.words.now c.loop-e.e ∙ c.requires.cuts.part_ins_fit) in
    let long = value_keeps tree c.requires.lawful leaf gives c.args.part element result c.requires.there same of_element in
    record {
      so_far = mapped-more (λ e. part (element_words cut.ins cut.second c.args.words.now e)) c.loop-e.results _ result c.loop-e.e c.in_ok-push-in-Value.ensures.ok c.loop-e.invariant.so_far (of_element ∙ ap part c.in_ok-element.ensures);
      sized = sized-more (node_at tree c.args.part).outs c.loop-e.results _ result long c.in_ok-push-in-Value.ensures.ok c.loop-e.invariant.sized;
      noted = element_noted-more g.L.Leaves.noted (λ e. part (element_words cut.ins cut.second c.args.words.now e)) (λ e. notes tree (g.L.Leaves.leaf c.args.leaves.now) (g.L.Leaves.steps c.args.leaves.now) c.args.part (element_words cut.ins cut.second c.args.words.now e)) c.loop-e.e (cut.first * cut.second) c.loop-e.tally c.item_outcome.new.tally _ (omega arith) result c.loop-e.invariant.noted
          (c.in_ok-result.ensures.noted ∙ ap (λ w. noted_by g.L.Leaves.noted c.loop-e.tally (notes tree (g.L.Leaves.leaf c.args.leaves.now) (g.L.Leaves.steps c.args.leaves.now) c.args.part w)) c.in_ok-element.ensures) (of_element ∙ ap part c.in_ok-element.ensures);
    }

pub loop_outcome-loop-made-preserved : goal.loop_outcome-loop-made-preserved
loop_outcome-loop-made-preserved g t c =
    let tree = c.args.tree.now in
    let leaf = g.L.Leaves.leaf c.args.leaves.now in
    let gives = subst (λ (tr : Tree). GivesOuts tr leaf) c.requires.served (g.met.L.Leaves.gives_outs c.args.leaves.now) in
    let first = slice_index c.args.node.now.parts 0 in
    let second = slice_index c.args.node.now.parts 1 in
    let body = c.requires.parts.turned in
    let left : 0 < c.args.turns - c.loop-made.made = omega arith in
    let fewer : c.args.turns - (c.loop-made.made + 1) ≡ c.args.turns - c.loop-made.made - 1 = omega arith in
    let is = sym c.in-Value.is ∙ (c.in_ok-next.ensures.item ∙ ap (λ p. item tree leaf p c.loop-made.state) c.part.ensures) in
    let test = sym c.in-Value-2.is ∙ (c.in_ok-answer.ensures.item ∙ ap (λ p. item tree leaf p c.in-Value.next) c.part-in-loop-made.ensures) in
    let long = value_keeps tree c.requires.lawful leaf gives first c.loop-made.state c.in-Value.next body.in_tree (c.loop-made.invariant.sized ∙ sym body.takes) is in
    record {
      so_far = ap (λ n. turned (item tree leaf first) (item tree leaf second) (turns_spent c.args.node.now.module) n c.in-Value.next) fewer
          ∙ (turned-again (item tree leaf first) (item tree leaf second) (turns_spent c.args.node.now.module) (c.args.turns - c.loop-made.made) c.loop-made.state c.in-Value.next c.in-Value-2.answer left is test (sym c.is_done.ensures ∙ c.if-is_done.false)
          ∙ c.loop-made.invariant.so_far);
      sized = long ∙ (body.gives ∙ sym c.requires.parts.same_words);
      noted = ap (λ n. noted_by g.L.Leaves.noted c.item_outcome-in-loop-made.new.tally (turn_notes c.args.node.now.module (item tree leaf first) (item tree leaf second) (notes tree (g.L.Leaves.leaf c.args.leaves.now) (g.L.Leaves.steps c.args.leaves.now) first) (notes tree (g.L.Leaves.leaf c.args.leaves.now) (g.L.Leaves.steps c.args.leaves.now) second) (c.loop-made.made + 1) n c.in-Value.next)) fewer
          ∙ turn_noted-again g.L.Leaves.noted c.args.node.now.module (item tree leaf first) (item tree leaf second) (notes tree (g.L.Leaves.leaf c.args.leaves.now) (g.L.Leaves.steps c.args.leaves.now) first) (notes tree (g.L.Leaves.leaf c.args.leaves.now) (g.L.Leaves.steps c.args.leaves.now) second) c.loop-made.made (c.args.turns - c.loop-made.made) c.loop-made.state c.loop-made.tally c.note_turn.new.tally c.item_outcome.new.tally _ left c.loop-made.invariant.noted c.note_turn.ensures
          (c.in_ok-next.ensures.noted ∙ ap (λ p. noted_by g.L.Leaves.noted c.note_turn.new.tally (notes tree (g.L.Leaves.leaf c.args.leaves.now) (g.L.Leaves.steps c.args.leaves.now) p c.loop-made.state)) c.part.ensures)
          c.in-Value.next c.in-Value-2.answer c.item_outcome-in-loop-made.new.tally is
          (c.in_ok-answer.ensures.noted ∙ ap (λ p. noted_by g.L.Leaves.noted c.item_outcome.new.tally (notes tree (g.L.Leaves.leaf c.args.leaves.now) (g.L.Leaves.steps c.args.leaves.now) p c.in-Value.next)) c.part-in-loop-made.ensures) test (sym c.is_done.ensures ∙ c.if-is_done.false);
    }

pub fold_outcome-returns-then-elements-eq1-clause-noted :
    goal.fold_outcome-returns-then-elements-eq1-clause-noted
fold_outcome-returns-then-elements-eq1-clause-noted g t c =
    let single : length c.args.elements.now ≡ 1 = omega arith in
    fold_noted-one g.L.Leaves.noted (item c.args.tree.now (g.L.Leaves.leaf c.args.leaves.now) c.args.operator) (notes c.args.tree.now (g.L.Leaves.leaf c.args.leaves.now) (g.L.Leaves.steps c.args.leaves.now) c.args.operator) c.args.elements.now c.args.tally.now single

pub fold_outcome-returns-in-Trapped-clause-folded : goal.fold_outcome-returns-in-Trapped-clause-folded
fold_outcome-returns-in-Trapped-clause-folded g t c =
    let operator = item c.args.tree.now (g.L.Leaves.leaf c.args.leaves.now) c.args.operator in
    let several : 2 ≤ length c.args.elements.now = omega arith in
    fold-more operator c.args.elements.now c.split_at.result.0.now c.split_at.result.1.now (Trapped c.in-Trapped.trap) _ (Trapped c.in-Trapped.trap) several c.split_at.ensures.front c.split_at.ensures.back (sym c.in-Trapped.is ∙ c.in_ok-left.ensures.folded) refl refl

pub fold_outcome-returns-in-Trapped-clause-noted : goal.fold_outcome-returns-in-Trapped-clause-noted
fold_outcome-returns-in-Trapped-clause-noted g t c =
    let several : 2 ≤ length c.args.elements.now = omega arith in
    fold_noted-trap g.L.Leaves.noted (item c.args.tree.now (g.L.Leaves.leaf c.args.leaves.now) c.args.operator) (notes c.args.tree.now (g.L.Leaves.leaf c.args.leaves.now) (g.L.Leaves.steps c.args.leaves.now) c.args.operator) c.args.elements.now _ _ c.in-Trapped.trap c.args.tally.now c.fold_outcome.new.tally several c.split_at.ensures.front c.split_at.ensures.back (sym c.in-Trapped.is ∙ c.in_ok-left.ensures.folded) c.in_ok-left.ensures.noted

pub fold_outcome-fold_outcome-requires-2 : goal.fold_outcome-fold_outcome-requires-2
fold_outcome-fold_outcome-requires-2 g t c κs within =
    let several : 2 ≤ length c.args.elements.now = omega arith in
    let shorter : length c.split_at.result.1.now ≡ length c.args.elements.now - length c.args.elements.now / 2 = ap length c.split_at.ensures.back ∙ length-drop (length c.args.elements.now / 2) c.args.elements.now in
    let sized : All (λ (e : List ℤ). length e ≡ (node_at c.args.tree.now c.args.operator).outs) c.split_at.result.1.now = search rules in
    (omega (arith, shorter), (within.0, (within.1, (c.requires.lawful, (c.requires.served, (c.requires.there, (c.requires.takes_two, (omega (arith, shorter), sized))))))))

pub fold_outcome-returns-clause-noted : goal.fold_outcome-returns-clause-noted
fold_outcome-returns-clause-noted g t c =
    let several : 2 ≤ length c.args.elements.now = omega arith in
    on_ok-along c.next_outcome.result _ _
    (λ last. fold_noted-more g.L.Leaves.noted (item c.args.tree.now (g.L.Leaves.leaf c.args.leaves.now) c.args.operator) (notes c.args.tree.now (g.L.Leaves.leaf c.args.leaves.now) (g.L.Leaves.steps c.args.leaves.now) c.args.operator) c.args.elements.now _ _ c.in-Value.left c.in_ok-right.right c.in_ok-both.both c.args.tally.now c.fold_outcome.new.tally c.fold_outcome-2.new.tally c.next_outcome.new.tally several c.split_at.ensures.front c.split_at.ensures.back
    (sym c.in-Value.is ∙ c.in_ok-left.ensures.folded) c.in_ok-right.ensures.folded c.in_ok-both.ensures c.in_ok-left.ensures.noted c.in_ok-right.ensures.noted last)
    c.next_outcome.ensures.noted

pub item_outcome-returns-in_ok-outcome-in-Comp-clause-noted :
    goal.item_outcome-returns-in_ok-outcome-in-Comp-clause-noted
item_outcome-returns-in_ok-outcome-in-Comp-clause-noted g t c =
    on_ok c.rescue.result _
    (c.in_ok-outcome-in-Comp.ensures.noted
    ∙ ap (noted_by g.L.Leaves.noted c.args.tally.now) (notes_at c.args.tree.now (g.L.Leaves.leaf c.args.leaves.now) (g.L.Leaves.steps c.args.leaves.now) c.requires.lawful c.in-Some.found.now c.args.node Comp c.args.words.now c.in-Some.ensures.found c.requires.there c.in-Comp.is))

pub item_outcome-returns-in-Pipe-clause-noted : goal.item_outcome-returns-in-Pipe-clause-noted
item_outcome-returns-in-Pipe-clause-noted g t c =
    on_ok-along c.stages_outcome-in-Pipe.result _ _
    (λ did. did ∙ ap (noted_by g.L.Leaves.noted c.args.tally.now) (notes_at c.args.tree.now (g.L.Leaves.leaf c.args.leaves.now) (g.L.Leaves.steps c.args.leaves.now) c.requires.lawful c.in-Some.found.now c.args.node Pipe c.args.words.now c.in-Some.ensures.found c.requires.there c.in-Pipe.is))
    c.stages_outcome-in-Pipe.ensures.noted

pub item_outcome-returns-in-Farm-clause-noted : goal.item_outcome-returns-in-Farm-clause-noted
item_outcome-returns-in-Farm-clause-noted g t c =
    on_ok-along c.item_outcome.result _ _
    (λ did. did
    ∙ (ap (λ p. noted_by g.L.Leaves.noted c.args.tally.now (notes c.args.tree.now (g.L.Leaves.leaf c.args.leaves.now) (g.L.Leaves.steps c.args.leaves.now) p c.args.words.now)) c.part.ensures
    ∙ ap (noted_by g.L.Leaves.noted c.args.tally.now) (notes_at c.args.tree.now (g.L.Leaves.leaf c.args.leaves.now) (g.L.Leaves.steps c.args.leaves.now) c.requires.lawful c.in-Some.found.now c.args.node _ c.args.words.now c.in-Some.ensures.found c.requires.there c.in-Farm.is)))
    c.item_outcome.ensures.noted

pub item_outcome-returns-in-Map-clause-noted : goal.item_outcome-returns-in-Map-clause-noted
item_outcome-returns-in-Map-clause-noted g t c =
    let tree = c.args.tree.now in
    on_ok-along c.map_outcome.result _ _
    (λ did. did
    ∙ (ap (λ p. noted_by g.L.Leaves.noted c.args.tally.now (map_notes c.in-Map.cut (item tree (g.L.Leaves.leaf c.args.leaves.now) p) (notes tree (g.L.Leaves.leaf c.args.leaves.now) (g.L.Leaves.steps c.args.leaves.now) p) c.args.words.now)) c.part-in-Map.ensures
    ∙ ap (noted_by g.L.Leaves.noted c.args.tally.now) (notes_at tree (g.L.Leaves.leaf c.args.leaves.now) (g.L.Leaves.steps c.args.leaves.now) c.requires.lawful c.in-Some.found.now c.args.node _ c.args.words.now c.in-Some.ensures.found c.requires.there c.in-Map.is)))
    c.map_outcome.ensures.noted

pub item_outcome-returns-in_ok-list-in-Reduce-clause-noted :
    goal.item_outcome-returns-in_ok-list-in-Reduce-clause-noted
item_outcome-returns-in_ok-list-in-Reduce-clause-noted g t c =
    let tree = c.args.tree.now in
    let list = c.as_slice.ensures ∙ c.in_ok-list-in-Reduce.ensures.elements in
    on_ok-along c.fold_outcome.result _ _
    (λ did. did
    ∙ (ap (λ p. noted_by g.L.Leaves.noted c.args.tally.now (fold_notes (item tree (g.L.Leaves.leaf c.args.leaves.now) p) (notes tree (g.L.Leaves.leaf c.args.leaves.now) (g.L.Leaves.steps c.args.leaves.now) p) c.as_slice.result.now)) c.part-in-Reduce.ensures
    ∙ (ap (λ (l : List (List ℤ)). noted_by g.L.Leaves.noted c.args.tally.now (fold_notes (item tree (g.L.Leaves.leaf c.args.leaves.now) (slice_index c.in-Some.found.now.parts 0)) (notes tree (g.L.Leaves.leaf c.args.leaves.now) (g.L.Leaves.steps c.args.leaves.now) (slice_index c.in-Some.found.now.parts 0)) l)) list
    ∙ ap (noted_by g.L.Leaves.noted c.args.tally.now) (notes_at tree (g.L.Leaves.leaf c.args.leaves.now) (g.L.Leaves.steps c.args.leaves.now) c.requires.lawful c.in-Some.found.now c.args.node _ c.args.words.now c.in-Some.ensures.found c.requires.there c.in-Reduce.is))))
    c.fold_outcome.ensures.noted

pub item_outcome-returns-in-Loop-clause-noted : goal.item_outcome-returns-in-Loop-clause-noted
item_outcome-returns-in-Loop-clause-noted g t c =
    on_ok-along c.loop_outcome.result _ _
    (λ did. did ∙ ap (noted_by g.L.Leaves.noted c.args.tally.now) (notes_at c.args.tree.now (g.L.Leaves.leaf c.args.leaves.now) (g.L.Leaves.steps c.args.leaves.now) c.requires.lawful c.in-Some.found.now c.args.node _ c.args.words.now c.in-Some.ensures.found c.requires.there c.in-Loop.is))
    c.loop_outcome.ensures.noted

pub map_outcome-loop-e-init : goal.map_outcome-loop-e-init
map_outcome-loop-e-init g t c = record {
  so_far = ap (map (λ (r : List ℤ). Value r)) c.new-results.ensures;
  sized = subst (All (λ (r : List ℤ). length r ≡ (node_at c.args.tree.now c.args.part).outs)) (sym c.new-results.ensures) (λ i d low. absurd (omega arith));
  noted = let same : c.args.cut.now.first * c.args.cut.now.second - 0 ≡ c.args.cut.now.first * c.args.cut.now.second = omega arith in
      ap (λ n. noted_by g.L.Leaves.noted c.args.tally.now (element_notes (λ e. item c.args.tree.now (g.L.Leaves.leaf c.args.leaves.now) c.args.part (element_words c.args.cut.now.ins c.args.cut.now.second c.args.words.now e)) (λ e. notes c.args.tree.now (g.L.Leaves.leaf c.args.leaves.now) (g.L.Leaves.steps c.args.leaves.now) c.args.part (element_words c.args.cut.now.ins c.args.cut.now.second c.args.words.now e)) (range_with_len 0 n))) same;
}

pub map_outcome-returns-in-Trapped-clause-noted : goal.map_outcome-returns-in-Trapped-clause-noted
map_outcome-returns-in-Trapped-clause-noted g t c =
    let tree = c.args.tree.now in
    let part = item tree (g.L.Leaves.leaf c.args.leaves.now) c.args.part in
    let cut = c.args.cut.now in
    element_noted-trap g.L.Leaves.noted (λ e. part (element_words cut.ins cut.second c.args.words.now e)) (λ e. notes tree (g.L.Leaves.leaf c.args.leaves.now) (g.L.Leaves.steps c.args.leaves.now) c.args.part (element_words cut.ins cut.second c.args.words.now e)) c.loop-e.e (cut.first * cut.second) c.loop-e.tally c.item_outcome.new.tally _ (omega arith) c.in-Trapped.trap c.loop-e.invariant.noted
    (c.in_ok-result.ensures.noted ∙ ap (λ w. noted_by g.L.Leaves.noted c.loop-e.tally (notes tree (g.L.Leaves.leaf c.args.leaves.now) (g.L.Leaves.steps c.args.leaves.now) c.args.part w)) c.in_ok-element.ensures)
    (sym c.in-Trapped.is ∙ (c.in_ok-result.ensures.item ∙ ap part c.in_ok-element.ensures))

pub map_outcome-returns-clause-noted : goal.map_outcome-returns-clause-noted
map_outcome-returns-clause-noted g t c =
    let tree = c.args.tree.now in
    let part = item tree (g.L.Leaves.leaf c.args.leaves.now) c.args.part in
    let cut = c.args.cut.now in
    element_noted-all g.L.Leaves.noted (λ e. part (element_words cut.ins cut.second c.args.words.now e)) (λ e. notes tree (g.L.Leaves.leaf c.args.leaves.now) (g.L.Leaves.steps c.args.leaves.now) c.args.part (element_words cut.ins cut.second c.args.words.now e)) c.loop-e.e (cut.first * cut.second) c.loop-e.tally c.loop-e.tally _ (omega arith) c.loop-e.invariant.noted

pub stages_outcome-returns-clause-noted : goal.stages_outcome-returns-clause-noted
stages_outcome-returns-clause-noted g t c =
    let part = item c.args.tree.now (g.L.Leaves.leaf c.args.leaves.now) in
    stage_noted-all g.L.Leaves.noted part (notes c.args.tree.now (g.L.Leaves.leaf c.args.leaves.now) (g.L.Leaves.steps c.args.leaves.now)) c.as_slice-stage-items.result.now c.loop-stage.stage-index c.loop-stage.outcome c.loop-stage.tally _ c.loop-stage-test.false c.loop-stage.invariant.noted
    ∙ ap (λ ps. noted_by g.L.Leaves.noted c.args.tally.now (stage_notes part (notes c.args.tree.now (g.L.Leaves.leaf c.args.leaves.now) (g.L.Leaves.steps c.args.leaves.now)) ps (Value c.args.words.now))) c.as_slice-stage-items.ensures

pub loop_outcome-returns-in-Trapped-clause-noted : goal.loop_outcome-returns-in-Trapped-clause-noted
loop_outcome-returns-in-Trapped-clause-noted g t c =
    let tree = c.args.tree.now in
    let leaf = g.L.Leaves.leaf c.args.leaves.now in
    let first = slice_index c.args.node.now.parts 0 in
    let second = slice_index c.args.node.now.parts 1 in
    let left : 0 < c.args.turns - c.loop-made.made = omega arith in
    turn_noted-body_trap g.L.Leaves.noted c.args.node.now.module (item tree leaf first) (item tree leaf second) (notes tree (g.L.Leaves.leaf c.args.leaves.now) (g.L.Leaves.steps c.args.leaves.now) first) (notes tree (g.L.Leaves.leaf c.args.leaves.now) (g.L.Leaves.steps c.args.leaves.now) second) c.loop-made.made (c.args.turns - c.loop-made.made) c.loop-made.state c.loop-made.tally c.note_turn.new.tally c.item_outcome.new.tally _ left c.loop-made.invariant.noted c.note_turn.ensures
    (c.in_ok-next.ensures.noted ∙ ap (λ p. noted_by g.L.Leaves.noted c.note_turn.new.tally (notes tree (g.L.Leaves.leaf c.args.leaves.now) (g.L.Leaves.steps c.args.leaves.now) p c.loop-made.state)) c.part.ensures)
    c.in-Trapped.trap (sym c.in-Trapped.is ∙ (c.in_ok-next.ensures.item ∙ ap (λ p. item tree leaf p c.loop-made.state) c.part.ensures))

pub loop_outcome-returns-in-Trapped-2-clause-noted :
    goal.loop_outcome-returns-in-Trapped-2-clause-noted
loop_outcome-returns-in-Trapped-2-clause-noted g t c =
    let tree = c.args.tree.now in
    let leaf = g.L.Leaves.leaf c.args.leaves.now in
    let first = slice_index c.args.node.now.parts 0 in
    let second = slice_index c.args.node.now.parts 1 in
    let left : 0 < c.args.turns - c.loop-made.made = omega arith in
    turn_noted-condition_trap g.L.Leaves.noted c.args.node.now.module (item tree leaf first) (item tree leaf second) (notes tree (g.L.Leaves.leaf c.args.leaves.now) (g.L.Leaves.steps c.args.leaves.now) first) (notes tree (g.L.Leaves.leaf c.args.leaves.now) (g.L.Leaves.steps c.args.leaves.now) second) c.loop-made.made (c.args.turns - c.loop-made.made) c.loop-made.state c.loop-made.tally c.note_turn.new.tally c.item_outcome.new.tally _ left c.loop-made.invariant.noted c.note_turn.ensures
    (c.in_ok-next.ensures.noted ∙ ap (λ p. noted_by g.L.Leaves.noted c.note_turn.new.tally (notes tree (g.L.Leaves.leaf c.args.leaves.now) (g.L.Leaves.steps c.args.leaves.now) p c.loop-made.state)) c.part.ensures)
    c.in-Value.next c.item_outcome-in-loop-made.new.tally c.in-Trapped-2.trap (sym c.in-Value.is ∙ (c.in_ok-next.ensures.item ∙ ap (λ p. item tree leaf p c.loop-made.state) c.part.ensures))
    (c.in_ok-answer.ensures.noted ∙ ap (λ p. noted_by g.L.Leaves.noted c.item_outcome.new.tally (notes tree (g.L.Leaves.leaf c.args.leaves.now) (g.L.Leaves.steps c.args.leaves.now) p c.in-Value.next)) c.part-in-loop-made.ensures) (sym c.in-Trapped-2.is ∙ (c.in_ok-answer.ensures.item ∙ ap (λ p. item tree leaf p c.in-Value.next) c.part-in-loop-made.ensures))

pub loop_outcome-returns-in-Value-2-clause-noted : goal.loop_outcome-returns-in-Value-2-clause-noted
loop_outcome-returns-in-Value-2-clause-noted g t c =
    let tree = c.args.tree.now in
    let leaf = g.L.Leaves.leaf c.args.leaves.now in
    let first = slice_index c.args.node.now.parts 0 in
    let second = slice_index c.args.node.now.parts 1 in
    let left : 0 < c.args.turns - c.loop-made.made = omega arith in
    turn_noted-done g.L.Leaves.noted c.args.node.now.module (item tree leaf first) (item tree leaf second) (notes tree (g.L.Leaves.leaf c.args.leaves.now) (g.L.Leaves.steps c.args.leaves.now) first) (notes tree (g.L.Leaves.leaf c.args.leaves.now) (g.L.Leaves.steps c.args.leaves.now) second) c.loop-made.made (c.args.turns - c.loop-made.made) c.loop-made.state c.loop-made.tally c.note_turn.new.tally c.item_outcome.new.tally _ left c.loop-made.invariant.noted c.note_turn.ensures
    (c.in_ok-next.ensures.noted ∙ ap (λ p. noted_by g.L.Leaves.noted c.note_turn.new.tally (notes tree (g.L.Leaves.leaf c.args.leaves.now) (g.L.Leaves.steps c.args.leaves.now) p c.loop-made.state)) c.part.ensures)
    c.in-Value.next c.in-Value-2.answer c.item_outcome-in-loop-made.new.tally (sym c.in-Value.is ∙ (c.in_ok-next.ensures.item ∙ ap (λ p. item tree leaf p c.loop-made.state) c.part.ensures))
    (c.in_ok-answer.ensures.noted ∙ ap (λ p. noted_by g.L.Leaves.noted c.item_outcome.new.tally (notes tree (g.L.Leaves.leaf c.args.leaves.now) (g.L.Leaves.steps c.args.leaves.now) p c.in-Value.next)) c.part-in-loop-made.ensures) (sym c.in-Value-2.is ∙ (c.in_ok-answer.ensures.item ∙ ap (λ p. item tree leaf p c.in-Value.next) c.part-in-loop-made.ensures)) (sym c.is_done.ensures ∙ c.if-is_done.true)

pub loop_outcome-returns-clause-noted : goal.loop_outcome-returns-clause-noted
loop_outcome-returns-clause-noted g t c =
    let none : c.args.turns - c.loop-made.made ≡ 0 = omega arith in
    let body = slice_index c.args.node.now.parts 0 in
    let test = slice_index c.args.node.now.parts 1 in
    let tree = c.args.tree.now in
    let leaf = g.L.Leaves.leaf c.args.leaves.now in
    turn_noted-none g.L.Leaves.noted c.args.node.now.module (item tree leaf body) (item tree leaf test) (notes tree (g.L.Leaves.leaf c.args.leaves.now) (g.L.Leaves.steps c.args.leaves.now) body) (notes tree (g.L.Leaves.leaf c.args.leaves.now) (g.L.Leaves.steps c.args.leaves.now) test) c.loop-made.made (c.args.turns - c.loop-made.made) c.loop-made.state c.loop-made.tally _ none c.loop-made.invariant.noted

pub next_outcome-returns-in-Trapped-clause-noted : goal.next_outcome-returns-in-Trapped-clause-noted
next_outcome-returns-in-Trapped-clause-noted g t c =
    let tally = c.args.tally.now in
    sym (ap (λ o. noted_by g.L.Leaves.noted tally (notes_on (notes c.args.tree.now (g.L.Leaves.leaf c.args.leaves.now) (g.L.Leaves.steps c.args.leaves.now) c.args.node) o)) c.in-Trapped.is ∙ noted_by-none g.L.Leaves.noted tally)

pub item_outcome-returns-in-Seq-clause-noted : goal.item_outcome-returns-in-Seq-clause-noted
item_outcome-returns-in-Seq-clause-noted g t c =
    let noted = g.L.Leaves.noted in
    let steps = g.L.Leaves.steps c.args.leaves.now in
    let node = c.in-Some.found.now in
    let words = c.args.words.now in
    let tally = c.args.tally.now in
    on_ok-along c.run.result _ _
    (λ did. did
    ∙ (ap (λ (tr : Tree). noted tally (ran (node_at tr c.args.node).module (steps (node_at tr c.args.node).module words))) c.requires.served
    ∙ (ap (λ (n : Node). noted tally (ran n.module (steps n.module words))) (sym c.in-Some.ensures.found)
    ∙ (sym (noted_by-one noted tally (ran node.module (steps node.module words)))
    ∙ ap (noted_by noted tally) (notes_at c.args.tree.now (g.L.Leaves.leaf c.args.leaves.now) steps c.requires.lawful node c.args.node Seq words c.in-Some.ensures.found c.requires.there c.in-Seq.is)))))
    c.run.ensures.noted
