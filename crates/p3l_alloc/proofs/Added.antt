-- The walk down the tree, node by node.
use Rattle.std.proofs.Common.{◌≡◌, ℕ, zero, suc, ◌+◌, ◌-◌, ◌*◌, ◌/◌, ◌<◌, ◌≤◌, List, [], ◌∷◌, ◌++◌, drop, get_or, length, refl, sym, ap, ◌∙◌, subst, arith, append_assoc, append-nil, add-one}
use Rattle.std.specs.Prelude.{slice_index, sum_by}
use Rattle.std.proofs.Math.Seq.{drop-cons}
use Rattle.std.proofs.lemmas.List.{drop_all}
use Rattle.std.proofs.lemmas.List.Elements.{All-head, All-tail, All-drop}
use Rattle.std.proofs.lemmas.List.Sums.{sum_by-cons}
use Rattle.p3l_skel.specs.declared.tree.Tree.{Tree}
use Rattle.p3l_skel.specs.Tree.{node_at}
use Rattle.p3l_skel.specs.Lawful.{AreSubtrees, IsSubtree, IsLawfulTree}
use Rattle.p3l_skel.specs.Numbers.{joined_procs}
use Rattle.p3l_skel.proofs.Depth.{lawful_at}
use Rattle.p3l_skel.proofs.Subtrees.{IsSubtree-step, IsSubtree-zero}
use Rattle.p3l_cost.specs.declared.costs.Costs.{Costs}
use Rattle.p3l_cost.specs.Costs.{AreCostsOf}
use Rattle.p3l_model.specs.declared.cost.NodeCost.{NodeCost}
use Rattle.p3l_model.specs.declared.cost.NodeCost.TheVariants.{Unit as NodeUnit, Stages, Workers as NodeWorkers, Segments as NodeSegments, Loop as NodeLoop}
use Rattle.p3l_model.specs.declared.cost.Span.{Span}
use Rattle.p3l_model.specs.declared.cost.Sharing.{Sharing}
use Rattle.p3l_model.specs.declared.cost.FoldCost.{FoldCost}
use Rattle.p3l_model.specs.NodeCost.{never, node_cost}
use Rattle.p3l_model.specs.Costed.{Costed, Leaf, Both, Workers, Segments, Loop, run_procs, IsLawfulRun, stages, costed, slowest}
use Rattle.p3l_model.proofs.Rules.{joined_lawful, joined_run_procs, separated}
use Rattle.p3l_alloc.specs.Soonest.{IsRow, IsShared, HasPart, over_part}
use Rattle.p3l_alloc.specs.Table.{row_in, AreRows, IsTableFrom}
use Rattle.p3l_alloc.specs.Walk.{first_within, least_of, part_time, IsFirst, CanServe, IsFewest, AddsFirst, IsFirstCount, IsFirstSegments, IsWithin}
use Rattle.p3l_alloc.proofs.Rows.{NeedsFirst, has_first, part_ready, row_fewer, row_over, slow_stage, stages_are, stages_ready}
use Rattle.p3l_alloc.proofs.First.{leaf_first, empty_first, both_first, both_room, rest_room, both_fewest, empty_fewest, row_fewest, workers_first, segments_first, loop_first, loop_room}

pub adds_unit : (s t p : ℕ) (before : List ℕ) → CanServe (Leaf s) t p → AddsFirst (Leaf s) t p before before 1
unfolding run_procs
adds_unit s t p before can = record { counts = []; joined = sym (append-nil before); first = leaf_first s t p can; cost = refl }

pub adds_workers : (r : Span) (h : Sharing) (e t p n used : ℕ) (a : Costed) (row before after : List ℕ) → IsShared h a p row → t < never → CanServe (Workers r h e a) t p → IsFirstCount r h row t p n → AddsFirst a (part_time h t n) ((p - 2) / n) (before ++ n ∷ []) after used → AddsFirst (Workers r h e a) t p before after (2 + n * used)
unfolding run_procs
adds_workers r h e t p n used a row before after part early can f adds = record {
  counts = n ∷ adds.counts;
  joined = adds.joined ∙ append_assoc before (n ∷ []) adds.counts;
  first = workers_first r h e t p a row part early n adds.counts can f adds.first;
  cost = ap (λ x. 2 + n * x) adds.cost;
}

pub adds_segments : (r : Span) (fold : FoldCost) (t p m : ℕ) (before : List ℕ) → IsFirstSegments r fold t p m → AddsFirst (Segments r fold) t p before (before ++ m ∷ []) (joined_procs m)
unfolding run_procs
adds_segments r fold t p m before f = record { counts = m ∷ []; joined = refl; first = segments_first r fold t p m f; cost = refl }

pub adds_loop : (k e t p used : ℕ) (a : Costed) (before after : List ℕ) → 1 ≤ k → CanServe (Loop k e a) t p → AddsFirst a (t / k) (p - 2) before after used → AddsFirst (Loop k e a) t p before after (2 + used)
unfolding run_procs
adds_loop k e t p used a before after some can adds =
    let room = loop_room k e t p a some can in
    record {
      counts = adds.counts;
      joined = adds.joined;
      first = loop_first k e t p a some adds.counts room.1 room.2 adds.first;
      cost = ap (λ x. 2 + x) adds.cost;
    }

-- d levels are enough for the parts of a node
siblings_within : (tree : Tree) (d : ℕ) (ps : List ℕ) (from next i x : ℕ) → AreSubtrees (IsSubtree d tree) ps from next → i < length ps → IsWithin tree d (get_or ps i x)
siblings_within tree d [] from next i x h inside = absurd (omega arith)
siblings_within tree d (p ∷ ps) from next zero x h inside = record { next = h.1.0; deep = h.1.1 }
siblings_within tree d (p ∷ ps) from next (suc i) x h inside = siblings_within tree d ps h.1.0 next i x h.1.2 (omega arith)

pub within_some : (tree : Tree) (levels node : ℕ) → IsWithin tree levels node → levels ≡ 0 → ⊥
within_some tree levels node w none = IsSubtree-zero tree node w.next (subst (λ d. IsSubtree d tree node w.next) none w.deep)

pub some_levels : (tree : Tree) (levels node : ℕ) → IsWithin tree levels node → 0 < levels
some_levels tree zero node w = absurd (within_some tree 0 node w refl)
some_levels tree (suc d) node w = omega arith

pub within_parts : (tree : Tree) (levels node i x : ℕ) → 0 < levels → IsWithin tree levels node → i < length (node_at tree node).parts → IsWithin tree (levels - 1) (get_or (node_at tree node).parts i x)
within_parts tree levels node i x some w inside =
    let below = (IsSubtree-step levels tree node w.next some).0 w.deep in
    siblings_within tree (levels - 1) (node_at tree node).parts (node + 1) w.next i x below.1 inside

pub within_inside : (tree : Tree) (levels node : ℕ) → 0 < levels → IsWithin tree levels node → node < length tree.nodes
within_inside tree levels node some w = ((IsSubtree-step levels tree node w.next some).0 w.deep).0

stages_room : (a b : Costed) (t p : ℕ) → CanServe (Both a b) t p → CanServe a t p × CanServe b t p
unfolding run_procs
stages_room a b t p can =
    let o = separated a b t can.counts can.serves in
    let few = can.few in
    (record { counts = _; serves = o.0; few = omega arith }, record { counts = _; serves = o.1; few = omega arith })

-- the stages of a pipe need the sum of what each needs
stages_fewest : (tree : Tree) (rows : List (List ℕ)) (below : ℕ → Costed) (t most p : ℕ) (ps : List ℕ) → AreRows tree rows below most ps → t < never → p ≤ most → CanServe (stages below ps) t p → IsFewest (stages below ps) t most (sum_by (least_of tree rows t) ps)
unfolding stages
stages_fewest tree rows below t most p [] all early small can = empty_fewest t most
stages_fewest tree rows below t most p (q ∷ qs) all early small can =
    let is_row = λ (k : ℕ). IsRow (below k) most (row_in tree rows k) in
    let room = stages_room (below q) (stages below qs) t p can in
    let here = row_fewest (below q) t most p (row_in tree rows q) (All-head is_row q qs all) early small room.0 in
    let rest = stages_fewest tree rows below t most p qs (All-tail is_row q qs all) early small room.1 in
    rw (sum_by-cons (least_of tree rows t) q qs) (both_fewest (below q) (stages below qs) t most _ _ here rest)

pub stages_few : (tree : Tree) (rows : List (List ℕ)) (below : ℕ → Costed) (t most p : ℕ) (ps : List ℕ) → AreRows tree rows below most ps → t < never → p ≤ most → CanServe (stages below ps) t p → sum_by (least_of tree rows t) ps ≤ p
stages_few tree rows below t most p ps all early small can =
    let f = stages_fewest tree rows below t most p ps all early small can in
    let few = can.few in
    let least = f.below can.counts can.serves (omega arith) in omega arith

-- the counts of the first stages have been added, and the others have `left` processes left
pub record IsWalked (tree : Tree) (rows : List (List ℕ)) (below : ℕ → Costed) (t p : ℕ) (parts : List ℕ) (i left later : ℕ) (before now : List ℕ) : Type 0 where
  pub few : left ≤ p
  pub later_is : later ≡ sum_by (least_of tree rows t) (drop i parts)
  pub can : CanServe (stages below (drop i parts)) t left
  pub front : List ℕ
  pub grown : now ≡ before ++ front
  pub first : (ys : List ℕ) → IsFirst (stages below (drop i parts)) t left ys → IsFirst (stages below parts) t p (front ++ ys)
  pub cost : (ys : List ℕ) → IsLawfulRun (stages below (drop i parts)) ys → run_procs (stages below parts) (front ++ ys) + left ≡ p + run_procs (stages below (drop i parts)) ys

pub walk_start : (tree : Tree) (rows : List (List ℕ)) (below : ℕ → Costed) (t p later : ℕ) (parts before : List ℕ) → later ≡ sum_by (least_of tree rows t) parts → CanServe (stages below parts) t p → IsWalked tree rows below t p parts 0 p later before before
walk_start tree rows below t p later parts before is can = record {
  few = omega arith;
  later_is = is;
  can = can;
  front = [];
  grown = sym (append-nil before);
  first = λ ys f. f;
  cost = λ ys l. omega arith;
}

-- the stages from one on are that stage and those after it
from_stage : (below : ℕ → Costed) (parts : List ℕ) (i : ℕ) → i < length parts → stages below (drop i parts) ≡ Both (below (get_or parts i 0)) (stages below (drop (i + 1) parts))
unfolding stages
from_stage below parts i inside = rw (drop-cons parts i 0 inside, add-one) refl

later_more : (f : ℕ → ℕ) (parts : List ℕ) (i : ℕ) → i < length parts → sum_by f (drop i parts) ≡ f (get_or parts i 0) + sum_by f (drop (i + 1) parts)
later_more f parts i inside = rw (drop-cons parts i 0 inside, add-one) (sum_by-cons f (get_or parts i 0) (drop (suc i) parts))

module _ (tree : Tree) (rows : List (List ℕ)) (below : ℕ → Costed) (t p most : ℕ) (parts : List ℕ) (i left later : ℕ) (before now : List ℕ) (all : AreRows tree rows below most parts) (early : t < never) (small : p ≤ most) (inside : i < length parts) (w : IsWalked tree rows below t p parts i left later before now) where
  a : Costed
  a = below (get_or parts i 0)

  b : Costed
  b = stages below (drop (i + 1) parts)

  l : ℕ
  l = sum_by (least_of tree rows t) (drop (i + 1) parts)

  both : CanServe (Both a b) t left
  unfolding a b
  both = subst (λ c. CanServe c t left) (from_stage below parts i inside) w.can

  rest : IsFewest b t most l
  unfolding a b l
  rest =
      let few = w.few in
      stages_fewest tree rows below t most left (drop (i + 1) parts) (All-drop (λ (k : ℕ). IsRow (below k) most (row_in tree rows k)) (i + 1) parts all) early (omega arith) (stages_room a b t left both).1

  -- the next stage can stay within the time, and leaves the others what they need
  pub stage_room : CanServe (below (get_or parts i 0)) t (left - sum_by (least_of tree rows t) (drop (i + 1) parts)) × (sum_by (least_of tree rows t) (drop (i + 1) parts) ≤ left)
  unfolding a b l
  stage_room = let few = w.few in both_room a b t left most l rest (omega arith) both

  pub later_is : later ≡ first_within t (row_in tree rows (get_or parts i 0)) + sum_by (least_of tree rows t) (drop (i + 1) parts)
  later_is = w.later_is ∙ later_more (least_of tree rows t) parts i inside

  pub walk_step : (used left' later' : ℕ) (after : List ℕ) → AddsFirst (below (get_or parts i 0)) t (left - sum_by (least_of tree rows t) (drop (i + 1) parts)) now after used → left' ≡ left - used → later' ≡ sum_by (least_of tree rows t) (drop (i + 1) parts) → IsWalked tree rows below t p parts (i + 1) left' later' before after
  unfolding a b l
  walk_step used left' later' after adds leaves is =
      let few = w.few in
      let xs = adds.counts in
      let fits = adds.first.few in
      let cost = adds.cost in
      let room = stage_room in
      let stage = from_stage below parts i inside in
      record {
        few = omega arith;
        later_is = is;
        can = rw leaves (rest_room a b t left most l rest (omega arith) used (omega (arith, room.1)));
        front = w.front ++ xs;
        grown = adds.joined ∙ (ap (λ zs. zs ++ xs) w.grown ∙ append_assoc before w.front xs);
        first = λ ys f. rw (append_assoc w.front xs ys)
            (w.first (xs ++ ys) (subst (λ c. IsFirst c t left (xs ++ ys)) (sym stage)
            (both_first a b t left most l rest (omega arith) xs ys room.1 adds.first (subst (λ q. IsFirst b t q ys) (leaves ∙ ap (λ u. left - u) cost) f))));
        cost = λ ys lawful.
            let joined = joined_run_procs a b xs ys adds.first.serves.lawful in
            let whole = subst (λ c. IsLawfulRun c (xs ++ ys) → run_procs (stages below parts) (w.front ++ (xs ++ ys)) + left ≡ p + run_procs c (xs ++ ys)) stage (w.cost (xs ++ ys)) (joined_lawful a b xs ys adds.first.serves.lawful lawful) in
            rw (append_assoc w.front xs ys) (omega (arith, whole, joined, room.1));
      }

pub walk_end : (tree : Tree) (rows : List (List ℕ)) (below : ℕ → Costed) (t p : ℕ) (parts : List ℕ) (i left later used : ℕ) (before now : List ℕ) → length parts ≤ i → IsWalked tree rows below t p parts i left later before now → used ≡ p - left → AddsFirst (stages below parts) t p before now used
unfolding stages run_procs IsLawfulRun
walk_end tree rows below t p parts i left later used before now past w is =
    let none = drop_all i parts past in
    let first = subst (λ (ps : List ℕ). (ys : List ℕ) → IsFirst (stages below ps) t left ys → IsFirst (stages below parts) t p (w.front ++ ys)) none w.first in
    let cost = subst (λ (ps : List ℕ). (ys : List ℕ) → IsLawfulRun (stages below ps) ys → run_procs (stages below parts) (w.front ++ ys) + left ≡ p + run_procs (stages below ps) ys) none w.cost in
    let one = rw append-nil at (first [] (empty_first t left)) in
    let two = rw append-nil at (cost [] refl) in
    record { counts = w.front; joined = w.grown; first = one; cost = omega (arith, two) }

shared_fewer : (h : Sharing) (a : Costed) (most p : ℕ) (row : List ℕ) → p ≤ most → IsShared h a most row → IsShared h a p row
shared_fewer h a most p row less part = record { sharing = part.sharing; process = part.process; slow = part.slow; soonest = row_fewer a most p row less part.soonest }

-- a node with workers, over its first part
pub record AtWorkers (tree : Tree) (costs : Costs) (levels node first p : ℕ) (row : List ℕ) (r : Span) (h : Sharing) (e : ℕ) : Type 0 where
  pub is : costed tree costs node ≡ Workers r h e (costed tree costs first)
  pub part : IsShared h (costed tree costs first) p row
  pub within : IsWithin tree (levels - 1) first

-- a loop, over its body
pub record AtLoop (tree : Tree) (costs : Costs) (levels node first k e : ℕ) : Type 0 where
  pub is : costed tree costs node ≡ Loop k e (costed tree costs first)
  pub some : 1 ≤ k
  pub slow : slowest (costed tree costs first) < never
  pub within : IsWithin tree (levels - 1) first

module _ (tree : Tree) (costs : Costs) (lawful : IsLawfulTree tree) (priced : AreCostsOf tree costs) (rows : List (List ℕ)) (most levels node first : ℕ) (some : 0 < levels) (w : IsWithin tree levels node) (table : IsTableFrom tree costs most rows 0) (slow : slowest (costed tree costs node) < never) (is_first : first ≡ slice_index (node_at tree node).parts 0) where
  inside : node < length tree.nodes
  inside = within_inside tree levels node some w

  part_of : (n : NodeCost) → node_cost tree costs node ≡ n → HasPart n (costed tree costs first) most (row_in tree rows first)
  part_of n is =
      rw is_first (subst (λ (m : NodeCost). HasPart m (costed tree costs (slice_index (node_at tree node).parts 0)) most (row_in tree rows (slice_index (node_at tree node).parts 0))) is
      (part_ready tree costs lawful priced node most 0 rows inside (omega arith) table slow))

  over : (n : NodeCost) → (n ≡ Stages → ⊥) → node_cost tree costs node ≡ n → costed tree costs node ≡ over_part n (costed tree costs first)
  over n other is =
      rw is_first (sym (subst (λ (m : NodeCost). over_part m (costed tree costs (slice_index (node_at tree node).parts 0)) ≡ costed tree costs node) is
      (row_over tree costs lawful priced node inside (λ stages_too. other (sym is ∙ stages_too)))))

  within_first : (n : NodeCost) → NeedsFirst n → node_cost tree costs node ≡ n → IsWithin tree (levels - 1) first
  unfolding node_cost
  within_first n need is =
      let one = has_first tree costs node (node_at tree node).form (node_at tree node).ins (node_at tree node).outs (node_at tree node).parts (lawful_at tree lawful node inside).form (subst NeedsFirst (sym is) need) in
      rw is_first (within_parts tree levels node 0 0 some w one)

  pub at_workers : (r : Span) (h : Sharing) (e p : ℕ) (row : List ℕ) → p ≤ most → row ≡ row_in tree rows first → node_cost tree costs node ≡ NodeWorkers r h e → AtWorkers tree costs levels node first p row r h e
  at_workers r h e p row few same is = record {
    is = over (NodeWorkers r h e) (λ wrong. cc) is;
    part = shared_fewer h (costed tree costs first) most p row few (rw same (part_of (NodeWorkers r h e) is));
    within = within_first (NodeWorkers r h e) tt is;
  }

  pub at_loop : (k e : ℕ) → node_cost tree costs node ≡ NodeLoop k e → AtLoop tree costs levels node first k e
  at_loop k e is =
      let part = part_of (NodeLoop k e) is in
      record { is = over (NodeLoop k e) (λ wrong. cc) is; some = part.some; slow = part.slow; within = within_first (NodeLoop k e) tt is }

  pub at_unit : (s : ℕ) → node_cost tree costs node ≡ NodeUnit s → costed tree costs node ≡ Leaf s
  at_unit s is = over (NodeUnit s) (λ wrong. cc) is

  pub at_segments : (r : Span) (fold : FoldCost) → node_cost tree costs node ≡ NodeSegments r fold → costed tree costs node ≡ Segments r fold
  at_segments r fold is = over (NodeSegments r fold) (λ wrong. cc) is

-- a pipe, over its stages
pub record AtStages (tree : Tree) (costs : Costs) (rows : List (List ℕ)) (most node : ℕ) (parts : List ℕ) : Type 0 where
  pub is : costed tree costs node ≡ stages (costed tree costs) parts
  pub rows_are : AreRows tree rows (costed tree costs) most parts
  pub slow : (i : ℕ) → i < length parts → slowest (costed tree costs (get_or parts i 0)) < never

pub at_stages : (tree : Tree) (costs : Costs) (rows : List (List ℕ)) (most levels node : ℕ) (parts : List ℕ) → IsLawfulTree tree → AreCostsOf tree costs → 0 < levels → IsWithin tree levels node → IsTableFrom tree costs most rows 0 → slowest (costed tree costs node) < never → parts ≡ (node_at tree node).parts → node_cost tree costs node ≡ Stages → AtStages tree costs rows most node parts
at_stages tree costs rows most levels node parts lawful priced some w table slow same is =
    let inside = within_inside tree levels node some w in
    let made = stages_are tree costs lawful priced node inside is in
    rw same (record {
      is = made;
      rows_are = stages_ready tree costs lawful priced node most 0 rows inside (omega arith) is table slow;
      slow = λ i within. slow_stage (costed tree costs) (node_at tree node).parts i 0 within (subst (λ a. slowest a < never) made slow);
    })
