-- The nodes of a lawful tree under lawful counts can be placed (`root_counted`), their templates
-- are lawful (`shape_lawful`), and the part at a slot can be placed one level down
-- (`slot_counted`). A template's numbers are in range (`template_fit`).
use Rattle.std.proofs.Common.{◌≡◌, ℕ, zero, suc, ◌+◌, ◌-◌, ◌^◌, ◌<◌, ◌≤◌, List, [], ◌∷◌, ◌++◌, length, get_or, slice_index, refl, sym, ap, ap₂, ◌∙◌, subst, arith}
use Rattle.std.specs.List.{AllByRecursion, Contains, flat_map}
use Rattle.std.proofs.lemmas.Nat.{pow_pos}
use Rattle.std.proofs.lemmas.List.Elements.{Contains-append_left, Contains-append_right}
use Rattle.p3l_skel.specs.declared.tree.Form.{Form}
use Rattle.p3l_skel.specs.declared.tree.Form.TheVariants.{Seq, Comp, Pipe, Farm, Map, Reduce, Loop}
use Rattle.p3l_skel.specs.declared.tree.Node.{Node}
use Rattle.p3l_skel.specs.declared.tree.Tree.{Tree}
use Rattle.p3l_skel.specs.Counts.{IsLawfulCount, HasLawfulCounts, counted, counted_from, count_of, outside_parts, own_counted}
use Rattle.p3l_skel.specs.Lawful.{AreSubtrees, IsSubtree, IsLawfulForm, IsLawfulTree}
use Rattle.p3l_skel.specs.Tree.{node_at, part_at, nesting}
use Rattle.p3l_skel.proofs.Below.{counted_from-step}
use Rattle.p3l_skel.proofs.Depth.{IsSubtree-grows, lawful_at, subtree_at}
use Rattle.p3l_skel.proofs.Subtrees.{IsSubtree-step}
use Rattle.p3l_model.proofs.Count.{count_lawful}
use Rattle.p3l_model.proofs.Members.{Contains-head}
use Rattle.p3l_firing.specs.Segments.{level_of}
use Rattle.p3l_template.specs.Placed.{IsLawfulShape}
use Rattle.p3l_template.specs.Shape.{Base, no_slot, fan_slots}
use Rattle.p3l_template.specs.laws.PipeTyping.{stages_length, stage_part}
use Rattle.p3l_reduce.specs.Reduce.{reduce_shape}
use Rattle.p3l_link.specs.Counts.{HasOwnCount, IsCounted}
use Rattle.p3l_link.specs.Node.{IsFit}
use Rattle.p3l_link.specs.Shape.{kind_at, kind_row, shape_at, shape_row, template_at, template_row}
use Rattle.p3l_link.specs.NodeLaw.{kind_lawful}

-- a node's own number is lawful, if those of all counted nodes in the list that begins with it are
own_count : (f : Form) (k n : ℕ) → (Contains (own_counted f k) k → IsLawfulCount f n) → HasOwnCount f n
own_count Seq k n h = tt
own_count Comp k n h = tt
own_count Pipe k n h = tt
own_count (Farm w) k n h = h (Contains-head k [])
own_count (Map w cut) k n h = h (Contains-head k [])
own_count (Reduce w len elem) k n h = h (Contains-head k [])
own_count (Loop turns tokens) k n h = tt

-- the parts outside units are subtrees too
first_subtree : (Is : ℕ → ℕ → Type 0) (f : Form) (ps : List ℕ) (from next : ℕ) → AreSubtrees Is ps from next →
    (end : ℕ) × AreSubtrees Is (outside_parts f ps) from end
first_subtree Is Seq ps from next h = (from, refl)
first_subtree Is Comp ps from next h = (from, refl)
first_subtree Is Pipe ps from next h = (next, h)
first_subtree Is (Farm w) [] from next h = (from, refl)
first_subtree Is (Farm w) (p ∷ ps) from next h = (h.1.0, (h.0, (h.1.0, h.1.1, refl)))
first_subtree Is (Map w cut) [] from next h = (from, refl)
first_subtree Is (Map w cut) (p ∷ ps) from next h = (h.1.0, (h.0, (h.1.0, h.1.1, refl)))
first_subtree Is (Reduce w len elem) ps from next h = (from, refl)
first_subtree Is (Loop turns tokens) [] from next h = (from, refl)
first_subtree Is (Loop turns tokens) (p ∷ ps) from next h = (h.1.0, (h.0, (h.1.0, h.1.1, refl)))

module _ (tree : Tree) (count : ℕ → ℕ) where
  -- each of these nodes has a lawful number
  AllLawful : List ℕ → Type 0
  AllLawful ks = (j : ℕ) → Contains ks j → IsLawfulCount (node_at tree j).form (count j)

  siblings_counted : (d : ℕ) →
      ((k next : ℕ) → IsSubtree d tree k next → AllLawful (counted_from tree d k) → IsCounted tree count d k) →
      (ps : List ℕ) (from next : ℕ) → AreSubtrees (IsSubtree d tree) ps from next →
      AllLawful (flat_map (counted_from tree d) ps) → AllByRecursion (IsCounted tree count d) ps
  unfolding AllLawful
  siblings_counted d each [] from next h all = tt
  siblings_counted d each (p ∷ ps) from next h all = (
    each p h.1.0 h.1.1 (λ j c. all j (Contains-append_left (counted_from tree d p) (flat_map (counted_from tree d) ps) j c)),
    siblings_counted d each ps h.1.0 next h.1.2
        (λ j c. all j (Contains-append_right (counted_from tree d p) (flat_map (counted_from tree d) ps) j c)),
  )

  counted_at : (d k next : ℕ) → IsSubtree d tree k next → AllLawful (counted_from tree d k) → IsCounted tree count d k
  unfolding IsSubtree IsCounted AllLawful
  counted_at zero k next h all = absurd h
  counted_at (suc d) k next h all =
      let node = node_at tree k in
      let some : 0 < suc d = omega arith in
      let e : suc d - 1 ≡ d = omega arith in
      let split : counted_from tree (suc d) k
      ≡ own_counted node.form k ++ flat_map (counted_from tree d) (outside_parts node.form node.parts) =
      rw e at (counted_from-step tree (suc d) k some) in
      let below = first_subtree (IsSubtree d tree) node.form node.parts (k + 1) next h.1 in (
        h.0,
        own_count node.form k (count k)
            (λ c. all k (subst (λ ks. Contains ks k) (sym split) (Contains-append_left (own_counted node.form k) _ k c))),
        siblings_counted d (counted_at d) (outside_parts node.form node.parts) (k + 1) below.0 below.1
            (λ j c. all j (subst (λ ks. Contains ks j) (sym split) (Contains-append_right (own_counted node.form k) _ j c))),
      )

-- the root of a lawful tree can be placed under lawful counts
pub root_counted : (tree : Tree) (counts : List ℕ) → IsLawfulTree tree → HasLawfulCounts tree counts →
    IsCounted tree (count_of tree counts) nesting 0
unfolding AllLawful
root_counted tree counts lawful h =
    counted_at tree (count_of tree counts) nesting 0 (length tree.nodes) lawful.preorder
    (λ j c. count_lawful tree (counted tree) counts [] j h c)

-- a node that can be placed is there, and has a lawful number if it has one
pub counted_there : (tree : Tree) (count : ℕ → ℕ) (d k : ℕ) → IsCounted tree count d k → k < length tree.nodes
unfolding IsCounted
counted_there tree count zero k h = absurd h
counted_there tree count (suc d) k h = h.0

pub counted_own : (tree : Tree) (count : ℕ → ℕ) (d k : ℕ) → IsCounted tree count d k →
    HasOwnCount (node_at tree k).form (count k)
unfolding IsCounted
counted_own tree count zero k h = absurd h
counted_own tree count (suc d) k h = h.1

pub counted_deep : (tree : Tree) (count : ℕ → ℕ) (d k : ℕ) → IsCounted tree count d k → 0 < d
unfolding IsCounted
counted_deep tree count zero k h = absurd h
counted_deep tree count (suc d) k h = omega arith

-- the numbers of each row of the table are in range
row_fit : (tree : Tree) (f : Form) (ins outs : ℕ) (ps : List ℕ) (k n : ℕ) → IsLawfulForm tree f ins outs ps →
    HasOwnCount f n → IsFit (template_row f k (length ps) n)
row_fit tree Seq ins outs ps k n lawful own = tt
row_fit tree Comp ins outs ps k n lawful own = tt
row_fit tree Pipe ins outs ps k n lawful own = lawful.0
row_fit tree (Farm w) ins outs ps k n lawful own = own.1.0
row_fit tree (Map w cut) ins outs ps k n lawful own = own.1.0
row_fit tree (Reduce w len elem) ins outs ps k n lawful own =
    let some : 1 ≤ 2 ^ own.1.0.0 = pow_pos own.1.0.0 in omega (arith, some, own.1.0.1)
row_fit tree (Loop turns tokens) ins outs [] k n lawful own = absurd lawful
row_fit tree (Loop turns tokens) ins outs (b ∷ []) k n lawful own = absurd lawful
row_fit tree (Loop turns tokens) ins outs (b ∷ (c ∷ [])) k n lawful own = lawful.limits.some_tokens
row_fit tree (Loop turns tokens) ins outs (b ∷ (c ∷ (x ∷ ps))) k n lawful own = absurd lawful

-- so each is a lawful template
pub row_lawful : (tree : Tree) (f : Form) (ins outs : ℕ) (ps : List ℕ) (k n : ℕ) → IsLawfulForm tree f ins outs ps →
    HasOwnCount f n → IsLawfulShape (shape_row f k (length ps) n)
unfolding kind_row
row_lawful tree f ins outs ps k n lawful own =
    kind_lawful (template_row f k (length ps) n) (row_fit tree f ins outs ps k n lawful own)

module _ (tree : Tree) (count : ℕ → ℕ) (k : ℕ) (lawful : IsLawfulTree tree) (there : k < length tree.nodes)
    (own : HasOwnCount (node_at tree k).form (count k)) where
  pub template_fit : IsFit (template_at tree count k)
  template_fit =
      let node = lawful_at tree lawful k there in
      row_fit tree (node_at tree k).form (node_at tree k).ins (node_at tree k).outs (node_at tree k).parts k (count k)
      node.form own

  pub shape_lawful : IsLawfulShape (shape_at tree count k)
  unfolding kind_at
  shape_lawful =
      let node = lawful_at tree lawful k there in
      row_lawful tree (node_at tree k).form (node_at tree k).ins (node_at tree k).outs (node_at tree k).parts k (count k)
      node.form own

-- the row of a node that was found
pub row_at : (tree : Tree) (count : ℕ → ℕ) (k : ℕ) (node : Node) → node ≡ node_at tree k → (parts n : ℕ) → parts ≡ length node.parts →
    n ≡ count k → template_row node.form k parts n ≡ template_at tree count k
row_at tree count k node found parts n long many =
    ap₂ (template_row node.form k) long many ∙ ap (λ (z : Node). template_row z.form k (length z.parts) (count k)) found

-- parts that follow one another end in the tree, and are no more than the nodes that they have
parts_end : (d : ℕ) (tree : Tree) → ((k next : ℕ) → IsSubtree d tree k next → next ≤ length tree.nodes) → (ps : List ℕ) (from next : ℕ) →
    from ≤ length tree.nodes → AreSubtrees (IsSubtree d tree) ps from next → next ≤ length tree.nodes
parts_end d tree each [] from next l are = omega (arith, are, l)
parts_end d tree each (p ∷ ps) from next l are = parts_end d tree each ps are.1.0 next (each p are.1.0 are.1.1) are.1.2

subtree_ends : (d : ℕ) (tree : Tree) (k next : ℕ) → IsSubtree d tree k next → next ≤ length tree.nodes
unfolding IsSubtree
subtree_ends zero tree k next h = absurd h
subtree_ends (suc d) tree k next h =
    parts_end d tree (subtree_ends d tree) (node_at tree k).parts (k + 1) next (omega (arith, h.0)) h.1

parts_few : (d : ℕ) (tree : Tree) (ps : List ℕ) (from next : ℕ) → AreSubtrees (IsSubtree d tree) ps from next → from + length ps ≤ next
parts_few d tree [] from next are = omega (arith, are)
parts_few d tree (p ∷ ps) from next are =
    let grows : p < are.1.0 = IsSubtree-grows d tree p are.1.0 are.1.1 in
    let rest : are.1.0 + length ps ≤ next = parts_few d tree ps are.1.0 next are.1.2 in
    omega (arith, are.0, grows, rest)

-- a node of a lawful tree has few parts
pub few_parts : (tree : Tree) (k : ℕ) → IsLawfulTree tree → k < length tree.nodes → length (node_at tree k).parts < 128
few_parts tree k lawful there =
    let is = subtree_at tree lawful k there in
    let ends = subtree_ends nesting tree k is.0 is.1 in
    let step = IsSubtree-step nesting tree k is.0 (omega arith) in
    let few = parts_few 5 tree (node_at tree k).parts (k + 1) is.0 (step.0 is.1).1 in
    omega (arith, few, ends, lawful.few_nodes)

fan_part : (i o n v : ℕ) → (get_or (fan_slots i o n) v no_slot).part ≡ 0
unfolding fan_slots no_slot
fan_part i o zero v = refl
fan_part i o (suc n) zero = refl
fan_part i o (suc n) (suc v) = fan_part (suc i) (suc o) n v

all_at : (P : ℕ → Type 0) (ps : List ℕ) (v : ℕ) → AllByRecursion P ps → v < length ps → P (slice_index ps v)
all_at P [] v h l = absurd (omega arith)
all_at P (p ∷ ps) zero h l = h.0
all_at P (p ∷ ps) (suc v) h l = all_at P ps v h.1 (omega arith)

no_slots : (k len level : ℕ) (base : Base) → (reduce_shape k len level).slots base ≡ []
unfolding reduce_shape
no_slots k len zero base = refl
no_slots k len (suc d) base = refl

-- the part at a slot is one of those outside units
row_slot : (tree : Tree) (f : Form) (ins outs : ℕ) (ps : List ℕ) (k n : ℕ) (base : Base) (v : ℕ) →
    IsLawfulForm tree f ins outs ps → v < length ((shape_row f k (length ps) n).slots base) →
    (P : ℕ → Type 0) → AllByRecursion P (outside_parts f ps) →
    P (slice_index ps (get_or ((shape_row f k (length ps) n).slots base) v no_slot).part)
unfolding kind_row
row_slot tree Seq ins outs ps k n base v lawful l P all = absurd (omega arith)
row_slot tree Comp ins outs ps k n base v lawful l P all = absurd (omega arith)
row_slot tree Pipe ins outs ps k n base v lawful l P all =
    let j : v < suc (length ps - 1) = omega (arith, l, stages_length 0 base.input base.chan base.output (length ps - 1)) in
    let is : (get_or ((shape_row Pipe k (length ps) n).slots base) v no_slot).part ≡ v =
    stage_part 0 base.input base.chan base.output (length ps - 1) v j ∙ omega arith in
    subst (λ z. P (slice_index ps z)) (sym is) (all_at P ps v all (omega (arith, j, lawful.0)))
row_slot tree (Farm w) ins outs [] k n base v lawful l P all = absurd lawful
row_slot tree (Farm w) ins outs (p ∷ []) k n base v lawful l P all =
    subst (λ z. P (slice_index (p ∷ []) z)) (sym (fan_part base.chan (base.chan + n) n v)) all.0
row_slot tree (Farm w) ins outs (p ∷ (q ∷ ps)) k n base v lawful l P all = absurd lawful
row_slot tree (Map w cut) ins outs [] k n base v lawful l P all = absurd lawful
row_slot tree (Map w cut) ins outs (p ∷ []) k n base v lawful l P all =
    subst (λ z. P (slice_index (p ∷ []) z)) (sym (fan_part base.chan (base.chan + n) n v)) all.0
row_slot tree (Map w cut) ins outs (p ∷ (q ∷ ps)) k n base v lawful l P all = absurd lawful
row_slot tree (Reduce w len elem) ins outs ps k n base v lawful l P all =
    absurd (omega (arith, l, ap length (no_slots k len (level_of n) base)))
row_slot tree (Loop turns tokens) ins outs [] k n base v lawful l P all = absurd lawful
row_slot tree (Loop turns tokens) ins outs (b ∷ []) k n base v lawful l P all = absurd lawful
row_slot tree (Loop turns tokens) ins outs (b ∷ (c ∷ [])) k n base zero lawful l P all = all.0
row_slot tree (Loop turns tokens) ins outs (b ∷ (c ∷ [])) k n base (suc v) lawful l P all = absurd (omega arith)
row_slot tree (Loop turns tokens) ins outs (b ∷ (c ∷ (x ∷ ps))) k n base v lawful l P all = absurd lawful

module _ (tree : Tree) (count : ℕ → ℕ) (k : ℕ) (lawful : IsLawfulTree tree) (there : k < length tree.nodes) (base : Base)
    (v : ℕ) (slot : v < length ((shape_at tree count k).slots base)) where
  pub slot_counted : (d : ℕ) → IsCounted tree count (suc d) k →
      IsCounted tree count d (part_at tree k (get_or ((shape_at tree count k).slots base) v no_slot).part)
  unfolding kind_at IsCounted
  slot_counted d h =
      let node = node_at tree k in
      row_slot tree node.form node.ins node.outs node.parts k (count k) base v (lawful_at tree lawful k there).form slot
      (IsCounted tree count d) h.2
