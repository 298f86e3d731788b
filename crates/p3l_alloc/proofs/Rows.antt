-- The rows of the table, node by node.
use Rattle.std.proofs.Common.{◌≡◌, ℕ, zero, suc, ◌+◌, ◌-◌, ◌*◌, ◌<◌, ◌≤◌, List, [], ◌∷◌, ◌++◌, drop, get_or, length, length-append, refl, sym, ap, ◌∙◌, subst, arith, inl, inr, add-one, Result, Ok, Err}
use Rattle.std.specs.Prelude.{slice_index, slice_index_or, ⊤}
use Rattle.p3l_base.specs.Memory.{IfGiven}
use Rattle.std.proofs.Math.Nat.{mul-le-mul_right}
use Rattle.std.proofs.Math.Seq.{drop-cons}
use Rattle.std.proofs.lemmas.Bool.{cases_lt}
use Rattle.std.proofs.lemmas.List.{get_or_append_left, get_or_push, drop_all}
use Rattle.p3l_skel.specs.declared.tree.Form.{Form}
use Rattle.p3l_skel.specs.declared.tree.Form.TheVariants.{Seq, Comp, Pipe, Farm, Map, Reduce}
use Rattle.p3l_skel.specs.declared.tree.Form.TheVariants as form
use Rattle.p3l_skel.specs.declared.tree.Tree.{Tree}
use Rattle.p3l_skel.specs.Tree.{node_at}
use Rattle.p3l_skel.specs.Lawful.{AreSubtrees, IsSubtree, IsLawfulForm, IsLawfulTree}
use Rattle.p3l_skel.proofs.Depth.{lawful_at, subtree_at}
use Rattle.p3l_skel.proofs.Subtrees.{IsSubtree-step}
use Rattle.p3l_cost.specs.declared.costs.Costs.{Costs}
use Rattle.p3l_cost.specs.Costs.{AreCostsOf}
use Rattle.p3l_model.specs.declared.cost.Sharing.TheVariants.{Items, Elements}
use Rattle.p3l_model.specs.declared.cost.NodeCost.{NodeCost}
use Rattle.p3l_model.specs.declared.cost.NodeCost.TheVariants.{Unit, Stages, Workers, Segments, Loop}
use Rattle.p3l_model.specs.NodeCost.{never, node_cost, node_cost_row}
use Rattle.p3l_model.specs.Costed.{Costed, Empty, Both, costed, costed_row, stages, slowest, IsSound}
use Rattle.p3l_model.proofs.Connect.{costed_at}
use Rattle.p3l_model.proofs.Deep.{costed-by_parts}
use Rattle.p3l_model.proofs.Nested.{subtree_end}
use Rattle.p3l_alloc.specs.Soonest.{IsRow, HasPart, over_part}
use Rattle.p3l_alloc.specs.Table.{row_in, IsRowFor, AreRows, IsTableFrom}

-- one entry more
pub entries_more : (P : ℕ → ℕ → Type 0) (row : List ℕ) (n x : ℕ) → length row ≡ n → ((p : ℕ) → p < n → P p (slice_index_or row p never)) → P n x → (p : ℕ) → p < n + 1 → P p (slice_index_or (row ++ x ∷ []) p never)
entries_more P row n x size before here p below =
    elim (cases_lt p n) [
      | inl old ↦ subst (P p) (sym (get_or_append_left row (x ∷ []) never p (omega arith))) (before p old)
      | inr last ↦ let e : p ≡ n = omega arith in
          subst (P p) (sym (get_or_push row x never p (size ∙ sym e))) (subst (λ q. P q x) (sym e) here)
    ]

pub row_fewer : (a : Costed) (most q : ℕ) (row : List ℕ) → q ≤ most → IsRow a most row → IsRow a q row
row_fewer a most q row less all = λ p h. all p (omega arith)

pub part_fewer : (cost : NodeCost) (a : Costed) (most q : ℕ) (row : List ℕ) → q ≤ most → HasPart cost a most row → HasPart cost a q row
part_fewer (Unit s) a most q row less part = tt
part_fewer Stages a most q row less part = tt
part_fewer (Workers r h e) a most q row less part = record { sharing = part.sharing; process = part.process; slow = part.slow; soonest = row_fewer a most q row less part.soonest }
part_fewer (Segments r fold) a most q row less part = tt
part_fewer (Loop t e) a most q row less part = record { some = part.some; slow = part.slow; soonest = row_fewer a most q row less part.soonest }

-- one row more
pub table_more : (tree : Tree) (costs : Costs) (most : ℕ) (rows : List (List ℕ)) (row : List ℕ) (node : ℕ) → node < length tree.nodes → IsTableFrom tree costs most rows (node + 1) → IsRowFor tree costs most node row → IsTableFrom tree costs most (rows ++ row ∷ []) node
table_more tree costs most rows row node inside table here =
    let size = table.size in
    record {
      size = omega (arith, length-append rows (row ∷ []));
      each = λ j from within. elim (cases_lt node j) [
        | inl later ↦
            subst (IsRowFor tree costs most j) (sym (get_or_append_left rows (row ∷ []) [] (length tree.nodes - (j + 1)) (omega arith))) (table.each j (omega arith) within)
        | inr same ↦ let e : node ≡ j = omega arith in
            let place : length tree.nodes - (j + 1) ≡ length rows = omega arith in
            subst (IsRowFor tree costs most j) (sym (get_or_push rows row [] (length tree.nodes - (j + 1)) (sym place))) (subst (λ k. IsRowFor tree costs most k row) e here)
      ];
    }

pub given_more : {A E : Type 0} (P Q : A → Type 0) (r : Result A E) → ((v : A) → P v → Q v) → IfGiven r P → IfGiven r Q
given_more P Q (Ok v) more h = more v h
given_more P Q (Err e) more h = h

-- no stages are left
pub stages_none : (below : ℕ → Costed) (parts : List ℕ) (n : ℕ) (P : Costed → Type 0) → length parts ≤ n → P Empty → P (stages below (drop n parts))
unfolding stages
stages_none below parts n P past whole = rw (drop_all n parts past) whole

-- the last stages with one before them
pub stages_more : (below : ℕ → Costed) (parts : List ℕ) (i : ℕ) (P : Costed → Type 0) → i < length parts → P (Both (below (get_or parts i 0)) (stages below (drop (i + 1) parts))) → P (stages below (drop i parts))
unfolding stages
stages_more below parts i P inside whole = rw (drop-cons parts i 0 inside) (rw add-one at whole)

siblings_after : (tree : Tree) (d : ℕ) (ps : List ℕ) (from next i : ℕ) (x : ℕ) → AreSubtrees (IsSubtree d tree) ps from next → i < length ps → (from ≤ get_or ps i x) × (get_or ps i x < length tree.nodes)
unfolding IsSubtree
siblings_after tree zero [] from next i x h inside = absurd (omega arith)
siblings_after tree zero (p ∷ ps) from next i x h inside = absurd h.1.1
siblings_after tree (suc d) [] from next i x h inside = absurd (omega arith)
siblings_after tree (suc d) (p ∷ ps) from next zero x h inside = (omega (arith, h.0), h.1.1.0)
siblings_after tree (suc d) (p ∷ ps) from next (suc i) x h inside =
    let first = subtree_end (suc d) tree p h.1.0 h.1.1 in
    let rest = siblings_after tree (suc d) ps h.1.0 next i x h.1.2 (omega arith) in
    (omega (arith, h.0, rest.0), rest.1)

pub slow_stage : (below : ℕ → Costed) (ps : List ℕ) (i x : ℕ) → i < length ps → slowest (stages below ps) < never → slowest (below (get_or ps i x)) < never
unfolding stages slowest
slow_stage below [] i x h slow = absurd (omega arith)
slow_stage below (p ∷ ps) zero x h slow = omega arith
slow_stage below (p ∷ ps) (suc i) x h slow = slow_stage below ps i x (omega arith) (omega arith)

-- a node of this cost has a first part
abbrev pub NeedsFirst : NodeCost → Type 0
NeedsFirst (Unit s) = ⊥
NeedsFirst Stages = ⊥
NeedsFirst (Workers r h e) = ⊤
NeedsFirst (Segments r fold) = ⊥
NeedsFirst (Loop t e) = ⊤

pub has_first : (tree : Tree) (costs : Costs) (k : ℕ) (f : Form) (ins outs : ℕ) (parts : List ℕ) → IsLawfulForm tree f ins outs parts → NeedsFirst (node_cost_row tree costs k f) → 1 ≤ length parts
has_first tree costs k Seq ins outs parts lawful need = absurd need
has_first tree costs k Comp ins outs parts lawful need = absurd need
has_first tree costs k Pipe ins outs parts lawful need = absurd need
has_first tree costs k (Farm w) ins outs [] lawful need = absurd lawful
has_first tree costs k (Farm w) ins outs (p ∷ ps) lawful need = omega arith
has_first tree costs k (Map w cut) ins outs [] lawful need = absurd lawful
has_first tree costs k (Map w cut) ins outs (p ∷ ps) lawful need = omega arith
has_first tree costs k (Reduce w len elem) ins outs parts lawful need = absurd need
has_first tree costs k (form.Loop turns tokens) ins outs [] lawful need = absurd lawful
has_first tree costs k (form.Loop turns tokens) ins outs (p ∷ ps) lawful need = omega arith

-- a sound node's first part, with its row
has_part : (cost : NodeCost) (below : ℕ → Costed) (parts row : List ℕ) (most : ℕ) → IsSound (costed_row cost below parts) → slowest (costed_row cost below parts) < never → (NeedsFirst cost → slowest (below (slice_index parts 0)) < never → IsRow (below (slice_index parts 0)) most row) → HasPart cost (below (slice_index parts 0)) most row
unfolding costed_row IsSound slowest
has_part (Unit s) below parts row most sound slow rows = tt
has_part Stages below parts row most sound slow rows = tt
has_part (Workers r Items e) below parts row most sound slow rows =
    let early : slowest (below (slice_index parts 0)) < never = omega arith in
    record { sharing = tt; process = sound.1; slow = early; soonest = rows tt early }
has_part (Workers r (Elements m) e) below parts row most sound slow rows =
    let once : 1 * slowest (below (slice_index parts 0)) ≤ m * slowest (below (slice_index parts 0)) = mul-le-mul_right (slowest (below (slice_index parts 0))) sound.0 in
    let early : slowest (below (slice_index parts 0)) < never = omega arith in
    record { sharing = sound.0; process = sound.1; slow = early; soonest = rows tt early }
has_part (Segments r fold) below parts row most sound slow rows = tt
has_part (Loop t e) below parts row most sound slow rows =
    let once : 1 * slowest (below (slice_index parts 0)) ≤ t * slowest (below (slice_index parts 0)) = mul-le-mul_right (slowest (below (slice_index parts 0))) sound.0 in
    let early : slowest (below (slice_index parts 0)) < never = omega arith in
    record { some = sound.0; slow = early; soonest = rows tt early }

over_is : (cost : NodeCost) (below : ℕ → Costed) (parts : List ℕ) → (cost ≡ Stages → ⊥) → over_part cost (below (slice_index parts 0)) ≡ costed_row cost below parts
unfolding costed_row
over_is (Unit s) below parts other = refl
over_is Stages below parts other = absurd (other refl)
over_is (Workers r h e) below parts other = refl
over_is (Segments r fold) below parts other = refl
over_is (Loop t e) below parts other = refl

module _ (tree : Tree) (costs : Costs) (lawful : IsLawfulTree tree) (priced : AreCostsOf tree costs) where
  -- the parts of a node come after it
  pub parts_after : (k i x : ℕ) → k < length tree.nodes → i < length (node_at tree k).parts → (k + 1 ≤ get_or (node_at tree k).parts i x) × (get_or (node_at tree k).parts i x < length tree.nodes)
  parts_after k i x inside within =
      let subtree = subtree_at tree lawful k inside in
      let below = (IsSubtree-step 6 tree k subtree.0 (omega arith)).0 subtree.1 in
      siblings_after tree 5 (node_at tree k).parts (k + 1) subtree.0 i x below.1 within

  pub sound_at : (k : ℕ) → k < length tree.nodes → IsSound (costed tree costs k)
  sound_at k inside = let subtree = subtree_at tree lawful k inside in (costed_at tree costs lawful priced 6 k subtree.0 subtree.1).sound

  -- the first part of a node meets the node's needs
  pub part_ready : (k most from : ℕ) (rows : List (List ℕ)) → k < length tree.nodes → from ≤ k + 1 → IsTableFrom tree costs most rows from → slowest (costed tree costs k) < never → HasPart (node_cost tree costs k) (costed tree costs (slice_index (node_at tree k).parts 0)) most (row_in tree rows (slice_index (node_at tree k).parts 0))
  unfolding node_cost
  part_ready k most from rows inside early table slow =
      let is = costed-by_parts tree costs lawful k inside in
      let parts = (node_at tree k).parts in
      has_part (node_cost tree costs k) (costed tree costs) parts (row_in tree rows (slice_index parts 0)) most (subst IsSound is (sound_at k inside)) (subst (λ a. slowest a < never) is slow)
      (λ need first.
      let some = has_first tree costs k (node_at tree k).form (node_at tree k).ins (node_at tree k).outs parts (lawful_at tree lawful k inside).form need in
      let after = parts_after k 0 0 inside (omega arith) in
      table.each (slice_index parts 0) (omega (arith, after.0)) after.1 first)

  pub row_over : (k : ℕ) → k < length tree.nodes → (node_cost tree costs k ≡ Stages → ⊥) → over_part (node_cost tree costs k) (costed tree costs (slice_index (node_at tree k).parts 0)) ≡ costed tree costs k
  row_over k inside other = over_is (node_cost tree costs k) (costed tree costs) (node_at tree k).parts other ∙ sym (costed-by_parts tree costs lawful k inside)

  pub stages_are : (k : ℕ) → k < length tree.nodes → node_cost tree costs k ≡ Stages → costed tree costs k ≡ stages (costed tree costs) (node_at tree k).parts
  unfolding costed_row
  stages_are k inside is = costed-by_parts tree costs lawful k inside ∙ ap (λ (n : NodeCost). costed_row n (costed tree costs) (node_at tree k).parts) is

  -- the rows of a pipe's stages
  pub stages_ready : (k most from : ℕ) (rows : List (List ℕ)) → k < length tree.nodes → from ≤ k + 1 → node_cost tree costs k ≡ Stages → IsTableFrom tree costs most rows from → slowest (costed tree costs k) < never → AreRows tree rows (costed tree costs) most (node_at tree k).parts
  stages_ready k most from rows inside early is table slow = λ i x within.
      let parts = (node_at tree k).parts in
      let late = slow_stage (costed tree costs) parts i x within (subst (λ a. slowest a < never) (stages_are k inside is) slow) in
      let after = parts_after k i x inside within in
      table.each (get_or parts i x) (omega (arith, after.0)) after.1 late
