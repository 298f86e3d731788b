-- Facts about the parts of a lawful node.
use Rattle.std.proofs.Common.{rules, ◌≡◌, ℕ, ℤ, zero, suc, ◌+◌, ◌-◌, ◌*◌, ◌/◌, ◌<◌, ◌≤◌, true, IsTrue, Option, List, [], ◌∷◌, get_or, length, slice_index, arith, ap, sym, ◌∙◌, subst}
use Rattle.std.proofs.Math.Nat.{mul-div_cancel}
use Rattle.p3l_base.specs.declared.cut.Cut.{Cut}
use Rattle.p3l_base.specs.Cut.{IsLawfulCut, token_size}
use Rattle.p3l_base.specs.declared.outcome.Outcome.{Outcome}
use Rattle.p3l_base.specs.declared.outcome.Outcome.TheVariants.{Value, Trapped}
use Rattle.p3l_skel.specs.declared.tree.Form.{Form}
use Rattle.p3l_skel.specs.declared.tree.Form.TheVariants.{Seq, Farm, Map, Reduce, Loop}
use Rattle.p3l_skel.specs.declared.tree.Node.{Node}
use Rattle.p3l_skel.specs.declared.tree.Tree.{Tree}
use Rattle.p3l_skel.specs.Tree.{node_at, rescue_of, FitsForm, HasFittingLength, HasLength, GivesOuts, IsUnit, sequential_row, sequential_to}
use Rattle.p3l_skel.specs.Item.{on_value, item_row, item, elements, rescued}
use Rattle.p3l_skel.specs.Lawful.{AreSubtrees, IsSubtree, HasOnePart, HasTwoParts, HasWords, IsLawfulForm, IsLawfulMap, IsLawfulReduce, IsLawfulLoop, IsLawfulTree}
use Rattle.p3l_skel.proofs.Depth.{lawful_at, subtree_at, IsSubtree-grows, item-by_parts}
use Rattle.p3l_skel.proofs.Below.{sequential_to-step}
use Rattle.p3l_skel.proofs.Kept.{fits-ins, item-keeps, some_factor}
use Rattle.p3l_skel.proofs.Elements.{length-pieces}

later_at : (Is : ℕ → ℕ → Type 0) → ((p next : ℕ) → Is p next → p < next) → (ps : List ℕ) (from next : ℕ) → AreSubtrees Is ps from next → (i d : ℕ) → i < length ps → from ≤ get_or ps i d
later_at Is grows [] from next subtrees i d inside = absurd (omega arith)
later_at Is grows (p ∷ ps) from next subtrees zero d inside = omega (arith, subtrees.0)
later_at Is grows (p ∷ ps) from next subtrees (suc i) d inside =
    let first : p ≡ from = subtrees.0 in
    let grown : p < subtrees.1.0 = grows p subtrees.1.0 subtrees.1.1 in
    let rest : subtrees.1.0 ≤ get_or ps i d = later_at Is grows ps subtrees.1.0 next subtrees.1.2 i d (omega arith) in
    omega arith

least_at : (Is : ℕ → ℕ → Type 0) → ((p next : ℕ) → Is p next → p < next) → (ps : List ℕ) (from next : ℕ) → AreSubtrees Is ps from next → (i d : ℕ) → i < length ps → slice_index ps 0 ≤ get_or ps i d
least_at Is grows [] from next subtrees i d inside = absurd (omega arith)
least_at Is grows (p ∷ ps) from next subtrees i d inside =
    let first : p ≡ from = subtrees.0 in
    let rest : from ≤ get_or (p ∷ ps) i d = later_at Is grows (p ∷ ps) from next subtrees i d inside in
    subst (λ n. n ≤ get_or (p ∷ ps) i d) (sym first) rest

pub one_part : (P : ℕ → Type 0) (parts : List ℕ) → HasOnePart P parts → P (slice_index parts 0) × (0 < length parts)
one_part P [] has = absurd has
one_part P (p ∷ []) has = (has, omega arith)
one_part P (p ∷ (q ∷ ps)) has = absurd has

pub two_parts : (P : ℕ → ℕ → Type 0) (parts : List ℕ) → HasTwoParts P parts → P (slice_index parts 0) (slice_index parts 1) × (1 < length parts)
two_parts P [] has = absurd has
two_parts P (p ∷ []) has = absurd has
two_parts P (p ∷ (q ∷ [])) has = (has, omega arith)
two_parts P (p ∷ (q ∷ (r ∷ ps))) has = absurd has

-- a reduce's words hold an element
pub some_elements : (elem n : ℕ) (words : List ℤ) → 0 < elem → ((k : ℕ) × (1 ≤ k) × (length words ≡ k * elem)) → 1 ≤ length (elements elem words)
some_elements elem n words some fits =
    let count : length words / elem ≡ fits.0 = ap (λ m. m / elem) fits.2 ∙ mul-div_cancel fits.0 some in
    omega (arith, length-pieces (length words / elem) elem words, fits.1)

pub along_ins : (cut : Cut) (ins outs n part_ins part_outs : ℕ) → n ≡ ins → IsLawfulCut cut ins outs part_ins part_outs → IsLawfulCut cut n (token_size cut.outs) part_ins part_outs
along_ins cut ins outs n part_ins part_outs same lawful =
    subst (λ m. IsLawfulCut cut m (token_size cut.outs) part_ins part_outs) (sym same)
    (subst (λ m. IsLawfulCut cut ins m part_ins part_outs) (sym lawful.outs_end) lawful)

module _ (tree : Tree) (lawful : IsLawfulTree tree) where
  pub later : (node : Node) (k : ℕ) → node ≡ node_at tree k → k < length tree.nodes → (i d : ℕ) → i < length node.parts → k < get_or node.parts i d
  unfolding IsSubtree
  later node k found inside =
      let subtree = subtree_at tree lawful k inside in
      subst (λ (n : Node). (i d : ℕ) → i < length n.parts → k < get_or n.parts i d) (sym found)
      (λ i d h. let rest : k + 1 ≤ get_or (node_at tree k).parts i d = later_at (IsSubtree 5 tree) (IsSubtree-grows 5 tree) (node_at tree k).parts (k + 1) subtree.0 subtree.1.1 i d h in omega arith)

  pub least : (node : Node) (k : ℕ) → node ≡ node_at tree k → k < length tree.nodes → (i d : ℕ) → i < length node.parts → slice_index node.parts 0 ≤ get_or node.parts i d
  unfolding IsSubtree
  least node k found inside =
      let subtree = subtree_at tree lawful k inside in
      subst (λ (n : Node). (i d : ℕ) → i < length n.parts → slice_index n.parts 0 ≤ get_or n.parts i d) (sym found)
      (least_at (IsSubtree 5 tree) (IsSubtree-grows 5 tree) (node_at tree k).parts (k + 1) subtree.0 subtree.1.1)

  pub form_at : (node : Node) (k : ℕ) (form : Form) → node ≡ node_at tree k → k < length tree.nodes → node.form ≡ form → IsLawfulForm tree form node.ins node.outs node.parts
  form_at node k form found inside is =
      let at = lawful_at tree lawful k inside in
      subst (λ f. IsLawfulForm tree f node.ins node.outs node.parts) is
      (subst (λ (n : Node). IsLawfulForm tree n.form n.ins n.outs n.parts) (sym found) at.form)

  pub fits_at : (k n : ℕ) → k < length tree.nodes → n ≡ (node_at tree k).ins → HasFittingLength tree k n
  fits_at k n inside same =
      let at = lawful_at tree lawful k inside in
      fits-ins tree (node_at tree k).form (node_at tree k).ins (node_at tree k).outs (node_at tree k).parts n at.ins at.form same

  pub fitting : (node : Node) (k : ℕ) (form : Form) (n : ℕ) → node ≡ node_at tree k → node.form ≡ form → HasFittingLength tree k n → FitsForm form node.ins n
  fitting node k form n found is fits =
      subst (λ f. FitsForm f node.ins n) is (subst (λ (m : Node). FitsForm m.form m.ins n) (sym found) fits)

  pub ins_at : (node : Node) (k : ℕ) → node ≡ node_at tree k → k < length tree.nodes → 1 ≤ node.ins
  ins_at node k found inside =
      let at = lawful_at tree lawful k inside in
      subst (λ (m : Node). 1 ≤ m.ins) (sym found) at.ins.0

  pub row_at : (leaf : ℕ → List ℤ → Outcome) (node : Node) (k : ℕ) (form : Form) (words : List ℤ) → node ≡ node_at tree k → k < length tree.nodes → node.form ≡ form →
      item_row (rescued (rescue_of tree node.module) node.outs) leaf node.module form node.parts (item tree leaf) words ≡ item tree leaf k words
  row_at leaf node k form words found inside is =
      sym (ap (λ f. item_row (rescued (rescue_of tree node.module) node.outs) leaf node.module f node.parts (item tree leaf) words) is)
      ∙ (ap (λ (n : Node). item_row (rescued (rescue_of tree n.module) n.outs) leaf n.module n.form n.parts (item tree leaf) words) found ∙ sym (item-by_parts tree leaf lawful k words inside))

  pub is_unit : (other : Tree) (node : Node) (k : ℕ) → other ≡ tree → node ≡ node_at tree k → k < length tree.nodes → node.form ≡ Seq → IsUnit other k
  is_unit other node k served found inside is =
      let form : (node_at tree k).form ≡ Seq = sym (ap (λ (n : Node). n.form) found) ∙ is in
      let some : 0 < 6 = omega arith in
      let seq : sequential_to tree 6 k ≡ true = sequential_to-step tree 6 k some ∙ ap (λ f. sequential_row f (sequential_to tree (6 - 1) (slice_index (node_at tree k).parts 0))) form in
      subst (λ (t : Tree). IsUnit t k) (sym served)
      (record { in_tree = inside; sequential = subst (λ b. IsTrue b) (sym seq) (search rules) })

  pub next_keeps : (leaf : ℕ → List ℤ → Outcome) → GivesOuts tree leaf → (k : ℕ) (outcome : Outcome) → k < length tree.nodes → HasLength (node_at tree k).ins outcome → HasLength (node_at tree k).outs (on_value (item tree leaf k) outcome)
  next_keeps leaf gives k (Value words) inside fits =
      item-keeps tree leaf lawful gives k words inside (fits_at k (length words) inside fits)
  next_keeps leaf gives k (Trapped trap) inside fits = tt

  pub value_keeps : (leaf : ℕ → List ℤ → Outcome) → GivesOuts tree leaf → (k : ℕ) (words next : List ℤ) → k < length tree.nodes → length words ≡ (node_at tree k).ins → Value next ≡ item tree leaf k words → length next ≡ (node_at tree k).outs
  value_keeps leaf gives k words next inside fits is =
      subst (HasLength (node_at tree k).outs) (sym is) (next_keeps leaf gives k (Value words) inside fits)

  module _ (node : Node) (k : ℕ) (found : node ≡ node_at tree k) (inside : k < length tree.nodes) where
    pub first_later : 0 < length node.parts → k < slice_index node.parts 0
    first_later some = later node k found inside 0 0 some

    pub farm_part : {w : Option ℕ} → node.form ≡ Farm w → HasWords tree (slice_index node.parts 0) node.ins node.outs × (k < slice_index node.parts 0)
    farm_part {w} is =
        let one = one_part (λ p. HasWords tree p node.ins node.outs) node.parts (form_at node k (Farm w) found inside is) in
        (one.0, first_later one.1)

    pub map_part : {w : Option ℕ} {cut : Cut} → node.form ≡ Map w cut → IsLawfulMap tree cut node.ins node.outs (slice_index node.parts 0) × (k < slice_index node.parts 0)
    map_part {w} {cut} is =
        let one = one_part (IsLawfulMap tree cut node.ins node.outs) node.parts (form_at node k (Map w cut) found inside is) in
        (one.0, first_later one.1)

    pub reduce_part : {w : Option ℕ} {len elem : ℕ} → node.form ≡ Reduce w len elem → IsLawfulReduce tree len elem node.ins node.outs (slice_index node.parts 0) × (k < slice_index node.parts 0) × (0 < elem)
    reduce_part {w} {len} {elem} is =
        let one = one_part (IsLawfulReduce tree len elem node.ins node.outs) node.parts (form_at node k (Reduce w len elem) found inside is) in
        (one.0, first_later one.1, some_factor len elem node.ins (ins_at node k found inside) one.0.elements)

    pub loop_parts : {turns tokens : ℕ} → node.form ≡ Loop turns tokens → IsLawfulLoop tree turns tokens node.ins node.outs (slice_index node.parts 0) (slice_index node.parts 1) × (k < slice_index node.parts 0) × (slice_index node.parts 0 ≤ slice_index node.parts 1)
    loop_parts {turns} {tokens} is =
        let two = two_parts (IsLawfulLoop tree turns tokens node.ins node.outs) node.parts (form_at node k (Loop turns tokens) found inside is) in
        (two.0, first_later (omega arith), least node k found inside 1 0 two.1)
