-- A node's meaning doesn't depend on the depth bound, once its subtree ends within it.
use Rattle.std.proofs.Common.{◌≡◌, ℕ, ℤ, zero, suc, ◌+◌, ◌<◌, ◌≤◌, List, [], ◌∷◌, length, refl, arith, ap, sym, ◌∙◌, subst, inl, inr}
use Rattle.std.proofs.lemmas.Bool.{cases_lt}
use Rattle.p3l_base.specs.declared.outcome.Outcome.{Outcome}
use Rattle.p3l_base.specs.declared.outcome.Outcome.TheVariants.{Value}
use Rattle.p3l_skel.specs.declared.tree.Form.{Form}
use Rattle.p3l_skel.specs.declared.tree.Form.TheVariants.{Seq, Comp, Pipe, Farm, Map, Reduce, Loop}
use Rattle.p3l_skel.specs.declared.tree.Tree.{Tree}
use Rattle.p3l_skel.specs.Tree.{node_at, no_node, by_parts, nesting}
use Rattle.p3l_skel.specs.Item.{on_value, in_order, mapped, reduced, turned, turns_spent, item_row, rescued_at, item_to, item}
use Rattle.p3l_skel.specs.Lawful.{IsSubtree, AreSubtrees, IsLawfulForm, IsLawfulNode, IsLawfulTree}

-- functions that give the same everywhere are the same
same_function : {A B : Type 0} (f g : A → B) → ((x : A) → f x ≡ g x) → f ≡ g
same_function f g h = λ i x. h x i

-- two meanings that are the same at these nodes
SameAt : (ℕ → List ℤ → Outcome) → (ℕ → List ℤ → Outcome) → List ℕ → Type 0
SameAt f g [] = Unit {0}
SameAt f g (p ∷ ps) = (f p ≡ g p) × SameAt f g ps

in_order-same : (f g : ℕ → List ℤ → Outcome) (ps : List ℕ) (outcome : Outcome) → SameAt f g ps → in_order f ps outcome ≡ in_order g ps outcome
unfolding SameAt
in_order-same f g [] outcome same = refl
in_order-same f g (p ∷ ps) outcome same =
    ap (λ m. in_order f ps (on_value m outcome)) same.0 ∙ in_order-same f g ps (on_value (g p) outcome) same.1

-- a lawful node's result on words depends only on the results of its parts
item_row-same : (tree : Tree) (rescue : Outcome → Outcome) (leaf : ℕ → List ℤ → Outcome) (home : ℕ) (form : Form) (ins outs : ℕ) (parts : List ℕ) (f g : ℕ → List ℤ → Outcome) → IsLawfulForm tree form ins outs parts → SameAt f g parts → (words : List ℤ) → item_row rescue leaf home form parts f words ≡ item_row rescue leaf home form parts g words
unfolding SameAt
item_row-same tree rescue leaf home Seq ins outs parts f g lawful same words = refl
item_row-same tree rescue leaf home Comp ins outs parts f g lawful same words = ap rescue (in_order-same f g parts (Value words) same)
item_row-same tree rescue leaf home Pipe ins outs parts f g lawful same words = in_order-same f g parts (Value words) same
item_row-same tree rescue leaf home (Farm w) ins outs [] f g lawful same words = absurd lawful
item_row-same tree rescue leaf home (Farm w) ins outs (p ∷ ps) f g lawful same words = ap (λ m. m words) same.0
item_row-same tree rescue leaf home (Map w cut) ins outs [] f g lawful same words = absurd lawful
item_row-same tree rescue leaf home (Map w cut) ins outs (p ∷ ps) f g lawful same words = ap (λ m. mapped cut m words) same.0
item_row-same tree rescue leaf home (Reduce w len elem) ins outs [] f g lawful same words = absurd lawful
item_row-same tree rescue leaf home (Reduce w len elem) ins outs (p ∷ ps) f g lawful same words = ap (λ m. reduced elem m words) same.0
item_row-same tree rescue leaf home (Loop turns tokens) ins outs [] f g lawful same words = absurd lawful
item_row-same tree rescue leaf home (Loop turns tokens) ins outs (p ∷ []) f g lawful same words = absurd lawful
item_row-same tree rescue leaf home (Loop turns tokens) ins outs (p ∷ (q ∷ ps)) f g lawful same words =
    ap (λ m. turned m (f q) (turns_spent home) turns words) same.0 ∙ ap (λ m. turned (g p) m (turns_spent home) turns words) same.1.0

pub item_to-step : (tree : Tree) (leaf : ℕ → List ℤ → Outcome) (d k : ℕ) → item_to tree leaf (suc d) k ≡ item_row (rescued_at tree k) leaf (node_at tree k).module (node_at tree k).form (node_at tree k).parts (item_to tree leaf d)
unfolding item_to by_parts
item_to-step tree leaf d k = refl

-- a node of a lawful tree is lawful
pub lawful_at : (tree : Tree) → IsLawfulTree tree → (k : ℕ) → k < length tree.nodes → IsLawfulNode tree (node_at tree k)
lawful_at tree lawful k inside = lawful.nodes k no_node inside

module _ (tree : Tree) (leaf : ℕ → List ℤ → Outcome) (lawful : IsLawfulTree tree) where
  parts_agree : (d e : ℕ) → ((k next : ℕ) → IsSubtree d tree k next → item_to tree leaf e k ≡ item_to tree leaf d k) → (ps : List ℕ) (from next : ℕ) → AreSubtrees (IsSubtree d tree) ps from next → SameAt (item_to tree leaf e) (item_to tree leaf d) ps
  unfolding SameAt
  parts_agree d e same [] from next subtrees = tt
  parts_agree d e same (p ∷ ps) from next subtrees =
      (same p subtrees.1.0 subtrees.1.1, parts_agree d e same ps subtrees.1.0 next subtrees.1.2)

  -- more depth than a subtree has changes nothing
  pub item_to-deep : (d e k next : ℕ) → d ≤ e → IsSubtree d tree k next → item_to tree leaf e k ≡ item_to tree leaf d k
  unfolding IsSubtree
  item_to-deep zero e k next deep subtree = absurd subtree
  item_to-deep (suc d) zero k next deep subtree = absurd (omega arith)
  item_to-deep (suc d) (suc e) k next deep subtree =
      let node = lawful_at tree lawful k subtree.0 in
      let less : d ≤ e = omega arith in
      item_to-step tree leaf e k
      ∙ (same_function _ _ (item_row-same tree (rescued_at tree k) leaf (node_at tree k).module (node_at tree k).form (node_at tree k).ins (node_at tree k).outs (node_at tree k).parts (item_to tree leaf e) (item_to tree leaf d) node.form (parts_agree d e (λ j n s. item_to-deep d e j n less s) (node_at tree k).parts (k + 1) next subtree.1))
      ∙ sym (item_to-step tree leaf d k))

-- the subtree at any number in a subtree
siblings_at : (Is Other : ℕ → ℕ → Type 0) → ((p next : ℕ) → Is p next → p < next) → ((p next k : ℕ) → Is p next → p ≤ k → k < next → (m : ℕ) × Other k m) → (ps : List ℕ) (from next k : ℕ) → AreSubtrees Is ps from next → from ≤ k → k < next → (m : ℕ) × Other k m
siblings_at Is Other grows inner [] from next k subtrees low high = absurd (omega arith)
siblings_at Is Other grows inner (p ∷ ps) from next k subtrees low high =
    elim (cases_lt k subtrees.1.0) [
      | inl here ↦ inner p subtrees.1.0 k subtrees.1.1 (omega arith) here
      | inr later ↦ siblings_at Is Other grows inner ps subtrees.1.0 next k subtrees.1.2 later high
    ]

siblings_grow : (Is : ℕ → ℕ → Type 0) → ((p next : ℕ) → Is p next → p < next) → (ps : List ℕ) (from next : ℕ) → AreSubtrees Is ps from next → from ≤ next
siblings_grow Is grows [] from next subtrees = omega arith
siblings_grow Is grows (p ∷ ps) from next subtrees =
    let first : p < subtrees.1.0 = grows p subtrees.1.0 subtrees.1.1 in
    let rest : subtrees.1.0 ≤ next = siblings_grow Is grows ps subtrees.1.0 next subtrees.1.2 in
    omega arith

pub IsSubtree-grows : (d : ℕ) (tree : Tree) (k next : ℕ) → IsSubtree d tree k next → k < next
unfolding IsSubtree
IsSubtree-grows zero tree k next subtree = absurd subtree
IsSubtree-grows (suc d) tree k next subtree =
    let rest : k + 1 ≤ next = siblings_grow (IsSubtree d tree) (IsSubtree-grows d tree) (node_at tree k).parts (k + 1) next subtree.1 in
    omega arith

siblings_deeper : (Is Other : ℕ → ℕ → Type 0) → ((p next : ℕ) → Is p next → Other p next) → (ps : List ℕ) (from next : ℕ) → AreSubtrees Is ps from next → AreSubtrees Other ps from next
siblings_deeper Is Other more [] from next subtrees = subtrees
siblings_deeper Is Other more (p ∷ ps) from next subtrees =
    (subtrees.0, (subtrees.1.0, more p subtrees.1.0 subtrees.1.1, siblings_deeper Is Other more ps subtrees.1.0 next subtrees.1.2))

pub IsSubtree-deeper : (d e : ℕ) (tree : Tree) (k next : ℕ) → d ≤ e → IsSubtree d tree k next → IsSubtree e tree k next
unfolding IsSubtree
IsSubtree-deeper zero e tree k next deep subtree = absurd subtree
IsSubtree-deeper (suc d) zero tree k next deep subtree = absurd (omega arith)
IsSubtree-deeper (suc d) (suc e) tree k next deep subtree =
    let less : d ≤ e = omega arith in
    (subtree.0, siblings_deeper (IsSubtree d tree) (IsSubtree e tree) (λ j n s. IsSubtree-deeper d e tree j n less s) (node_at tree k).parts (k + 1) next subtree.1)

pub IsSubtree-at : (d : ℕ) (tree : Tree) (root next k : ℕ) → IsSubtree d tree root next → root ≤ k → k < next → (m : ℕ) × IsSubtree d tree k m
unfolding IsSubtree
IsSubtree-at zero tree root next k subtree low high = absurd subtree
IsSubtree-at (suc d) tree root next k subtree low high =
    elim (cases_lt root k) [
      | inl below ↦ siblings_at (IsSubtree d tree) (IsSubtree (suc d) tree) (IsSubtree-grows d tree)
          (λ p n j s l h. let found = IsSubtree-at d tree p n j s l h in (found.0, IsSubtree-deeper d (suc d) tree j found.0 (omega arith) found.1))
          (node_at tree root).parts (root + 1) next k subtree.1 (omega arith) high
      | inr same ↦ let e : root ≡ k = omega arith in (next, subst (λ j. IsSubtree (suc d) tree j next) e subtree)
    ]

-- each node of a lawful tree is nested no deeper than nodes may be
pub subtree_at : (tree : Tree) → IsLawfulTree tree → (k : ℕ) → k < length tree.nodes → (next : ℕ) × IsSubtree nesting tree k next
subtree_at tree lawful k inside = IsSubtree-at nesting tree 0 (length tree.nodes) k lawful.preorder (omega arith) inside

-- a node's meaning goes by those of its parts
pub item-by_parts : (tree : Tree) (leaf : ℕ → List ℤ → Outcome) → IsLawfulTree tree → (k : ℕ) (words : List ℤ) → k < length tree.nodes → item tree leaf k words ≡ item_row (rescued_at tree k) leaf (node_at tree k).module (node_at tree k).form (node_at tree k).parts (item tree leaf) words
unfolding IsSubtree
item-by_parts tree leaf lawful k words inside =
    let subtree = subtree_at tree lawful k inside in
    let node = lawful_at tree lawful k inside in
    ap (λ m. m words) (item_to-step tree leaf 5 k)
    ∙ sym (item_row-same tree (rescued_at tree k) leaf (node_at tree k).module (node_at tree k).form (node_at tree k).ins (node_at tree k).outs (node_at tree k).parts (item_to tree leaf 6) (item_to tree leaf 5) node.form
    (parts_agree tree leaf lawful 5 6 (λ j n s. item_to-deep tree leaf lawful 5 6 j n (omega arith) s) (node_at tree k).parts (k + 1) subtree.0 subtree.1.1) words)
