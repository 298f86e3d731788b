-- The notes of a node depend only on the notes of its parts, at any depth.
use Rattle.std.proofs.Common.{◌≡◌, ℕ, ℤ, zero, suc, ◌+◌, ◌<◌, ◌≤◌, List, [], ◌∷◌, ◌++◌, length, refl, arith, ap, sym, ◌∙◌}
use Rattle.p3l_base.specs.declared.outcome.Outcome.{Outcome}
use Rattle.p3l_base.specs.declared.outcome.Outcome.TheVariants.{Value}
use Rattle.p3l_skel.specs.declared.tree.Form.{Form}
use Rattle.p3l_skel.specs.declared.tree.Form.TheVariants.{Seq, Comp, Pipe, Farm, Map, Reduce, Loop}
use Rattle.p3l_skel.specs.declared.tree.Node.{Node}
use Rattle.p3l_skel.specs.declared.tree.Tree.{Tree}
use Rattle.p3l_skel.specs.Tree.{node_at, by_parts}
use Rattle.p3l_skel.specs.Item.{elements, item, on_value}
use Rattle.p3l_skel.specs.Lawful.{IsSubtree, AreSubtrees, IsLawfulForm, IsLawfulTree}
use Rattle.p3l_skel.proofs.Depth.{lawful_at, subtree_at}
use Rattle.p3l_walk.specs.Notes.{Note, notes_on, stage_notes, map_notes, fold_notes, turn_notes, notes_row, notes_to, notes}

same_function : {A B : Type 0} (f g : A → B) → ((x : A) → f x ≡ g x) → f ≡ g
same_function f g h = λ i x. h x i

-- the notes are the same at these nodes
SameAt : (ℕ → List ℤ → List Note) → (ℕ → List ℤ → List Note) → List ℕ → Type 0
SameAt f g [] = Unit {0}
SameAt f g (p ∷ ps) = (f p ≡ g p) × SameAt f g ps

stage_notes-same : (part : ℕ → List ℤ → Outcome) (f g : ℕ → List ℤ → List Note) (ps : List ℕ) (outcome : Outcome) → SameAt f g ps → stage_notes part f ps outcome ≡ stage_notes part g ps outcome
unfolding SameAt
stage_notes-same part f g [] outcome same = refl
stage_notes-same part f g (p ∷ ps) outcome same =
    ap (λ m. notes_on m outcome ++ stage_notes part f ps (on_value (part p) outcome)) same.0
    ∙ ap (λ rest. notes_on (g p) outcome ++ rest) (stage_notes-same part f g ps (on_value (part p) outcome) same.1)

module _ (tree : Tree) (leaf : ℕ → List ℤ → Outcome) (steps : ℕ → List ℤ → ℕ) where
  row : ℕ → Form → List ℕ → (ℕ → List ℤ → List Note) → List ℤ → List Note
  row home form parts noted words = notes_row steps home form parts (item tree leaf) noted words

  row-same : (home : ℕ) (form : Form) (ins outs : ℕ) (parts : List ℕ) (f g : ℕ → List ℤ → List Note) → IsLawfulForm tree form ins outs parts → SameAt f g parts → (words : List ℤ) → row home form parts f words ≡ row home form parts g words
  unfolding SameAt row
  row-same home Seq ins outs parts f g lawful same words = refl
  row-same home Comp ins outs parts f g lawful same words = stage_notes-same (item tree leaf) f g parts (Value words) same
  row-same home Pipe ins outs parts f g lawful same words = stage_notes-same (item tree leaf) f g parts (Value words) same
  row-same home (Farm w) ins outs [] f g lawful same words = absurd lawful
  row-same home (Farm w) ins outs (p ∷ ps) f g lawful same words = ap (λ m. m words) same.0
  row-same home (Map w cut) ins outs [] f g lawful same words = absurd lawful
  row-same home (Map w cut) ins outs (p ∷ ps) f g lawful same words = ap (λ m. map_notes cut (item tree leaf p) m words) same.0
  row-same home (Reduce w len elem) ins outs [] f g lawful same words = absurd lawful
  row-same home (Reduce w len elem) ins outs (p ∷ ps) f g lawful same words = ap (λ m. fold_notes (item tree leaf p) m (elements elem words)) same.0
  row-same home (Loop turns tokens) ins outs [] f g lawful same words = absurd lawful
  row-same home (Loop turns tokens) ins outs (p ∷ []) f g lawful same words = absurd lawful
  row-same home (Loop turns tokens) ins outs (p ∷ (q ∷ ps)) f g lawful same words =
      ap (λ m. turn_notes home (item tree leaf p) (item tree leaf q) m (f q) 0 turns words) same.0
      ∙ ap (λ m. turn_notes home (item tree leaf p) (item tree leaf q) (g p) m 0 turns words) same.1.0

  step : (d k : ℕ) → notes_to tree leaf steps (suc d) k ≡ row (node_at tree k).module (node_at tree k).form (node_at tree k).parts (notes_to tree leaf steps d)
  unfolding notes_to by_parts row
  step d k = refl

  module _ (lawful : IsLawfulTree tree) where
    parts_agree : (d e : ℕ) → ((k next : ℕ) → IsSubtree d tree k next → notes_to tree leaf steps e k ≡ notes_to tree leaf steps d k) → (ps : List ℕ) (from next : ℕ) → AreSubtrees (IsSubtree d tree) ps from next → SameAt (notes_to tree leaf steps e) (notes_to tree leaf steps d) ps
    unfolding SameAt
    parts_agree d e same [] from next subtrees = tt
    parts_agree d e same (p ∷ ps) from next subtrees =
        (same p subtrees.1.0 subtrees.1.1, parts_agree d e same ps subtrees.1.0 next subtrees.1.2)

    deep : (d e k next : ℕ) → d ≤ e → IsSubtree d tree k next → notes_to tree leaf steps e k ≡ notes_to tree leaf steps d k
    unfolding IsSubtree
    deep zero e k next more subtree = absurd subtree
    deep (suc d) zero k next more subtree = absurd (omega arith)
    deep (suc d) (suc e) k next more subtree =
        let node = lawful_at tree lawful k subtree.0 in
        let less : d ≤ e = omega arith in
        step e k
        ∙ (same_function _ _ (row-same (node_at tree k).module (node_at tree k).form (node_at tree k).ins (node_at tree k).outs (node_at tree k).parts (notes_to tree leaf steps e) (notes_to tree leaf steps d) node.form (parts_agree d e (λ j n s. deep d e j n less s) (node_at tree k).parts (k + 1) next subtree.1))
        ∙ sym (step d k))

    pub notes-by_parts : (k : ℕ) (words : List ℤ) → k < length tree.nodes → notes tree leaf steps k words ≡ notes_row steps (node_at tree k).module (node_at tree k).form (node_at tree k).parts (item tree leaf) (notes tree leaf steps) words
    unfolding IsSubtree row
    notes-by_parts k words inside =
        let subtree = subtree_at tree lawful k inside in
        let node = lawful_at tree lawful k inside in
        ap (λ m. m words) (step 5 k)
        ∙ sym (row-same (node_at tree k).module (node_at tree k).form (node_at tree k).ins (node_at tree k).outs (node_at tree k).parts (notes_to tree leaf steps 6) (notes_to tree leaf steps 5) node.form
        (parts_agree 5 6 (λ j n s. deep 5 6 j n (omega arith) s) (node_at tree k).parts (k + 1) subtree.0 subtree.1.1) words)

    -- the notes of a node of a form are those of its row
    pub notes_at : (node : Node) (k : ℕ) (form : Form) (words : List ℤ) → node ≡ node_at tree k → k < length tree.nodes → node.form ≡ form → notes_row steps node.module form node.parts (item tree leaf) (notes tree leaf steps) words ≡ notes tree leaf steps k words
    notes_at node k form words found inside is =
        sym (ap (λ f. notes_row steps node.module f node.parts (item tree leaf) (notes tree leaf steps) words) is)
        ∙ (ap (λ (n : Node). notes_row steps n.module n.form n.parts (item tree leaf) (notes tree leaf steps) words) found ∙ sym (notes-by_parts k words inside))
