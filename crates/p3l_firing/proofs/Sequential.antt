-- The nodes that one process runs are sequential.
use Rattle.std.proofs.Common.{◌≡◌, ℕ, zero, suc, ◌+◌, ◌<◌, Bool, true, false, List, [], ◌∷◌, length, slice_index, refl, sym, ◌∙◌, subst, arith}
use Rattle.p3l_skel.specs.declared.tree.Form.{Form}
use Rattle.p3l_skel.specs.declared.tree.Form.TheVariants.{Seq, Comp, Pipe, Farm, Map, Reduce, Loop}
use Rattle.p3l_skel.specs.declared.tree.Tree.{Tree}
use Rattle.p3l_skel.specs.Tree.{node_at, part_at, nesting, by_parts, sequential_row, sequential_to, is_sequential, IsUnit}
use Rattle.p3l_skel.specs.Lawful.{IsLawfulTree, IsLawfulForm, IsSubtree, AreSubtrees}
use Rattle.p3l_skel.proofs.Depth.{lawful_at, subtree_at}
use Rattle.p3l_firing.specs.kinds.Run.{Takes}
use Rattle.p3l_firing.proofs.LawfulForms.{reduce_part}

step : (tree : Tree) (d k : ℕ) → sequential_to tree (suc d) k ≡ sequential_row (node_at tree k).form (sequential_to tree d (part_at tree k 0))
unfolding sequential_to by_parts
step tree d k = refl

nowhere : (tree : Tree) (k : ℕ) → sequential_to tree 0 k ≡ false
unfolding sequential_to by_parts
nowhere tree k = refl

-- the first part of a map or reduce is a subtree
first_part : (Is : ℕ → ℕ → Type 0) (parts : List ℕ) (from next : ℕ) → 0 < length parts → AreSubtrees Is parts from next → (m : ℕ) × Is (slice_index parts 0) m
first_part Is [] from next some subtrees = absurd (omega arith)
first_part Is (p ∷ parts) from next some subtrees = (subtrees.1.0, subtrees.1.1)

-- a sequential node is so at the depth of its subtree
module _ (tree : Tree) (lawful : IsLawfulTree tree) where
  by_row : (form : Form) (ins outs : ℕ) (parts : List ℕ) (a b : Bool) → IsLawfulForm tree form ins outs parts → (0 < length parts → a ≡ true → b ≡ true) → sequential_row form a ≡ true → sequential_row form b ≡ true
  by_row Seq ins outs parts a b f h e = refl
  by_row Comp ins outs parts a b f h e = refl
  by_row Pipe ins outs parts a b f h e = cc
  by_row (Farm w) ins outs parts a b f h e = cc
  by_row (Map w cut) ins outs [] a b f h e = absurd f
  by_row (Map w cut) ins outs (p ∷ parts) a b f h e = h (omega arith) e
  by_row (Reduce w len elem) ins outs [] a b f h e = absurd f
  by_row (Reduce w len elem) ins outs (p ∷ parts) a b f h e = h (omega arith) e
  by_row (Loop turns tokens) ins outs parts a b f h e = cc

  shallow : (d e k next : ℕ) → IsSubtree d tree k next → sequential_to tree e k ≡ true → sequential_to tree d k ≡ true
  unfolding IsSubtree
  shallow zero e k next subtree h = absurd subtree
  shallow (suc d) zero k next subtree h = let none : sequential_to tree 0 k ≡ false = nowhere tree k in cc
  shallow (suc d) (suc e) k next subtree h =
      let node = lawful_at tree lawful k subtree.0 in
      step tree d k
      ∙ by_row (node_at tree k).form (node_at tree k).ins (node_at tree k).outs (node_at tree k).parts _ _ node.form
      (λ some part. let first = first_part (IsSubtree d tree) (node_at tree k).parts (k + 1) next some subtree.1 in shallow d e (part_at tree k 0) first.0 first.1 part)
      (sym (step tree e k) ∙ h)

  -- the part of a node is sequential one level down, if it is so at all
  part_below : (node : ℕ) → 0 < length (node_at tree node).parts → ((next : ℕ) × IsSubtree nesting tree node next) → is_sequential tree (part_at tree node 0) ≡ true → sequential_to tree 5 (part_at tree node 0) ≡ true
  unfolding IsSubtree
  part_below node some found h =
      let first = first_part (IsSubtree 5 tree) (node_at tree node).parts (node + 1) found.0 some found.1.1 in
      shallow 5 nesting (part_at tree node 0) first.0 first.1 h

  by_form : (node ins arg n : ℕ) (form : Form) → node < length tree.nodes → (node_at tree node).form ≡ form → Takes form ins arg n → sequential_row form (sequential_to tree 5 (part_at tree node 0)) ≡ true
  by_form node ins arg n Seq inside e t = refl
  by_form node ins arg n Comp inside e t = refl
  by_form node ins arg n Pipe inside e t = absurd t
  by_form node ins arg n (Farm w) inside e t = absurd t
  by_form node ins arg n (Map w cut) inside e t = absurd t
  by_form node ins arg n (Reduce w len elem) inside e t =
      let form : IsLawfulForm tree (Reduce w len elem) (node_at tree node).ins (node_at tree node).outs (node_at tree node).parts = subst (λ f. IsLawfulForm tree f (node_at tree node).ins (node_at tree node).outs (node_at tree node).parts) e (lawful_at tree lawful node inside).form in
      part_below node (one_long (node_at tree node).parts form) (subtree_at tree lawful node inside) (reduce_part tree lawful node inside e).sequential
    where
      one_long : (parts : List ℕ) → IsLawfulForm tree (Reduce w len elem) (node_at tree node).ins (node_at tree node).outs parts → 0 < length parts
      one_long [] h = absurd h
      one_long (p ∷ parts) h = omega arith
  by_form node ins arg n (Loop turns tokens) inside e t = absurd t

  -- a node that a run may have is one that one process runs
  pub run_is_unit : (node ins arg n : ℕ) → node < length tree.nodes → Takes (node_at tree node).form ins arg n → IsUnit tree node
  run_is_unit node ins arg n inside takes =
      record { in_tree = inside; sequential = step tree 5 node ∙ by_form node ins arg n (node_at tree node).form inside refl takes }
