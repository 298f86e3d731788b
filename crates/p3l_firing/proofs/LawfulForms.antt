-- Facts about the parts of a lawful node, from its form.
use Rattle.std.proofs.Common.{◌≡◌, ℕ, ℤ, zero, suc, ◌*◌, ◌<◌, ◌≤◌, List, [], ◌∷◌, length, Option, slice_index, sym, ap, ◌∙◌, subst, arith}
use Rattle.std.proofs.Math.Nat.{mul-zero, mul_comm}
use Rattle.p3l_base.specs.declared.cut.Cut.{Cut}
use Rattle.p3l_skel.specs.declared.tree.Form.{Form}
use Rattle.p3l_skel.specs.declared.tree.Form.TheVariants.{Seq, Comp, Pipe, Farm, Map, Reduce, Loop}
use Rattle.p3l_skel.specs.declared.tree.Tree.{Tree}
use Rattle.p3l_skel.specs.Tree.{node_at, part_at, FitsForm, HasLength, GivesOuts}
use Rattle.p3l_skel.specs.Item.{item}
use Rattle.p3l_skel.specs.Lawful.{IsLawfulTree, IsLawfulForm, HasOnePart, HasTwoParts, IsLawfulMap, IsLawfulReduce, IsLawfulLoop, IsSize}
use Rattle.p3l_skel.proofs.Depth.{lawful_at}
use Rattle.p3l_skel.proofs.Kept.{item-keeps}
use Rattle.p3l_firing.specs.Nodes.{Leaf}

one_part : (P : ℕ → Type 0) (parts : List ℕ) → HasOnePart P parts → P (slice_index parts 0)
one_part P [] h = absurd h
one_part P (p ∷ []) h = h
one_part P (p ∷ (r ∷ parts)) h = absurd h

two_parts : (P : ℕ → ℕ → Type 0) (parts : List ℕ) → HasTwoParts P parts → P (slice_index parts 0) (slice_index parts 1)
two_parts P [] h = absurd h
two_parts P (p ∷ []) h = absurd h
two_parts P (p ∷ (r ∷ [])) h = h
two_parts P (p ∷ (r ∷ (x ∷ parts))) h = absurd h

module _ (tree : Tree) (lawful : IsLawfulTree tree) (node : ℕ) (inside : node < length tree.nodes) where
  as_form : (form : Form) → (node_at tree node).form ≡ form → IsLawfulForm tree form (node_at tree node).ins (node_at tree node).outs (node_at tree node).parts
  as_form form e = subst (λ f. IsLawfulForm tree f (node_at tree node).ins (node_at tree node).outs (node_at tree node).parts) e (lawful_at tree lawful node inside).form

  pub map_part : {workers : Option ℕ} {cut : Cut} → (node_at tree node).form ≡ Map workers cut → IsLawfulMap tree cut (node_at tree node).ins (node_at tree node).outs (part_at tree node 0)
  map_part {workers = workers} {cut = cut} e = one_part _ (node_at tree node).parts (as_form (Map workers cut) e)

  pub reduce_part : {workers : Option ℕ} {len elem : ℕ} → (node_at tree node).form ≡ Reduce workers len elem → IsLawfulReduce tree len elem (node_at tree node).ins (node_at tree node).outs (part_at tree node 0)
  reduce_part {workers = workers} {len = len} {elem = elem} e = one_part _ (node_at tree node).parts (as_form (Reduce workers len elem) e)

  pub loop_parts : {turns tokens : ℕ} → (node_at tree node).form ≡ Loop turns tokens → IsLawfulLoop tree turns tokens (node_at tree node).ins (node_at tree node).outs (part_at tree node 0) (part_at tree node 1)
  loop_parts {turns = turns} {tokens = tokens} e = two_parts _ (node_at tree node).parts (as_form (Loop turns tokens) e)

pub some_factor : (n m product : ℕ) → 1 ≤ product → product ≡ n * m → 0 < m
some_factor n zero product some same = let e : n * zero ≡ 0 = mul-zero n in absurd (omega arith)
some_factor n (suc m) product some same = omega arith

-- a lawful node may take its in words
pub fits_ins : (tree : Tree) (form : Form) (ins outs n : ℕ) (parts : List ℕ) → IsSize ins → IsLawfulForm tree form ins outs parts → n ≡ ins → FitsForm form ins n
fits_ins tree Seq ins outs n parts sized lawful same = same
fits_ins tree Comp ins outs n parts sized lawful same = same
fits_ins tree Pipe ins outs n parts sized lawful same = same
fits_ins tree (Farm workers) ins outs n parts sized lawful same = same
fits_ins tree (Map workers cut) ins outs n parts sized lawful same = same
fits_ins tree (Reduce workers len elem) ins outs n [] sized lawful same = absurd lawful
fits_ins tree (Reduce workers len elem) ins outs n (p ∷ []) sized lawful same =
    let swapped : ins ≡ elem * len = lawful.elements ∙ mul_comm len elem in
    (len, some_factor elem len ins sized.0 swapped, same ∙ lawful.elements)
fits_ins tree (Reduce workers len elem) ins outs n (p ∷ (r ∷ parts)) sized lawful same = absurd lawful
fits_ins tree (Loop turns tokens) ins outs n parts sized lawful same = same

-- the operator of a reduce makes a result of the words of two
module _ (tree : Tree) (leaf : Leaf) (lawful : IsLawfulTree tree) (gives : GivesOuts tree leaf) (node : ℕ) (inside : node < length tree.nodes) where
  pub operates : {workers : Option ℕ} {len elem : ℕ} → (node_at tree node).form ≡ Reduce workers len elem → (words : List ℤ) → length words ≡ 2 * (node_at tree node).outs → HasLength (node_at tree node).outs (item tree leaf (part_at tree node 0) words)
  operates e words long =
      let part : ℕ = part_at tree node 0 in
      let reduce = reduce_part tree lawful node inside e in
      let takes : length words ≡ (node_at tree part).ins = long ∙ ap (λ n. 2 * n) reduce.result ∙ sym reduce.operator.takes in
      let own = lawful_at tree lawful part reduce.operator.in_tree in
      subst (λ n. HasLength n (item tree leaf part words)) (reduce.operator.gives ∙ sym reduce.result)
      (item-keeps tree leaf lawful gives part words reduce.operator.in_tree
      (fits_ins tree (node_at tree part).form (node_at tree part).ins (node_at tree part).outs (length words) (node_at tree part).parts own.ins own.form takes))
