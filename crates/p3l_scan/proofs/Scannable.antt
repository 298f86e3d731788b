-- A lawful tree that can be scanned: its operator, and its words.
use Rattle.std.proofs.Common.{◌≡◌, ℕ, ◌*◌, ◌/◌, ◌^◌, ◌<◌, ◌≤◌, Option, length, arith, ap, ◌∙◌, subst}
use Rattle.std.proofs.Math.Nat.{le-mul_of_pos_right, mul_assoc, mul_comm, mul-div_cancel_left}
use Rattle.p3l_skel.specs.declared.tree.Form.TheVariants.{Reduce}
use Rattle.p3l_skel.specs.declared.tree.Tree.{Tree}
use Rattle.p3l_skel.specs.Lawful.{IsLawfulForm, IsLawfulReduce, IsLawfulTree}
use Rattle.p3l_skel.specs.Tree.{nesting, node_at, part_at}
use Rattle.p3l_skel.proofs.Depth.{IsSubtree-grows, lawful_at}
use Rattle.p3l_skel.proofs.Kept.{some_factor}
use Rattle.p3l_skel.proofs.Parts.{one_part}
use Rattle.p3l_skel.proofs.Powers.{log-unique}
use Rattle.p3l_scan.specs.Plan.{IsScannable}
use Rattle.p3l_scan.specs.Step.{IsOperator}
use Rattle.p3l_scan.specs.laws.Powers.{power_pos}

module _ (tree : Tree) (lawful : IsLawfulTree tree) (segments : ℕ) (can : IsScannable tree segments) where
  pub there : 0 < length tree.nodes
  there = IsSubtree-grows nesting tree 0 (length tree.nodes) lawful.preorder

  reduce : IsLawfulReduce tree can.len can.elem (node_at tree 0).ins (node_at tree 0).outs (part_at tree 0 0)
  reduce =
      let node = lawful_at tree lawful 0 there in
      let form = subst (λ f. IsLawfulForm tree f (node_at tree 0).ins (node_at tree 0).outs (node_at tree 0).parts) can.form node.form in
      (one_part _ (node_at tree 0).parts form).0

  pub words_are : (node_at tree 0).ins ≡ 2 ^ can.levels * (can.size * can.elem)
  words_are =
      reduce.elements ∙ ap (λ z. z * can.elem) (can.sized ∙ ap (λ z. z * can.size) can.power)
      ∙ mul_assoc (2 ^ can.levels) can.size can.elem

  pub some_elem : 1 ≤ can.elem
  some_elem =
      let node = lawful_at tree lawful 0 there in
      some_factor can.len can.elem (node_at tree 0).ins node.ins.0 reduce.elements

  pub some_size : 1 ≤ can.size
  some_size =
      let node = lawful_at tree lawful 0 there in
      let len : 0 < can.len =
      some_factor can.elem can.len (node_at tree 0).ins node.ins.0 (reduce.elements ∙ mul_comm can.len can.elem) in
      some_factor segments can.size can.len len can.sized

  pub some_words : 1 ≤ can.size * can.elem
  some_words = omega (arith, le-mul_of_pos_right can.size some_elem, some_size)

  pub small : 2 ^ can.levels * (can.size * can.elem) ≤ 65536
  small = let node = lawful_at tree lawful 0 there in omega (arith, node.ins.1, words_are)

  pub operator_is : IsOperator tree (part_at tree 0 0) can.elem
  operator_is = record {
    lawful = lawful;
    words = reduce.operator;
    unit = record { in_tree = let o = reduce.operator in o.in_tree; sequential = reduce.sequential };
    some = some_elem;
  }

  -- the logarithm is the number of levels
  pub log_is : (r : ℕ) → 2 ^ r ≤ segments → segments < 2 * 2 ^ r → can.levels ≡ r
  log_is r low high = log-unique r can.levels (omega (arith, low, can.power)) (omega (arith, high, can.power))

  pub size_is : can.len / segments ≡ can.size
  size_is =
      ap (λ z. z / segments) can.sized
      ∙ mul-div_cancel_left can.size (omega (arith, can.power, power_pos can.levels))

-- a form is one reduce alone
pub one_reduce : (v w : Option ℕ) (l m e f : ℕ) → Reduce v l e ≡ Reduce w m f → (l ≡ m) × (e ≡ f)
one_reduce v w l m e f same = (cc, cc)
