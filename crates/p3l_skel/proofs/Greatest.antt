-- The most segments of a reduce are the greatest lawful number of them.
use Rattle.std.proofs.Common.{◌≡◌, ℕ, zero, suc, ◌*◌, ◌^◌, ◌≤◌, List, [], ◌∷◌, refl, arith, subst, Option, Some, None}
use Rattle.std.specs.Prelude.{IfSome}
use Rattle.p3l_skel.specs.declared.tree.Form.{Form}
use Rattle.p3l_skel.specs.declared.tree.Form.TheVariants.{Reduce}
use Rattle.p3l_skel.specs.declared.tree.Tree.{Tree}
use Rattle.p3l_skel.specs.Tree.{node_at}
use Rattle.p3l_skel.specs.Counts.{IsCountInRange, IsLawfulCount, workers_of}
use Rattle.p3l_skel.specs.Lawful.{HasOnePart, IsLawfulForm, IsLawfulReduce, IsLawfulTree}
use Rattle.p3l_skel.specs.Laws.{IsGreatest, HasGreatestSegments}
use Rattle.p3l_skel.specs.Numbers.{most_segments}
use Rattle.p3l_skel.proofs.Depth.{lawful_at}
use Rattle.p3l_skel.proofs.Powers.{power_up_to-power, power_up_to-fits, power_up_to-most, power_up_to-small, small_exponent}

segments-greatest : (w : Option ℕ) (len elem : ℕ) → IfSome w (IsCountInRange (Reduce w len elem)) → 1 ≤ len → IsGreatest (IsLawfulCount (Reduce w len elem)) (most_segments (Reduce w len elem))
segments-greatest (Some m) len elem inside some = record { has = (refl, inside); greatest = λ n h. omega (arith, h.0) }
segments-greatest None len elem inside some = record {
  has = (tt, (power_up_to-power 9 len, power_up_to-fits 9 len some, power_up_to-small 9 len));
  greatest = λ n h.
      let e = h.1.0.0 in
      let is : n ≡ 2 ^ e = h.1.0.1 in
      let exponent : e ≤ 9 = small_exponent e (rw is at h.1.2) in
      let most = power_up_to-most 9 e len exponent (rw is at h.1.1) in
      rw is most;
}

-- a product with something in it has a first factor
some_factor : (len elem ins : ℕ) → 1 ≤ ins → ins ≡ len * elem → 1 ≤ len
some_factor zero elem ins some is = absurd (omega arith)
some_factor (suc len) elem ins some is = omega arith

elements : (tree : Tree) (len elem ins outs : ℕ) (parts : List ℕ) → HasOnePart (IsLawfulReduce tree len elem ins outs) parts → ins ≡ len * elem
elements tree len elem ins outs [] lawful = absurd lawful
elements tree len elem ins outs (p ∷ []) lawful = lawful.elements
elements tree len elem ins outs (p ∷ (q ∷ ps)) lawful = absurd lawful

pub greatest_segments : (tree : Tree) → IsLawfulTree tree → HasGreatestSegments tree
greatest_segments tree lawful = λ node w len elem inside form.
    let here = lawful_at tree lawful node inside in
    let range : IfSome w (IsCountInRange (Reduce w len elem)) =
    subst (λ (f : Form). IfSome (workers_of f) (IsCountInRange f)) form here.workers in
    let reduce : HasOnePart (IsLawfulReduce tree len elem (node_at tree node).ins (node_at tree node).outs) (node_at tree node).parts =
    subst (λ (f : Form). IsLawfulForm tree f (node_at tree node).ins (node_at tree node).outs (node_at tree node).parts) form here.form in
    let product = elements tree len elem _ _ (node_at tree node).parts reduce in
    segments-greatest w len elem range (some_factor len elem (node_at tree node).ins here.ins.0 product)
