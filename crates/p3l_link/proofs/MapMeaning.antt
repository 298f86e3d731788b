-- The elements of a map: what Scatter, the workers and Gather make of an outcome is what the language says.
use Rattle.std.proofs.Common.{◌≡◌, ℕ, ℤ, zero, suc, ◌+◌, ◌*◌, ◌<◌, ◌≤◌, List, ◌∷◌, length, map, Option, refl, sym, ap, ap₂, ◌∙◌, arith}
use Rattle.std.specs.List.{range_with_len}
use Rattle.std.proofs.Math.Nat.{mul-le-mul}
use Rattle.p3l_base.specs.declared.cut.Cut.{Cut}
use Rattle.p3l_base.specs.declared.outcome.Outcome.{Outcome}
use Rattle.p3l_base.specs.declared.outcome.Outcome.TheVariants.{Value, Trapped}
use Rattle.p3l_base.specs.declared.outcome.Trap.{Trap}
use Rattle.p3l_base.specs.Cut.{element_count, element_words, joined_words}
use Rattle.p3l_base.specs.laws.Cut.{length-element_words}
use Rattle.p3l_skel.specs.declared.tree.Form.TheVariants.{Map}
use Rattle.p3l_skel.specs.Tree.{node_at, part_at}
use Rattle.p3l_skel.specs.Item.{item, gathered, on_value}
use Rattle.p3l_skel.specs.Lawful.{IsLawfulTree}
use Rattle.p3l_firing.specs.Nodes.{cut_of, last_element, element_of, joined_of}
use Rattle.p3l_firing.proofs.LawfulForms.{map_part}
use Rattle.p3l_map.specs.Map.{Pieces, outcomes, mapped}
use Rattle.p3l_map.specs.MapShape.{pieces_of}
use Rattle.p3l_template.specs.Units.{Units, outcome_at}
use Rattle.p3l_link.specs.Means.{Means}
use Rattle.p3l_link.proofs.NodeMeaning.{item_at}

-- the outcomes of m elements from k on
elementwise : (q : Pieces) (o : Outcome) (g : ℕ → Outcome) → ((j : ℕ) → q.inner (q.cut j o) ≡ g j) → (k m : ℕ) →
    outcomes q k m o ≡ map g (range_with_len k m)
unfolding outcomes
elementwise q o g h k zero = refl
elementwise q o g h k (suc m) =
    let e : suc k ≡ k + 1 = omega arith in
    ap₂ (λ x xs. x ∷ xs) (h k) (elementwise q o g h (suc k) m ∙ ap (λ j. map g (range_with_len j m)) e)

module _ (units : Units) (lawful : IsLawfulTree units.tree) (node : ℕ) (inside : node < length units.tree.nodes)
    {workers : Option ℕ} {cut : Cut}
    (is : (node_at units.tree node).form ≡ Map workers cut) where
  -- it has an element
  pub count_is : suc (last_element units.tree node) ≡ element_count cut
  unfolding last_element
  count_is =
      let cuts = (map_part units.tree lawful node inside is).cuts.lawful_outs in
      let first = cuts.some_first in
      let second = cuts.some_second in
      let some : 1 * 1 ≤ cut.first * cut.second = mul-le-mul first second in
      let e : element_count (cut_of (node_at units.tree node).form) ≡ element_count cut = ap (λ f. element_count (cut_of f)) is in
      omega arith

  element_is : (j : ℕ) (o : Outcome) →
      element_of units.tree node j o ≡ on_value (λ words. Value (element_words cut.ins cut.second words j)) o
  unfolding element_of
  element_is j o = ap (λ f. on_value (λ words. Value (element_words (cut_of f).ins (cut_of f).second words j)) o) is

  module _ (n : ℕ) (f : Outcome → Outcome) (means : Means units (part_at units.tree node 0) f) where
    abbrev q : Pieces
    q = pieces_of units node n f

    -- each element is of the part's in words
    each : (words : List ℤ) (j : ℕ) →
        f (element_of units.tree node j (Value words))
        ≡ item units.tree units.leaf (part_at units.tree node 0) (element_words cut.ins cut.second words j)
    each words j =
        let cuts = (map_part units.tree lawful node inside is).cuts in
        ap f (element_is j (Value words))
        ∙ means.same (Value (element_words cut.ins cut.second words j))
        (length-element_words cut.ins cut.second words j ∙ cuts.part_ins_fit)

    value_maps : (words : List ℤ) → mapped q (Value words) ≡ outcome_at units node (Value words)
    unfolding mapped joined_of
    value_maps words =
        let g = λ (e : ℕ). item units.tree units.leaf (part_at units.tree node 0) (element_words cut.ins cut.second words e) in
        ap (joined_of units.tree node) (elementwise q (Value words) g (each words) 0 (suc (last_element units.tree node)))
        ∙ ap (λ c. gathered (joined_words (cut_of (node_at units.tree node).form)) (map g (range_with_len 0 c))) count_is
        ∙ ap (λ f. gathered (joined_words (cut_of f)) (map g (range_with_len 0 (element_count cut)))) is
        ∙ sym (item_at units lawful node inside (Map workers cut) words is)

    trap_first : (trap : Trap) → f (element_of units.tree node 0 (Trapped trap)) ≡ Trapped trap
    trap_first trap = ap f (element_is 0 (Trapped trap)) ∙ means.same (Trapped trap) tt

    trap_maps : (trap : Trap) → mapped q (Trapped trap) ≡ Trapped trap
    unfolding mapped outcomes joined_of
    trap_maps trap =
        ap (λ o. gathered (joined_words (cut_of (node_at units.tree node).form))
        (o ∷ outcomes q 1 (last_element units.tree node) (Trapped trap))) (trap_first trap)

    maps : (o : Outcome) → mapped q o ≡ outcome_at units node o
    maps (Trapped trap) = trap_maps trap
    maps (Value words) = value_maps words

    -- a map joins what its part makes of the elements
    pub map_means : Means units node (mapped q)
    map_means = record { same = λ o long. maps o }
