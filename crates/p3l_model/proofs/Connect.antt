-- A lawful tree and the tree with its costs put in have the same counts, processes and service times.
use Rattle.std.proofs.Common.{◌≡◌, ℕ, zero, suc, ◌+◌, ◌-◌, ◌*◌, ◌^◌, ◌<◌, ◌≤◌, ◌↔◌, max, List, [], ◌∷◌, ◌++◌, length, get_or, refl, sym, ◌∙◌, subst, arith, inl, inr, Option, Some, None, append-nil}
use Rattle.std.specs.Prelude.{IfSome, sum_by}
use Rattle.std.specs.List.{Contains, flat_map}
use Rattle.std.specs.Int.{IsPowerOfTwo}
use Rattle.std.proofs.Math.Nat.{mul-le-mul}
use Rattle.std.proofs.lemmas.Nat.{pow_pos}
use Rattle.std.proofs.lemmas.List.Elements.{Contains-append_cases, All-get_or}
use Rattle.std.proofs.lemmas.List.Sums.{sum_by-cons}
use Rattle.p3l_base.specs.declared.cut.Cut.{Cut}
use Rattle.p3l_base.specs.Cut.{element_count}
use Rattle.p3l_skel.specs.declared.tree.Form.{Form}
use Rattle.p3l_skel.specs.declared.tree.Form.TheVariants.{Seq, Comp, Pipe, Farm, Map, Reduce}
use Rattle.p3l_skel.specs.declared.tree.Form.TheVariants as form
use Rattle.p3l_skel.specs.declared.tree.Tree.{Tree}
use Rattle.p3l_skel.specs.Tree.{node_at, no_node, by_parts}
use Rattle.p3l_skel.specs.Counts.{own_counted, counted_from, outside_parts, IsCountInRange, IsLawfulCount, workers_of}
use Rattle.p3l_skel.specs.Lawful.{AreSubtrees, IsSubtree, IsLawfulForm, IsLawfulTree}
use Rattle.p3l_skel.specs.Numbers.{procs_by, procs_row}
use Rattle.p3l_skel.proofs.Below.{by_parts-step, counted_from-step, procs_by-step}
use Rattle.p3l_skel.proofs.Depth.{lawful_at}
use Rattle.p3l_cost.specs.declared.costs.Costs.{Costs}
use Rattle.p3l_cost.specs.Costs.{AreCostsOf, IsTurns}
use Rattle.p3l_cost.proofs.Turns.{home_inside}
use Rattle.p3l_model.specs.declared.cost.Sharing.TheVariants.{Items, Elements}
use Rattle.p3l_model.specs.NodeCost.{span_of, node_cost, node_cost_row}
use Rattle.p3l_model.specs.Service.{service_by, service_row, inner_greatest, greatest_by, expected_turns, unit_service, farm_ends, map_ends, loop_ends}
use Rattle.p3l_model.specs.Costed.{IsIn, AreSegments, HasProcess, IsSound, stages, costed_row, costed_by}
use Rattle.p3l_model.proofs.Members.{Contains-nil, Contains-cons_cases}
use Rattle.p3l_model.proofs.Nested.{from_outside_parts, siblings_end, subtree_end}
use Rattle.p3l_model.proofs.Matches.{Matches, matches-along, matches-empty, matches-leaf, matches-both, matches-workers, matches-segments, matches-loop}

pub service_by-step : (tree : Tree) (costs : Costs) (count : ℕ → ℕ) (d k : ℕ) → 0 < d → service_by tree costs count d k ≡ service_row tree costs k (node_at tree k).form (count k) (inner_greatest tree (service_by tree costs count (d - 1)) k)
unfolding service_by
service_by-step tree costs count d k some = by_parts-step _ _ d k some

pub costed_by-step : (tree : Tree) (costs : Costs) (d k : ℕ) → 0 < d → costed_by tree costs d k ≡ costed_row (node_cost tree costs k) (costed_by tree costs (d - 1)) (node_at tree k).parts
unfolding costed_by
costed_by-step tree costs d k some = by_parts-step _ _ d k some

-- the lawful numbers of workers are those of the span
farm_range : (w : Option ℕ) → IfSome w (IsCountInRange (Farm w)) → (n : ℕ) → IsLawfulCount (Farm w) n ↔ IsIn (span_of (Farm w)) n
farm_range None clause n = (λ h. (h.1.0, h.1.0, h.1.1), λ i. (tt, (i.0, i.2)))
farm_range (Some m) clause n =
    (λ h. (h.1.0, omega (arith, h.0), omega (arith, h.0)), λ i. (omega (arith, i.1, i.2), (i.0, omega (arith, i.2, clause.1))))

map_range : (w : Option ℕ) (cut : Cut) → IfSome w (IsCountInRange (Map w cut)) → (n : ℕ) → IsLawfulCount (Map w cut) n ↔ IsIn (span_of (Map w cut)) n
map_range None cut clause n =
    (λ h. (h.1.0, h.1.0, omega (arith, h.1.1, h.1.2)), λ i. (tt, (i.0, omega (arith, i.2), omega (arith, i.2))))
map_range (Some m) cut clause n =
    (λ h. (h.1.0, omega (arith, h.0), omega (arith, h.0)), λ i. (omega (arith, i.1, i.2), (i.0, omega (arith, i.2, clause.1), omega (arith, i.2, clause.2))))

pub some_power : (n : ℕ) → IsPowerOfTwo n → 1 ≤ n
some_power n (k, is) = let some : 1 ≤ 2 ^ k = pow_pos k in omega arith

reduce_range : (w : Option ℕ) (len elem : ℕ) → IfSome w (IsCountInRange (Reduce w len elem)) → (n : ℕ) → IsLawfulCount (Reduce w len elem) n ↔ AreSegments (span_of (Reduce w len elem)) n
reduce_range None len elem clause n =
    (λ h. (h.1.0, (some_power n h.1.0, some_power n h.1.0, omega (arith, h.1.1, h.1.2))), λ i. (tt, (i.0, omega (arith, i.1.2), omega (arith, i.1.2))))
reduce_range (Some m) len elem clause n =
    (λ h. (h.1.0, (some_power n h.1.0, omega (arith, h.0), omega (arith, h.0))), λ i. (omega (arith, i.1.1, i.1.2), (i.0, omega (arith, i.1.2, clause.1), omega (arith, i.1.2, clause.2))))

pub own_only : (f : Form) (k x : ℕ) → Contains (own_counted f k) x → x ≡ k
own_only Seq k x h = absurd (Contains-nil x h)
own_only Comp k x h = absurd (Contains-nil x h)
own_only Pipe k x h = absurd (Contains-nil x h)
own_only (Farm w) k x h = elim (Contains-cons_cases k [] x h) [ inl same ↦ same | inr past ↦ absurd (Contains-nil x past) ]
own_only (Map w cut) k x h = elim (Contains-cons_cases k [] x h) [ inl same ↦ same | inr past ↦ absurd (Contains-nil x past) ]
own_only (Reduce w len elem) k x h = elim (Contains-cons_cases k [] x h) [ inl same ↦ same | inr past ↦ absurd (Contains-nil x past) ]
own_only (form.Loop turns tokens) k x h = absurd (Contains-nil x h)

pub siblings_within : (d : ℕ) (tree : Tree) (below : ℕ → List ℕ) → ((p n x : ℕ) → IsSubtree d tree p n → Contains (below p) x → (p ≤ x) × (x < n)) → (ps : List ℕ) (from next x : ℕ) → AreSubtrees (IsSubtree d tree) ps from next → Contains (flat_map below ps) x → (from ≤ x) × (x < next)
siblings_within d tree below each [] from next x h inside = absurd (Contains-nil x inside)
siblings_within d tree below each (p ∷ ps) from next x h inside =
    let ends = siblings_end (IsSubtree d tree) (subtree_end d tree) ps h.1.0 next h.1.2 in
    let first = subtree_end d tree p h.1.0 h.1.1 in
    elim (Contains-append_cases (below p) (flat_map below ps) x inside) [
      | inl here ↦ let q = each p h.1.0 x h.1.1 here in (omega (arith, q.0, h.0), omega (arith, q.1))
      | inr later ↦ let q = siblings_within d tree below each ps h.1.0 next x h.1.2 later in (omega (arith, q.0, h.0), q.1)
    ]

-- the counted nodes of a subtree lie in it
pub counted_within : (d : ℕ) (tree : Tree) (k next x : ℕ) → IsSubtree d tree k next → Contains (counted_from tree d k) x → (k ≤ x) × (x < next)
unfolding IsSubtree
counted_within zero tree k next x h inside = absurd h
counted_within (suc d) tree k next x h inside =
    let e : suc d - 1 ≡ d = omega arith in
    let node = node_at tree k in
    let ends = siblings_end (IsSubtree d tree) (subtree_end d tree) node.parts (k + 1) next h.1 in
    let split = rw e at (rw (counted_from-step tree (suc d) k (omega arith)) at inside) in
    elim (Contains-append_cases (own_counted node.form k) (flat_map (counted_from tree d) (outside_parts node.form node.parts)) x split) [
      | inl own ↦ let same = own_only node.form k x own in (omega arith, omega arith)
      | inr below ↦
          let q = siblings_within d tree (counted_from tree d) (counted_within d tree) node.parts (k + 1) next x h.1 (from_outside_parts (counted_from tree d) node.form node.parts x below) in
          (omega (arith, q.0), q.1)
    ]

-- a node with its costs put in
pub record IsCostedAt (tree : Tree) (costs : Costs) (d k : ℕ) : Type 0 where
  pub matches : Matches tree (counted_from tree d k) (costed_by tree costs d k) (λ c. procs_by tree c d k) (λ c. service_by tree costs c d k)
  pub has : HasProcess (costed_by tree costs d k)
  pub sound : IsSound (costed_by tree costs d k)

-- the same by the node's form and parts
record IsCostedRow (tree : Tree) (costs : Costs) (d k : ℕ) (f : Form) (parts : List ℕ) : Type 0 where
  matches : Matches tree (own_counted f k ++ flat_map (counted_from tree d) (outside_parts f parts)) (costed_row (node_cost_row tree costs k f) (costed_by tree costs d) parts) (λ c. procs_row f (c k) (sum_by (procs_by tree c d) (outside_parts f parts))) (λ c. service_row tree costs k f (c k) (greatest_by (service_by tree costs c d) (outside_parts f parts)))
  has : HasProcess (costed_row (node_cost_row tree costs k f) (costed_by tree costs d) parts)
  sound : IsSound (costed_row (node_cost_row tree costs k f) (costed_by tree costs d) parts)

-- the counts of one part alone match
along_one : (tree : Tree) (costs : Costs) (d p : ℕ) → IsCostedAt tree costs d p → Matches tree (flat_map (counted_from tree d) (p ∷ [])) (costed_by tree costs d p) (λ c. sum_by (procs_by tree c d) (p ∷ [])) (λ c. greatest_by (service_by tree costs c d) (p ∷ []))
along_one tree costs d p at =
    subst (λ ks. Matches tree ks (costed_by tree costs d p) (λ c. sum_by (procs_by tree c d) (p ∷ [])) (λ c. greatest_by (service_by tree costs c d) (p ∷ []))) (sym (append-nil (counted_from tree d p)))
    (matches-along tree (counted_from tree d p) (costed_by tree costs d p) (λ c. procs_by tree c d p) (λ c. service_by tree costs c d p) _ _ (λ c. omega arith) (λ c. omega arith) at.matches)

module _ (tree : Tree) (costs : Costs) (lawful : IsLawfulTree tree) (priced : AreCostsOf tree costs) where
  pub some_turns : (k : ℕ) → k < length tree.nodes → 0 < expected_turns tree costs k
  some_turns k inside =
      let home : (node_at tree k).module < length costs.turns = omega (arith, home_inside tree lawful k no_node inside, priced.turns_each) in
      let turns : IsTurns (expected_turns tree costs k) = All-get_or IsTurns costs.turns (node_at tree k).module 0 home priced.turns in
      turns.0

  module _ (d : ℕ) (each : (j n : ℕ) → IsSubtree d tree j n → IsCostedAt tree costs d j) where
    stages-match : (ps : List ℕ) (from next : ℕ) → AreSubtrees (IsSubtree d tree) ps from next → Matches tree (flat_map (counted_from tree d) ps) (stages (costed_by tree costs d) ps) (λ c. sum_by (procs_by tree c d) ps) (λ c. greatest_by (service_by tree costs c d) ps)
    unfolding stages
    stages-match [] from next h = matches-empty tree
    stages-match (p ∷ ps) from next h =
        let here = each p h.1.0 h.1.1 in
        let rest = stages-match ps h.1.0 next h.1.2 in
        matches-along tree _ _ (λ c. procs_by tree c d p + sum_by (procs_by tree c d) ps) (λ c. max (service_by tree costs c d p) (greatest_by (service_by tree costs c d) ps)) _ _
        (λ c. sum_by-cons (procs_by tree c d) p ps) (λ c. refl)
        (matches-both tree (counted_from tree d p) (flat_map (counted_from tree d) ps) (costed_by tree costs d p) (stages (costed_by tree costs d) ps) _ _ _ _
        (λ x a b.
        let low = counted_within d tree p h.1.0 x h.1.1 a in
        let high = siblings_within d tree (counted_from tree d) (counted_within d tree) ps h.1.0 next x h.1.2 b in
        omega (arith, low.1, high.0)) here.matches rest)

    stages-sound : (ps : List ℕ) (from next : ℕ) → AreSubtrees (IsSubtree d tree) ps from next → IsSound (stages (costed_by tree costs d) ps)
    unfolding stages IsSound
    stages-sound [] from next h = tt
    stages-sound (p ∷ ps) from next h = ((each p h.1.0 h.1.1).sound, stages-sound ps h.1.0 next h.1.2)

    stages-process : (ps : List ℕ) (from next : ℕ) → 1 ≤ length ps → AreSubtrees (IsSubtree d tree) ps from next → HasProcess (stages (costed_by tree costs d) ps)
    unfolding stages HasProcess
    stages-process [] from next some h = absurd (omega arith)
    stages-process (p ∷ ps) from next some h = (each p h.1.0 h.1.1).has

    -- a node isn't counted below it
    apart : (k : ℕ) (parts : List ℕ) (next : ℕ) → AreSubtrees (IsSubtree d tree) parts (k + 1) next → Contains (flat_map (counted_from tree d) parts) k → ⊥
    apart k parts next h inside =
        let q = siblings_within d tree (counted_from tree d) (counted_within d tree) parts (k + 1) next k h inside in omega (arith, q.0)

    row : (k next : ℕ) (f : Form) (ins outs : ℕ) (parts : List ℕ) → k < length tree.nodes → (node_at tree k).form ≡ f → IsLawfulForm tree f ins outs parts → IfSome (workers_of f) (IsCountInRange f) → AreSubtrees (IsSubtree d tree) parts (k + 1) next → IsCostedRow tree costs d k f parts
    unfolding costed_row HasProcess IsSound
    row k next Seq ins outs parts inside is lawful clause h = record { matches = matches-leaf tree (unit_service tree costs k); has = tt; sound = tt }
    row k next Comp ins outs parts inside is lawful clause h = record { matches = matches-leaf tree (unit_service tree costs k); has = tt; sound = tt }
    row k next Pipe ins outs parts inside is lawful clause h = record {
      matches = stages-match parts (k + 1) next h;
      has = stages-process parts (k + 1) next lawful.0 h;
      sound = stages-sound parts (k + 1) next h;
    }
    row k next (Farm w) ins outs [] inside is lawful clause h = absurd lawful
    row k next (Farm w) ins outs (p ∷ []) inside is lawful clause h =
        let part = each p h.1.0 h.1.1 in record {
          matches = matches-workers tree k (flat_map (counted_from tree d) (p ∷ [])) (span_of (Farm w)) Items (farm_ends tree costs k) (costed_by tree costs d p) _ _ (apart k (p ∷ []) next h) tt (λ n. subst (λ (g : Form). IsLawfulCount g n ↔ IsIn (span_of (Farm w)) n) (sym is) (farm_range w clause n)) (along_one tree costs d p part);
          has = tt;
          sound = (tt, part.has, part.sound);
        }
    row k next (Farm w) ins outs (p ∷ (q ∷ ps)) inside is lawful clause h = absurd lawful
    row k next (Map w cut) ins outs [] inside is lawful clause h = absurd lawful
    row k next (Map w cut) ins outs (p ∷ []) inside is lawful clause h =
        let part = each p h.1.0 h.1.1 in
        let outs_lawful = lawful.cuts.lawful_outs in
        let some : 1 * 1 ≤ cut.first * cut.second = mul-le-mul outs_lawful.some_first outs_lawful.some_second in
        record {
          matches = matches-workers tree k (flat_map (counted_from tree d) (p ∷ [])) (span_of (Map w cut)) (Elements (element_count cut)) (map_ends tree costs k cut) (costed_by tree costs d p) _ _ (apart k (p ∷ []) next h) (omega arith) (λ n. subst (λ (g : Form). IsLawfulCount g n ↔ IsIn (span_of (Map w cut)) n) (sym is) (map_range w cut clause n)) (along_one tree costs d p part);
          has = tt;
          sound = (omega arith, part.has, part.sound);
        }
    row k next (Map w cut) ins outs (p ∷ (q ∷ ps)) inside is lawful clause h = absurd lawful
    row k next (Reduce w len elem) ins outs parts inside is lawful clause h = record {
      matches = matches-segments tree k (span_of (Reduce w len elem)) costs.setup costs.word len elem _ (λ n. subst (λ (g : Form). IsLawfulCount g n ↔ AreSegments (span_of (Reduce w len elem)) n) (sym is) (reduce_range w len elem clause n));
      has = tt;
      sound = tt;
    }
    row k next (form.Loop turns tokens) ins outs [] inside is lawful clause h = absurd lawful
    row k next (form.Loop turns tokens) ins outs (b ∷ []) inside is lawful clause h = absurd lawful
    row k next (form.Loop turns tokens) ins outs (b ∷ (q ∷ [])) inside is lawful clause h =
        let body = each b h.1.0 h.1.1 in record {
          matches = matches-loop tree (flat_map (counted_from tree d) (b ∷ [])) (expected_turns tree costs k) (loop_ends tree costs k) (costed_by tree costs d b) _ _ (some_turns k inside) (along_one tree costs d b body);
          has = tt;
          sound = (some_turns k inside, body.sound);
        }
    row k next (form.Loop turns tokens) ins outs (b ∷ (q ∷ (r ∷ ps))) inside is lawful clause h = absurd lawful

  pub costed_at : (d k next : ℕ) → IsSubtree d tree k next → IsCostedAt tree costs d k
  unfolding IsSubtree node_cost
  costed_at zero k next h = absurd h
  costed_at (suc d) k next h =
      let e : suc d - 1 ≡ d = omega arith in
      let some : 0 < suc d = omega arith in
      let node = lawful_at tree lawful k h.0 in
      let parts = (node_at tree k).parts in
      let over = row d (λ j n s. costed_at d j n s) k next (node_at tree k).form (node_at tree k).ins (node_at tree k).outs parts h.0 refl node.form node.workers h.1 in
      let tree_is : costed_by tree costs (suc d) k ≡ costed_row (node_cost tree costs k) (costed_by tree costs d) parts = rw e at (costed_by-step tree costs (suc d) k some) in
      let nodes_are : counted_from tree (suc d) k ≡ own_counted (node_at tree k).form k ++ flat_map (counted_from tree d) (outside_parts (node_at tree k).form parts) = rw e at (counted_from-step tree (suc d) k some) in
      record {
        matches = rw (tree_is, nodes_are)
            (matches-along tree _ _ _ _ (λ c. procs_by tree c (suc d) k) (λ c. service_by tree costs c (suc d) k)
            (λ c. rw e at (procs_by-step tree c (suc d) k some)) (λ c. rw e at (service_by-step tree costs c (suc d) k some)) over.matches);
        has = rw tree_is over.has;
        sound = rw tree_is over.sound;
      }
