-- A certificate that holds shows that its counts are optimal.
use Rattle.std.proofs.Common.{◌≡◌, ℕ, zero, suc, ◌+◌, ◌-◌, ◌≤◌, ◌<◌, ◌&&◌, ◌==◌, List, [], ◌∷◌, Option, Some, None, Result, Ok, get_or, length, refl, sym, ap, ◌∙◌, subst, arith, inl, inr}
use Rattle.std.specs.Prelude.{slice_index}
use Rattle.std.specs.List.{All}
use Rattle.std.proofs.lemmas.Bool.{cases_lt, cases_Bool, eqb-true, and_parts, cond-true, cond-false}
use Rattle.p3l_skel.specs.declared.tree.Tree.{Tree}
use Rattle.p3l_skel.specs.Tree.{node_at}
use Rattle.p3l_skel.specs.Lawful.{IsLawfulTree}
use Rattle.p3l_skel.specs.Numbers.{Fits}
use Rattle.p3l_cost.specs.declared.costs.Costs.{Costs}
use Rattle.p3l_cost.specs.Costs.{AreCostsOf}
use Rattle.p3l_model.specs.declared.cost.NodeCost.{NodeCost}
use Rattle.p3l_model.specs.NodeCost.{never, node_cost}
use Rattle.p3l_model.specs.Service.{service}
use Rattle.p3l_model.specs.Costed.{costed, slowest, IsSound}
use Rattle.p3l_model.specs.Least.{IsLeast}
use Rattle.p3l_model.specs.Optimal.{IsOptimal}
use Rattle.p3l_model.proofs.Bounds.{slowest-root}
use Rattle.p3l_model.proofs.Deep.{costed-by_parts}
use Rattle.p3l_model.proofs.Whole.{procs_whole, service_whole, fits_run}
use Rattle.p3l_cert.specs.declared.cert.Cert.{Cert}
use Rattle.p3l_cert.specs.declared.cert.Row.{Row}
use Rattle.p3l_cert.specs.declared.cert.Key.{Key}
use Rattle.p3l_cert.specs.Checker.{CertHolds}
use Rattle.p3l_cert.specs.Rows.{IsInRange}
use Rattle.p3l_cert.specs.Rule.{key, key_of, is_key, kept, needed, needed_of, cost_at, rule_of, rule_at, rule, Follows}
use Rattle.p3l_cert.proofs.Nodes.{cost_is, costed_node, high_node, parts_after, first_after}
use Rattle.p3l_cert.proofs.Truth.{rule_true}

some_is : (x y : ℕ) → Some x ≡ Some y → x ≡ y
some_is x y e = cc

zero_is : (v : ℕ) → ◌≡◌ {A = Result ℕ Key} (Ok 0) (Ok v) → 0 ≡ v
zero_is v e = cc

some_from : (k : Key) (v : ℕ) (o : Option ℕ) → needed_of k o ≡ Ok v → o ≡ Some v
some_from k v None e = absurd cc
some_from k v (Some u) e = cc

needed_some : (rows : List Row) (k : Key) (v : ℕ) → needed rows k ≡ Ok v → kept rows k ≡ Some v
needed_some rows k v e = some_from k v (kept rows k) e

-- the row of a kept key
pub kept_in : (rows : List Row) (k : Key) (v : ℕ) → kept rows k ≡ Some v → (i : ℕ) × (i < length rows) × ((d : Row) → (key_of (get_or rows i d) ≡ k) × ((get_or rows i d).least ≡ v))
unfolding kept
kept_in [] k v e = absurd cc
kept_in (r ∷ rs) k v e =
    elim (cases_Bool (is_key r k)) [
      | inl holds ↦
          let p = and_parts (r.node == k.node) ((r.bound == k.bound) && (r.cap == k.cap)) holds in
          let q = and_parts (r.bound == k.bound) (r.cap == k.cap) p.1 in
          let is : r.least ≡ v = some_is r.least v (sym (cond-true _ (Some r.least) (kept rs k) holds) ∙ e) in
          (0, omega arith, λ d. (λ i. key (eqb-true r.node k.node p.0 i) (eqb-true r.bound k.bound q.0 i) (eqb-true r.cap k.cap q.1 i), is))
      | inr fails ↦
          let w = kept_in rs k v (sym (cond-false _ (Some r.least) (kept rs k) fails) ∙ e) in
          (suc w.0, omega (arith, w.1), λ d. w.2 d)
    ]

module _ (tree : Tree) (costs : Costs) (rows : List Row) (k : Key) (v : ℕ) (some : 1 ≤ v) where
  some_cost : (o : Option NodeCost) → cost_at tree costs k.node ≡ o → rule_at (needed rows) tree o k ≡ Ok v → (k.node < length tree.nodes) × (rule_of (needed rows) (node_cost tree costs k.node) (node_at tree k.node).parts k.bound k.cap ≡ Ok v)
  some_cost None at e = absurd (omega (arith, zero_is v e))
  some_cost (Some cost) at e =
      let is = cost_is tree costs k.node cost at in
      (is.0, subst (λ (c : NodeCost). rule_of (needed rows) c (node_at tree k.node).parts k.bound k.cap ≡ Ok v) is.1 e)

  -- a rule that finds something other than 0 is that of a node outside units
  pub rule_some : rule tree costs rows k ≡ Ok v → (k.node < length tree.nodes) × (rule_of (needed rows) (node_cost tree costs k.node) (node_at tree k.node).parts k.bound k.cap ≡ Ok v)
  unfolding rule
  rule_some e = some_cost (cost_at tree costs k.node) refl e

module _ (tree : Tree) (costs : Costs) (lawful : IsLawfulTree tree) (priced : AreCostsOf tree costs) (rows : List Row) (range : All IsInRange rows) (follow : All (Follows tree costs rows) rows) where
  kept_rule : (k : Key) (v : ℕ) → kept rows k ≡ Some v → (1 ≤ v) × (rule tree costs rows k ≡ Ok v)
  kept_rule k v e =
      let o = kept_in rows k v e in
      let none : Row = record { node = 0; bound = 0; cap = 0; least = 0 } in
      let f = follow o.0 none o.1 in
      let r = range o.0 none o.1 in
      let at = o.2 none in
      (subst (λ n. 1 ≤ n) at.1 r.some_least, subst (λ (j : Key). rule tree costs rows j ≡ Ok v) at.0 (f ∙ ap (λ n. Ok n) at.1))

  -- by how many nodes there may be from a node on
  pub rows_true : (more p t cap v : ℕ) → length tree.nodes ≤ p + more → kept rows (key p t cap) ≡ Some v → slowest (costed tree costs p) < never → IsLeast (costed tree costs p) t cap v
  rows_true zero p t cap v past e slow =
      let f = kept_rule (key p t cap) v e in
      let is = rule_some tree costs rows (key p t cap) v f.0 f.1 in
      absurd (omega (arith, is.0))
  rows_true (suc more) p t cap v past e slow =
      let f = kept_rule (key p t cap) v e in
      let is = rule_some tree costs rows (key p t cap) v f.0 f.1 in
      let parts = (node_at tree p).parts in
      let made = costed-by_parts tree costs lawful p is.0 in
      subst (λ a. IsLeast a t cap v) (sym made)
      (rule_true (needed rows) (costed tree costs) (node_cost tree costs p) parts t cap v is.1 (subst IsSound made (costed_node tree costs lawful priced p is.0).sound) (subst (λ a. slowest a < never) made slow) (high_node tree costs lawful priced p is.0)
      (λ i x h u c w at early.
      let after = parts_after tree costs lawful priced p i x is.0 h in
      rows_true more (get_or parts i x) u c w (omega (arith, after.0)) (needed_some rows (key (get_or parts i x) u c) w at) early)
      (λ need.
      let after = first_after tree costs lawful priced p is.0 need in (
        (costed_node tree costs lawful priced (slice_index parts 0) after.1).has,
        λ u c w at early. rows_true more (slice_index parts 0) u c w (omega (arith, after.0)) (needed_some rows (key (slice_index parts 0) u c) w at) early,
      )))

pub cert_optimal : (tree : Tree) (costs : Costs) (cert : Cert) → IsLawfulTree tree → AreCostsOf tree costs → All IsInRange cert.rows → CertHolds tree costs cert → IsOptimal tree costs cert.processors cert.counts.list
cert_optimal tree costs cert lawful priced range holds =
    let counts = cert.counts.list in
    let slow = slowest-root tree costs lawful priced in
    let nodes = length tree.nodes in
    let now = rows_true tree costs lawful priced cert.rows range holds.follow nodes 0 cert.service cert.processors cert.used (omega arith) holds.least slow in
    let fits : Fits tree cert.processors counts = record { lawful = holds.lawful; few = let few = holds.fits in omega (arith, few, holds.used) } in
    record {
      fit = fits;
      soonest = λ others f.
          let run = fits_run tree costs lawful priced cert.processors others f in
          let time = service_whole tree costs lawful priced others f.lawful in
          let few = run.few in
          elim (cases_lt (service tree costs others 0) (service tree costs counts 0)) [
            | inl sooner ↦
                let before = rows_true tree costs lawful priced cert.rows range holds.follow nodes 0 (cert.service - 1) cert.processors (cert.processors + 1) (omega arith) (holds.no_sooner (omega (arith, holds.service))) slow in
                let q = before.below others (record { lawful = run.lawful; soon = omega (arith, time, holds.service) }) few in
                absurd (omega (arith, q, few))
            | inr later ↦ later
          ];
      fewest = λ others f same.
          let run = fits_run tree costs lawful priced cert.processors others f in
          let time = service_whole tree costs lawful priced others f.lawful in
          let many = procs_whole tree costs lawful priced others f.lawful in
          let few = run.few in
          let q = now.below others (record { lawful = run.lawful; soon = omega (arith, time, same, holds.service) }) few in
          omega (arith, q, many, holds.used);
    }
