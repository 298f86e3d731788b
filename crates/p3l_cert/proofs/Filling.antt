-- One row more that is filled.
use Rattle.std.proofs.Common.{◌≡◌, ℕ, zero, suc, ◌-◌, ◌<◌, ◌≤◌, ◌==◌, ◌&&◌, Bool, false, List, [], ◌∷◌, map, set, Option, Some, None, Result, Ok, Err, get_or, length, refl, sym, ap, ap₂, ◌∙◌, subst, arith, inl, inr}
use Rattle.std.specs.List.{All}
use Rattle.std.proofs.lemmas.Bool.{cases_eq, cases_Bool}
use Rattle.std.proofs.lemmas.Bool.Decides.{nat_tests}
use Rattle.std.proofs.lemmas.List.{get_or-set_same, get_or-set_other, length-set}
use Rattle.p3l_skel.specs.declared.tree.Tree.{Tree}
use Rattle.p3l_skel.specs.Tree.{node_at}
use Rattle.p3l_skel.specs.Lawful.{IsLawfulTree}
use Rattle.p3l_cost.specs.declared.costs.Costs.{Costs}
use Rattle.p3l_cost.specs.Costs.{AreCostsOf}
use Rattle.p3l_model.specs.declared.cost.NodeCost.{NodeCost}
use Rattle.p3l_cert.specs.declared.cert.Key.{Key}
use Rattle.p3l_cert.specs.declared.cert.Row.{Row}
use Rattle.p3l_cert.specs.Fill.{Has, AreClosed, IsFilledFrom}
use Rattle.p3l_cert.specs.Keys.{dependencies_of, dependencies_at, depends_on}
use Rattle.p3l_cert.specs.Order.{key_before}
use Rattle.p3l_cert.specs.Rows.{IsInRange, AreRows}
use Rattle.p3l_cert.specs.Rule.{key_of, is_key, kept, needed, needed_of, cost_at, rule_of, rule_at, rule}
use Rattle.p3l_cert.proofs.Found.{Finds, FindsWithin, rule_found, rule_same}
use Rattle.p3l_cert.proofs.Lookup.{any_default}
use Rattle.p3l_cert.proofs.Needs.{depends_later}
use Rattle.p3l_cert.proofs.Nodes.{cost_is, stages_some}
use Rattle.p3l_cert.proofs.Optimal.{kept_in}
use Rattle.p3l_cert.proofs.Order.{before_node}

abbrev pub no_row : Row
no_row = record { node = 0; bound = 0; cap = 0; least = 0 }

key_test : Key → Key → Bool
key_test a b = (a.node == b.node) && ((a.bound == b.bound) && (a.cap == b.cap))

-- having a row depends on the keys alone
pub has_same : (rows others : List Row) (k : Key) → map key_of rows ≡ map key_of others → Has rows k → Has others k
unfolding kept key_test
has_same [] [] k same has = absurd cc
has_same [] (y ∷ ys) k same has = absurd cc
has_same (x ∷ xs) [] k same has = absurd cc
has_same (x ∷ xs) (y ∷ ys) k same has =
    let heads : key_of x ≡ key_of y = cc in
    let tails : map key_of xs ≡ map key_of ys = cc in
    let test : is_key x k ≡ is_key y k = ap (λ (j : Key). key_test j k) heads in
    elim (cases_Bool (is_key x k)) [
      | inl here ↦ (y.least, rw (sym test ∙ here) refl)
      | inr other ↦ let p = has_same xs ys k tails (has.0, rw other at has.1) in (p.0, rw (sym test ∙ other) p.1)
    ]

-- ---- a row put in the place of another of its key

module _ (row : Row) where
  pub map_set : (rows : List Row) (i : ℕ) (d : Row) → i < length rows → key_of row ≡ key_of (get_or rows i d) → map key_of (set rows i row) ≡ map key_of rows
  map_set [] i d inside same = absurd (omega arith)
  map_set (x ∷ xs) zero d inside same = ap (λ (k : Key). k ∷ map key_of xs) same
  map_set (x ∷ xs) (suc i) d inside same = ap (λ ks. key_of x ∷ ks) (map_set xs i d (omega arith) same)

  key_set : (rows : List Row) (i j : ℕ) (d e : Row) → i < length rows → j < length rows → key_of row ≡ key_of (get_or rows i d) → key_of (get_or (set rows i row) j e) ≡ key_of (get_or rows j e)
  key_set rows i j d e inside within same =
      elim (cases_eq j i) [
        | inl here ↦
            subst (λ n. key_of (get_or (set rows i row) n e) ≡ key_of (get_or rows n e)) (sym here)
            (ap key_of (get_or-set_same rows i row e inside) ∙ same ∙ ap key_of (any_default rows i d e inside))
        | inr other ↦ ap key_of (get_or-set_other rows i j row e other)
      ]

  kept_set : (rows : List Row) (i : ℕ) (d : Row) (k : Key) → i < length rows → key_of row ≡ key_of (get_or rows i d) → is_key row k ≡ false → kept (set rows i row) k ≡ kept rows k
  unfolding kept key_test
  kept_set [] i d k inside same other = absurd (omega arith)
  kept_set (x ∷ xs) zero d k inside same other =
      let test : is_key row k ≡ is_key x k = ap (λ (j : Key). key_test j k) same in
      rw (other, sym test ∙ other) refl
  kept_set (x ∷ xs) (suc i) d k inside same other =
      elim (cases_Bool (is_key x k)) [
        | inl here ↦ rw here refl
        | inr past ↦ rw past (kept_set xs i d k (omega arith) same other)
      ]

  rows_set : (rows : List Row) (i : ℕ) (d : Row) → i < length rows → key_of row ≡ key_of (get_or rows i d) → IsInRange row → AreRows rows → AreRows (set rows i row)
  rows_set rows i d inside same range are =
      let size = length-set rows i row in
      record {
        range = λ j e within. elim (cases_eq j i) [
          | inl here ↦ subst (λ n. IsInRange (get_or (set rows i row) n e)) (sym here) (subst IsInRange (sym (get_or-set_same rows i row e inside)) range)
          | inr other ↦ subst IsInRange (sym (get_or-set_other rows i j row e other)) (are.range j e (omega (arith, size, within)))
        ];
        ascend = λ j l e f less within.
            ap₂ (λ (a b : Key). key_before a b) (key_set rows i j d e inside (omega (arith, size, within)) same) (key_set rows i l d f inside (omega (arith, size, within)) same) ∙ are.ascend j l e f less (omega (arith, size, within));
      }

later_other : (row : Row) (k : Key) → row.node < k.node → is_key row k ≡ false
later_other row k later = grind (arith, nat_tests)

ok_is : (x y : ℕ) → ◌≡◌ {A = Result ℕ Key} (Ok x) (Ok y) → x ≡ y
ok_is x y e = cc

alike : (tree : Tree) (look other : Key → Result ℕ Key) (k : Key) (o : Option NodeCost) → All (λ j. look j ≡ other j) (dependencies_at tree o k) → rule_at look tree o k ≡ rule_at other tree o k
alike tree look other k None all = refl
alike tree look other k (Some c) all = rule_same look other c (node_at tree k.node).parts k.bound k.cap all

pub map_at : (rows others : List Row) (i : ℕ) (d : Row) → map key_of rows ≡ map key_of others → i < length rows → (i < length others) × (key_of (get_or rows i d) ≡ key_of (get_or others i d))
map_at [] others i d same inside = absurd (omega arith)
map_at (x ∷ xs) [] i d same inside = absurd cc
map_at (x ∷ xs) (y ∷ ys) zero d same inside = (omega arith, cc)
map_at (x ∷ xs) (y ∷ ys) (suc i) d same inside =
    let tails : map key_of xs ≡ map key_of ys = cc in let p = map_at xs ys i d tails (omega arith) in (omega (arith, p.0), p.1)

finds_from : (rows : List Row) (k : Key) → All IsInRange rows → Has rows k → Finds (needed rows) k
finds_from rows k range has =
    let o = kept_in rows k has.0 has.1 in
    let r = range o.0 no_row o.1 in
    (has.0, ap (needed_of k) has.1, subst (λ n. 1 ≤ n) (o.2 no_row).1 r.some_least)

module _ (tree : Tree) (costs : Costs) (lawful : IsLawfulTree tree) (priced : AreCostsOf tree costs) where
  -- a rule hangs on rows of later nodes alone
  rule_alike : (rows others : List Row) (k : Key) → ((j : Key) → k.node < j.node → kept rows j ≡ kept others j) → rule tree costs rows k ≡ rule tree costs others k
  unfolding rule depends_on
  rule_alike rows others k same =
      alike tree (needed rows) (needed others) k (cost_at tree costs k.node)
      (λ i d inside. ap (needed_of (get_or (depends_on tree costs k) i d)) (same (get_or (depends_on tree costs k) i d) (depends_later tree costs lawful priced k i d inside)))

  rule_of_cost : (rows : List Row) (k : Key) (c : NodeCost) → cost_at tree costs k.node ≡ Some c → rule tree costs rows k ≡ rule_of (needed rows) c (node_at tree k.node).parts k.bound k.cap
  unfolding rule
  rule_of_cost rows k c at = ap (λ o. rule_at (needed rows) tree o k) at

  depends_of_cost : (k : Key) (c : NodeCost) → cost_at tree costs k.node ≡ Some c → depends_on tree costs k ≡ dependencies_of c (node_at tree k.node).parts k.bound k.cap
  unfolding depends_on
  depends_of_cost k c at = ap (λ o. dependencies_at tree o k) at

  rule_finds : (rows : List Row) (k : Key) (c : NodeCost) → All IsInRange rows → 1 ≤ k.cap → cost_at tree costs k.node ≡ Some c → All (Has rows) (depends_on tree costs k) → FindsWithin k.cap (rule tree costs rows k)
  rule_finds rows k c range room at has =
      let is = cost_is tree costs k.node c at in
      let finds : All (Finds (needed rows)) (depends_on tree costs k) = λ i d inside. finds_from rows (get_or (depends_on tree costs k) i d) range (has i d inside) in
      let w = rule_found (needed rows) c (node_at tree k.node).parts k.bound k.cap room (λ stages. stages_some tree costs lawful priced k.node is.0 (sym is.1 ∙ stages)) (subst (All (Finds (needed rows))) (depends_of_cost k c at) finds) in
      (w.0, rule_of_cost rows k c at ∙ w.1, w.2, w.3)

  module _ (before : List Row) (closed : AreClosed tree costs before) (place : ℕ) (rows : List Row) (filled : IsFilledFrom tree costs before place rows) (some : 0 < place) (within : place ≤ length rows) where
    here : Row
    here = get_or rows (place - 1) no_row

    found : FindsWithin here.cap (rule tree costs rows (key_of here))
    unfolding here
    found =
        let inside : place - 1 < length rows = omega arith in
        let at = map_at rows before (place - 1) no_row filled.same inside in
        let range = filled.ordered.range (place - 1) no_row inside in
        let cost = closed.outside (place - 1) no_row at.0 in
        let depends = closed.depends (place - 1) no_row at.0 in
        let node : (get_or before (place - 1) no_row).node ≡ here.node = sym (ap (λ (k : Key). k.node) at.1) in
        rule_finds rows (key_of here) cost.0 filled.ordered.range range.some_cap (subst (λ n. cost_at tree costs n ≡ Some cost.0) node cost.1)
        (subst (λ (k : Key). All (Has rows) (depends_on tree costs k)) (sym at.1) (λ i d inside'. has_same before rows (get_or (depends_on tree costs (key_of (get_or before (place - 1) no_row))) i d) (sym filled.same) (depends i d inside')))

    pub never_missing : (k : Key) → rule tree costs rows (key_of (get_or rows (place - 1) no_row)) ≡ Err k → ⊥
    unfolding here
    never_missing k e = let both : Ok found.0 ≡ Err k = sym found.1 ∙ e in absurd cc

    pub filled_step : (least : ℕ) (d : Row) → rule tree costs rows (key_of (get_or rows (place - 1) no_row)) ≡ Ok least
        → IsFilledFrom tree costs before (place - 1) (set rows (place - 1) (record { node = (get_or rows (place - 1) d).node; bound = (get_or rows (place - 1) d).bound; cap = (get_or rows (place - 1) d).cap; least = least }))
    unfolding here
    filled_step least d e =
        let i : ℕ = place - 1 in
        let inside : i < length rows = omega arith in
        let default : get_or rows i d ≡ here = any_default rows i d no_row inside in
        let row : Row = record { node = (get_or rows i d).node; bound = (get_or rows i d).bound; cap = (get_or rows i d).cap; least = least } in
        let same : key_of row ≡ key_of (get_or rows i no_row) = ap key_of default in
        let nodes : row.node ≡ here.node = ap (λ (k : Key). k.node) same in
        let range = filled.ordered.range i no_row inside in
        let cap = range.cap in
        let is : found.0 ≡ least = ok_is found.0 least (sym found.1 ∙ e) in
        let ranged : IsInRange row = subst (λ (k : Key). IsInRange (record { node = k.node; bound = k.bound; cap = k.cap; least = least })) (sym same)
        (record { bound = range.bound; some_cap = range.some_cap; cap = range.cap; some_least = omega (arith, is, found.2); least = omega (arith, is, found.3, cap) }) in
        let size = length-set rows i row in
        let alike_from : (k : Key) → here.node ≤ k.node → rule tree costs (set rows i row) k ≡ rule tree costs rows k = λ k from.
        rule_alike (set rows i row) rows k (λ j later. kept_set row rows i no_row j inside same (later_other row j (omega (arith, nodes, from, later)))) in
        record {
          ordered = rows_set row rows i no_row inside same ranged filled.ordered;
          same = map_set row rows i no_row inside same ∙ filled.same;
          follow = λ j f from past. elim (cases_eq j i) [
            | inl now ↦
                let there : get_or (set rows i row) j f ≡ row = subst (λ n. get_or (set rows i row) n f ≡ row) (sym now) (get_or-set_same rows i row f inside) in
                subst (λ (r : Row). rule tree costs (set rows i row) (key_of r) ≡ Ok r.least) (sym there)
                (alike_from (key_of row) (omega (arith, nodes)) ∙ ap (rule tree costs rows) same ∙ e)
            | inr other ↦
                let there : get_or (set rows i row) j f ≡ get_or rows j f = get_or-set_other rows i j row f other in
                let last : Row = get_or rows j f in
                let beyond : j < length rows = omega (arith, size, past) in
                let up = before_node here.node here.bound here.cap last.node last.bound last.cap (filled.ordered.ascend i j no_row f (omega (arith, from, other)) beyond) in
                subst (λ (r : Row). rule tree costs (set rows i row) (key_of r) ≡ Ok r.least) (sym there)
                (alike_from (key_of last) up ∙ filled.follow j f (omega (arith, from, other)) beyond)
          ];
        }

    pub filled_within : (row : Row) → place - 1 ≤ length (set rows (place - 1) row)
    filled_within row = omega (arith, length-set rows (place - 1) row)

-- rows of the same keys are as many
pub same_length : (rows others : List Row) → map key_of rows ≡ map key_of others → length rows ≡ length others
same_length [] [] same = refl
same_length [] (y ∷ ys) same = absurd cc
same_length (x ∷ xs) [] same = absurd cc
same_length (x ∷ xs) (y ∷ ys) same = let tails : map key_of xs ≡ map key_of ys = cc in ap suc (same_length xs ys tails)
