-- Certificates of optimal counts.
use Rattle.std.proofs.Common.{◌≡◌, ℕ, zero, suc, ◌+◌, ◌-◌, ◌*◌, ◌<◌, ◌≤◌, true, List, [], ◌∷◌, ◌++◌, Some, get_or, length, sym, ap, ◌∙◌, subst, arith, inl, inr}
use Rattle.std.specs.List.{All, Contains}
use Rattle.std.specs.List.Sorted.{IsPermutation}
use Rattle.std.proofs.Math.Nat.{mul-le-mul_left}
use Rattle.std.proofs.lemmas.Bool.{cases_lt, cases_eq, eq-eqb, ne_eqb}
use Rattle.std.proofs.lemmas.List.{get_or_append_left, get_or-append-add, length-append}
use Rattle.std.proofs.lemmas.List.Elements.{All-append, Contains-get_or}
use Rattle.std.proofs.lemmas.List.Sorted.{All-permutation, IsPermutation-sym}
use Rattle.p3l_skel.specs.declared.tree.Form.{Form}
use Rattle.p3l_skel.specs.declared.tree.Form.TheVariants.{Seq, Comp, Pipe, Farm, Map, Reduce, Loop}
use Rattle.p3l_skel.specs.declared.tree.Tree.{Tree}
use Rattle.p3l_skel.specs.Tree.{node_at, nesting}
use Rattle.p3l_skel.specs.Counts.{TakesLawful, IsLawfulCount, HasLawfulCounts, counted}
use Rattle.p3l_skel.specs.Lawful.{IsLawfulTree}
use Rattle.p3l_skel.specs.Numbers.{Fits, procs}
use Rattle.p3l_cost.specs.declared.costs.Costs.{Costs}
use Rattle.p3l_cost.specs.Costs.{AreCostsOf}
use Rattle.p3l_model.specs.NodeCost.{never}
use Rattle.p3l_model.specs.Service.{service}
use Rattle.p3l_model.specs.Costed.{Costed, costed}
use Rattle.p3l_model.specs.Least.{IsLeast}
use Rattle.p3l_model.specs.Optimal.{IsOptimal}
use Rattle.p3l_model.proofs.Bounds.{slowest-root}
use Rattle.p3l_model.proofs.Timed.{bounded}
use Rattle.p3l_model.proofs.Whole.{procs_whole, service_whole, fits_run, run_fits}
use Rattle.p3l_cert.specs.declared.cert.Cert.{Cert}
use Rattle.p3l_cert.specs.declared.cert.Key.{Key}
use Rattle.p3l_cert.specs.declared.cert.Row.{Row}
use Rattle.p3l_cert.specs.Certified.{AreNeededRows}
use Rattle.p3l_cert.specs.Checker.{CertHolds}
use Rattle.p3l_cert.specs.Fill.{Has, AreRowsOf, AreClosed, IsFilledFrom}
use Rattle.p3l_cert.specs.Keys.{depends_on, keys_from, needed_keys, IsSmall}
use Rattle.p3l_cert.specs.Rule.{key, key_of, kept}
use Rattle.p3l_cert.specs.Text.{cert_format, most_number}
use Rattle.p3l_cert.proofs.Filling.{has_same, map_at}
use Rattle.p3l_cert.proofs.Form.{form_to}
use Rattle.p3l_cert.proofs.Needs.{keys_closed, keys_small, first_key}
use Rattle.p3l_cert.proofs.Optimal.{rows_true, rule_some}
use Rattle.p3l_cert.proofs.Outside.{IsCosted, root_deep, root_costed_keys}

-- ---- which keys are needed

abbrev first_of : Tree → Costs → ℕ → ℕ → List Key
first_of tree costs service processors = keys_from tree costs nesting (key 0 service processors)

needed_all : (tree : Tree) (costs : Costs) (P : Key → Type 0) (service processors : ℕ) → All P (first_of tree costs service processors) → (0 < service → All P (first_of tree costs (service - 1) processors)) → All P (needed_keys tree costs service processors)
needed_all tree costs P service processors first second =
    elim (cases_eq service 0) [
      | inl none ↦ rw (eq-eqb service 0 none) first
      | inr some ↦ rw (ne_eqb service 0 some) (All-append P (first_of tree costs service processors) (first_of tree costs (service - 1) processors) first (second (omega (arith, some))))
    ]

front : (P : Key → Type 0) (keys more : List Key) → All P (keys ++ more) → All P keys
front P keys more all i d inside = subst P (get_or_append_left keys more d i inside) (all i d (omega (arith, inside, length-append keys more)))

back : (P : Key → Type 0) (keys more : List Key) → All P (keys ++ more) → All P more
back P keys more all i d inside = subst P (get_or-append-add keys more i d) (all (length keys + i) d (omega (arith, inside, length-append keys more)))

needed_first : (tree : Tree) (costs : Costs) (P : Key → Type 0) (service processors : ℕ) → All P (needed_keys tree costs service processors) → All P (first_of tree costs service processors)
needed_first tree costs P service processors all =
    elim (cases_eq service 0) [
      | inl none ↦ rw (eq-eqb service 0 none) at all
      | inr some ↦ front P (first_of tree costs service processors) (first_of tree costs (service - 1) processors) (rw (ne_eqb service 0 some) at all)
    ]

needed_second : (tree : Tree) (costs : Costs) (P : Key → Type 0) (service processors : ℕ) → 0 < service → All P (needed_keys tree costs service processors) → All P (first_of tree costs (service - 1) processors)
needed_second tree costs P service processors some all =
    back P (first_of tree costs service processors) (first_of tree costs (service - 1) processors) (rw (ne_eqb service 0 (λ z. omega (arith, z, some))) at all)

pub top_small : (bound processors : ℕ) → bound < never → 1 ≤ processors → processors ≤ 512 → IsSmall (key 0 bound processors)
top_small bound processors early some few =
    let product : bound * processors ≤ bound * 512 = mul-le-mul_left bound few in
    record { some_cap = some; cap = few; bound = omega (arith, product, early) }

module _ (tree : Tree) (costs : Costs) (lawful : IsLawfulTree tree) (priced : AreCostsOf tree costs) (time processors : ℕ) where
  pub needed_small : time < never → 1 ≤ processors → processors ≤ 512 → All IsSmall (needed_keys tree costs time processors)
  needed_small early some few = needed_all tree costs IsSmall time processors
      (keys_small tree costs lawful priced nesting (key 0 time processors) (top_small time processors early some few))
      (λ later. keys_small tree costs lawful priced nesting (key 0 (time - 1) processors) (top_small (time - 1) processors (omega arith) some few))

  needed_costed : All (IsCosted tree costs) (needed_keys tree costs time processors)
  needed_costed = needed_all tree costs (IsCosted tree costs) time processors (root_costed_keys tree costs lawful priced time processors) (λ later. root_costed_keys tree costs lawful priced (time - 1) processors)

  needed_closed : (P : Key → Type 0) → All P (needed_keys tree costs time processors) → All (λ k. All P (depends_on tree costs k)) (needed_keys tree costs time processors)
  needed_closed P all =
      let deep = root_deep tree costs lawful priced in
      needed_all tree costs (λ k. All P (depends_on tree costs k)) time processors
      (keys_closed tree costs lawful priced P nesting (key 0 time processors) deep (needed_first tree costs P time processors all))
      (λ later. keys_closed tree costs lawful priced P nesting (key 0 (time - 1) processors) deep (needed_second tree costs P time processors later all))

  needed_now : (P : Key → Type 0) → All P (needed_keys tree costs time processors) → P (key 0 time processors)
  needed_now P all = first_key tree costs lawful priced P nesting (key 0 time processors) (root_deep tree costs lawful priced) (needed_first tree costs P time processors all)

  needed_before : (P : Key → Type 0) → 0 < time → All P (needed_keys tree costs time processors) → P (key 0 (time - 1) processors)
  needed_before P later all = first_key tree costs lawful priced P nesting (key 0 (time - 1) processors) (root_deep tree costs lawful priced) (needed_second tree costs P time processors later all)

  -- ---- the rows of the keys needed, in order

  module _ (keys : List Key) (perm : IsPermutation (needed_keys tree costs time processors) keys) (rows : List Row) (are : AreRowsOf keys rows) where
    has_needed : All (Has rows) (needed_keys tree costs time processors)
    has_needed = All-permutation (Has rows) keys (needed_keys tree costs time processors) (IsPermutation-sym (needed_keys tree costs time processors) keys perm) are.all

    -- a property of all keys holds of each row's
    of_rows : (P : Key → Type 0) → All P (needed_keys tree costs time processors) → All (λ (row : Row). P (key_of row)) rows
    of_rows P all i d inside =
        let o = are.only i d inside in
        let sorted = All-permutation P (needed_keys tree costs time processors) keys perm all in
        subst P o.2 (sorted o.0 (key_of (get_or rows i d)) o.1)

    pub made_closed : AreClosed tree costs rows
    made_closed = record {
      depends = of_rows (λ k. All (Has rows) (depends_on tree costs k)) (needed_closed (Has rows) has_needed);
      outside = of_rows (IsCosted tree costs) needed_costed;
    }

    pub needed_rows : (filled : List Row) → IsFilledFrom tree costs rows 0 filled → AreNeededRows tree costs time processors filled
    needed_rows filled is = record {
      ordered = is.ordered;
      all = λ i d inside. has_same rows filled (get_or (needed_keys tree costs time processors) i d) (sym is.same) (has_needed i d inside);
      only = λ i d inside.
          let at = map_at filled rows i d is.same inside in
          subst (Contains (needed_keys tree costs time processors)) (sym at.1) (of_rows (Contains (needed_keys tree costs time processors)) (λ j e within. Contains-get_or (needed_keys tree costs time processors) j e within) i d at.0);
      follow = λ i d inside. is.follow i d (omega arith) inside;
    }

-- ---- counts

count_few : (f : Form) (n : ℕ) → IsLawfulCount f n → n ≤ 512
count_few Seq n h = absurd h.1
count_few Comp n h = absurd h.1
count_few Pipe n h = absurd h.1
count_few (Farm w) n h = h.1.1
count_few (Map w cut) n h = h.1.2
count_few (Reduce w len elem) n h = h.1.2
count_few (Loop turns tokens) n h = absurd h.1

counts_few : (tree : Tree) (ks ns : List ℕ) → TakesLawful tree ks ns [] → All (λ n. n ≤ 512) ns
counts_few tree [] [] h i d inside = absurd (omega arith)
counts_few tree [] (n ∷ ns) h i d inside = absurd cc
counts_few tree (k ∷ ks) [] h i d inside = absurd h
counts_few tree (k ∷ ks) (n ∷ ns) h zero d inside = count_few (node_at tree k).form n h.0
counts_few tree (k ∷ ks) (n ∷ ns) h (suc i) d inside = counts_few tree ks ns h.1 i d (omega arith)

-- ---- the whole

least_below : (a : Costed) (t cap u v : ℕ) → IsLeast a t cap u → IsLeast a t cap v → u ≤ v
least_below a t cap u v one two =
    elim (cases_lt cap v) [
      | inl above ↦ let top = one.top in omega (arith, top, above)
      | inr within ↦
          let o = two.reached within in
          let q = one.below o.0 o.1 (omega (arith, o.2, within)) in omega (arith, q, o.2)
    ]

least_same : (a : Costed) (t cap u v : ℕ) → IsLeast a t cap u → IsLeast a t cap v → u ≡ v
least_same a t cap u v one two = let p = least_below a t cap u v one two in let q = least_below a t cap v u two one in omega (arith, p, q)

module _ (tree : Tree) (costs : Costs) (lawful : IsLawfulTree tree) (priced : AreCostsOf tree costs) (processors : ℕ) (counts : List ℕ) (optimal : IsOptimal tree costs processors counts) where
  pub early : service tree costs counts 0 < never
  early =
      let run = fits_run tree costs lawful priced processors counts optimal.fit in
      let time = service_whole tree costs lawful priced counts optimal.fit.lawful in
      let slow = slowest-root tree costs lawful priced in
      omega (arith, bounded (costed tree costs 0) counts run.lawful, time, slow)

  now_least : IsLeast (costed tree costs 0) (service tree costs counts 0) processors (procs tree counts 0)
  now_least =
      let few = optimal.fit.few in
      let run = fits_run tree costs lawful priced processors counts optimal.fit in
      let time = service_whole tree costs lawful priced counts optimal.fit.lawful in
      record {
        top = omega (arith, few);
        below = λ xs s small.
            let fit : Fits tree processors xs = run_fits tree costs lawful priced processors xs (record { lawful = s.lawful; few = small }) in
            let soonest = optimal.soonest xs fit in
            let soon = s.soon in
            let same : service tree costs xs 0 ≡ service tree costs counts 0 = omega (arith, soonest, soon, service_whole tree costs lawful priced xs fit.lawful) in
            omega (arith, optimal.fewest xs fit same, procs_whole tree costs lawful priced xs fit.lawful);
        reached = λ l. (counts, record { lawful = run.lawful; soon = omega (arith, time) }, sym (procs_whole tree costs lawful priced counts optimal.fit.lawful));
      }

  before_least : 0 < service tree costs counts 0 → IsLeast (costed tree costs 0) (service tree costs counts 0 - 1) processors (processors + 1)
  before_least later = record {
    top = omega arith;
    below = λ xs s small.
        let fit : Fits tree processors xs = run_fits tree costs lawful priced processors xs (record { lawful = s.lawful; few = small }) in
        let soonest = optimal.soonest xs fit in
        let soon = s.soon in
        absurd (omega (arith, soonest, soon, later, service_whole tree costs lawful priced xs fit.lawful));
    reached = λ l. absurd (omega arith);
  }

  module _ (cert : Cert) (p : cert.processors ≡ processors) (c : cert.counts.list ≡ counts) (s : cert.service ≡ service tree costs counts 0) (u : cert.used ≡ procs tree counts 0) (needs : AreNeededRows tree costs (service tree costs counts 0) processors cert.rows) where
    root_true : (t v : ℕ) → kept cert.rows (key 0 t processors) ≡ Some v → IsLeast (costed tree costs 0) t processors v
    root_true t v e = rows_true tree costs lawful priced cert.rows needs.ordered.range needs.follow (length tree.nodes) 0 t processors v (omega arith) e (slowest-root tree costs lawful priced)

    pub certified : CertHolds tree costs cert
    certified =
        let now = needed_now tree costs lawful priced (service tree costs counts 0) processors (Has cert.rows) needs.all in
        let used : now.0 ≡ procs tree counts 0 = least_same (costed tree costs 0) (service tree costs counts 0) processors now.0 (procs tree counts 0) (root_true (service tree costs counts 0) now.0 now.1) now_least in
        record {
          lawful = subst (HasLawfulCounts tree) (sym c) optimal.fit.lawful;
          service = s ∙ ap (λ ns. service tree costs ns 0) (sym c);
          used = u ∙ ap (λ ns. procs tree ns 0) (sym c);
          fits = let few = optimal.fit.few in omega (arith, u, p, few);
          follow = needs.follow;
          least = (λ i. kept cert.rows (key 0 (s i) (p i))) ∙ now.1 ∙ ap (λ n. Some n) (used ∙ sym u);
          no_sooner = λ later.
              let some : 0 < service tree costs counts 0 = omega (arith, s, later) in
              let before = needed_before tree costs lawful priced (service tree costs counts 0) processors (Has cert.rows) some needs.all in
              let least : before.0 ≡ processors + 1 = least_same (costed tree costs 0) (service tree costs counts 0 - 1) processors before.0 (processors + 1) (root_true (service tree costs counts 0 - 1) before.0 before.1) (before_least some) in
              (λ i. kept cert.rows (key 0 (s i - 1) (p i))) ∙ before.1 ∙ ap (λ n. Some n) (least ∙ ap (λ n. n + 1) (sym p));
        }

    node_few : All (λ (row : Row). row.node ≤ most_number) cert.rows
    node_few i d inside =
        let f = needs.follow i d inside in
        let range = needs.ordered.range i d inside in
        let at = rule_some tree costs cert.rows (key_of (get_or cert.rows i d)) (get_or cert.rows i d).least range.some_least f in
        let few = lawful.few_nodes in omega (arith, at.0, few)

    pub formed : 1 ≤ processors → processors ≤ 512 → cert_format.fits cert ≡ true
    formed some few =
        let small = early in
        let used = optimal.fit.few in
        form_to cert (omega (arith, p)) (omega (arith, p))
        (λ i d inside.
        let same : All (λ n. n ≤ 512) cert.counts.list = subst (All (λ n. n ≤ 512)) (sym c) (counts_few tree (counted tree) counts optimal.fit.lawful) in
        let count = same i d inside in omega (arith, count))
        (omega (arith, s, small)) (omega (arith, u, used)) node_few needs.ordered
