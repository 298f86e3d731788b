-- Every service time of a lawful tree is far below one that none reaches.
use Rattle.std.proofs.Common.{◌≡◌, ℕ, zero, suc, ◌+◌, ◌-◌, ◌*◌, ◌==◌, ◌<◌, ◌≤◌, true, false, List, [], ◌∷◌, length, get_or, refl, ap, ap₂, ◌∙◌, arith, inl, inr, Option, Some, None}
use Rattle.std.specs.Prelude.{IfSome, sum_by, slice_index}
use Rattle.std.specs.Int.{div_ceil}
use Rattle.std.proofs.Math.Nat.{mul-le-mul, mul-le-mul_left, mul-le-mul_right}
use Rattle.std.proofs.lemmas.Bool.{cases_lt, cases_eq}
use Rattle.std.proofs.lemmas.Bool.Decides.{nat_tests}
use Rattle.std.proofs.lemmas.List.{get_or_past}
use Rattle.std.proofs.lemmas.List.Elements.{All-get_or}
use Rattle.std.proofs.lemmas.List.Sums.{sum_by-cons}
use Rattle.p3l_base.specs.Cut.{element_count}
use Rattle.p3l_skel.specs.declared.tree.Form.{Form}
use Rattle.p3l_skel.specs.declared.tree.Form.TheVariants.{Seq, Comp, Pipe, Farm, Map, Reduce, Loop}
use Rattle.p3l_skel.specs.declared.tree.Tree.{Tree}
use Rattle.p3l_skel.specs.Tree.{node_at, no_node, part_at}
use Rattle.p3l_skel.specs.Counts.{IsCountInRange, outside_parts, workers_of}
use Rattle.p3l_skel.specs.Lawful.{AreSubtrees, IsSubtree, IsLawfulForm, IsSize, IsLawfulTree}
use Rattle.p3l_skel.specs.Numbers.{joined_firings, firings_by, firings_row, most_segments, power_up_to, segments_at, runs_to, runs_row}
use Rattle.p3l_skel.proofs.Below.{firings_by-step, runs_to-step}
use Rattle.p3l_skel.proofs.Depth.{lawful_at}
use Rattle.p3l_skel.proofs.Powers.{power_up_to-power}
use Rattle.p3l_cost.specs.declared.costs.Costs.{Costs}
use Rattle.p3l_cost.specs.Costs.{AreCostsOf, IsWithinTurns, most_cost}
use Rattle.p3l_model.specs.NodeCost.{never, timed, span_of, node_cost, node_cost_row}
use Rattle.p3l_model.specs.Service.{transfer, ticks, ticks_to, ticks_row, expected_turns, reduce_service, fold_service}
use Rattle.p3l_model.specs.Costed.{costed, costed_by, costed_row, stages, slowest, greatest_up_to}
use Rattle.p3l_model.proofs.Connect.{costed_by-step, some_power}
use Rattle.p3l_model.proofs.Rules.{le_ceil}
use Rattle.p3l_model.proofs.TickSums.{ticks_to-zero, ticks_to-step}

-- more ticks than a process takes for one item
abbrev pub most_ticks : ℕ
most_ticks = 1260117634842624

sum_times : (f g : ℕ → ℕ) (c : ℕ) → ((x : ℕ) → f x ≤ c * g x) → (xs : List ℕ) → sum_by f xs ≤ c * sum_by g xs
sum_times f g c each [] = omega arith
sum_times f g c each (x ∷ xs) =
    let here = each x in
    let rest = sum_times f g c each xs in
    rw (sum_by-cons f x xs, sum_by-cons g x xs) (omega arith)

ticks_row-bound : (form : Form) (own inner runs : ℕ) → own ≤ 1000000 → inner ≤ 1000000 * runs → ticks_row form own inner ≤ 1000000 * runs_row form runs
ticks_row-bound Seq own inner runs few less = omega arith
ticks_row-bound Comp own inner runs few less = less
ticks_row-bound Pipe own inner runs few less = omega arith
ticks_row-bound (Farm w) own inner runs few less = omega arith
ticks_row-bound (Map w cut) own inner runs few less = let q = mul-le-mul_left (element_count cut) less in omega (arith, q)
ticks_row-bound (Reduce w len elem) own inner runs few less = let q = mul-le-mul_left (len - 1) less in omega (arith, q)
ticks_row-bound (Loop turns tokens) own inner runs few less = omega arith

module _ (tree : Tree) (costs : Costs) (priced : AreCostsOf tree costs) where
  own-bound : (home : ℕ) → slice_index costs.ticks home ≤ 1000000
  own-bound home =
      elim (cases_lt home (length costs.ticks)) [
        | inl inside ↦ All-get_or (λ n. n ≤ most_cost) costs.ticks home 0 inside priced.ticks
        | inr past ↦ let e = get_or_past costs.ticks home 0 past in omega (arith, e)
      ]

  -- each run of a body takes its ticks at most
  ticks_to-bound : (d k : ℕ) → ticks_to tree costs d k ≤ 1000000 * runs_to tree d k
  ticks_to-bound zero k = rw (ticks_to-zero tree costs k) (omega arith)
  ticks_to-bound (suc d) k =
      let some : 0 < suc d = omega arith in
      let e : suc d - 1 ≡ d = omega arith in
      rw (ticks_to-step tree costs (suc d) k some, runs_to-step tree (suc d) k some, e)
      (ticks_row-bound (node_at tree k).form _ _ _ (own-bound (node_at tree k).module) (sum_times (ticks_to tree costs d) (runs_to tree d) 1000000 (ticks_to-bound d) (node_at tree k).parts))

  transfer-bound : (w : ℕ) → w ≤ 65536 → transfer costs w ≤ 65537000000
  transfer-bound w few = let q = mul-le-mul priced.word few in omega (arith, q, priced.setup)

-- more depth than a subtree has changes no ticks
ticks_to-deep : (tree : Tree) (costs : Costs) (d e k next : ℕ) → d ≤ e → IsSubtree d tree k next → ticks_to tree costs e k ≡ ticks_to tree costs d k
unfolding IsSubtree
ticks_to-deep tree costs zero e k next deep h = absurd h
ticks_to-deep tree costs (suc d) zero k next deep h = absurd (omega arith)
ticks_to-deep tree costs (suc d) (suc e) k next deep h =
    let one : suc d - 1 ≡ d = omega arith in
    let two : suc e - 1 ≡ e = omega arith in
    let less : d ≤ e = omega arith in
    rw (ticks_to-step tree costs (suc d) k (omega arith), ticks_to-step tree costs (suc e) k (omega arith), one, two)
    (ap (ticks_row (node_at tree k).form (slice_index costs.ticks (node_at tree k).module)) (sums (node_at tree k).parts (k + 1) next h.1 (λ j n s. ticks_to-deep tree costs d e j n less s)))
  where
    sums : (ps : List ℕ) (from to : ℕ) → AreSubtrees (IsSubtree d tree) ps from to → ((j n : ℕ) → IsSubtree d tree j n → ticks_to tree costs e j ≡ ticks_to tree costs d j) → sum_by (ticks_to tree costs e) ps ≡ sum_by (ticks_to tree costs d) ps
    sums [] from to all same = refl
    sums (p ∷ ps) from to all same =
        rw (sum_by-cons (ticks_to tree costs e) p ps, sum_by-cons (ticks_to tree costs d) p ps) (ap₂ (λ x y. x + y) (same p all.1.0 all.1.1) (sums ps all.1.0 to all.1.2 same))

greatest-bound : (f : ℕ → ℕ) (high most : ℕ) → ((m : ℕ) → 1 ≤ m → m ≤ high → f m ≤ most) → greatest_up_to f high ≤ most
unfolding greatest_up_to
greatest-bound f zero most each = omega arith
greatest-bound f (suc n) most each =
    let rest = greatest-bound f n most (λ m some within. each m some (omega arith)) in
    let last = each (suc n) (omega arith) (omega arith) in
    omega arith

-- the numbers of a reduce's span are few
span-small : (w : Option ℕ) (len elem : ℕ) → IfSome w (IsCountInRange (Reduce w len elem)) → ((span_of (Reduce w len elem)).high ≤ 512) × ((span_of (Reduce w len elem)).high ≤ len)
span-small None len elem clause = (omega arith, omega arith)
span-small (Some m) len elem clause = (clause.2, clause.1)

some_segments : (w : Option ℕ) (len elem : ℕ) → IfSome w (IsCountInRange (Reduce w len elem)) → 1 ≤ most_segments (Reduce w len elem)
some_segments None len elem clause = some_power (power_up_to 9 len) (power_up_to-power 9 len)
some_segments (Some m) len elem clause = some_power m clause.0

some_firings : (m : ℕ) → 1 ≤ m → 1 ≤ joined_firings m
some_firings m some = grind (arith, nat_tests)

-- a reduce takes no more time than its runs and some tokens
reduce-bound : (carry : ℕ → ℕ) (len elem operator runs m : ℕ) → ((w : ℕ) → w ≤ 65536 → carry w ≤ 65537000000) → len * elem ≤ 65536 → elem ≤ 65536 → operator ≤ 1000000 * runs → (len - 1) * runs ≤ 134217728 → 1 ≤ m → m ≤ 512 → m ≤ len → reduce_service carry len elem (timed operator) m ≤ most_ticks
reduce-bound carry len elem operator runs m small whole piece less few some workers within =
    elim (cases_eq m 1) [
      | inl one ↦ let test : (m == 1) ≡ true = search (arith, nat_tests) in rw test (fold len (omega arith) whole)
      | inr other ↦ let test : (m == 1) ≡ false = search (arith, nat_tests) in
          let long : div_ceil len m ≤ len = le_ceil len m len some (let q = mul-le-mul_right len some in omega (arith, q)) in
          let words : div_ceil len m * elem ≤ len * elem = mul-le-mul_right elem long in
          let tokens : m * carry (div_ceil len m * elem) ≤ 512 * 65537000000 = mul-le-mul workers (small (div_ceil len m * elem) (omega arith)) in
          let start = small (len * elem) whole in
          let element = small elem piece in
          let folded = fold (div_ceil len m) long (omega arith) in
          let once : 1 * runs ≤ (len - 1) * runs = mul-le-mul_right runs (omega arith) in
          rw test (omega arith)
    ]
  where
    fold : (long : ℕ) → long ≤ len → long * elem ≤ 65536 → fold_service carry long elem (timed operator) ≤ most_ticks
    fold long shorter words =
        let one : (long - 1) * timed operator ≤ (len - 1) * (1000000 * runs) = mul-le-mul (omega arith) (omega arith) in
        let first = small (long * elem) words in
        let element = small elem piece in
        omega arith

-- a part of a chain of nodes has sizes within their limits
module _ (tree : Tree) (costs : Costs) (lawful : IsLawfulTree tree) (priced : AreCostsOf tree costs) where
  -- the tokens of a node are short
  ins-bound : (k : ℕ) → k < length tree.nodes → transfer costs (node_at tree k).ins ≤ 65537000000
  ins-bound k inside = transfer-bound tree costs priced (node_at tree k).ins (lawful_at tree lawful k inside).ins.1

  outs-bound : (k : ℕ) → k < length tree.nodes → transfer costs (node_at tree k).outs ≤ 65537000000
  outs-bound k inside = transfer-bound tree costs priced (node_at tree k).outs (lawful_at tree lawful k inside).outs.1

  inside-of : (d p n : ℕ) → IsSubtree d tree p n → p < length tree.nodes
  unfolding IsSubtree
  inside-of zero p n h = absurd h
  inside-of (suc d) p n h = h.0

  -- the ticks of a node, by its runs
  ticks-by-runs : (d k next : ℕ) → d ≤ 6 → IsSubtree d tree k next → ticks tree costs k ≤ 1000000 * runs_to tree d k
  ticks-by-runs d k next deep h = let q = ticks_to-bound tree costs priced d k in rw (ticks_to-deep tree costs d 6 k next deep h) q

  module _ (d : ℕ) (deep : suc d ≤ 6) (each : (j n : ℕ) → IsSubtree d tree j n → runs_to tree d j ≤ 134217728 → slowest (costed_by tree costs d j) ≤ firings_by joined_firings tree (segments_at tree) d j * most_ticks) where
    stages-bound : (ps : List ℕ) (from next : ℕ) → AreSubtrees (IsSubtree d tree) ps from next → sum_by (runs_to tree d) ps ≤ 134217728 → slowest (stages (costed_by tree costs d) ps) ≤ sum_by (firings_by joined_firings tree (segments_at tree) d) ps * most_ticks
    unfolding stages slowest
    stages-bound [] from next h few = omega arith
    stages-bound (p ∷ ps) from next h few =
        let runs = sum_by-cons (runs_to tree d) p ps in
        let here = each p h.1.0 h.1.1 (omega arith) in
        let rest = stages-bound ps h.1.0 next h.1.2 (omega arith) in
        rw (sum_by-cons (firings_by joined_firings tree (segments_at tree) d) p ps) (omega arith)

    row : (k next : ℕ) (f : Form) (ins outs : ℕ) (parts : List ℕ) → k < length tree.nodes → (node_at tree k).form ≡ f → (node_at tree k).parts ≡ parts → ticks tree costs k ≤ 1000000 * 134217728 → IsLawfulForm tree f ins outs parts → IsSize ins → IsSize outs → IfSome (workers_of f) (IsCountInRange f) → IsWithinTurns f (expected_turns tree costs k) → AreSubtrees (IsSubtree d tree) parts (k + 1) next → runs_row f (sum_by (runs_to tree d) parts) ≤ 134217728 → slowest (costed_row (node_cost_row tree costs k f) (costed_by tree costs d) parts) ≤ firings_row joined_firings f (most_segments f) (sum_by (firings_by joined_firings tree (segments_at tree) d) (outside_parts f parts)) * most_ticks
    unfolding costed_row slowest
    row k next Seq ins outs parts inside is has few lawful' sized given clause turns h runs = omega (arith, ins-bound k inside, outs-bound k inside)
    row k next Comp ins outs parts inside is has few lawful' sized given clause turns h runs = omega (arith, ins-bound k inside, outs-bound k inside)
    row k next Pipe ins outs parts inside is has few lawful' sized given clause turns h runs = stages-bound parts (k + 1) next h runs
    row k next (Farm w) ins outs [] inside is has few lawful' sized given clause turns h runs = absurd lawful'
    row k next (Farm w) ins outs (p ∷ []) inside is has few lawful' sized given clause turns h runs =
        let part = each p h.1.0 h.1.1 (omega arith) in
        omega (arith, ins-bound k inside, outs-bound k inside, part)
    row k next (Farm w) ins outs (p ∷ (q ∷ ps)) inside is has few lawful' sized given clause turns h runs = absurd lawful'
    row k next (Map w cut) ins outs [] inside is has few lawful' sized given clause turns h runs = absurd lawful'
    row k next (Map w cut) ins outs (p ∷ []) inside is has few lawful' sized given clause turns h runs =
        let n = element_count cut in
        let some : 1 * 1 ≤ n = mul-le-mul lawful'.cuts.lawful_outs.some_first lawful'.cuts.lawful_outs.some_second in
        let once : 1 * runs_to tree d p ≤ n * runs_to tree d p = mul-le-mul_right (runs_to tree d p) (omega arith) in
        let part = each p h.1.0 h.1.1 (omega arith) in
        let all = mul-le-mul_left n part in
        let within = inside-of d p h.1.0 h.1.1 in
        let first : part_at tree k 0 ≡ p = ap (λ (ps : List ℕ). slice_index ps 0) has in
        let taken : n * transfer costs (node_at tree (part_at tree k 0)).ins ≤ n * 65537000000 = rw first (mul-le-mul_left n (ins-bound p within)) in
        let gathered : n * transfer costs (node_at tree (part_at tree k 0)).outs ≤ n * 65537000000 = rw first (mul-le-mul_left n (outs-bound p within)) in
        omega (arith, ins-bound k inside, outs-bound k inside, all, taken, gathered)
    row k next (Map w cut) ins outs (p ∷ (q ∷ ps)) inside is has few lawful' sized given clause turns h runs = absurd lawful'
    row k next (Reduce w len elem) ins outs [] inside is has few lawful' sized given clause turns h runs = absurd lawful'
    row k next (Reduce w len elem) ins outs (p ∷ []) inside is has few lawful' sized given clause turns h runs =
        let span = span-small w len elem clause in
        let first : part_at tree k 0 ≡ p = ap (λ (ps : List ℕ). slice_index ps 0) has in
        let operator : ticks tree costs (part_at tree k 0) ≤ 1000000 * runs_to tree d p = rw first (ticks-by-runs d p h.1.0 (omega arith) h.1.1) in
        let whole : len * elem ≤ 65536 = omega (arith, sized.1, lawful'.elements) in
        let piece : elem ≤ 65536 = omega (arith, given.1, lawful'.result) in
        let time = greatest-bound _ (span_of (Reduce w len elem)).high most_ticks
        (λ m some within. reduce-bound (λ w'. costs.setup + costs.word * w') len elem (ticks tree costs (part_at tree k 0)) (runs_to tree d p) m (transfer-bound tree costs priced) whole piece operator (omega arith) some (omega (arith, span.0)) (omega (arith, span.1))) in
        let once = some_firings (most_segments (Reduce w len elem)) (some_segments w len elem clause) in
        omega arith
    row k next (Reduce w len elem) ins outs (p ∷ (q ∷ ps)) inside is has few lawful' sized given clause turns h runs = absurd lawful'
    row k next (Loop turns tokens) ins outs [] inside is has few lawful' sized given clause within h runs = absurd lawful'
    row k next (Loop turns tokens) ins outs (b ∷ []) inside is has few lawful' sized given clause within h runs = absurd lawful'
    row k next (Loop turns tokens) ins outs (b ∷ (c ∷ [])) inside is has few lawful' sized given clause within h runs =
        let e = expected_turns tree costs k in
        let second : part_at tree k 1 ≡ c = ap (λ (ps : List ℕ). slice_index ps 1) has in
        let once : 1 * (runs_to tree d b + runs_to tree d c) ≤ turns * (runs_to tree d b + runs_to tree d c) = mul-le-mul_right (runs_to tree d b + runs_to tree d c) lawful'.limits.some_turns in
        let body = each b h.1.0 h.1.1 (omega arith) in
        let test : ticks tree costs (part_at tree k 1) ≤ 1000000 * runs_to tree d c = rw second (ticks-by-runs d c h.1.2.1.0 (omega arith) h.1.2.1.1) in
        let token = ins-bound k inside in
        let turned : e * slowest (costed_by tree costs d b) ≤ turns * (firings_by joined_firings tree (segments_at tree) d b * most_ticks) = mul-le-mul within body in
        let tests : e * (ticks tree costs (part_at tree k 1) + 2 * transfer costs (node_at tree k).ins) ≤ turns * most_ticks = mul-le-mul within (omega arith) in
        let admits : e * transfer costs (node_at tree k).ins ≤ turns * most_ticks = mul-le-mul within (omega arith) in
        omega (arith, turned, tests, admits)
    row k next (Loop turns tokens) ins outs (b ∷ (c ∷ (r ∷ ps))) inside is has few lawful' sized given clause within h runs = absurd lawful'

  -- a subtree takes no more time than its firings and its most runs
  pub slowest-bound : (d k next : ℕ) → d ≤ 6 → IsSubtree d tree k next → runs_to tree d k ≤ 134217728 → slowest (costed_by tree costs d k) ≤ firings_by joined_firings tree (segments_at tree) d k * most_ticks
  unfolding IsSubtree node_cost
  slowest-bound zero k next deep h few = absurd h
  slowest-bound (suc d) k next deep h few =
      let e : suc d - 1 ≡ d = omega arith in
      let some : 0 < suc d = omega arith in
      let node = lawful_at tree lawful k h.0 in
      let runs = rw (runs_to-step tree (suc d) k some, e) at few in
      let ticks' = ticks-by-runs (suc d) k next deep h in
      rw (costed_by-step tree costs (suc d) k some, firings_by-step joined_firings tree (segments_at tree) (suc d) k some, e)
      (row d deep (λ j n s r. slowest-bound d j n (omega arith) s r) k next (node_at tree k).form (node_at tree k).ins (node_at tree k).outs (node_at tree k).parts h.0 refl refl (omega arith) node.form node.ins node.outs node.workers (priced.within k no_node h.0) h.1 runs)

  -- the whole tree is far below never
  pub slowest-root : slowest (costed tree costs 0) < never
  slowest-root =
      let all = slowest-bound 6 0 (length tree.nodes) (omega arith) lawful.preorder lawful.light.bodies in
      let few = lawful.light.joined in
      let product : firings_by joined_firings tree (segments_at tree) 6 0 * most_ticks ≤ 134217728 * most_ticks = mul-le-mul_right most_ticks few in
      omega arith
