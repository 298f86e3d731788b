-- Facts that stay true of every timer, as it is notified of offers and firings.
use Rattle.std.proofs.Common.{◌≡◌, ◌≢◌, ℕ, zero, suc, ◌+◌, ◌*◌, ◌^◌, ◌<◌, ◌≤◌, inl, inr, Bool, true, false, not, ◌&&◌, cond, List, [], ◌∷◌, length, map, replicate, Option, Some, None, get_or, slice_get, slice_set, slice_index, refl, sym, ap, ◌∙◌, subst, arith, length-set}
use Rattle.std.specs.Prelude.{unwrap_or}
use Rattle.std.specs.Option.{is_some}
use Rattle.std.proofs.lemmas.Bool.{cases_eq, cases_lt}
use Rattle.std.proofs.lemmas.List.{get_or-set_same, get_or-set_other, get_or_past}
use Rattle.std.proofs.lemmas.Option.{slice_get_past}
use Rattle.p3l_skel.specs.declared.tree.Tree.{Tree}
use Rattle.p3l_cost.specs.declared.costs.Costs.{Costs}
use Rattle.p3l_firing.specs.declared.process.Proc.{Proc}
use Rattle.p3l_firing.proofs.Rows.{none_ready}
use Rattle.p3l_net.specs.Machine.{Seen, can_step, state_of}
use Rattle.p3l_net.proofs.Frame.{trapped_steps}
use Rattle.p3l_timed.specs.Moments.{IsLeast, IsNoLater, due_at}
use Rattle.p3l_timed.specs.Clock.{IsBusiest, IsKept}
use Rattle.p3l_timed.specs.Due.{IsNext, due_next, renewed, without}
use Rattle.p3l_timed.specs.Price.{counted, price_at, price_of}
use Rattle.p3l_timed.proofs.Round.{due_from, due_stays, put_same, put_other, without_own, without_other}

-- THE PRICES that are counted are small, and exact where all are small
pub exact_prices : (tree : Tree) (costs : Costs) (procs : List Proc) → ((p : ℕ) (q : Proc) → slice_get procs p ≡ Some q → price_of tree costs q < 2 ^ 48) → map (λ (q : Proc). counted (price_of tree costs q)) procs ≡ map (price_of tree costs) procs
exact_prices tree costs [] small = refl
exact_prices tree costs (q ∷ procs) small =
    let few = small 0 q refl in
    let here : counted (price_of tree costs q) ≡ price_of tree costs q = omega (arith, few) in
    ap (λ n. n ∷ map (λ (x : Proc). counted (price_of tree costs x)) procs) here
    ∙ ap (λ ns. price_of tree costs q ∷ ns) (exact_prices tree costs procs (λ p x at. small (suc p) x at))

pub small_prices : (tree : Tree) (costs : Costs) (procs : List Proc) (r : ℕ) → price_at (map (λ (q : Proc). counted (price_of tree costs q)) procs) r < 2 ^ 48
small_prices tree costs [] r = omega arith
small_prices tree costs (q ∷ procs) zero = omega arith
small_prices tree costs (q ∷ procs) (suc r) = small_prices tree costs procs r

pub prices_long : (tree : Tree) (costs : Costs) (procs : List Proc) → length (map (λ (q : Proc). counted (price_of tree costs q)) procs) ≡ length procs
prices_long tree costs [] = refl
prices_long tree costs (q ∷ procs) = ap suc (prices_long tree costs procs)

-- a process past the last can't fire
pub can_past : (m : Seen) (r : ℕ) → length m.net.procs ≤ r → can_step m r ≡ false
can_past m r past = ap (λ b. not m.trapped && b) (none_ready m.tree m.net (state_of m []) r (slice_get_past m.net.procs r past)) ∙ and_false (not m.trapped)
  where
    and_false : (b : Bool) → (b && false) ≡ false
    and_false true = refl
    and_false false = refl

pub idle_is_none : (can : Bool) (fresh : ℕ) (due : Option ℕ) → can ≡ false → due_next can fresh due ≡ None
idle_is_none can fresh due e = subst (λ b. due_next b fresh due ≡ None) (sym e) refl

-- the moments shown are right: none is shown once nothing fires any more, since after a trap nothing can
pub shown : (m : Seen) (over : Bool) (fresh : ℕ → ℕ) (base : ℕ → Option ℕ) (moments : List (Option ℕ)) → over ≡ m.trapped
    → (m.trapped ≡ false → (r : ℕ) → due_at moments r ≡ due_next (can_step m r) (fresh r) (base r))
    → (r : ℕ) → due_at (cond over [] moments) r ≡ due_next (can_step m r) (fresh r) (base r)
shown m true fresh base moments e each r = sym (idle_is_none (can_step m r) (fresh r) (base r) (trapped_steps m (sym e) r))
shown m false fresh base moments e each r = each (sym e) r

-- an element within a list is the same by `get_or` and by `slice_index`
pub read_at : (xs : List ℕ) (i d : ℕ) → i < length xs → get_or xs i d ≡ slice_index xs i
read_at [] i d there = absurd (omega (arith, there))
read_at (x ∷ xs) zero d there = refl
read_at (x ∷ xs) (suc i) d there = read_at xs i d (omega (arith, there))

-- THE NEXT is the least of all numbers, and one of the processes
later_none : (a b : Option ℕ) → a ≢ None → b ≡ None → IsNoLater a b
later_none None b some none = absurd (some refl)
later_none (Some x) (Some y) some none = cc
later_none (Some x) None some none = tt

pub least_is_next : (due : List (Option ℕ)) (p : ℕ) → IsLeast due p → IsNext (due_at due) p
least_is_next due p is = record {
  due_is = is.due;
  least = λ q. elim (cases_lt q (length due)) [
    | inl inside ↦ is.least q inside
    | inr past ↦ later_none (due_at due p) (due_at due q) is.due (get_or_past due q None past)
  ];
  first = is.first;
}

pub due_is_there : {prices busy : List ℕ} {due : List (Option ℕ)} {moment fired : ℕ} → IsKept prices busy due moment fired → (p : ℕ) → due_at due p ≢ None → p < length prices
due_is_there {prices = prices} kept p some = elim (cases_lt p (length prices)) [
  | inl inside ↦ inside
  | inr past ↦ absurd (some (kept.none_else p past))
]

-- the same of what is shown
pub shown_due : (over : Bool) (moments : List (Option ℕ)) (p : ℕ) → due_at (cond over [] moments) p ≢ None → (due_at moments p ≢ None) × (over ≡ false)
shown_due true moments p some = absurd (some refl)
shown_due false moments p some = (some, refl)

-- A FIRST LOOK
pub kept_first : (m : Seen) (prices : List ℕ) (n : ℕ) (moments : List (Option ℕ)) → length prices ≡ length m.net.procs → length prices < 2 ^ 32 → n ≡ length prices → length prices ≤ length moments → ((r : ℕ) → price_at prices r < 2 ^ 48)
    → ((r : ℕ) → due_at moments r ≡ renewed (can_step m) (price_at prices) 0 (λ q. None) r) → IsKept prices (replicate n 0) moments 0 0
kept_first m prices n moments size few count room small due = record {
  timely = record {
    small_price = small;
    few_busy = λ r. let z = zero_at r n in omega (arith, z);
    early = omega arith;
    soon = λ r d h. elim (due_from (can_step m r) (0 + price_at prices r) d None (sym (due r) ∙ h)) [
      | inl before ↦ absurd (none_some d before)
      | inr fresh ↦ let few = small r in omega (arith, fresh, few)
    ];
  };
  as_many = length_same n ∙ count;
  few = few;
  room = room;
  none_else = λ r past. due r ∙ idle_is_none (can_step m r) (0 + price_at prices r) None (can_past m r (omega (arith, past, size)));
}
  where
    none_some : (d : ℕ) → None ≡ Some d → ⊥
    none_some d e = cc

    zero_at : (r k : ℕ) → slice_index (replicate k 0) r ≡ 0
    zero_at r zero = refl
    zero_at zero (suc k) = refl
    zero_at (suc r) (suc k) = zero_at r k

    length_same : (k : ℕ) → length {A = ℕ} (replicate k 0) ≡ k
    length_same zero = refl
    length_same (suc k) = ap suc (length_same k)

-- A LOOK AT ONE
pub kept_look : (m : Seen) (prices busy : List ℕ) (due new : List (Option ℕ)) (moment fired : ℕ) → IsKept prices busy due moment fired → 0 < length prices
    → new ≡ slice_set due 0 (due_next (can_step m 0) (moment + price_at prices 0) (due_at due 0)) → IsKept prices busy new moment fired
kept_look m prices busy due new moment fired kept some e =
    let there : 0 < length due = let room = kept.room in omega (arith, some, room) in
    let small = kept.timely.small_price 0 in
    let early = kept.timely.early in
    record {
      timely = record {
        small_price = kept.timely.small_price;
        few_busy = kept.timely.few_busy;
        early = kept.timely.early;
        soon = λ r d h. elim (cases_eq r 0) [
          | inl first ↦
              let here : due_next (can_step m 0) (moment + price_at prices 0) (due_at due 0) ≡ Some d = sym (put_same due 0 _ there) ∙ sym (ap (λ xs. due_at xs 0) e) ∙ ap (due_at new) (sym first) ∙ h in
              elim (due_from (can_step m 0) (moment + price_at prices 0) d (due_at due 0) here) [
                | inl before ↦ kept.timely.soon 0 d before
                | inr fresh ↦ omega (arith, fresh, small, early)
              ]
          | inr other ↦ kept.timely.soon r d (sym (put_other due 0 r _ other) ∙ sym (ap (λ xs. due_at xs r) e) ∙ h)
        ];
      };
      as_many = kept.as_many;
      few = kept.few;
      room = let long = ap length e ∙ length-set due 0 _ in let room = kept.room in omega (arith, long, room);
      none_else = λ r past. ap (λ xs. due_at xs r) e ∙ put_other due 0 r _ (λ first. absurd (omega (arith, some, past, first))) ∙ kept.none_else r past;
    }

-- all are due as they were renewed at, where those but the source stayed
pub one_renewed : (m : Seen) (price : ℕ → ℕ) (moment : ℕ) (due new : List (Option ℕ)) → 0 < length due
    → ((r : ℕ) → r ≢ 0 → can_step m r ≡ is_some (due_at due r))
    → new ≡ slice_set due 0 (due_next (can_step m 0) (moment + price 0) (due_at due 0))
    → (r : ℕ) → due_at new r ≡ renewed (can_step m) price moment (due_at due) r
one_renewed m price moment due new there others e r = elim (cases_eq r 0) [
  | inl first ↦ subst (λ z. due_at new z ≡ renewed (can_step m) price moment (due_at due) z) (sym first) (ap (λ xs. due_at xs 0) e ∙ put_same due 0 _ there)
  | inr other ↦ ap (λ xs. due_at xs r) e ∙ put_other due 0 r _ other ∙ sym (due_stays (can_step m r) (moment + price r) (due_at due r) (others r other))
]

-- A FIRING
pub busy_more : (prices busy : List ℕ) (p fired : ℕ) → length busy ≡ length prices → p < length prices → ((r : ℕ) → price_at prices r < 2 ^ 48) → ((r : ℕ) → slice_index busy r ≤ fired * 2 ^ 48)
    → (r : ℕ) → slice_index (slice_set busy p (slice_index busy p + price_at prices p)) r ≤ (fired + 1) * 2 ^ 48
busy_more prices busy p fired long there small few r = elim (cases_eq r p) [
  | inl same ↦
      let here = get_or-set_same busy p (slice_index busy p + price_at prices p) 0 (omega (arith, long, there)) in
      let a = small p in
      let b = few p in
      subst (λ z. slice_index (slice_set busy p (slice_index busy p + price_at prices p)) z ≤ (fired + 1) * 2 ^ 48) (sym same) (omega (arith, here, a, b))
  | inr other ↦
      let kept = get_or-set_other busy p r (slice_index busy p + price_at prices p) 0 other in
      let b = few r in
      omega (arith, kept, b)
]

-- the moment of the next firing is small
pub moment_small : {prices busy : List ℕ} {due : List (Option ℕ)} {moment fired : ℕ} → IsKept prices busy due moment fired → (p : ℕ) → unwrap_or (due_at due p) moment ≤ (fired + 1) * 2 ^ 48
moment_small {due = due} {moment = moment} {fired = fired} kept p = by (due_at due p) refl
  where
    by : (o : Option ℕ) → due_at due p ≡ o → unwrap_or (due_at due p) moment ≤ (fired + 1) * 2 ^ 48
    by None e = let early = kept.timely.early in subst (λ o. unwrap_or o moment ≤ (fired + 1) * 2 ^ 48) (sym e) (omega (arith, early))
    by (Some d) e = subst (λ o. unwrap_or o moment ≤ (fired + 1) * 2 ^ 48) (sym e) (kept.timely.soon p d e)

-- after a round
pub kept_fired : (m : Seen) (prices busy : List ℕ) (due new : List (Option ℕ)) (moment fired now more p : ℕ) → IsKept prices busy due moment fired → length m.net.procs ≡ length prices → p < length prices
    → now ≡ unwrap_or (due_at due p) moment → more ≡ fired + 1 → length new ≡ length due
    → ((r : ℕ) → due_at new r ≡ renewed (can_step m) (price_at prices) now (without p (due_at due)) r)
    → IsKept prices (slice_set busy p (slice_index busy p + price_at prices p)) new now more
kept_fired m prices busy due new moment fired now more p kept size there now_is up long each =
    let small = moment_small kept p in
    record {
      timely = record {
        small_price = kept.timely.small_price;
        few_busy = λ r. let l = busy_more prices busy p fired kept.as_many there kept.timely.small_price kept.timely.few_busy r in subst (λ k. slice_index (slice_set busy p (slice_index busy p + price_at prices p)) r ≤ k * 2 ^ 48) (sym up) l;
        early = omega (arith, small, now_is, up);
        soon = λ r d h. elim (due_from (can_step m r) (now + price_at prices r) d (without p (due_at due) r) (sym (each r) ∙ h)) [
          | inl before ↦ let l = kept_before r d before in omega (arith, l, up)
          | inr fresh ↦ let few = kept.timely.small_price r in omega (arith, fresh, few, small, now_is, up)
        ];
      };
      as_many = length-set busy p _ ∙ kept.as_many;
      few = kept.few;
      room = let room = kept.room in omega (arith, room, long);
      none_else = λ r past. each r ∙ idle_is_none (can_step m r) (now + price_at prices r) (without p (due_at due) r) (can_past m r (omega (arith, past, size)));
    }
  where
    kept_before : (r d : ℕ) → without p (due_at due) r ≡ Some d → d ≤ (fired + 1) * 2 ^ 48
    kept_before r d h = elim (cases_eq r p) [
      | inl same ↦ absurd (none_some (sym (subst (λ z. without p (due_at due) z ≡ None) (sym same) (without_own p (due_at due))) ∙ h))
      | inr other ↦ kept.timely.soon r d (sym (without_other p r (due_at due) other) ∙ h)
    ]
      where
        none_some : None ≡ Some d → ⊥
        none_some e = cc

-- after a firing with which nothing will fire any more
pub kept_over : (prices busy : List ℕ) (due : List (Option ℕ)) (moment fired now more p : ℕ) → IsKept prices busy due moment fired → p < length prices
    → now ≡ unwrap_or (due_at due p) moment → more ≡ fired + 1
    → IsKept prices (slice_set busy p (slice_index busy p + price_at prices p)) due now more
kept_over prices busy due moment fired now more p kept there now_is up =
    let small = moment_small kept p in
    record {
      timely = record {
        small_price = kept.timely.small_price;
        few_busy = λ r. let l = busy_more prices busy p fired kept.as_many there kept.timely.small_price kept.timely.few_busy r in subst (λ k. slice_index (slice_set busy p (slice_index busy p + price_at prices p)) r ≤ k * 2 ^ 48) (sym up) l;
        early = omega (arith, small, now_is, up);
        soon = λ r d h. let l = kept.timely.soon r d h in omega (arith, l, up);
      };
      as_many = length-set busy p _ ∙ kept.as_many;
      few = kept.few;
      room = kept.room;
      none_else = kept.none_else;
    }

-- THE GREATEST of totals: one more was looked at
pub greater_step : (totals : List ℕ) (best p new : ℕ) → best < p → ((q : ℕ) → q < p → slice_index totals q ≤ slice_index totals best) → ((q : ℕ) → q < best → slice_index totals q < slice_index totals best)
    → (slice_index totals best < slice_index totals p → new ≡ p) → (slice_index totals p ≤ slice_index totals best → new ≡ best)
    → (new < p + 1) × ((q : ℕ) → q < p + 1 → slice_index totals q ≤ slice_index totals new) × ((q : ℕ) → q < new → slice_index totals q < slice_index totals new)
greater_step totals best p new there most first more no_more = elim (cases_lt (slice_index totals best) (slice_index totals p)) [
  | inl less ↦
      let is = more less in
      subst (λ x. (x < p + 1) × ((q : ℕ) → q < p + 1 → slice_index totals q ≤ slice_index totals x) × ((q : ℕ) → q < x → slice_index totals q < slice_index totals x)) (sym is) (
        omega arith,
        (λ q l. elim (cases_lt q p) [ inl before ↦ let m = most q before in omega (arith, m, less) | inr here ↦ let e : q ≡ p = omega (arith, l, here) in subst (λ z. slice_index totals z ≤ slice_index totals p) (sym e) (omega arith) ]),
        (λ q l. let m = most q l in omega (arith, m, less)),
      )
  | inr kept ↦
      let is = no_more kept in
      subst (λ x. (x < p + 1) × ((q : ℕ) → q < p + 1 → slice_index totals q ≤ slice_index totals x) × ((q : ℕ) → q < x → slice_index totals q < slice_index totals x)) (sym is) (
        omega (arith, there),
        (λ q l. elim (cases_lt q p) [ inl before ↦ most q before | inr here ↦ let e : q ≡ p = omega (arith, l, here) in subst (λ z. slice_index totals z ≤ slice_index totals best) (sym e) kept ]),
        first,
      )
]

-- all were
pub greatest_end : (totals : List ℕ) (best p : ℕ) → best < p → p ≤ length totals → length totals ≤ p → ((q : ℕ) → q < p → slice_index totals q ≤ slice_index totals best) → ((q : ℕ) → q < best → slice_index totals q < slice_index totals best) → IsBusiest totals best
greatest_end totals best p there inside all most first = record {
  there = omega (arith, there, inside);
  most = λ q. elim (cases_lt q p) [
    | inl l ↦ most q l
    | inr past ↦ let none = get_or_past totals q 0 (omega (arith, past, all)) in omega (arith, none)
  ];
  first = first;
}
