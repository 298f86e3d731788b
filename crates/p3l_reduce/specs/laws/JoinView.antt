-- Effects of each row on the flows of a tree of joins. A join takes one token of each flow below it, and no flow but
-- these two changes (`join_flow`); folding and sending a segment change none (`fold_leaf`, `send_leaf`); a token taken
-- adds its meaning to each (`take_flow`). If nothing can fire, nothing is left (`all_dry`).
use Rattle.std.proofs.Common.{◌≡◌, ℕ, zero, suc, ◌+◌, ◌-◌, ◌≤◌, ◌<◌, ◌≢◌, ◌⊎◌, inl, inr, ◌&&◌, cond, nat_lt, Bool, true, false, List, [], ◌∷◌, ◌++◌, map, length, refl, sym, ap, ap₂, ◌∙◌, subst, arith, append_assoc, append-nil, length-append, lt-ltb, le_refl, le-ltb}
use Rattle.std.proofs.lemmas.Bool.{and_parts, and_from, cases_eq, cases_lt, cond-true, cond-false}
use Rattle.std.proofs.lemmas.List.{map-append, length-map}
use Rattle.p3l_firing.proofs.TagLaw.{same_tags-refl}
use Rattle.p3l_firing.specs.Token.{over, same_tags}
use Rattle.p3l_firing.specs.declared.token.Token.{Token}
use Rattle.p3l_firing.specs.kinds.Join.{paired_by}
use Rattle.p3l_reduce.specs.JoinTree.{Folding, View, leaf_of, joined, unsent, pairwise, after_node, flow, matched, even, left_flows, held_count}
use Rattle.p3l_reduce.specs.laws.Heap.{Deep, Below, join_count}

-- LISTS COMBINED PAIRWISE
pub matched_length : (xs ys : List Token) → matched xs ys ≡ true → length xs ≡ length ys
unfolding matched
matched_length [] [] h = refl
matched_length [] (y ∷ ys) h = cc
matched_length (x ∷ xs) [] h = cc
matched_length (x ∷ xs) (y ∷ ys) h = ap suc (matched_length xs ys (and_parts _ _ h).1)

matched_rest : (x y : Token) (xs ys : List Token) → matched (x ∷ xs) (y ∷ ys) ≡ true → matched xs ys ≡ true
unfolding matched
matched_rest x y xs ys h = (and_parts _ _ h).1

matched_more : (xs ys : List Token) (a b : Token) → a.tags ≡ b.tags → matched xs ys ≡ true →
    matched (xs ++ a ∷ []) (ys ++ b ∷ []) ≡ true
unfolding matched
matched_more [] [] a b e h = and_from _ _ (ap (same_tags a.tags) (sym e) ∙ same_tags-refl a.tags) refl
matched_more [] (y ∷ ys) a b e h = cc
matched_more (x ∷ xs) [] a b e h = cc
matched_more (x ∷ xs) (y ∷ ys) a b e h = and_from _ _ (and_parts _ _ h).0 (matched_more xs ys a b e (and_parts _ _ h).1)

-- the two flows of a join match, and so it goes on below
even_parts : (g : Folding) (v : View) (d r : ℕ) → even g v (suc d) r ≡ true →
    (matched (flow g v d (r + r)) (flow g v d (suc (r + r))) ≡ true) × (even g v d (r + r) ≡ true)
    × (even g v d (suc (r + r)) ≡ true)
unfolding even
even_parts g v d r h = let a = and_parts _ _ h in let b = and_parts _ _ a.1 in (a.0, b.0, b.1)

module _ (g : Folding) where
  pairwise_length : (xs ys : List Token) → length xs ≡ length ys → length (pairwise g xs ys) ≡ length xs
  unfolding pairwise
  pairwise_length [] ys e = refl
  pairwise_length (x ∷ xs) [] e = absurd (omega (arith, e))
  pairwise_length (x ∷ xs) (y ∷ ys) e = ap suc (pairwise_length xs ys (omega (arith, e)))

  pairwise_more : (xs ys : List Token) (a b : Token) → length xs ≡ length ys →
      pairwise g (xs ++ a ∷ []) (ys ++ b ∷ []) ≡ pairwise g xs ys ++ paired_by g.operator a b ∷ []
  unfolding pairwise
  pairwise_more [] [] a b e = refl
  pairwise_more [] (y ∷ ys) a b e = absurd (omega (arith, e))
  pairwise_more (x ∷ xs) [] a b e = absurd (omega (arith, e))
  pairwise_more (x ∷ xs) (y ∷ ys) a b e =
      ap (λ z. paired_by g.operator x y ∷ z) (pairwise_more xs ys a b (omega (arith, e)))

  -- WHERE THE FLOWS OF THE SEGMENTS STAY
  module _ (v w : View) (inner : (q : ℕ) → 1 < q → q < g.count → w.tees q ≡ v.tees q)
      (leafs : (q : ℕ) → 1 < q → g.count ≤ q → q < g.count + g.count → flow g w 0 q ≡ flow g v 0 q) where
    pub flow_same : (d r : ℕ) → Deep g.count d r → 1 < r → flow g w d r ≡ flow g v d r
    unfolding Deep after_node
    flow_same zero r deep big = leafs r big deep.0 deep.1
    flow_same (suc d) r deep big =
        ap₂ (λ x y. x ++ y) (inner r big deep.1)
        (ap₂ (pairwise g) (flow_same d (r + r) deep.2 (omega arith)) (flow_same d (suc (r + r)) deep.3 (omega arith)))

    pub after_same : (d r : ℕ) → Deep g.count (suc d) r → after_node g w (suc d) r ≡ after_node g v (suc d) r
    unfolding Deep after_node
    after_same d r deep =
        ap₂ (pairwise g) (flow_same d (r + r) deep.2 (omega (arith, deep.0)))
        (flow_same d (suc (r + r)) deep.3 (omega (arith, deep.0)))

    pub even_same : (d r : ℕ) → Deep g.count d r → even g w d r ≡ even g v d r
    unfolding Deep even
    even_same zero r deep = refl
    even_same (suc d) r deep =
        ap₂ (λ x y. x && y)
        (ap₂ matched (flow_same d (r + r) deep.2 (omega (arith, deep.0)))
        (flow_same d (suc (r + r)) deep.3 (omega (arith, deep.0))))
        (ap₂ (λ x y. x && y) (even_same d (r + r) deep.2) (even_same d (suc (r + r)) deep.3))

    pub left_same : (d r : ℕ) → Deep g.count d r → left_flows g w d r ≡ left_flows g v d r
    unfolding Deep left_flows
    left_same zero r deep = refl
    left_same (suc d) r deep =
        ap₂ (λ x y. x + y) (ap length (flow_same d (r + r) deep.2 (omega (arith, deep.0))))
        (ap₂ (λ x y. x + y) (left_same d (r + r) deep.2) (left_same d (suc (r + r)) deep.3))

-- JOIN q takes x and y
pub record Joins (g : Folding) (v w : View) (q : ℕ) (x y : Token) : Type 0 where
  pub left : v.tees (q + q) ≡ x ∷ w.tees (q + q)
  pub right : v.tees (suc (q + q)) ≡ y ∷ w.tees (suc (q + q))
  pub out : w.tees q ≡ v.tees q ++ paired_by g.operator x y ∷ []
  pub tees : (r : ℕ) → 0 < r → r < g.count + g.count → r ≢ q → r ≢ q + q → r ≢ suc (q + q) → w.tees r ≡ v.tees r
  pub segs : (s : ℕ) → s < g.count → w.segs s ≡ v.segs s
  pub sending : w.sending ≡ v.sending
  pub sent : w.sent ≡ v.sent

module _ (g : Folding) (v w : View) (q : ℕ) (x y : Token) (pos : 0 < q) (low : q < g.count)
    (j : Joins g v w q x y) where
  -- the join's own flow stays, where what comes after its two channels does
  join_here : (d : ℕ) → after_node g w d (q + q) ≡ after_node g v d (q + q) →
      after_node g w d (suc (q + q)) ≡ after_node g v d (suc (q + q)) → flow g w (suc d) q ≡ flow g v (suc d) q
  unfolding after_node pairwise
  join_here d a b =
      ap₂ (λ z u. z ++ u) j.out (ap₂ (λ z u. pairwise g (w.tees (q + q) ++ z) (w.tees (suc (q + q)) ++ u)) a b)
      ∙ append_assoc (v.tees q) _ _
      ∙ ap (λ z. v.tees q ++ z)
      (sym (ap₂ (λ z u. pairwise g (z ++ after_node g v d (q + q)) (u ++ after_node g v d (suc (q + q)))) j.left j.right))

  join_both : (d r : ℕ) → Deep g.count d r →
      (r ≢ q → after_node g w d r ≡ after_node g v d r) × (r ≢ q + q → r ≢ suc (q + q) → flow g w d r ≡ flow g v d r)
  unfolding Deep after_node
  join_both zero r deep =
      let rest : map (over g.fold) (w.segs (r - g.count)) ++ unsent g w.sending w.sent (r - g.count)
      ≡ map (over g.fold) (v.segs (r - g.count)) ++ unsent g v.sending v.sent (r - g.count) =
      ap₂ (λ z u. map (over g.fold) z ++ u) (j.segs (r - g.count) (omega (arith, deep.0, deep.1)))
      (ap₂ (λ z u. unsent g z u (r - g.count)) j.sending j.sent) in
      (λ n. rest, λ a b. ap₂ (λ z u. z ++ u) (j.tees r (omega (arith, deep.0)) deep.1 (omega (arith, deep.0)) a b) rest)
  join_both (suc d) r deep =
      let left = join_both d (r + r) deep.2 in
      let right = join_both d (suc (r + r)) deep.3 in
      let rest : r ≢ q →
      pairwise g (flow g w d (r + r)) (flow g w d (suc (r + r)))
      ≡ pairwise g (flow g v d (r + r)) (flow g v d (suc (r + r))) =
      λ n. ap₂ (pairwise g) (left.1 (λ e. n (omega (arith, e))) (λ e. omega (arith, e)))
      (right.1 (λ e. omega (arith, e)) (λ e. n (omega (arith, e)))) in (
        rest,
        λ a b.
            elim (cases_eq r q) [
              | inr n ↦ ap₂ (λ z u. z ++ u) (j.tees r deep.0 (omega (arith, deep.1)) n a b) (rest n)
              | inl e ↦
                  subst (λ z. flow g w (suc d) z ≡ flow g v (suc d) z) (sym e)
                  (join_here d
                  (subst (λ z. after_node g w d (z + z) ≡ after_node g v d (z + z)) e (left.0 (omega (arith, e, pos))))
                  (subst (λ z. after_node g w d (suc (z + z)) ≡ after_node g v d (suc (z + z))) e
                  (right.0 (omega (arith, e, pos)))))
            ],
      )

  -- its two flows lose their first
  join_children : (d : ℕ) → Deep g.count (suc d) q →
      (flow g v d (q + q) ≡ x ∷ flow g w d (q + q)) × (flow g v d (suc (q + q)) ≡ y ∷ flow g w d (suc (q + q)))
  unfolding Deep
  join_children d deep = (
    ap₂ (λ z u. z ++ u) j.left (sym ((join_both d (q + q) deep.2).0 (omega (arith, pos)))),
    ap₂ (λ z u. z ++ u) j.right (sym ((join_both d (suc (q + q)) deep.3).0 (omega (arith, pos)))),
  )

  pub join_flow : (d r : ℕ) → Deep g.count d r → r ≢ q + q → r ≢ suc (q + q) → flow g w d r ≡ flow g v d r
  join_flow d r deep a b = (join_both d r deep).1 a b

  pub join_even : (d r : ℕ) → Deep g.count d r → even g v d r ≡ true → even g w d r ≡ true
  unfolding Deep even
  join_even zero r deep h = refl
  join_even (suc d) r deep h =
      let a = even_parts g v d r h in
      and_from _ _
      (elim (cases_eq r q) [
        | inr n ↦
            ap₂ matched (join_flow d (r + r) deep.2 (λ e. n (omega (arith, e))) (λ e. omega (arith, e)))
            (join_flow d (suc (r + r)) deep.3 (λ e. omega (arith, e)) (λ e. n (omega (arith, e)))) ∙ a.0
        | inl e ↦
            let c = join_children d (subst (Deep g.count (suc d)) e deep) in
            let old : matched (flow g v d (q + q)) (flow g v d (suc (q + q))) ≡ true =
            subst (λ z. matched (flow g v d (z + z)) (flow g v d (suc (z + z))) ≡ true) e a.0 in
            subst (λ z. matched (flow g w d (z + z)) (flow g w d (suc (z + z))) ≡ true) (sym e)
            (matched_rest x y _ _ (sym (ap₂ matched c.0 c.1) ∙ old))
      ])
      (and_from _ _ (join_even d (r + r) deep.2 a.1) (join_even d (suc (r + r)) deep.3 a.2))

  -- the left flow of each join is at most as long as it was, and that of q is shorter
  join_left : (d r : ℕ) → Deep g.count (suc d) r → length (flow g w d (r + r)) ≤ length (flow g v d (r + r))
  unfolding Deep
  join_left d r deep =
      elim (cases_eq r q) [
        | inr n ↦
            omega (arith, ap length (join_flow d (r + r) deep.2 (λ e. n (omega (arith, e))) (λ e. omega (arith, e))))
        | inl e ↦
            let c = join_children d (subst (Deep g.count (suc d)) e deep) in
            subst (λ z. length (flow g w d (z + z)) ≤ length (flow g v d (z + z))) (sym e)
            (omega (arith, ap length c.0))
      ]

  pub join_less : (d r : ℕ) → Deep g.count d r → left_flows g w d r ≤ left_flows g v d r
  unfolding Deep left_flows
  join_less zero r deep = omega arith
  join_less (suc d) r deep =
      omega (arith, join_left d r deep, join_less d (r + r) deep.2, join_less d (suc (r + r)) deep.3)

  pub join_works : (d r : ℕ) → Deep g.count d r → Below d r q → left_flows g w d r < left_flows g v d r
  unfolding Deep Below left_flows
  join_works zero r deep e = absurd (omega (arith, deep.0, e, low))
  join_works (suc d) r deep (inl e) =
      let c = join_children d (subst (Deep g.count (suc d)) (sym e) deep) in
      let here : length (flow g w d (r + r)) < length (flow g v d (r + r)) =
      subst (λ z. length (flow g w d (z + z)) < length (flow g v d (z + z))) e (omega (arith, ap length c.0)) in
      omega (arith, here, join_less d (r + r) deep.2, join_less d (suc (r + r)) deep.3)
  join_works (suc d) r deep (inr (inl b)) =
      omega (arith, join_left d r deep, join_works d (r + r) deep.2 b, join_less d (suc (r + r)) deep.3)
  join_works (suc d) r deep (inr (inr b)) =
      omega (arith, join_left d r deep, join_less d (r + r) deep.2, join_works d (suc (r + r)) deep.3 b)

-- SPLIT takes x
pub record Takes (g : Folding) (v w : View) (x : Token) : Type 0 where
  pub tees : (r : ℕ) → 1 < r → r < g.count + g.count → w.tees r ≡ v.tees r
  pub segs : (s : ℕ) → s < g.count → w.segs s ≡ v.segs s
  pub before : v.sending ≡ []
  pub sending : w.sending ≡ x ∷ []
  pub sent : w.sent ≡ 0

module _ (g : Folding) (v w : View) (x : Token) (t : Takes g v w x) where
  take_unsent : (s : ℕ) → unsent g w.sending w.sent s ≡ over (leaf_of g s) x ∷ []
  unfolding unsent
  take_unsent s = ap₂ (λ z u. unsent g z u s) t.sending t.sent ∙ cond-false (nat_lt s 0) _ _ (le-ltb s 0 (omega arith))

  none_unsent : (s : ℕ) → unsent g v.sending v.sent s ≡ []
  unfolding unsent
  none_unsent s = ap (λ z. unsent g z v.sent s) t.before

  -- the flow of a place gets its meaning of x
  pub take_flow : (d r : ℕ) → Deep g.count d r → 1 < r → even g v d r ≡ true →
      flow g w d r ≡ flow g v d r ++ over (joined g d r) x ∷ []
  unfolding Deep after_node joined even paired_by
  take_flow zero r deep big h =
      ap₂ (λ z u. z ++ u) (t.tees r big deep.1)
      (ap₂ (λ z u. map (over g.fold) z ++ u) (t.segs (r - g.count) (omega (arith, deep.0, deep.1)))
      (take_unsent (r - g.count)))
      ∙ sym (append_assoc (v.tees r) _ _
      ∙ ap (λ z. v.tees r ++ z)
      (ap (λ z. (map (over g.fold) (v.segs (r - g.count)) ++ z) ++ over (leaf_of g (r - g.count)) x ∷ [])
      (none_unsent (r - g.count))
      ∙ ap (λ z. z ++ over (leaf_of g (r - g.count)) x ∷ []) (append-nil (map (over g.fold) (v.segs (r - g.count))))))
  take_flow (suc d) r deep big h =
      let a = even_parts g v d r h in
      ap₂ (λ z u. z ++ u) (t.tees r big (omega (arith, deep.1)))
      (ap₂ (pairwise g) (take_flow d (r + r) deep.2 (omega arith) a.1)
      (take_flow d (suc (r + r)) deep.3 (omega arith) a.2)
      ∙ pairwise_more g (flow g v d (r + r)) (flow g v d (suc (r + r))) (over (joined g d (r + r)) x)
      (over (joined g d (suc (r + r))) x) (matched_length _ _ a.0))
      ∙ sym (append_assoc (v.tees r) _ _)

  pub take_after : (d r : ℕ) → Deep g.count (suc d) r → even g v (suc d) r ≡ true →
      after_node g w (suc d) r ≡ after_node g v (suc d) r ++ over (joined g (suc d) r) x ∷ []
  unfolding Deep after_node joined even paired_by
  take_after d r deep h =
      let a = even_parts g v d r h in
      ap₂ (pairwise g) (take_flow d (r + r) deep.2 (omega (arith, deep.0)) a.1)
      (take_flow d (suc (r + r)) deep.3 (omega (arith, deep.0)) a.2)
      ∙ pairwise_more g (flow g v d (r + r)) (flow g v d (suc (r + r))) (over (joined g d (r + r)) x)
      (over (joined g d (suc (r + r))) x) (matched_length _ _ a.0)

  pub take_even : (d r : ℕ) → Deep g.count d r → even g v d r ≡ true → even g w d r ≡ true
  unfolding Deep even
  take_even zero r deep h = refl
  take_even (suc d) r deep h =
      let a = even_parts g v d r h in
      and_from _ _
      (ap₂ matched (take_flow d (r + r) deep.2 (omega (arith, deep.0)) a.1)
      (take_flow d (suc (r + r)) deep.3 (omega (arith, deep.0)) a.2)
      ∙ matched_more (flow g v d (r + r)) (flow g v d (suc (r + r))) (over (joined g d (r + r)) x)
      (over (joined g d (suc (r + r))) x) refl a.0)
      (and_from _ _ (take_even d (r + r) deep.2 a.1) (take_even d (suc (r + r)) deep.3 a.2))

  pub take_left : (d r : ℕ) → Deep g.count d r → even g v d r ≡ true →
      left_flows g w d r ≡ left_flows g v d r + join_count d
  unfolding Deep even left_flows join_count
  take_left zero r deep h = refl
  take_left (suc d) r deep h =
      let a = even_parts g v d r h in
      let here : length (flow g w d (r + r)) ≡ length (flow g v d (r + r)) + 1 =
      ap length (take_flow d (r + r) deep.2 (omega (arith, deep.0)) a.1) ∙ length-append (flow g v d (r + r)) _ in
      omega (arith, here, take_left d (r + r) deep.2 a.1, take_left d (suc (r + r)) deep.3 a.2)

-- SPLIT sends segment k of x, and keeps it or not
pub record Sends (g : Folding) (v w : View) (k : ℕ) (x : Token) (xs : List Token) : Type 0 where
  pub tees : (r : ℕ) → 1 < r → r < g.count + g.count → w.tees r ≡ v.tees r
  pub segs : (s : ℕ) → s < g.count → s ≢ k → w.segs s ≡ v.segs s
  pub seg : w.segs k ≡ v.segs k ++ over (g.segment k) x ∷ []
  pub before : v.sending ≡ x ∷ xs
  pub count : v.sent ≡ k
  pub after : ((w.sending ≡ x ∷ xs) × (w.sent ≡ suc k)) ⊎ ((w.sending ≡ []) × (g.count ≤ suc k))

module _ (g : Folding) (v w : View) (k : ℕ) (x : Token) (xs : List Token) (low : k < g.count)
    (n : Sends g v w k x xs) where
  held_at : (s : ℕ) → k ≤ s → unsent g v.sending v.sent s ≡ over (leaf_of g s) x ∷ []
  unfolding unsent
  held_at s h = ap₂ (λ z u. unsent g z u s) n.before n.count ∙ cond-false (nat_lt s k) _ _ (le-ltb s k h)

  held_below : (s : ℕ) → s < k → unsent g v.sending v.sent s ≡ []
  unfolding unsent
  held_below s h = ap₂ (λ z u. unsent g z u s) n.before n.count ∙ cond-true (nat_lt s k) _ _ (lt-ltb s k h)

  later_upto : (s : ℕ) → s ≤ k → unsent g w.sending w.sent s ≡ []
  unfolding unsent
  later_upto s h =
      elim n.after [
        | inl a ↦
            ap₂ (λ z u. unsent g z u s) a.0 a.1 ∙ cond-true (nat_lt s (suc k)) _ _ (lt-ltb s (suc k) (omega arith))
        | inr a ↦ ap (λ z. unsent g z w.sent s) a.0
      ]

  later_above : (s : ℕ) → k < s → s < g.count → unsent g w.sending w.sent s ≡ over (leaf_of g s) x ∷ []
  unfolding unsent
  later_above s h l =
      elim n.after [
        | inl a ↦
            ap₂ (λ z u. unsent g z u s) a.0 a.1 ∙ cond-false (nat_lt s (suc k)) _ _ (le-ltb s (suc k) (omega arith))
        | inr a ↦ absurd (omega (arith, a.1))
      ]

  send_rest : (s : ℕ) → s < g.count →
      map (over g.fold) (w.segs s) ++ unsent g w.sending w.sent s
      ≡ map (over g.fold) (v.segs s) ++ unsent g v.sending v.sent s
  send_rest s l =
      elim (cases_eq s k) [
        | inl e ↦
            subst (λ z. map (over g.fold) (w.segs z) ++ unsent g w.sending w.sent z
            ≡ map (over g.fold) (v.segs z) ++ unsent g v.sending v.sent z) (sym e)
            (ap₂ (λ z u. map (over g.fold) z ++ u) n.seg (later_upto k (le_refl k))
            ∙ append-nil _ ∙ map-append (over g.fold) (v.segs k) (over (g.segment k) x ∷ [])
            ∙ ap (λ z. map (over g.fold) (v.segs k) ++ z) (sym (held_at k (le_refl k))))
        | inr d ↦
            ap₂ (λ z u. map (over g.fold) z ++ u) (n.segs s l d)
            (elim (cases_lt s k) [
              | inl b ↦ later_upto s (omega arith) ∙ sym (held_below s b)
              | inr b ↦ later_above s (omega (arith, d)) l ∙ sym (held_at s b)
            ])
      ]

  pub send_leaf : (q : ℕ) → 1 < q → g.count ≤ q → q < g.count + g.count → flow g w 0 q ≡ flow g v 0 q
  unfolding after_node
  send_leaf q big a b = ap₂ (λ z u. z ++ u) (n.tees q big b) (send_rest (q - g.count) (omega arith))

-- RUN s folds x
pub record Folds (g : Folding) (v w : View) (s : ℕ) (x : Token) : Type 0 where
  pub tees : (r : ℕ) → 1 < r → r < g.count + g.count → r ≢ g.count + s → w.tees r ≡ v.tees r
  pub tee : w.tees (g.count + s) ≡ v.tees (g.count + s) ++ over g.fold x ∷ []
  pub segs : (u : ℕ) → u < g.count → u ≢ s → w.segs u ≡ v.segs u
  pub seg : v.segs s ≡ x ∷ w.segs s
  pub sending : w.sending ≡ v.sending
  pub sent : w.sent ≡ v.sent

module _ (g : Folding) (v w : View) (s : ℕ) (x : Token) (low : s < g.count) (n : Folds g v w s x) where
  fold_here : flow g w 0 (g.count + s) ≡ flow g v 0 (g.count + s)
  unfolding after_node
  fold_here =
      let e : g.count + s - g.count ≡ s = omega arith in
      subst (λ z. w.tees (g.count + s) ++ (map (over g.fold) (w.segs z) ++ unsent g w.sending w.sent z)
      ≡ v.tees (g.count + s) ++ (map (over g.fold) (v.segs z) ++ unsent g v.sending v.sent z)) (sym e)
      (ap₂ (λ z u. z ++ (map (over g.fold) (w.segs s) ++ u)) n.tee (ap₂ (λ z u. unsent g z u s) n.sending n.sent)
      ∙ append_assoc (v.tees (g.count + s)) _ _
      ∙ ap (λ z. v.tees (g.count + s) ++ (map (over g.fold) z ++ unsent g v.sending v.sent s)) (sym n.seg))

  pub fold_leaf : (q : ℕ) → 1 < q → g.count ≤ q → q < g.count + g.count → flow g w 0 q ≡ flow g v 0 q
  unfolding after_node
  fold_leaf q big a b =
      elim (cases_eq q (g.count + s)) [
        | inl e ↦ subst (λ z. flow g w 0 z ≡ flow g v 0 z) (sym e) fold_here
        | inr d ↦
            ap₂ (λ z u. z ++ u) (n.tees q big b d)
            (ap₂ (λ z u. map (over g.fold) z ++ u) (n.segs (q - g.count) (omega arith) (λ e. d (omega (arith, e))))
            (ap₂ (λ z u. unsent g z u (q - g.count)) n.sending n.sent))
      ]

-- at most the token that Split holds
pub unsent_few : (g : Folding) (ts : List Token) (k s : ℕ) → length (unsent g ts k s) ≤ held_count ts
unfolding unsent held_count
unsent_few g [] k s = omega arith
unsent_few g (x ∷ xs) k s = go (nat_lt s k)
  where
    go : (b : Bool) → length (cond b [] (over (leaf_of g s) x ∷ [])) ≤ 1
    go true = omega arith
    go false = omega arith

-- NOTHING CAN FIRE
pub record Stuck (g : Folding) (v : View) : Type 0 where
  pub joins : (q : ℕ) → 1 < q → q < g.count → v.tees q ≡ [] → (v.tees (q + q) ≡ []) ⊎ (v.tees (suc (q + q)) ≡ [])
  pub top : (v.tees 2 ≡ []) ⊎ (v.tees 3 ≡ [])
  pub runs : (s : ℕ) → s < g.count → v.tees (g.count + s) ≡ [] → v.segs s ≡ []
  -- Split waits for room
  pub split : (x : Token) (xs : List Token) → v.sending ≡ x ∷ xs → (v.sent < g.count) × (0 < length (v.segs v.sent))

module _ (g : Folding) (v : View) (z : Stuck g v) where
  -- after an empty channel there is at most the token that Split holds
  dry : (d r : ℕ) → Deep g.count d r → 1 < r → even g v d r ≡ true → v.tees r ≡ [] →
      length (flow g v d r) ≤ held_count v.sending
  unfolding Deep after_node even
  dry zero r deep big h e =
      let s : ℕ = r - g.count in
      let back : g.count + s ≡ r = omega (arith, deep.0) in
      let none : v.segs s ≡ [] = z.runs s (omega (arith, deep.0, deep.1)) (ap v.tees back ∙ e) in
      let all : flow g v 0 r ≡ unsent g v.sending v.sent s =
      ap₂ (λ a b. a ++ (map (over g.fold) b ++ unsent g v.sending v.sent s)) e none in
      omega (arith, ap length all, unsent_few g v.sending v.sent s)
  dry (suc d) r deep big h e =
      let a = even_parts g v d r h in
      let l = matched_length _ _ a.0 in
      let p : length (flow g v (suc d) r) ≡ length (flow g v d (r + r)) =
      ap (λ t. length (t ++ pairwise g (flow g v d (r + r)) (flow g v d (suc (r + r))))) e ∙ pairwise_length g _ _ l in
      elim (z.joins r big deep.1 e) [
        | inl f ↦ omega (arith, p, dry d (r + r) deep.2 (omega arith) a.1 f)
        | inr f ↦ omega (arith, p, l, dry d (suc (r + r)) deep.3 (omega arith) a.2 f)
      ]

  dry_top : (d : ℕ) → Deep g.count (suc d) 1 → even g v (suc d) 1 ≡ true →
      length (after_node g v (suc d) 1) ≤ held_count v.sending
  unfolding Deep after_node even
  dry_top d deep h =
      let a = even_parts g v d 1 h in
      let l = matched_length _ _ a.0 in
      let p : length (after_node g v (suc d) 1) ≡ length (flow g v d 2) =
      pairwise_length g (flow g v d 2) (flow g v d 3) l in
      elim z.top [
        | inl f ↦ omega (arith, p, dry d 2 deep.2 (omega arith) a.1 f)
        | inr f ↦ omega (arith, p, l, dry d 3 deep.3 (omega arith) a.2 f)
      ]

  -- the flow of a segment is no longer than that of a place above it
  wide : (d r : ℕ) → Deep g.count d r → even g v d r ≡ true → (q : ℕ) → g.count ≤ q → Below d r q →
      length (flow g v 0 q) ≤ length (flow g v d r)
  unfolding Deep Below after_node even
  wide zero r deep h q a e = subst (λ y. length (flow g v 0 y) ≤ length (flow g v 0 r)) (sym e) (le_refl _)
  wide (suc d) r deep h q a (inl e) = absurd (omega (arith, deep.1, e))
  wide (suc d) r deep h q a (inr (inl b)) =
      let c = even_parts g v d r h in
      let i = wide d (r + r) deep.2 c.1 q a b in
      omega (
        arith,
        i,
        length-append (v.tees r) (pairwise g (flow g v d (r + r)) (flow g v d (suc (r + r)))),
        pairwise_length g _ _ (matched_length _ _ c.0),
      )
  wide (suc d) r deep h q a (inr (inr b)) =
      let c = even_parts g v d r h in
      let i = wide d (suc (r + r)) deep.3 c.2 q a b in
      let l = matched_length _ _ c.0 in
      omega (
        arith,
        i,
        l,
        length-append (v.tees r) (pairwise g (flow g v d (r + r)) (flow g v d (suc (r + r)))),
        pairwise_length g _ _ l,
      )

  wide_top : (d : ℕ) → Deep g.count (suc d) 1 → even g v (suc d) 1 ≡ true → (q : ℕ) → g.count ≤ q → Below (suc d) 1 q →
      length (flow g v 0 q) ≤ length (after_node g v (suc d) 1)
  unfolding Deep Below after_node even
  wide_top d deep h q a (inl e) = absurd (omega (arith, deep.1, e))
  wide_top d deep h q a (inr (inl b)) =
      let c = even_parts g v d 1 h in
      omega (
        arith,
        wide d 2 deep.2 c.1 q a b,
        pairwise_length g (flow g v d 2) (flow g v d 3) (matched_length _ _ c.0),
      )
  wide_top d deep h q a (inr (inr b)) =
      let c = even_parts g v d 1 h in
      let l = matched_length _ _ c.0 in
      omega (arith, l, wide d 3 deep.3 c.2 q a b, pairwise_length g (flow g v d 2) (flow g v d 3) l)

  length_zero : (ts : List Token) → length ts ≤ 0 → ts ≡ []
  length_zero [] h = refl
  length_zero (t ∷ ts) h = absurd (omega (arith, h))

  pub all_dry : (d : ℕ) → Deep g.count (suc d) 1 → even g v (suc d) 1 ≡ true →
      ((q : ℕ) → g.count ≤ q → q < g.count + g.count → Below (suc d) 1 q) →
      (v.sending ≡ []) × (after_node g v (suc d) 1 ≡ [])
  unfolding held_count after_node unsent
  all_dry d deep h all = go v.sending refl
    where
      go : (ts : List Token) → v.sending ≡ ts → (v.sending ≡ []) × (after_node g v (suc d) 1 ≡ [])
      go [] e = (e, length_zero _ (omega (arith, dry_top d deep h, ap held_count e)))
      go (x ∷ xs) e =
          let s = z.split x xs e in
          let k : ℕ = v.sent in
          let w = wide_top d deep h (g.count + k) (omega arith)
          (all (g.count + k) (omega arith) (omega (arith, s.0))) in
          let back : g.count + k - g.count ≡ k = omega arith in
          let u : unsent g v.sending v.sent k ≡ over (leaf_of g k) x ∷ [] =
          ap (λ y. unsent g y k k) e ∙ cond-false (nat_lt k k) _ _ (le-ltb k k (le_refl k)) in
          let f : length (flow g v 0 (g.count + k)) ≡ length (v.tees (g.count + k)) + (length (v.segs k) + 1) =
          length-append (v.tees (g.count + k)) _
          ∙ ap (λ y. length (v.tees (g.count + k)) + y)
          (ap (λ y. length (map (over g.fold) (v.segs y) ++ unsent g v.sending v.sent y)) back
          ∙ length-append (map (over g.fold) (v.segs k)) _
          ∙ ap₂ (λ y i. y + length i) (length-map (v.segs k) (over g.fold)) u) in
          absurd (omega (arith, w, f, s.1, dry_top d deep h, ap held_count e))

-- NO TOKEN ANYWHERE
module _ (g : Folding) (v : View) (tees : (q : ℕ) → 1 < q → q < g.count + g.count → v.tees q ≡ [])
    (segs : (s : ℕ) → s < g.count → v.segs s ≡ []) (none : v.sending ≡ []) where
  empty_flow : (d r : ℕ) → Deep g.count d r → 1 < r → flow g v d r ≡ []
  unfolding Deep after_node unsent pairwise
  empty_flow zero r deep big =
      ap₂ (λ x y. x ++ y) (tees r big deep.1)
      (ap₂ (λ x y. map (over g.fold) x ++ unsent g y v.sent (r - g.count))
      (segs (r - g.count) (omega (arith, deep.0, deep.1))) none)
  empty_flow (suc d) r deep big =
      ap₂ (λ x y. x ++ pairwise g y (flow g v d (suc (r + r)))) (tees r big (omega (arith, deep.1)))
      (empty_flow d (r + r) deep.2 (omega arith))

  pub empty_after : (d r : ℕ) → Deep g.count (suc d) r → after_node g v (suc d) r ≡ []
  unfolding Deep after_node pairwise
  empty_after d r deep =
      ap (λ y. pairwise g y (flow g v d (suc (r + r)))) (empty_flow d (r + r) deep.2 (omega (arith, deep.0)))

  pub empty_even : (d r : ℕ) → Deep g.count d r → even g v d r ≡ true
  unfolding Deep even matched
  empty_even zero r deep = refl
  empty_even (suc d) r deep =
      and_from _ _ (ap₂ matched (empty_flow d (r + r) deep.2 (omega (arith, deep.0)))
      (empty_flow d (suc (r + r)) deep.3 (omega (arith, deep.0))))
      (and_from _ _ (empty_even d (r + r) deep.2) (empty_even d (suc (r + r)) deep.3))

  pub empty_left : (d r : ℕ) → Deep g.count d r → left_flows g v d r ≡ 0
  unfolding Deep left_flows
  empty_left zero r deep = refl
  empty_left (suc d) r deep =
      omega (
        arith,
        ap length (empty_flow d (r + r) deep.2 (omega (arith, deep.0))),
        empty_left d (r + r) deep.2,
        empty_left d (suc (r + r)) deep.3,
      )
