-- The steps of what is found in a reduce.
use Rattle.std.proofs.Common.{◌≡◌, ℕ, zero, suc, ◌+◌, ◌-◌, ◌^◌, ◌<◌, ◌≤◌, ◌&&◌, ◌⊎◌, inl, inr, nat_lt, Option, Some, None, cond, true, false, List, [], ◌∷◌, ◌++◌, length, get_or, refl, sym, ap, ap₂, ◌∙◌, subst, arith, append-nil, lt-ltb, le-ltb}
use Rattle.std.proofs.Math.Bool.{and-false}
use Rattle.std.proofs.lemmas.Bool.{cases_Bool, cond-true, cond-false}
use Rattle.p3l_skel.specs.declared.tree.Tree.{Tree}
use Rattle.p3l_firing.specs.State.{State}
use Rattle.p3l_firing.specs.declared.token.Token.{Token}
use Rattle.p3l_firing.specs.kinds.Join.{paired_by}
use Rattle.p3l_reduce.specs.JoinTree.{Folding, View, unsent, pairwise, after_node, flow, matched, even, split_ok, well_kept}
use Rattle.p3l_reduce.specs.Reduce.{tee}
use Rattle.p3l_reduce.specs.laws.Heap.{Deep, deep_from}
use Rattle.p3l_reduce.specs.laws.JoinView.{matched_length}
use Rattle.p3l_template.specs.Shape.{Base}
use Rattle.p3l_template.specs.Finding.{Finding, bare, bares, if_orderly}
use Rattle.p3l_reduce.specs.ReduceKind.{bare_folding, seen_of, found_from, found_by, reduce_finds}
use Rattle.p3l_template.specs.RunKind.{run_finds}
use Rattle.p3l_template.specs.laws.BareLaw.{bares-bares, and-true}
use Rattle.p3l_reduce.specs.laws.ReduceFound.{seen, over-bare, after-bare, flow-bare}

-- PLACES
pub first_place : (m k : ℕ) → m ≡ 2 ^ k → Deep m k 1
first_place m k e = deep_from m k 1 (omega arith) (omega (arith, e)) (omega (arith, e))

-- a place of a segment
pub record IsSegment (m q : ℕ) : Type 0 where
  pub from : m ≤ q
  pub to : q < m + m

pub segment_place : (m d q : ℕ) → d ≡ 0 → Deep m d q → IsSegment m q
unfolding Deep
segment_place m zero q e deep = record { from = deep.0; to = deep.1 }
segment_place m (suc d) q e deep = absurd (omega (arith, e))

-- a place of a join, and the two places below it
pub record IsJoin (m d q : ℕ) : Type 0 where
  pub some : 0 < q
  pub below : q < m
  pub left : Deep m (d - 1) (q + q)
  pub right : Deep m (d - 1) (q + q + 1)

pub join_place : (m d q : ℕ) → (d ≡ 0 → ⊥) → Deep m d q → IsJoin m d q
unfolding Deep
join_place m zero q more deep = absurd (more refl)
join_place m (suc d) q more deep =
    let same : d ≡ suc d - 1 = omega arith in
    let next : suc (q + q) ≡ q + q + 1 = omega arith in
    record {
      some = deep.0;
      below = deep.1;
      left = subst (λ z. Deep m z (q + q)) same deep.2;
      right = subst (λ z. Deep m (suc d - 1) z) next (subst (λ z. Deep m z (suc (q + q))) same deep.3);
    }

-- WHAT IS FOUND, IF ANYTHING
pub none_orderly : (f : Finding) → None ≡ if_orderly f → f.orderly ≡ false
unfolding if_orderly
none_orderly f h =
    elim (cases_Bool f.orderly) [
      | inl e ↦ let some : None ≡ Some f.pending = h ∙ cond-true _ _ _ e in cc
      | inr e ↦ e
    ]

pub record IsFound (f : Finding) (pending : List Token) : Type 0 where
  pub orderly : f.orderly ≡ true
  pub pending_is : pending ≡ f.pending

pub some_orderly : (f : Finding) (pending : List Token) → Some pending ≡ if_orderly f → IsFound f pending
unfolding if_orderly
some_orderly f pending h =
    elim (cases_Bool f.orderly) [
      | inl e ↦ let some : Some pending ≡ Some f.pending = h ∙ cond-true _ _ _ e in record { orderly = e; pending_is = cc }
      | inr e ↦ let none : Some pending ≡ None = h ∙ cond-false _ _ _ e in cc
    ]

pub no_list : (o : Option (List Token)) → ((x : List Token) → o ≡ Some x → ⊥) → o ≡ None
no_list None h = refl
no_list (Some x) h = absurd (h x refl)

-- TOKENS WITHOUT OUTCOMES
-- matching lists combined pairwise are the left one
pairwise_left : (m : ℕ) (xs ys : List Token) → length xs ≡ length ys → pairwise (bare_folding m) xs ys ≡ bares xs
unfolding pairwise paired_by
pairwise_left m [] ys e = refl
pairwise_left m (x ∷ xs) [] e = absurd (omega (arith, e))
pairwise_left m (x ∷ xs) (y ∷ ys) e = ap (λ z. bare x ∷ z) (pairwise_left m xs ys (omega (arith, e)))

module _ (m : ℕ) (base : Base) (s : State) where
  abbrev h : Folding
  h = bare_folding m

  abbrev v : View
  v = seen_of base m s

  abbrev held : List Token
  held = (s.own base.proc).held

  abbrev number : ℕ
  number = (s.own base.proc).number

  same_view : seen v ≡ v
  same_view = λ i. record {
    tees = λ q. bares-bares (s.tokens (tee base m q)) i;
    segs = λ u. bares-bares (s.tokens (base.chan + u)) i;
    sending = bares-bares held i;
    sent = number;
  }

  after_is_bare : (d q : ℕ) → bares (after_node h v d q) ≡ after_node h v d q
  after_is_bare d q = sym (after-bare h v d q) ∙ ap (λ w. after_node h w d q) same_view

  -- Split
  pub none_to_send : (n : ℕ) → n ≡ length held → n ≡ 0 → true ≡ split_ok h (bares held) number
  unfolding split_ok
  none_to_send n is e = none held (omega (arith, is, e))
    where
      none : (xs : List Token) → length xs ≡ 0 → true ≡ split_ok h (bares xs) number
      none [] e = refl
      none (x ∷ xs) e = absurd (omega (arith, e))

  pub one_to_send : (n : ℕ) → n ≡ length held → (n ≡ 0 → ⊥) → nat_lt number m ≡ split_ok h (bares held) number
  unfolding split_ok
  one_to_send n is e = one held (λ z. e (is ∙ z))
    where
      one : (xs : List Token) → (length xs ≡ 0 → ⊥) → nat_lt number m ≡ split_ok h (bares xs) number
      one [] e = absurd (e refl)
      one (x ∷ xs) e = refl

  -- a segment
  with_unsent : (q : ℕ) (list rest : List Token) → list ≡ bares (s.tokens (base.chan + (q - m))) →
      rest ≡ unsent h (bares held) number (q - m) → list ++ rest ≡ after_node h v 0 q
  unfolding after_node
  with_unsent q list rest e f = ap₂ (λ a b. a ++ b) (e ∙ sym (over-bare (s.tokens (base.chan + (q - m))))) f

  pub segment_alone : (q : ℕ) (list : List Token) → list ≡ bares (s.tokens (base.chan + (q - m))) →
      (length held ≡ 0) ⊎ (q - m < number) → list ≡ after_node h v 0 q
  unfolding unsent
  segment_alone q list e c = sym (append-nil list) ∙ with_unsent q list [] e (none held c)
    where
      none : (xs : List Token) → (length xs ≡ 0) ⊎ (q - m < number) → [] ≡ unsent h (bares xs) number (q - m)
      none [] c = refl
      none (x ∷ xs) (inl z) = absurd (omega (arith, z))
      none (x ∷ xs) (inr l) = sym (cond-true _ _ _ (lt-ltb (q - m) number l))

  pub segment_and_held : (q : ℕ) (list : List Token) (x y : Token) (ys : List Token) →
      list ≡ bares (s.tokens (base.chan + (q - m))) → ys ≡ held → (length ys ≡ 0 → ⊥) → number ≤ q - m →
      x ≡ bare y → y ≡ get_or ys 0 y → list ++ x ∷ [] ≡ after_node h v 0 q
  unfolding unsent
  segment_and_held q list x y ys e same some l is first =
      with_unsent q list (x ∷ []) e (one ys some first ∙ ap (λ zs. unsent h (bares zs) number (q - m)) same)
    where
      one : (zs : List Token) → (length zs ≡ 0 → ⊥) → y ≡ get_or zs 0 y → x ∷ [] ≡ unsent h (bares zs) number (q - m)
      one [] some first = absurd (some refl)
      one (z ∷ zs) some first = ap (λ a. a ∷ []) (is ∙ ap bare first) ∙ sym (cond-false _ _ _ (le-ltb (q - m) number l))

  -- a flow
  pub flow_is : (d q : ℕ) (coming flown : List Token) → coming ≡ after_node h v d q →
      flown ≡ bares (s.tokens (tee base m q)) ++ bares coming → flown ≡ flow h v d q
  flow_is d q coming flown e f =
      f ∙ ap (λ z. bares (s.tokens (tee base m q)) ++ z) (ap bares e ∙ after_is_bare d q)

  flow_is_bare : (d q : ℕ) → bares (flow h v d q) ≡ flow h v d q
  flow_is_bare d q = sym (flow-bare h v d q) ∙ ap (λ w. flow h w d q) same_view

  -- the finding at a join, by the findings at the two places below it
  abbrev joint : (d l r : ℕ) → Finding
  joint d l r = record {
    orderly = matched (flow h v d l) (flow h v d r) && (even h v d l && even h v d r);
    pending = pairwise h (flow h v d l) (flow h v d r);
  }

  found_at : (d q : ℕ) → (d ≡ 0 → ⊥) → joint (d - 1) (q + q) (q + q + 1) ≡ found_from m d q v
  unfolding found_from even after_node
  found_at zero q more = absurd (more refl)
  found_at (suc d) q more =
      let same : suc d - 1 ≡ d = omega arith in
      let next : q + q + 1 ≡ suc (q + q) = omega arith in
      ap₂ (λ a b. joint a (q + q) b) same next

  none_left : (d l r : ℕ) → None ≡ if_orderly (found_from m d l v) → None ≡ if_orderly (joint d l r)
  unfolding if_orderly found_from
  none_left d l r n =
      let f : even h v d l ≡ false = none_orderly (found_from m d l v) n in
      sym (cond-false _ _ _ (ap (λ b. matched (flow h v d l) (flow h v d r) && (b && even h v d r)) f
      ∙ and-false (matched (flow h v d l) (flow h v d r))))

  none_right : (d l r : ℕ) → None ≡ if_orderly (found_from m d r v) → None ≡ if_orderly (joint d l r)
  unfolding if_orderly found_from
  none_right d l r n =
      let f : even h v d r ≡ false = none_orderly (found_from m d r v) n in
      sym (cond-false _ _ _ (ap (λ b. matched (flow h v d l) (flow h v d r) && b) (ap (λ b. even h v d l && b) f ∙ and-false (even h v d l))
      ∙ and-false (matched (flow h v d l) (flow h v d r))))

  unmatched : (d l r : ℕ) (left right : List Token) → left ≡ flow h v d l → right ≡ flow h v d r → matched left right ≡ false →
      None ≡ if_orderly (joint d l r)
  unfolding if_orderly
  unmatched d l r left right e f n =
      sym (cond-false _ _ _ (ap (λ b. b && (even h v d l && even h v d r)) (ap₂ matched (sym e) (sym f) ∙ n)))

  all_matched : (d l r : ℕ) (left right : List Token) → left ≡ flow h v d l → right ≡ flow h v d r →
      even h v d l ≡ true → even h v d r ≡ true → matched left right ≡ true → Some left ≡ if_orderly (joint d l r)
  unfolding if_orderly
  all_matched d l r left right e f a b n =
      let even_long : length (flow h v d l) ≡ length (flow h v d r) = sym (ap length e) ∙ matched_length left right n ∙ ap length f in
      let is : left ≡ pairwise h (flow h v d l) (flow h v d r) =
      e ∙ sym (flow_is_bare d l) ∙ sym (pairwise_left m (flow h v d l) (flow h v d r) even_long) in
      ap Some is
      ∙ sym (cond-true _ _ _ (ap₂ (λ x y. x && y) (ap₂ matched (sym e) (sym f) ∙ n) (ap₂ (λ x y. x && y) a b)))

  -- the places from q down, step by step
  pub segment_found : (d q : ℕ) (list : List Token) → d ≡ 0 → list ≡ after_node h v 0 q → Some list ≡ if_orderly (found_from m d q v)
  unfolding if_orderly found_from even
  segment_found zero q list z e = ap Some e
  segment_found (suc d) q list z e = absurd (omega (arith, z))

  pub none_on_left : (d q : ℕ) → (d ≡ 0 → ⊥) → None ≡ if_orderly (found_from m (d - 1) (q + q) v) →
      None ≡ if_orderly (found_from m d q v)
  none_on_left d q more n = none_left (d - 1) (q + q) (q + q + 1) n ∙ ap if_orderly (found_at d q more)

  pub none_on_right : (d q : ℕ) → (d ≡ 0 → ⊥) → None ≡ if_orderly (found_from m (d - 1) (q + q + 1) v) →
      None ≡ if_orderly (found_from m d q v)
  none_on_right d q more n = none_right (d - 1) (q + q) (q + q + 1) n ∙ ap if_orderly (found_at d q more)

  -- a flow, where what is still to come to its channel was found
  pub record IsFlow (d q : ℕ) (flown : List Token) : Type 0 where
    pub even_below : even h v d q ≡ true
    pub flown_is : flown ≡ flow h v d q

  pub flow_found : (d q : ℕ) (coming flown : List Token) → Some coming ≡ if_orderly (found_from m d q v) →
      flown ≡ bares (s.tokens (tee base m q)) ++ bares coming → IsFlow d q flown
  unfolding found_from
  flow_found d q coming flown c e =
      let found = some_orderly (found_from m d q v) coming c in
      record { even_below = found.orderly; flown_is = flow_is d q coming flown found.pending_is e }

  pub none_matched : (d q : ℕ) (left right : List Token) → (d ≡ 0 → ⊥) → IsFlow (d - 1) (q + q) left → IsFlow (d - 1) (q + q + 1) right →
      matched left right ≡ false → None ≡ if_orderly (found_from m d q v)
  none_matched d q left right more a b n =
      unmatched (d - 1) (q + q) (q + q + 1) left right a.flown_is b.flown_is n ∙ ap if_orderly (found_at d q more)

  pub left_found : (d q : ℕ) (left right : List Token) → (d ≡ 0 → ⊥) → IsFlow (d - 1) (q + q) left → IsFlow (d - 1) (q + q + 1) right →
      matched left right ≡ true → Some left ≡ if_orderly (found_from m d q v)
  left_found d q left right more a b n =
      all_matched (d - 1) (q + q) (q + q + 1) left right a.flown_is b.flown_is a.even_below b.even_below n
      ∙ ap if_orderly (found_at d q more)

  -- the whole
  pub none_sent : (d : ℕ) → split_ok h (bares held) number ≡ false → None ≡ if_orderly (found_by m d v)
  unfolding if_orderly found_by well_kept
  none_sent d n = sym (cond-false _ _ _ (ap (λ b. even h v d 1 && b) n ∙ and-false (even h v d 1)))

  pub found_whole : (d : ℕ) → split_ok h (bares held) number ≡ true → if_orderly (found_from m d 1 v) ≡ if_orderly (found_by m d v)
  unfolding if_orderly found_from found_by well_kept
  found_whole d n =
      ap (λ b. cond b (Some (after_node h v d 1)) None) (sym (ap (λ b. even h v d 1 && b) n ∙ and-true (even h v d 1)))

-- one process, or several segments
module _ (tree : Tree) (base : Base) (s : State) (inner : List (List Token)) where
  pub finds_one : (k : ℕ) → k ≡ 0 → Some [] ≡ if_orderly (reduce_finds k tree base s inner)
  unfolding if_orderly reduce_finds run_finds
  finds_one zero e = refl
  finds_one (suc k) e = absurd (omega (arith, e))

  pub finds_more : (k : ℕ) → (k ≡ 0 → ⊥) →
      if_orderly (found_by (2 ^ k) k (seen_of base (2 ^ k) s)) ≡ if_orderly (reduce_finds k tree base s inner)
  unfolding reduce_finds
  finds_more zero more = absurd (more refl)
  finds_more (suc k) more = refl
