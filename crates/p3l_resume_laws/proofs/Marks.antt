-- Properties of each token by its place, the channel that it is in or the process that holds it, are kept by every firing of a process
-- that hands it on.
use Rattle.std.proofs.Common.{◌≡◌, ◌∙◌, ℕ, zero, suc, ℤ, replicate, slice_get, ◌<◌, cond, nat_lt, ◌&&◌, ◌||◌, Bool, true, false, List, [], ◌∷◌, ◌++◌, length, Option, Some, None, refl, sym, subst, inl, inr, arith}
use Rattle.std.specs.List.{AllByRecursion}
use Rattle.std.proofs.lemmas.Bool.{and_parts, cases_Bool, cases_eq, cond-true, cond-false, false≢true, leb-false, leb-true, ltb-true}
use Rattle.p3l_base.specs.declared.outcome.Outcome.{Outcome}
use Rattle.p3l_base.specs.declared.outcome.Outcome.TheVariants.{Value}
use Rattle.p3l_skel.specs.declared.tree.Tree.{Tree}
use Rattle.p3l_ready.specs.At.{at}
use Rattle.p3l_ready.proofs.AtLemmas.{at-same, at-other}
use Rattle.p3l_firing.specs.declared.net.Net.{Net}
use Rattle.p3l_firing.specs.declared.process.Proc.{Proc}
use Rattle.p3l_firing.specs.declared.process.ProcKind.{ProcKind}
use Rattle.p3l_firing.specs.declared.process.ProcKind.TheVariants as kinds
use Rattle.p3l_firing.specs.declared.token.Token.{Token}
use Rattle.p3l_firing.specs.Fire.{can_fire, fire, row_can, row_fire}
use Rattle.p3l_firing.specs.Lists.{has_first, first_or, rest_of}
use Rattle.p3l_firing.specs.Nodes.{Leaf, element_of, fold_of, joined_of, operator_of, outcome_of, segment_of, spent_of, test_of, turns_of}
use Rattle.p3l_firing.specs.Process.{Has, in_of, out_of}
use Rattle.p3l_firing.specs.State.{LocalState, State, at_first, chan_at, counted, first_state, fresh, front, gathering, has_room, holding, pop, push, set_own}
use Rattle.p3l_firing.specs.Token.{admitted, bodies, credit, newest_tag, once_more, over, untagged, plain, tagged}
use Rattle.p3l_firing.specs.Typed.{FitsKind, IsFitting, IsTyped}
use Rattle.p3l_firing.specs.Widths.{FitsToken, Widths}
use Rattle.p3l_firing.specs.kinds.Source as source
use Rattle.p3l_firing.specs.kinds.Sink as sink
use Rattle.p3l_firing.specs.kinds.Run as run
use Rattle.p3l_firing.specs.kinds.Emit as emit
use Rattle.p3l_firing.specs.kinds.Collect as collect
use Rattle.p3l_firing.specs.kinds.Scatter as scatter
use Rattle.p3l_firing.specs.kinds.Gather as gather
use Rattle.p3l_firing.specs.kinds.Split as split
use Rattle.p3l_firing.specs.kinds.FoldGather as fold_gather
use Rattle.p3l_firing.specs.kinds.Join as join
use Rattle.p3l_firing.specs.kinds.Join.{paired_by}
use Rattle.p3l_firing.specs.kinds.Head as head
use Rattle.p3l_firing.specs.kinds.Tail as tail
use Rattle.p3l_firing.specs.kinds.Tail.{Turn, Turn.Held, Turn.Again, turn_of}
use Rattle.p3l_firing.proofs.Fitting.{all_first, all_push, all_rest, front_fits}
use Rattle.p3l_firing.proofs.Places.{has-nth}
use Rattle.p3l_firing.proofs.Rows.{fire_at, none_ready, ready_at, ready_from_can}
use Rattle.p3l_firing.proofs.row.Collect.{due_among, due_full}
use Rattle.p3l_firing.proofs.row.Emit.{chosen_among, some_one}
use Rattle.p3l_firing.proofs.row.Gather.{longer_has_first}
use Rattle.p3l_firing.proofs.row.Gather as gather_row
use Rattle.p3l_firing.proofs.row.Head.{comes_in}
use Rattle.p3l_firing.proofs.row.Scatter as scatter_row
use Rattle.p3l_firing.proofs.row.Tail.{dropped_all, picked_all}
use Rattle.p3l_resume_laws.proofs.Lists.{all_same}

-- C holds of each token in a channel, and H of each that a process holds
pub record AllAre (C H : ℕ → Token → Type 0) (s : State) : Type 0 where
  pub sent : (c : ℕ) → AllByRecursion (C c) (s.tokens c)
  pub held : (p : ℕ) → AllByRecursion (H p) (s.own p).held

module _ {C H : ℕ → Token → Type 0} (s : State) (all : AllAre C H s) where
  are_there : (c : ℕ) (xs : List Token) → AllByRecursion (C c) xs → (j : ℕ) → AllByRecursion (C j) (at s.tokens c xs j)
  are_there c xs h j =
      elim (cases_eq j c) [
        | inl e ↦ subst (λ k. AllByRecursion (C k) (at s.tokens c xs k)) (sym e) (subst (AllByRecursion (C c)) (sym (at-same s.tokens c xs)) h)
        | inr e ↦ subst (AllByRecursion (C j)) (sym (at-other s.tokens c xs j e)) (all.sent j)
      ]

  -- each step of a row keeps it
  pub are_put : (c : ℕ) (x : Token) → C c x → AllAre C H (push s c x)
  unfolding push
  are_put c x h = record { sent = are_there c (s.tokens c ++ x ∷ []) (all_push (C c) (s.tokens c) x (all.sent c) h); held = all.held }

  pub are_taken : (c : ℕ) → AllAre C H (pop s c)
  unfolding pop
  are_taken c = record { sent = are_there c (rest_of (s.tokens c)) (all_rest (C c) (s.tokens c) (all.sent c)); held = all.held }

  pub are_kept : (p : ℕ) (o : LocalState) → AllByRecursion (H p) o.held → AllAre C H (set_own s p o)
  unfolding set_own
  are_kept p o h = record {
    sent = all.sent;
    held = λ r.
        elim (cases_eq r p) [
          | inl e ↦ subst (λ k. AllByRecursion (H k) (at s.own p o k).held) (sym e) (subst (λ (x : LocalState). AllByRecursion (H p) x.held) (sym (at-same s.own p o)) h)
          | inr e ↦ subst (λ (x : LocalState). AllByRecursion (H r) x.held) (sym (at-other s.own p o r e)) (all.held r)
        ];
  }

  pub is_front : (c : ℕ) → has_first (s.tokens c) ≡ true → C c (front s c)
  is_front c full = all_first (C c) credit (s.tokens c) full (all.sent c)

module _ (C H : ℕ → Token → Type 0) (tree : Tree) (leaf : Leaf) (widths : Widths) (p : ℕ) (q : Proc) where
  -- the turn of a token that comes out of the body of a loop
  abbrev turn : Token → Turn
  turn x = turn_of (test_of tree leaf q.node) (spent_of tree q.node) (nat_lt (newest_tag x) (turns_of tree q.node)) x.body

  -- a token that is sent in pieces, and what comes of all outcomes held
  pub record Cuts (piece : ℕ → Outcome → Outcome) : Type 0 where
    pub takes : (x : Token) → C (in_of q 0) x → H p x
    pub sends : (c k : ℕ) (x : Token) → Has q.outs c → H p x → C c (over (piece k) x)

  pub record Joins (whole : List Outcome → Outcome) : Type 0 where
    pub takes : (c : ℕ) (x : Token) → Has q.ins c → C c x → H p x
    pub sends : (xs : List Token) → has_first xs ≡ true → AllByRecursion (H p) xs
        → C (out_of q 0) (record { tags = (first_or credit xs).tags; body = whole (bodies xs) })

  pub record Enters : Type 0 where
    pub round : (x : Token) → C (in_of q 1) x → C (out_of q 0) x
    pub enters : (n : ℕ) (x : Token) → FitsToken widths (in_of q 0) x → C (in_of q 0) x → C (out_of q 0) (admitted n x)

  pub record Turns : Type 0 where
    pub holds : (x : Token) (outcome : Outcome) → C (in_of q 0) x → turn x ≡ Held outcome → H p (record x { body = outcome })
    pub again : (x : Token) → FitsToken widths (in_of q 0) x → C (in_of q 0) x → turn x ≡ Again → C (out_of q 1) (once_more x)
    pub leaves : (x : Token) → H p x → C (out_of q 0) (untagged (untagged x))
    pub credits : C (out_of q 2) credit

  -- a process of each kind hands on what is said
  abbrev pub HandsOn : ProcKind → Type 0
  HandsOn kinds.Source = (words : List ℤ) → C (out_of q 0) (plain (Value words))
  HandsOn kinds.Sink = Unit {0}
  HandsOn kinds.Run = (x : Token) → C (in_of q 0) x → C (out_of q 0) (over (outcome_of tree leaf q.node) x)
  HandsOn kinds.Emit = (c n : ℕ) (x : Token) → Has q.outs c → FitsToken widths (in_of q 0) x → C (in_of q 0) x → C c (tagged n x)
  HandsOn kinds.Collect = (c : ℕ) (x : Token) → Has q.ins c → C c x → C (out_of q 0) (untagged x)
  HandsOn kinds.Scatter = Cuts (element_of tree q.node)
  HandsOn kinds.Gather = Joins (joined_of tree q.node)
  HandsOn kinds.Split = Cuts (segment_of tree q.node (length q.outs))
  HandsOn kinds.FoldGather = Joins (fold_of tree leaf q.node)
  HandsOn kinds.Join = (x y : Token) → C (in_of q 0) x → C (in_of q 1) y → C (out_of q 0) (paired_by (operator_of tree leaf q.node) x y)
  HandsOn kinds.Head = Enters
  HandsOn kinds.Tail = Turns

  module _ {net : Net} (s : State) (o : LocalState) (fit : IsFitting tree net widths s) (all : AllAre C H s) where
    -- the first token of a channel
    abbrev x : ℕ → Token
    x c = front s c

    from_source : HandsOn kinds.Source → AllAre C H (source.fire s q)
    unfolding source.fire
    from_source hands =
        let word = first_or [] s.unsent in
        let t : AllAre C H (push s (out_of q 0) (plain (Value word))) = are_put s all (out_of q 0) (plain (Value word)) (hands word) in
        record { sent = t.sent; held = t.held }

    from_sink : AllAre C H (sink.fire s q)
    unfolding sink.fire
    from_sink = let t : AllAre C H (pop s (in_of q 0)) = are_taken s all (in_of q 0) in record { sent = t.sent; held = t.held }

    from_run : run.can net s q ≡ true → HandsOn kinds.Run → AllAre C H (run.fire tree leaf s q)
    unfolding run.can run.fire
    from_run can hands =
        let full = and_parts _ _ can in
        are_put (pop s (in_of q 0)) (are_taken s all (in_of q 0)) (out_of q 0) (over (outcome_of tree leaf q.node) (x (in_of q 0)))
        (hands (x (in_of q 0)) (is_front s all (in_of q 0) full.0))

    sent_to : (c : ℕ) → Has q.outs c → has_first (s.tokens (in_of q 0)) ≡ true → AllByRecursion (H p) o.held → HandsOn kinds.Emit →
        AllAre C H (emit.sent_to (Some c) s p o q)
    unfolding emit.sent_to
    sent_to c there full held hands =
        let a = in_of q 0 in
        are_kept (push (pop s a) c (tagged o.number (x a)))
        (are_put (pop s a) (are_taken s all a) c (tagged o.number (x a)) (hands c o.number (x a) there (front_fits s fit a full) (is_front s all a full)))
        p (counted o) held

    from_emit : emit.can net s q ≡ true → AllByRecursion (H p) o.held → HandsOn kinds.Emit → AllAre C H (emit.fire net s p o q)
    unfolding emit.can emit.fire
    from_emit can held hands =
        let both = and_parts _ _ can in
        let some = some_one (emit.emptiest net s q.outs) both.1 in
        subst (λ c. AllAre C H (emit.sent_to c s p o q)) (sym some.1) (sent_to some.0 (chosen_among net s s q.outs some.0 some.1) both.0 held hands)

    taken_from : (c : ℕ) → collect.due_in s o.number q.ins ≡ Some c → AllByRecursion (H p) o.held → HandsOn kinds.Collect →
        AllAre C H (collect.taken_from (Some c) s p o q)
    unfolding collect.taken_from
    taken_from c due held hands =
        are_kept (push (pop s c) (out_of q 0) (untagged (x c)))
        (are_put (pop s c) (are_taken s all c) (out_of q 0) (untagged (x c))
        (hands c (x c) (due_among s o.number q.ins c due) (is_front s all c (due_full s o.number q.ins c due))))
        p (counted o) held

    from_collect : collect.can net s o q ≡ true → AllByRecursion (H p) o.held → HandsOn kinds.Collect → AllAre C H (collect.fire s p o q)
    unfolding collect.can collect.fire
    from_collect can held hands =
        let both = and_parts _ _ can in
        let some = some_one (collect.due_in s o.number q.ins) both.0 in
        subst (λ c. AllAre C H (collect.taken_from c s p o q)) (sym some.1) (taken_from some.0 some.1 held hands)

    -- a process that takes a token to send it in pieces, and one that has sent a piece
    cut_taken : (piece : ℕ → Outcome → Outcome) → Cuts piece → has_first (s.tokens (in_of q 0)) ≡ true →
        AllAre C H (set_own (pop s (in_of q 0)) p (holding (front s (in_of q 0))))
    cut_taken piece hands full =
        are_kept (pop s (in_of q 0)) (are_taken s all (in_of q 0)) p (holding (x (in_of q 0)))
        (hands.takes (x (in_of q 0)) (is_front s all (in_of q 0) full), tt)

    passed : (b : Bool) → AllByRecursion (H p) o.held → AllByRecursion (H p) (cond b (counted o) fresh).held
    passed true held = held
    passed false held = tt

    cut_sent : (piece : ℕ → Outcome → Outcome) → Cuts piece → (c : ℕ) (b : Bool) → Has q.outs c → has_first o.held ≡ true →
        AllByRecursion (H p) o.held
        → AllAre C H (set_own (push s c (over (piece o.number) (first_or credit o.held))) p (cond b (counted o) fresh))
    cut_sent piece hands c b there full held =
        let y : Token = first_or credit o.held in
        are_kept (push s c (over (piece o.number) y))
        (are_put s all c (over (piece o.number) y) (hands.sends c o.number y there (all_first (H p) credit o.held full held)))
        p (cond b (counted o) fresh) (passed b held)

    from_scatter : scatter.Fits tree widths q → scatter.can net s o q ≡ true → AllByRecursion (H p) o.held → HandsOn kinds.Scatter →
        AllAre C H (scatter.fire tree s p o q)
    unfolding scatter.can scatter.fire scatter.element_sent scatter.after_element
    from_scatter fits can held hands =
        elim (cases_Bool (has_first o.held)) [
          | inl full ↦
              subst (AllAre C H) (sym (cond-true (has_first o.held) _ _ full))
              (cut_sent (element_of tree q.node) hands (scatter.line_of o q) _ (scatter_row.line_among o q fits) full held)
          | inr none ↦
              subst (AllAre C H) (sym (cond-false (has_first o.held) _ _ none))
              (cut_taken (element_of tree q.node) hands (subst (λ b. b ≡ true) (cond-false (has_first o.held) _ _ none) can))
        ]

    from_split : split.can net s o q ≡ true → AllByRecursion (H p) o.held → HandsOn kinds.Split → AllAre C H (split.fire tree s p o q)
    unfolding split.can split.fire split.segment_sent split.after_segment
    from_split can held hands =
        elim (cases_Bool (has_first o.held)) [
          | inl full ↦
              let both = and_parts _ _ (subst (λ b. b ≡ true) (cond-true (has_first o.held) _ _ full) can) in
              subst (AllAre C H) (sym (cond-true (has_first o.held) _ _ full))
              (cut_sent (segment_of tree q.node (length q.outs)) hands (out_of q o.number) _ (has-nth q.outs o.number (ltb-true _ _ both.0)) full held)
          | inr none ↦
              subst (AllAre C H) (sym (cond-false (has_first o.held) _ _ none))
              (cut_taken (segment_of tree q.node (length q.outs)) hands (subst (λ b. b ≡ true) (cond-false (has_first o.held) _ _ none) can))
        ]

    -- a process that holds one outcome more, and one that has sent what comes of all of them
    join_taken : (whole : List Outcome → Outcome) → Joins whole → (c : ℕ) → Has q.ins c → has_first (s.tokens c) ≡ true →
        AllByRecursion (H p) o.held
        → AllAre C H (set_own (pop s c) p (gathering o (front s c)))
    join_taken whole hands c there full held =
        are_kept (pop s c) (are_taken s all c) p (gathering o (x c)) (all_push (H p) o.held (x c) held (hands.takes c (x c) there (is_front s all c full)))

    join_sent : (whole : List Outcome → Outcome) → Joins whole → (released : LocalState) → released.held ≡ [] → has_first o.held ≡ true →
        AllByRecursion (H p) o.held
        → AllAre C H (set_own (push s (out_of q 0) (record { tags = (first_or credit o.held).tags; body = whole (bodies o.held) })) p released)
    join_sent whole hands released none full held =
        let y : Token = record { tags = (first_or credit o.held).tags; body = whole (bodies o.held) } in
        are_kept (push s (out_of q 0) y) (are_put s all (out_of q 0) y (hands.sends o.held full held)) p released
        (subst (AllByRecursion (H p)) (sym none) tt)

    from_gather : gather.Fits tree widths q → gather.can tree net s o q ≡ true → AllByRecursion (H p) o.held → HandsOn kinds.Gather →
        AllAre C H (gather.fire tree s p o q)
    unfolding gather.can gather.fire gather.whole_sent gather.is_full
    from_gather fits can held hands =
        elim (cases_Bool (gather.is_full tree o q)) [
          | inl full ↦
              subst (AllAre C H) (sym (cond-true (gather.is_full tree o q) _ _ full))
              (join_sent (joined_of tree q.node) hands _ refl (longer_has_first o.held _ (ltb-true _ _ full)) held)
          | inr few ↦
              subst (AllAre C H) (sym (cond-false (gather.is_full tree o q) _ _ few))
              (join_taken (joined_of tree q.node) hands (gather.line_of o q) (gather_row.line_among o q fits)
              (subst (λ b. b ≡ true) (cond-false (gather.is_full tree o q) _ _ few) can) held)
        ]

    from_fold_gather : fold_gather.Fits tree widths q → fold_gather.can net s o q ≡ true → AllByRecursion (H p) o.held →
        HandsOn kinds.FoldGather → AllAre C H (fold_gather.fire tree leaf s p o q)
    unfolding fold_gather.can fold_gather.fire fold_gather.fold_sent fold_gather.is_full
    from_fold_gather fits can held hands =
        elim (cases_Bool (fold_gather.is_full o q)) [
          | inl full ↦
              let many = leb-true _ _ full in
              let several = fits.several in
              subst (AllAre C H) (sym (cond-true (fold_gather.is_full o q) _ _ full))
              (join_sent (fold_of tree leaf q.node) hands _ refl (longer_has_first o.held 0 (omega (arith, many, several))) held)
          | inr few ↦
              subst (AllAre C H) (sym (cond-false (fold_gather.is_full o q) _ _ few))
              (join_taken (fold_of tree leaf q.node) hands (fold_gather.line_of o q) (has-nth q.ins (length o.held) (leb-false _ _ few))
              (subst (λ b. b ≡ true) (cond-false (fold_gather.is_full o q) _ _ few) can) held)
        ]

    from_join : join.can net s q ≡ true → HandsOn kinds.Join → AllAre C H (join.fire tree leaf s q)
    unfolding join.can join.fire
    from_join can hands =
        let both = and_parts _ _ can in
        let more = and_parts _ _ both.1 in
        let a = in_of q 0 in
        let b = in_of q 1 in
        are_put (pop (pop s a) b) (are_taken (pop s a) (are_taken s all a) b) (out_of q 0) (paired_by (operator_of tree leaf q.node) (x a) (x b))
        (hands (x a) (x b) (is_front s all a both.0) (is_front s all b more.0))

    sent_round : Enters → has_first (s.tokens (in_of q 1)) ≡ true → AllAre C H (head.sent_round s q)
    unfolding head.sent_round
    sent_round hands full =
        are_put (pop s (in_of q 1)) (are_taken s all (in_of q 1)) (out_of q 0) (x (in_of q 1)) (hands.round (x (in_of q 1)) (is_front s all (in_of q 1) full))

    let_in : Enters → has_first (s.tokens (in_of q 0)) ≡ true → AllByRecursion (H p) o.held → AllAre C H (head.let_in s p o q)
    unfolding head.let_in
    let_in hands full held =
        let a = in_of q 0 in
        let b = in_of q 2 in
        are_kept (push (pop (pop s a) b) (out_of q 0) (admitted o.number (x a)))
        (are_put (pop (pop s a) b) (are_taken (pop s a) (are_taken s all a) b) (out_of q 0) (admitted o.number (x a))
        (hands.enters o.number (x a) (front_fits s fit a full) (is_front s all a full)))
        p (counted o) held

    from_head : head.can net s q ≡ true → AllByRecursion (H p) o.held → HandsOn kinds.Head → AllAre C H (head.fire s p o q)
    unfolding head.can head.fire
    from_head can held hands =
        let back : Bool = has_first (s.tokens (in_of q 1)) in
        let new : Bool = has_first (s.tokens (in_of q 0)) in
        let credits : Bool = has_first (s.tokens (in_of q 2)) in
        let both = and_parts (has_room net s (out_of q 0)) (back || (new && credits)) can in
        elim (cases_Bool (has_first (s.tokens (in_of q 1)))) [
          | inl comes ↦ subst (AllAre C H) (sym (cond-true back _ _ comes)) (sent_round hands comes)
          | inr none ↦ subst (AllAre C H) (sym (cond-false back _ _ none)) (let_in hands (comes_in back new credits none both.1).0 held)
        ]

    released : Turns → tail.can_release net s o q ≡ true → AllByRecursion (H p) o.held → AllAre C H (tail.release s p o q)
    unfolding tail.can_release tail.release tail.after_release
    released hands can held =
        let both = and_parts _ _ can in
        let y : Token = tail.pick_number o.number o.held in
        let t : State = push s (out_of q 0) (untagged (untagged y)) in
        are_kept (push t (out_of q 2) credit)
        (are_put t (are_put s all (out_of q 0) (untagged (untagged y)) (hands.leaves y (picked_all (H p) o.number o.held both.0 held))) (out_of q 2) credit hands.credits)
        p (tail.after_release o) (dropped_all (H p) o.number o.held held)

    turned : Turns → (next : Turn) → turn (x (in_of q 0)) ≡ next → has_first (s.tokens (in_of q 0)) ≡ true → AllByRecursion (H p) o.held
        → AllAre C H (tail.take_turn next s p o q (front s (in_of q 0)))
    unfolding tail.take_turn
    turned hands (Held outcome) is full held =
        let a = in_of q 0 in
        let y : Token = record (x a) { body = outcome } in
        are_kept (pop s a) (are_taken s all a) p (gathering o y) (all_push (H p) o.held y held (hands.holds (x a) outcome (is_front s all a full) is))
    turned hands Again is full held =
        let a = in_of q 0 in
        are_put (pop s a) (are_taken s all a) (out_of q 1) (once_more (x a)) (hands.again (x a) (front_fits s fit a full) (is_front s all a full) is)

    from_tail : tail.can net s o q ≡ true → AllByRecursion (H p) o.held → HandsOn kinds.Tail → AllAre C H (tail.fire tree leaf net s p o q)
    unfolding tail.can tail.fire
    from_tail can held hands =
        elim (cases_Bool (tail.can_release net s o q)) [
          | inl leaves ↦ subst (AllAre C H) (sym (cond-true (tail.can_release net s o q) _ _ leaves)) (released hands leaves held)
          | inr stays ↦
              let both = and_parts _ _ (or_right _ _ stays can) in
              subst (AllAre C H) (sym (cond-false (tail.can_release net s o q) _ _ stays)) (turned hands _ refl both.0 held)
        ]
      where
        or_right : (a b : Bool) → a ≡ false → (a || b) ≡ true → b ≡ true
        or_right true b e h = cc
        or_right false b e h = h

    pub row_are : (k : ProcKind) → FitsKind k tree widths q → AllByRecursion (H p) o.held → row_can k tree net s o q ≡ true → HandsOn k
        → AllAre C H (row_fire k tree leaf net s p o q)
    unfolding row_can row_fire
    row_are kinds.Source fits held can hands = from_source hands
    row_are kinds.Sink fits held can hands = from_sink
    row_are kinds.Run fits held can hands = from_run can hands
    row_are kinds.Emit fits held can hands = from_emit can held hands
    row_are kinds.Collect fits held can hands = from_collect can held hands
    row_are kinds.Scatter fits held can hands = from_scatter fits can held hands
    row_are kinds.Gather fits held can hands = from_gather fits can held hands
    row_are kinds.Split fits held can hands = from_split can held hands
    row_are kinds.FoldGather fits held can hands = from_fold_gather fits can held hands
    row_are kinds.Join fits held can hands = from_join can hands
    row_are kinds.Head fits held can hands = from_head can held hands
    row_are kinds.Tail fits held can hands = from_tail can held hands

module _ (C H : ℕ → Token → Type 0) (tree : Tree) (leaf : Leaf) (net : Net) (typed : IsTyped tree net) (s : State)
    (fit : IsFitting tree net typed.widths s) (all : AllAre C H s) where
  are_at : (p : ℕ) (stands : Option Proc) → slice_get net.procs p ≡ stands → can_fire tree net s p ≡ true
      → ((q : Proc) → stands ≡ Some q → HandsOn C H tree leaf typed.widths p q q.kind) → AllAre C H (fire tree leaf net s p)
  are_at p None e can hands = absurd (false≢true (sym (none_ready tree net s p e) ∙ ready_from_can tree net s p can))
  are_at p (Some q) e can hands =
      subst (AllAre C H) (sym (fire_at tree net s p q e leaf))
      (row_are C H tree leaf typed.widths p q s (s.own p) fit all q.kind (typed.processes p q e) (all.held p)
      (sym (ready_at tree net s p q e) ∙ ready_from_can tree net s p can) (hands q refl))

  -- a firing of a process that hands it on keeps it
  pub fired_are : (p : ℕ) → can_fire tree net s p ≡ true →
      ((q : Proc) → slice_get net.procs p ≡ Some q → HandsOn C H tree leaf typed.widths p q q.kind)
      → AllAre C H (fire tree leaf net s p)
  fired_are p can hands = are_at p (slice_get net.procs p) refl can hands

-- before anything has fired there are credits alone
pub are_at_first : (C H : ℕ → Token → Type 0) (net : Net) (items : List (List ℤ)) → ((c : ℕ) → 0 < (chan_at net c).credits → C c credit) →
    AllAre C H (first_state net items)
unfolding first_state at_first
are_at_first C H net items each = record { sent = λ c. credits c (chan_at net c).credits (each c); held = λ p. tt }
  where
    credits : (c n : ℕ) → (0 < n → C c credit) → AllByRecursion (C c) (replicate n credit)
    credits c zero h = tt
    credits c (suc n) h = all_same (C c) (suc n) credit (h (omega arith))
