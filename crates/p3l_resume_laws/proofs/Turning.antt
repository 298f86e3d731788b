-- Each token inside a loop is in one of its turns, with a number that was given out: every firing keeps it, in any typed net in which a
-- loop is closed but for its head and its tail.
use Rattle.std.proofs.Common.{◌≡◌, ◌≢◌, ◌⊎◌, ℕ, ℤ, ◌+◌, ◌<◌, ◌≤◌, ◌&&◌, ◌||◌, Bool, true, List, [], ◌∷◌, Some, slice_get, refl, sym, ap, ◌∙◌, subst, arith, inl, inr}
use Rattle.std.proofs.lemmas.Bool.{and_parts, cases_Bool, cases_eq, cases_lt, cond-true, cond-false}
use Rattle.p3l_skel.specs.declared.tree.Tree.{Tree}
use Rattle.p3l_ready.proofs.AtLemmas.{at-same}
use Rattle.p3l_firing.specs.declared.net.Net.{Net}
use Rattle.p3l_firing.specs.declared.process.Proc.{Proc}
use Rattle.p3l_firing.specs.declared.process.ProcKind.{ProcKind}
use Rattle.p3l_firing.specs.declared.process.ProcKind.TheVariants as kinds
use Rattle.p3l_firing.specs.declared.token.Token.{Token}
use Rattle.p3l_firing.specs.Fire.{can_fire, fire, row_can, row_fire}
use Rattle.p3l_firing.specs.Lists.{has_first}
use Rattle.p3l_firing.specs.Nodes.{Leaf, most_turns, spent_of, test_of, turns_of}
use Rattle.p3l_firing.specs.Process.{Has, in_of, out_of}
use Rattle.p3l_firing.specs.State.{LocalState, State, counted, first_state, front, has_room, pop, push, set_own}
use Rattle.p3l_firing.specs.Token.{admitted, credit, later_tags, newest_tag}
use Rattle.p3l_firing.specs.Typed.{FitsKind, IsFitting, IsTyped}
use Rattle.p3l_firing.specs.Widths.{Widths}
use Rattle.p3l_firing.specs.kinds.Head as head
use Rattle.p3l_firing.specs.kinds.Join.{paired_by}
use Rattle.p3l_firing.proofs.Fitting.{all_first, front_fits}
use Rattle.p3l_firing.proofs.LawfulForms.{loop_parts}
use Rattle.p3l_firing.proofs.Places.{first_in}
use Rattle.p3l_firing.proofs.Rows.{fire_at, ready_at, ready_from_can}
use Rattle.p3l_firing.proofs.row.Head.{comes_in}
use Rattle.p3l_loop.specs.Loop.{Laps}
use Rattle.p3l_loop.specs.laws.ViewLaw.{after_again}
use Rattle.p3l_net.specs.Fitting.{LoopPlace}
use Rattle.p3l_resume_laws.proofs.Credits.{some_ins, some_outs}
use Rattle.p3l_resume_laws.proofs.Lists.{all_so}
use Rattle.p3l_resume_laws.proofs.Marks.{AllAre, HandsOn, are_at_first, are_kept, are_put, are_taken, fired_are, is_front}
use Rattle.p3l_resume_laws.proofs.Owns.{other_own}
use Rattle.p3l_resume_laws.proofs.TurnTags.{InTurn, turn_again, turn_enters, turn_grows, turn_later, turn_more, turn_next, turn_none}

pub record IsIn (from to n : ℕ) : Type 0 where
  pub above : from ≤ n
  pub below : n < to

cases_in : (from to n : ℕ) → IsIn from to n ⊎ (IsIn from to n → ⊥)
cases_in from to n =
    elim (cases_lt n from) [
      | inl before ↦ inr (λ h. let above = h.above in omega (arith, above, before))
      | inr above ↦ elim (cases_lt n to) [
        | inl below ↦ inl (record { above = omega (arith, above); below = below })
        | inr past ↦ inr (λ h. let below = h.below in omega (arith, below, past))
      ]
    ]

-- the process whose number is in the loop's interval, and the channel
abbrev pub IsInside : LoopPlace → ℕ → Type 0
IsInside place p = IsIn place.proc_from place.proc_to p

abbrev pub IsWithin : LoopPlace → ℕ → Type 0
IsWithin place c = IsIn place.chan_from place.chan_to c

-- a loop is closed in a net: between its head h and its tail t each process reads and writes what is within it, no other process
-- writes there, and each channel within it that carries words carries the loop's two tags at least
pub record IsClosed (net : Net) (widths : Widths) (place : LoopPlace) (h t : Proc) : Type 0 where
  pub head : slice_get net.procs place.head ≡ Some h
  pub tail : slice_get net.procs place.tail ≡ Some t
  pub enters : h.kind ≡ kinds.Head
  pub leaves : t.kind ≡ kinds.Tail
  pub node : t.node ≡ h.node
  pub back : IsWithin place (in_of h 1)
  pub body : IsWithin place (in_of t 0)
  pub outside : IsWithin place (out_of t 0) → ⊥
  pub deep : widths.tags (in_of t 0) ≡ widths.tags (in_of h 0) + 2
  pub reads : (p : ℕ) (q : Proc) → slice_get net.procs p ≡ Some q → IsInside place p → p ≢ place.head → (c : ℕ) → Has q.ins c →
      IsWithin place c
  pub writes : (p : ℕ) (q : Proc) → slice_get net.procs p ≡ Some q → IsInside place p → p ≢ place.tail → (c : ℕ) → Has q.outs c →
      IsWithin place c
  pub others : (p : ℕ) (q : Proc) → slice_get net.procs p ≡ Some q → (IsInside place p → ⊥) → (c : ℕ) → Has q.outs c → IsWithin place c → ⊥
  pub tags : (c : ℕ) → IsWithin place c → 1 ≤ widths.words c → widths.tags (in_of h 0) + 2 ≤ widths.tags c

two_have : (cs : List ℕ) (a b : ℕ) → cs ≡ a ∷ (b ∷ []) → Has cs a × Has cs b
two_have cs a b e = (subst (λ z. Has z a) (sym e) (inl refl), subst (λ z. Has z b) (sym e) (inr (inl refl)))

three_have : (cs : List ℕ) (a b c : ℕ) → cs ≡ a ∷ (b ∷ (c ∷ [])) → Has cs a × Has cs b × Has cs c
three_have cs a b c e = (subst (λ z. Has z a) (sym e) (inl refl), subst (λ z. Has z b) (sym e) (inr (inl refl)), subst (λ z. Has z c) (sym e) (inr (inr (inl refl))))

-- a process hands on a property that every token has, on the channels that it writes and in its hand
module _ (C H : ℕ → Token → Type 0) (tree : Tree) (leaf : Leaf) (widths : Widths) (p : ℕ) (q : Proc)
    (writes : (c : ℕ) → Has q.outs c → (x : Token) → C c x) (holds : (x : Token) → H p x) where
  pub any_handed : (k : ProcKind) → FitsKind k tree widths q → HandsOn C H tree leaf widths p q k
  any_handed kinds.Source fits = λ words. writes (out_of q 0) (first_in q.outs fits.outs) _
  any_handed kinds.Sink fits = tt
  any_handed kinds.Run fits = λ x h. writes (out_of q 0) (first_in q.outs fits.outs) _
  any_handed kinds.Emit fits = λ c n x there wide h. writes c there _
  any_handed kinds.Collect fits = λ c x there h. writes (out_of q 0) (first_in q.outs fits.outs) _
  any_handed kinds.Scatter fits = record { takes = λ x h. holds x; sends = λ c k x there h. writes c there _ }
  any_handed kinds.Gather fits = record { takes = λ c x there h. holds x; sends = λ xs full all. writes (out_of q 0) (first_in q.outs fits.outs) _ }
  any_handed kinds.Split fits = record { takes = λ x h. holds x; sends = λ c k x there h. writes c there _ }
  any_handed kinds.FoldGather fits = record { takes = λ c x there h. holds x; sends = λ xs full all. writes (out_of q 0) (first_in q.outs fits.outs) _ }
  any_handed kinds.Join fits = λ x y h k. writes (out_of q 0) (first_in q.outs fits.outs) _
  any_handed kinds.Head fits =
      let out = first_in q.outs fits.outs in
      record { round = λ x h. writes (out_of q 0) out _; enters = λ n x wide h. writes (out_of q 0) out _ }
  any_handed kinds.Tail fits =
      let outs = three_have q.outs _ _ _ fits.outs in
      record {
        holds = λ x outcome h e. holds _;
        again = λ x wide h e. writes (out_of q 1) outs.1 _;
        leaves = λ x h. writes (out_of q 0) outs.0 _;
        credits = writes (out_of q 2) outs.2 _;
      }

module _ (tree : Tree) (leaf : Leaf) (net : Net) (typed : IsTyped tree net) (place : LoopPlace) (h t : Proc)
    (closed : IsClosed net typed.widths place h t) where
  abbrev depth : ℕ
  depth = typed.widths.tags (in_of h 0)

  abbrev turns : ℕ
  turns = turns_of tree h.node

  -- a token within the loop is in one of its turns, with a number below `next`
  abbrev InChannel : (next : ℕ) → ℕ → Token → Type 0
  InChannel next c x = IsWithin place c → InTurn depth next turns x.tags

  abbrev InHand : (next : ℕ) → ℕ → Token → Type 0
  InHand next p x = IsInside place p → InTurn depth next turns x.tags

  -- a process inside, neither the loop's head nor its tail, hands the property on
  module _ (next p : ℕ) (q : Proc) (stands : slice_get net.procs p ≡ Some q) (inside : IsInside place p) (not_head : p ≢ place.head)
      (not_tail : p ≢ place.tail) where
    reads : (c : ℕ) → Has q.ins c → IsWithin place c
    reads = closed.reads p q stands inside not_head

    deep : (c n : ℕ) → IsWithin place c → typed.widths.words c ≡ n → 1 ≤ n → depth + 2 ≤ typed.widths.tags c
    deep c n within is some = closed.tags c within (omega (arith, is, some))

    inner_handed : (k : ProcKind) → FitsKind k tree typed.widths q → HandsOn (InChannel next) (InHand next) tree leaf typed.widths p q k
    unfolding paired_by
    inner_handed kinds.Source fits = λ words within. turn_none depth next turns
    inner_handed kinds.Sink fits = tt
    inner_handed kinds.Run fits = λ x turn within. turn (reads (in_of q 0) (first_in q.ins fits.ins))
    inner_handed kinds.Emit fits = λ c n x there wide turn within.
        let here = reads (in_of q 0) (first_in q.ins fits.ins) in
        let enough = deep (in_of q 0) _ here fits.takes (some_ins tree typed.lawful typed.widths q q.node fits.node) in
        let long = wide.tags in
        turn_more depth next turns n x.tags (omega (arith, enough, long)) (turn here)
    inner_handed kinds.Collect fits = λ c x there turn within. turn_later depth next turns x.tags (turn (reads c there))
    inner_handed kinds.Scatter fits = record {
      takes = λ x turn held. turn (reads (in_of q 0) (first_in q.ins fits.ins));
      sends = λ c k x there turn within. turn inside;
    }
    inner_handed kinds.Gather fits = record {
      takes = λ c x there turn held. turn (reads c there);
      sends = λ xs full all within. all_first (InHand next p) credit xs full all inside;
    }
    inner_handed kinds.Split fits = record {
      takes = λ x turn held. turn (reads (in_of q 0) (first_in q.ins fits.ins));
      sends = λ c k x there turn within. turn inside;
    }
    inner_handed kinds.FoldGather fits = record {
      takes = λ c x there turn held. turn (reads c there);
      sends = λ xs full all within. all_first (InHand next p) credit xs full all inside;
    }
    inner_handed kinds.Join fits = λ x y turn other within. turn (reads (in_of q 0) (two_have q.ins _ _ fits.ins).0)
    inner_handed kinds.Head fits =
        let ins = three_have q.ins _ _ _ fits.ins in
        record {
          round = λ x turn within. turn (reads (in_of q 1) ins.1);
          enters = λ n x wide turn within.
              let here = reads (in_of q 0) ins.0 in
              let enough = deep (in_of q 0) _ here fits.takes (some_ins tree typed.lawful typed.widths q q.node fits.node) in
              let long = wide.tags in
              turn_more depth next turns 1 (n ∷ x.tags) (omega (arith, enough, long))
              (turn_more depth next turns n x.tags (omega (arith, enough, long)) (turn here));
        }
    inner_handed kinds.Tail fits =
        let here = reads (in_of q 0) (first_in q.ins fits.ins) in
        record {
          holds = λ x outcome turn e held. turn here;
          again = λ x wide turn e within.
              let out = closed.writes p q stands inside not_tail (out_of q 0) (three_have q.outs _ _ _ fits.outs).0 in
              let enough = deep (out_of q 0) _ out fits.gives (some_outs tree typed.lawful typed.widths q q.node fits.node) in
              let long = wide.tags in
              let more = fits.takes.tags in
              turn_next depth next turns x.tags (omega (arith, enough, long, more)) (turn here);
          leaves = λ x turn within. turn_later depth next turns (later_tags x.tags) (turn_later depth next turns x.tags (turn inside));
          credits = λ within. turn_none depth next turns;
        }

  -- the loop's tail hands the property on
  tail_handed : (next : ℕ) → HandsOn (InChannel next) (InHand next) tree leaf typed.widths place.tail t kinds.Tail
  tail_handed next = record {
    holds = λ x outcome turn e held. turn closed.body;
    again = λ x wide turn e within.
        let laps : Laps = record { body = λ o. o; test = test_of tree leaf t.node; spent = spent_of tree t.node; turns = turns_of tree t.node } in
        let more : newest_tag x < turns_of tree t.node = (after_again laps (newest_tag x) x.body e).0 in
        turn_again depth next turns x.tags (wide.tags ∙ closed.deep) (subst (λ n. newest_tag x < turns_of tree n) closed.node more) (turn closed.body);
    leaves = λ x turn within. absurd (closed.outside within);
    credits = λ within. turn_none depth next turns;
  }

  tail_kind_handed : (next p : ℕ) (q : Proc) (k : ProcKind) → p ≡ place.tail → q ≡ t → k ≡ kinds.Tail → HandsOn (InChannel next)
      (InHand next) tree leaf typed.widths p q k
  tail_kind_handed next p q k at is kind =
      subst (λ x. HandsOn (InChannel next) (InHand next) tree leaf typed.widths x q k) (sym at)
      (subst (λ (x : Proc). HandsOn (InChannel next) (InHand next) tree leaf typed.widths place.tail x k) (sym is)
      (subst (HandsOn (InChannel next) (InHand next) tree leaf typed.widths place.tail t) (sym kind) (tail_handed next)))

  -- any process but the loop's head hands the property on
  handed : (next p : ℕ) (q : Proc) → slice_get net.procs p ≡ Some q → p ≢ place.head → HandsOn (InChannel next)
      (InHand next) tree leaf typed.widths p q q.kind
  handed next p q stands not_head =
      elim (cases_eq p place.tail) [
        | inl at ↦
            let same : Some q ≡ Some t = sym stands ∙ ap (slice_get net.procs) at ∙ closed.tail in
            let is : q ≡ t = cc in
            tail_kind_handed next p q q.kind at is (ap (λ (x : Proc). x.kind) is ∙ closed.leaves)
        | inr not_tail ↦ elim (cases_in place.proc_from place.proc_to p) [
          | inl inside ↦ inner_handed next p q stands inside not_head not_tail q.kind (typed.processes p q stands)
          | inr outside ↦
              any_handed (InChannel next) (InHand next) tree leaf typed.widths p q
              (λ c there x within. absurd (closed.others p q stands outside c there within))
              (λ x inside. absurd (outside inside)) q.kind (typed.processes p q stands)
        ]
      ]

  -- each token within the loop is in one of its turns, with a number that the head has given out
  abbrev pub IsTurned : State → Type 0
  IsTurned s = AllAre (InChannel (s.own place.head).number) (InHand (s.own place.head).number) s

  -- before anything has fired there are credits alone
  pub first_turned : (items : List (List ℤ)) → IsTurned (first_state net items)
  first_turned items = are_at_first _ _ net items (λ c some within. turn_none depth _ turns)

  grown : (s : State) (next more : ℕ) → next ≤ more → AllAre (InChannel next) (InHand next) s → AllAre (InChannel more) (InHand more) s
  grown s next more less all = record {
    sent = λ c. all_so (InChannel next c) (InChannel more c) (λ x turn within. turn_grows depth next more turns x.tags less (turn within)) (s.tokens c) (all.sent c);
    held = λ p. all_so (InHand next p) (InHand more p) (λ x turn inside. turn_grows depth next more turns x.tags less (turn inside)) (s.own p).held (all.held p);
  }

  module _ (s : State) (fit : IsFitting tree net typed.widths s) (all : IsTurned s) where
    abbrev own : LocalState
    own = s.own place.head

    head_fits : head.Fits tree typed.widths h
    head_fits = subst (λ k. FitsKind k tree typed.widths h) closed.enters (typed.processes place.head h closed.head)

    round_turned : has_first (s.tokens (in_of h 1)) ≡ true → IsTurned (head.sent_round s h)
    unfolding head.sent_round push pop
    round_turned full = are_put (pop s (in_of h 1)) (are_taken s all (in_of h 1)) (out_of h 0) (front s (in_of h 1)) (λ within. is_front s all (in_of h 1) full closed.back)

    enters_counted : ((head.let_in s place.head own h).own place.head).number ≡ own.number + 1
    unfolding head.let_in push pop set_own
    enters_counted = ap (λ (o : LocalState). o.number) (at-same s.own place.head (counted own))

    enters_turned : has_first (s.tokens (in_of h 0)) ≡ true → IsTurned (head.let_in s place.head own h)
    unfolding head.let_in turns_of
    enters_turned full =
        let a = in_of h 0 in
        let b = in_of h 2 in
        let x : Token = front s a in
        let more : ℕ = own.number + 1 in
        let limits = (loop_parts tree typed.lawful h.node head_fits.node head_fits.form).limits in
        let some : 1 ≤ turns = subst (λ n. 1 ≤ n) (sym (ap most_turns head_fits.form)) limits.some_turns in
        let wide = front_fits s fit a full in
        let larger : AllAre (InChannel more) (InHand more) s = grown s own.number more (omega arith) all in
        let t : State = push (pop (pop s a) b) (out_of h 0) (admitted own.number x) in
        let put : AllAre (InChannel more) (InHand more) t =
        are_put (pop (pop s a) b) (are_taken (pop s a) (are_taken s larger a) b) (out_of h 0) (admitted own.number x)
        (λ within. turn_enters depth more turns own.number x.tags wide.tags (omega arith) some) in
        subst (λ n. AllAre (InChannel n) (InHand n) (set_own t place.head (counted own))) (sym enters_counted)
        (are_kept t put place.head (counted own) (larger.held place.head))

    head_turned : head.can net s h ≡ true → IsTurned (head.fire s place.head own h)
    unfolding head.can head.fire
    head_turned can =
        let back : Bool = has_first (s.tokens (in_of h 1)) in
        let new : Bool = has_first (s.tokens (in_of h 0)) in
        let credits : Bool = has_first (s.tokens (in_of h 2)) in
        let both = and_parts (has_room net s (out_of h 0)) (back || (new && credits)) can in
        elim (cases_Bool back) [
          | inl comes ↦ subst IsTurned (sym (cond-true back _ _ comes)) (round_turned comes)
          | inr none ↦ subst IsTurned (sym (cond-false back _ _ none)) (enters_turned (comes_in back new credits none both.1).0)
        ]

    row_turned : (k : ProcKind) → k ≡ kinds.Head → row_can k tree net s own h ≡ true →
        IsTurned (row_fire k tree leaf net s place.head own h)
    unfolding row_can row_fire
    row_turned k is can =
        subst (λ x. IsTurned (row_fire x tree leaf net s place.head own h)) (sym is)
        (head_turned (subst (λ x. row_can x tree net s own h ≡ true) is can))

    -- a firing of any process keeps it
    pub fired_turned : (p : ℕ) → can_fire tree net s p ≡ true → IsTurned (fire tree leaf net s p)
    fired_turned p can =
        elim (cases_eq p place.head) [
          | inl at ↦
              subst IsTurned (ap (λ r. fire tree leaf net s r) (sym at))
              (subst IsTurned (sym (fire_at tree net s place.head h closed.head leaf))
              (row_turned h.kind closed.enters
              (sym (ready_at tree net s place.head h closed.head) ∙ ready_from_can tree net s place.head (subst (λ r. can_fire tree net s r ≡ true) at can))))
          | inr apart ↦
              let number : ((fire tree leaf net s p).own place.head).number ≡ own.number = ap (λ (o : LocalState). o.number) (other_own tree leaf net s p place.head (λ e. apart (sym e))) in
              subst (λ n. AllAre (InChannel n) (InHand n) (fire tree leaf net s p)) (sym number)
              (fired_are (InChannel own.number) (InHand own.number) tree leaf net typed s fit all p can (λ q stands. handed own.number p q stands apart))
        ]
