-- The steps of the nets that were worked out by hand.
use Rattle.std.proofs.Common.{◌≡◌, ℕ, zero, suc, ◌+◌, ◌≤◌, ◌<◌, true, inl, inr, [], ◌∷◌, ◌++◌, length, nat_lt, slice_index, Some, refl, sym, ap, ◌∙◌, arith, le_refl, append-nil}
use Rattle.p3l_ready.specs.At.{at}
use Rattle.p3l_ready.proofs.AtLemmas.{at-other}
use Rattle.p3l_skel.specs.Tree.{by_parts}
use Rattle.p3l_skel.specs.Item.{item_to}
use Rattle.p3l_firing.specs.declared.process.ProcKind.TheVariants as kinds
use Rattle.p3l_firing.specs.Examples.{at_root, farm_net, farm_tree, half_leaf, loop_leaf, loop_net, loop_tree}
use Rattle.p3l_firing.specs.Fire.{row_can, row_fire, ready_of, fire_of, is_ready, can_fire, fire}
use Rattle.p3l_firing.specs.Nodes.{turns_of, spent_of, test_of}
use Rattle.p3l_firing.specs.Run.{picked, after_picks}
use Rattle.p3l_firing.specs.State.{State, chan_at, pop, push, set_own, has_room, at_first, first_state}
use Rattle.p3l_firing.specs.Token.{credit, first_tag, later_tags, next_tag, has_trap}
use Rattle.p3l_firing.specs.Ways.{Sees, row_ways, ways_of}
use Rattle.p3l_firing.specs.kinds.Emit as emit
use Rattle.p3l_firing.specs.kinds.Head as head
use Rattle.p3l_firing.specs.kinds.Run as run
use Rattle.p3l_firing.specs.kinds.Source as source
use Rattle.p3l_firing.specs.kinds.Tail as tail
use Rattle.p3l_spread_laws.specs.Examples.{FarmValues, LoopValues, WireValues, come_wire, counts, dealt, deals, late_credit, late_token, late_wire, lets_in, round_token, second, seen_token, told_credit, went_round}
use Rattle.p3l_spread_laws.specs.Spread.{Shifts, Spread, view}
use Rattle.p3l_spread_laws.specs.Wire.{Comes, IsExact}

-- a channel in which nothing changed
kept : (d e : Spread) (c : ℕ) → e.state.tokens c ≡ d.state.tokens c → e.seen c ≡ d.seen c → e.credit c ≡ d.credit c → Shifts d e c
kept d e c tokens seen credit = record {
  taken = [];
  kept = d.state.tokens c;
  given = [];
  before = refl;
  after = tokens ∙ sym (append-nil (d.state.tokens c));
  seen = omega (arith, seen);
  credit = omega (arith, credit);
}

-- THE FARM
late_room : (c : ℕ) → late_credit.credit c + length (dealt.tokens c) ≤ (chan_at farm_net c).cap
late_room zero = le_refl 1
late_room (suc zero) = le_refl 1
late_room (suc (suc zero)) = let l : 0 ≤ 1 = omega arith in l
late_room (suc (suc (suc zero))) = le_refl 1
late_room (suc (suc (suc (suc zero)))) = le_refl 1
late_room (suc (suc (suc (suc (suc zero))))) = le_refl 1
late_room (suc (suc (suc (suc (suc (suc c)))))) = le_refl 0

told_room : (c : ℕ) → told_credit.credit c + length (dealt.tokens c) ≡ (chan_at farm_net c).cap
told_room zero = refl
told_room (suc zero) = refl
told_room (suc (suc zero)) = refl
told_room (suc (suc (suc zero))) = refl
told_room (suc (suc (suc (suc zero)))) = refl
told_room (suc (suc (suc (suc (suc zero))))) = refl
told_room (suc (suc (suc (suc (suc (suc c)))))) = refl

told_more : (c : ℕ) → late_credit.credit c ≤ told_credit.credit c
told_more zero = le_refl 0
told_more (suc zero) = le_refl 1
told_more (suc (suc zero)) = let l : 0 ≤ 1 = omega arith in l
told_more (suc (suc (suc c))) = le_refl _

after_deal : Spread
after_deal = record {
  state = deals;
  seen = counts (0 ∷ (0 ∷ (0 ∷ (0 ∷ (1 ∷ (0 ∷ []))))));
  credit = counts (0 ∷ (1 ∷ (0 ∷ (0 ∷ (0 ∷ (1 ∷ []))))));
  fired = 5;
}

deal_shifts : (c : ℕ) → Shifts late_credit after_deal c
unfolding emit.sent_to pop push set_own at after_deal
deal_shifts zero = record { taken = second ∷ []; kept = []; given = []; before = refl; after = refl; seen = refl; credit = refl }
deal_shifts (suc zero) = kept late_credit after_deal 1 refl refl refl
deal_shifts (suc (suc zero)) = kept late_credit after_deal 2 refl refl refl
deal_shifts (suc (suc (suc zero))) =
    record { taken = []; kept = []; given = record { tags = 1 ∷ []; body = second.body } ∷ []; before = refl; after = refl; seen = refl; credit = refl }
deal_shifts (suc (suc (suc (suc zero)))) = kept late_credit after_deal 4 refl refl refl
deal_shifts (suc (suc (suc (suc (suc zero))))) = kept late_credit after_deal 5 refl refl refl
deal_shifts (suc (suc (suc (suc (suc (suc c)))))) =
    let k : ℕ = suc (suc (suc (suc (suc (suc c))))) in
    kept late_credit after_deal k (at-other (pop dealt 0).tokens 3 _ k (λ e. omega (arith, e)) ∙ at-other dealt.tokens 0 [] k (λ e. omega (arith, e))) refl refl

deal_way : Sees farm_tree half_leaf farm_net (view late_credit) dealt 2 deals
unfolding Sees ways_of row_ways
deal_way = record { at = 1; below = le_refl 2; full = refl; room = refl; is = refl }

-- a worker that the emit may deal to is the second
deal_to : (at : ℕ) → at < 2 → (view late_credit).rooms (slice_index (2 ∷ (3 ∷ [])) at) ≡ true → at ≡ 1
deal_to zero l h = cc
deal_to (suc zero) l h = refl
deal_to (suc (suc at)) l h = absurd (omega arith)

deal_only : (t : State) → Sees farm_tree half_leaf farm_net (view late_credit) dealt 2 t → t ≡ deals
unfolding Sees ways_of row_ways
deal_only t w =
    w.is ∙ ap (λ k. emit.sent_to (Some (slice_index (2 ∷ (3 ∷ [])) k)) dealt 2 (dealt.own 2) (at_root kinds.Emit (0 ∷ []) (2 ∷ (3 ∷ []))))
    (deal_to w.at w.below w.room)

pub farm_values : FarmValues
unfolding at first_tag later_tags next_tag by_parts item_to turns_of spent_of test_of pop push set_own has_room at_first first_state row_can row_fire ready_of fire_of is_ready can_fire fire has_trap picked after_picks source.can source.fire run.can run.fire emit.can emit.fire emit.fewer emit.emptiest emit.sent_to after_deal
farm_values = record {
  reached = record { tokens = refl; own = refl; unsent = refl; sent = refl; emitted = refl };
  late_sound = record { seen = λ c. le_refl _; credit = late_room };
  told_sound = record { seen = λ c. le_refl _; credit = λ c. let e = told_room c in omega (arith, e) };
  late = λ d. let e : 0 ≡ 1 = d.rooms 2 in absurd (omega (arith, e));
  told = record { tokens = λ c. refl; rooms = told_room };
  learns = record {
    state = refl;
    fired = refl;
    seen = λ c. le_refl _;
    there = λ c. le_refl _;
    credit = told_more;
    room = λ c. let e = told_room c in omega (arith, e);
  };
  table = refl;
  deals_to = refl;
  way = deal_way;
  only = deal_only;
  step = record { by = 2; way = deal_way; shifts = deal_shifts; count = refl };
}

-- THE LOOP
seen_all : (c : ℕ) → seen_token.seen c ≡ length (went_round.tokens c)
seen_all zero = refl
seen_all (suc zero) = refl
seen_all (suc (suc zero)) = refl
seen_all (suc (suc (suc zero))) = refl
seen_all (suc (suc (suc (suc zero)))) = refl
seen_all (suc (suc (suc (suc (suc zero))))) = refl
seen_all (suc (suc (suc (suc (suc (suc c)))))) = refl

late_few : (c : ℕ) → late_token.seen c ≤ seen_token.seen c
late_few zero = le_refl 1
late_few (suc zero) = le_refl 0
late_few (suc (suc zero)) = le_refl 0
late_few (suc (suc (suc zero))) = le_refl 0
late_few (suc (suc (suc (suc zero)))) = let l : 0 ≤ 1 = omega arith in l
late_few (suc (suc (suc (suc (suc c))))) = le_refl _

round_room : (c : ℕ) → late_token.credit c + length (went_round.tokens c) ≡ (chan_at loop_net c).cap
round_room zero = refl
round_room (suc zero) = refl
round_room (suc (suc zero)) = refl
round_room (suc (suc (suc zero))) = refl
round_room (suc (suc (suc (suc zero)))) = refl
round_room (suc (suc (suc (suc (suc zero))))) = refl
round_room (suc (suc (suc (suc (suc (suc c)))))) = refl

after_let : Spread
after_let = record {
  state = lets_in;
  seen = counts (0 ∷ (0 ∷ (0 ∷ (0 ∷ (0 ∷ (2 ∷ []))))));
  credit = counts (0 ∷ (1 ∷ (0 ∷ (1 ∷ (3 ∷ (1 ∷ []))))));
  fired = 6;
}

let_shifts : (c : ℕ) → Shifts late_token after_let c
unfolding head.let_in pop push set_own at after_let
let_shifts zero = record { taken = second ∷ []; kept = []; given = []; before = refl; after = refl; seen = refl; credit = refl }
let_shifts (suc zero) = kept late_token after_let 1 refl refl refl
let_shifts (suc (suc zero)) =
    record { taken = []; kept = []; given = record { tags = 1 ∷ (1 ∷ []); body = second.body } ∷ []; before = refl; after = refl; seen = refl; credit = refl }
let_shifts (suc (suc (suc zero))) = kept late_token after_let 3 refl refl refl
let_shifts (suc (suc (suc (suc zero)))) = kept late_token after_let 4 refl refl refl
let_shifts (suc (suc (suc (suc (suc zero))))) =
    record { taken = credit ∷ []; kept = credit ∷ (credit ∷ []); given = []; before = refl; after = refl; seen = refl; credit = refl }
let_shifts (suc (suc (suc (suc (suc (suc c)))))) =
    let k : ℕ = suc (suc (suc (suc (suc (suc c))))) in
    kept late_token after_let k
    (at-other (pop (pop went_round 0) 5).tokens 2 _ k (λ e. omega (arith, e))
    ∙ at-other (pop went_round 0).tokens 5 (credit ∷ (credit ∷ [])) k (λ e. omega (arith, e))
    ∙ at-other went_round.tokens 0 [] k (λ e. omega (arith, e))) refl refl

let_way : Sees (loop_tree 10) loop_leaf loop_net (view late_token) went_round 2 lets_in
unfolding Sees ways_of row_ways
let_way = inr (record { room = refl; full = refl; credit = refl; is = refl })

let_only : (t : State) → Sees (loop_tree 10) loop_leaf loop_net (view late_token) went_round 2 t → t ≡ lets_in
unfolding Sees ways_of row_ways
let_only t (inl w) = let no : nat_lt 0 0 ≡ true = w.back in cc
let_only t (inr w) = w.is

pub loop_values : LoopValues
unfolding at first_tag later_tags next_tag by_parts item_to turns_of spent_of test_of pop push set_own has_room at_first first_state row_can row_fire ready_of fire_of is_ready can_fire fire has_trap picked after_picks source.can source.fire run.can run.fire head.can head.fire head.sent_round head.let_in tail.can tail.fire tail.has_number tail.by_test tail.turn_of tail.can_release tail.take_turn after_let
loop_values = record {
  reached = record { tokens = refl; own = refl; unsent = refl; sent = refl; emitted = refl };
  late_sound = record {
    seen = λ c. let l = late_few c in let e = seen_all c in omega (arith, l, e);
    credit = λ c. let e = round_room c in omega (arith, e);
  };
  seen_sound = record { seen = λ c. let e = seen_all c in omega (arith, e); credit = λ c. let e = round_room c in omega (arith, e) };
  late = λ d. let e : 0 ≡ 1 = d.tokens 4 in absurd (omega (arith, e));
  delivered = record { tokens = seen_all; rooms = round_room };
  learns = record {
    state = refl;
    fired = refl;
    seen = late_few;
    there = λ c. let e = seen_all c in omega (arith, e);
    credit = λ c. le_refl _;
    room = λ c. let e = round_room c in omega (arith, e);
  };
  table = refl;
  let_in = refl;
  way = let_way;
  only = let_only;
  step = record { by = 2; way = let_way; shifts = let_shifts; count = refl };
  runs = λ q. q.none 2 lets_in let_way;
}

-- MESSAGES
late_exact : IsExact loop_net late_wire
late_exact zero = refl
late_exact (suc zero) = refl
late_exact (suc (suc zero)) = refl
late_exact (suc (suc (suc zero))) = refl
late_exact (suc (suc (suc (suc zero)))) = refl
late_exact (suc (suc (suc (suc (suc zero))))) = refl
late_exact (suc (suc (suc (suc (suc (suc c)))))) = refl

come_exact : IsExact loop_net come_wire
come_exact zero = refl
come_exact (suc zero) = refl
come_exact (suc (suc zero)) = refl
come_exact (suc (suc (suc zero))) = refl
come_exact (suc (suc (suc (suc zero)))) = refl
come_exact (suc (suc (suc (suc (suc zero))))) = refl
come_exact (suc (suc (suc (suc (suc (suc c)))))) = refl

late_there : (c : ℕ) → late_wire.ring c ++ late_wire.flight c ≡ went_round.tokens c
late_there zero = refl
late_there (suc zero) = refl
late_there (suc (suc zero)) = refl
late_there (suc (suc (suc zero))) = refl
late_there (suc (suc (suc (suc zero)))) = refl
late_there (suc (suc (suc (suc (suc zero))))) = refl
late_there (suc (suc (suc (suc (suc (suc c)))))) = refl

comes_at : (c : ℕ) → Comes late_wire come_wire c
comes_at zero = record { came = []; told = 0; flight = refl; ring = refl; credit = refl; back = refl }
comes_at (suc zero) = record { came = []; told = 0; flight = refl; ring = refl; credit = refl; back = refl }
comes_at (suc (suc zero)) = record { came = []; told = 0; flight = refl; ring = refl; credit = refl; back = refl }
comes_at (suc (suc (suc zero))) = record { came = []; told = 0; flight = refl; ring = refl; credit = refl; back = refl }
comes_at (suc (suc (suc (suc zero)))) =
    record { came = round_token ∷ []; told = 0; flight = refl; ring = refl; credit = refl; back = refl }
comes_at (suc (suc (suc (suc (suc zero))))) = record { came = []; told = 0; flight = refl; ring = refl; credit = refl; back = refl }
comes_at (suc (suc (suc (suc (suc (suc c)))))) = record { came = []; told = 0; flight = refl; ring = refl; credit = refl; back = refl }

pub wire_values : WireValues
wire_values = record {
  late_exact = late_exact;
  come_exact = come_exact;
  there = late_there;
  unseen = refl;
  comes = record { own = refl; unsent = refl; sent = refl; emitted = refl; fired = refl; comes = comes_at };
  late = λ i. let e = i.flight 4 in cc;
}
