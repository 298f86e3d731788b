-- Steps of small nets on several ranks, worked out by hand: a farm of two whose emit is told late of room, and a loop in which a
-- token comes back late.
use Rattle.std.specs.Prelude.{◌≡◌, ℕ, pos, List, [], ◌∷◌, length, map, slice_index_or, Some}
use Rattle.p3l_base.specs.declared.outcome.Outcome.TheVariants.{Value}
use Rattle.p3l_firing.specs.declared.process.ProcKind.TheVariants.{Emit, Head}
use Rattle.p3l_firing.specs.declared.token.Token.{Token}
use Rattle.p3l_firing.specs.Examples.{at_root, farm_net, farm_tree, half_leaf, loop_leaf, loop_net, loop_tree, two_items}
use Rattle.p3l_firing.specs.Fire.{fire}
use Rattle.p3l_firing.specs.Run.{run}
use Rattle.p3l_firing.specs.State.{LocalState, State, fresh}
use Rattle.p3l_firing.specs.Token.{credit, plain}
use Rattle.p3l_firing.specs.Ways.{Sees}
use Rattle.p3l_firing.specs.kinds.Emit as emit
use Rattle.p3l_firing.specs.kinds.Head as head
use Rattle.p3l_spread_laws.specs.Spread.{Spread, Fires, IsDelivered, IsQuiet, IsSound, Learns, view}
use Rattle.p3l_spread_laws.specs.Wire.{Distributed, Delivers, IsExact, IsIdle, spread_of}

-- the number of each channel in a list, and 0 of all others; and the tokens
abbrev pub counts : List ℕ → ℕ → ℕ
counts ns c = slice_index_or ns c 0

abbrev pub tokens_of : List (List Token) → ℕ → List Token
tokens_of ts c = slice_index_or ts c []

-- the numbers of tokens in channels 0 to 5
abbrev pub lengths : State → List ℕ
lengths s = map (λ c. length (s.tokens c)) (0 ∷ (1 ∷ (2 ∷ (3 ∷ (4 ∷ (5 ∷ []))))))

-- two states agree in channels 0 to 5, in processes 0 to 5, and in all else
pub record Agree (s t : State) : Type 0 where
  pub tokens : map s.tokens (0 ∷ (1 ∷ (2 ∷ (3 ∷ (4 ∷ (5 ∷ [])))))) ≡ map t.tokens (0 ∷ (1 ∷ (2 ∷ (3 ∷ (4 ∷ (5 ∷ []))))))
  pub own : map s.own (0 ∷ (1 ∷ (2 ∷ (3 ∷ (4 ∷ (5 ∷ [])))))) ≡ map t.own (0 ∷ (1 ∷ (2 ∷ (3 ∷ (4 ∷ (5 ∷ []))))))
  pub unsent : s.unsent ≡ t.unsent
  pub sent : s.sent ≡ t.sent
  pub emitted : s.emitted ≡ t.emitted

-- the second item, as a token
abbrev pub second : Token
second = plain (Value (pos 3 ∷ (pos 0 ∷ [])))

-- process 2 has counted one token, and no process holds any
abbrev pub counted_one : ℕ → LocalState
counted_one p = slice_index_or (fresh ∷ (fresh ∷ (record { number = 1; held = [] } ∷ []))) p fresh

-- THE FARM: the source sent an item, the emit dealt it to the first worker, this one ran it, and the source sent the second
abbrev pub dealt : State
dealt = record {
  tokens = tokens_of
      ((second ∷ []) ∷ ([] ∷ ([] ∷ ([] ∷ ((record { tags = 0 ∷ []; body = Value (pos 32 ∷ (pos 1 ∷ [])) } ∷ []) ∷ [])))));
  own = counted_one;
  unsent = [];
  sent = 2;
  emitted = [];
}

-- the emit is not yet told that the first worker took its item, out of channel 2
abbrev pub late_credit : Spread
late_credit = record {
  state = dealt;
  seen = λ c. length (dealt.tokens c);
  credit = counts (0 ∷ (1 ∷ (0 ∷ (1 ∷ (0 ∷ (1 ∷ []))))));
  fired = 4;
}

-- it is told
abbrev pub told_credit : Spread
told_credit = record {
  state = dealt;
  seen = λ c. length (dealt.tokens c);
  credit = counts (0 ∷ (1 ∷ (1 ∷ (1 ∷ (0 ∷ (1 ∷ []))))));
  fired = 4;
}

-- the emit deals the second item to the second worker, through channel 3
abbrev pub deals : State
deals = emit.sent_to (Some 3) dealt 2 (dealt.own 2) (at_root Emit (0 ∷ []) (2 ∷ (3 ∷ [])))

pub record FarmValues : Type 0 where
  -- the state is that of a run; both views are true; all was delivered only in the second
  pub reached : Agree (run farm_tree half_leaf farm_net two_items (0 ∷ (2 ∷ (4 ∷ (0 ∷ []))))).state dealt
  pub late_sound : IsSound farm_net late_credit
  pub told_sound : IsSound farm_net told_credit
  pub late : IsDelivered farm_net late_credit → ⊥
  pub told : IsDelivered farm_net told_credit
  pub learns : Learns farm_net late_credit told_credit
  -- the firing of the whole net deals the second item to the first worker, through channel 2
  pub table : lengths (fire farm_tree half_leaf farm_net dealt 2) ≡ 0 ∷ (0 ∷ (1 ∷ (0 ∷ (1 ∷ (0 ∷ [])))))
  -- by its rank's view the emit deals it to the second worker, and has no other way
  pub deals_to : lengths deals ≡ 0 ∷ (0 ∷ (0 ∷ (1 ∷ (1 ∷ (0 ∷ [])))))
  pub way : Sees farm_tree half_leaf farm_net (view late_credit) dealt 2 deals
  pub only : (t : State) → Sees farm_tree half_leaf farm_net (view late_credit) dealt 2 t → t ≡ deals
  -- the step takes the token of channel 0, which was seen, and spends the credit of channel 3; the new token is not yet seen
  pub step : Fires farm_tree half_leaf farm_net late_credit (record {
    state = deals;
    seen = counts (0 ∷ (0 ∷ (0 ∷ (0 ∷ (1 ∷ (0 ∷ []))))));
    credit = counts (0 ∷ (1 ∷ (0 ∷ (0 ∷ (0 ∷ (1 ∷ []))))));
    fired = 5;
  })

-- THE LOOP: the source sent an item, the head let it in, the body ran it, the tail sent it round through channel 4, and the source sent
-- the second item
abbrev pub round_token : Token
round_token = record { tags = 2 ∷ (0 ∷ []); body = Value (pos 32 ∷ (pos 1 ∷ [])) }

abbrev pub went_round : State
went_round = record {
  tokens = tokens_of
      ((second ∷ []) ∷ ([] ∷ ([] ∷ ([] ∷ ((round_token ∷ []) ∷ ((credit ∷ (credit ∷ (credit ∷ []))) ∷ []))))));
  own = counted_one;
  unsent = [];
  sent = 2;
  emitted = [];
}

-- the token that goes round has not arrived at the head
abbrev pub late_token : Spread
late_token = record {
  state = went_round;
  seen = counts (1 ∷ (0 ∷ (0 ∷ (0 ∷ (0 ∷ (3 ∷ []))))));
  credit = counts (0 ∷ (1 ∷ (1 ∷ (1 ∷ (3 ∷ (1 ∷ []))))));
  fired = 5;
}

-- it has arrived
abbrev pub seen_token : Spread
seen_token = record {
  state = went_round;
  seen = counts (1 ∷ (0 ∷ (0 ∷ (0 ∷ (1 ∷ (3 ∷ []))))));
  credit = counts (0 ∷ (1 ∷ (1 ∷ (1 ∷ (3 ∷ (1 ∷ []))))));
  fired = 5;
}

-- the head lets the second item in, and takes a credit
abbrev pub lets_in : State
lets_in = head.let_in went_round 2 (went_round.own 2) (at_root Head (0 ∷ (4 ∷ (5 ∷ []))) (2 ∷ []))

pub record LoopValues : Type 0 where
  pub reached : Agree (run (loop_tree 10) loop_leaf loop_net two_items (0 ∷ (2 ∷ (4 ∷ (3 ∷ (0 ∷ [])))))).state went_round
  pub late_sound : IsSound loop_net late_token
  pub seen_sound : IsSound loop_net seen_token
  pub late : IsDelivered loop_net late_token → ⊥
  pub delivered : IsDelivered loop_net seen_token
  pub learns : Learns loop_net late_token seen_token
  -- the firing of the whole net sends the token round that came back
  pub table : lengths (fire (loop_tree 10) loop_leaf loop_net went_round 2) ≡ 1 ∷ (0 ∷ (1 ∷ (0 ∷ (0 ∷ (3 ∷ [])))))
  -- by its rank's view the head lets the second item in, and has no other way
  pub let_in : lengths lets_in ≡ 0 ∷ (0 ∷ (1 ∷ (0 ∷ (1 ∷ (2 ∷ [])))))
  pub way : Sees (loop_tree 10) loop_leaf loop_net (view late_token) went_round 2 lets_in
  pub only : (t : State) → Sees (loop_tree 10) loop_leaf loop_net (view late_token) went_round 2 t → t ≡ lets_in
  pub step : Fires (loop_tree 10) loop_leaf loop_net late_token (record {
    state = lets_in;
    seen = counts (0 ∷ (0 ∷ (0 ∷ (0 ∷ (0 ∷ (2 ∷ []))))));
    credit = counts (0 ∷ (1 ∷ (0 ∷ (1 ∷ (3 ∷ (1 ∷ []))))));
    fired = 6;
  })
  -- so the net is not quiet
  pub runs : IsQuiet (loop_tree 10) loop_leaf loop_net late_token → ⊥

-- THE LOOP WITH ITS MESSAGES: the late token is in flight
abbrev pub late_wire : Distributed
late_wire = record {
  own = counted_one;
  unsent = [];
  sent = 2;
  emitted = [];
  fired = 5;
  ring = tokens_of ((second ∷ []) ∷ ([] ∷ ([] ∷ ([] ∷ ([] ∷ ((credit ∷ (credit ∷ (credit ∷ []))) ∷ []))))));
  flight = tokens_of ([] ∷ ([] ∷ ([] ∷ ([] ∷ ((round_token ∷ []) ∷ [])))));
  credit = counts (0 ∷ (1 ∷ (1 ∷ (1 ∷ (3 ∷ (1 ∷ []))))));
  back = counts [];
}

-- it has arrived
abbrev pub come_wire : Distributed
come_wire = record {
  own = counted_one;
  unsent = [];
  sent = 2;
  emitted = [];
  fired = 5;
  ring = went_round.tokens;
  flight = tokens_of [];
  credit = counts (0 ∷ (1 ∷ (1 ∷ (1 ∷ (3 ∷ (1 ∷ []))))));
  back = counts [];
}

pub record WireValues : Type 0 where
  pub late_exact : IsExact loop_net late_wire
  pub come_exact : IsExact loop_net come_wire
  -- the token in flight is in its channel, and is not seen
  pub there : (c : ℕ) → (spread_of late_wire).state.tokens c ≡ went_round.tokens c
  pub unseen : (spread_of late_wire).seen 4 ≡ 0
  pub comes : Delivers late_wire come_wire
  -- a net with a token in flight is not idle, even if none of its processes can fire
  pub late : IsIdle (loop_tree 10) loop_leaf loop_net late_wire → ⊥
