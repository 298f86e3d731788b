-- The saved state of a machine fits a linked net, if the machine's state has all invariants of a run of the net.
use Rattle.std.proofs.Common.{◌≡◌, ℕ, ℤ, ◌+◌, ◌-◌, ◌<◌, ◌≤◌, false, List, [], ◌∷◌, length, map, reverse, Some, slice_get, slice_index, refl, sym, ap, ◌∙◌, subst, subst₂, arith, inl, inr}
use Rattle.std.specs.List.{All, AllByRecursion}
use Rattle.std.specs.Option.{option_to_list}
use Rattle.std.proofs.Math.ListN.{get_or-map}
use Rattle.std.proofs.lemmas.Bool.{cases_lt}
use Rattle.std.proofs.lemmas.List.{get_or-reverse, get_or_past, length-map, length-reverse, reverse-reverse}
use Rattle.std.proofs.lemmas.List.Elements.{All-from_recursion}
use Rattle.p3l_base.specs.declared.outcome.Outcome.{Outcome}
use Rattle.p3l_skel.specs.Counts.{count_of}
use Rattle.p3l_skel.specs.declared.tree.Tree.{Tree}
use Rattle.p3l_skel.specs.Tree.{node_at}
use Rattle.p3l_firing.specs.declared.net.Chan.{Chan}
use Rattle.p3l_firing.specs.declared.net.Net.{Net}
use Rattle.p3l_firing.specs.declared.process.Proc.{Proc}
use Rattle.p3l_firing.specs.declared.process.ProcKind.{ProcKind}
use Rattle.p3l_firing.specs.declared.process.ProcKind.TheVariants as kinds
use Rattle.p3l_firing.specs.declared.token.Token.{Token}
use Rattle.p3l_firing.specs.NetInvariants.{HaveInWords}
use Rattle.p3l_firing.specs.Nodes.{turns_of}
use Rattle.p3l_firing.specs.Process.{Has, in_of, out_of}
use Rattle.p3l_firing.specs.State.{LocalState, State, chan_at, fresh, no_chan, own_at, with_rest}
use Rattle.p3l_firing.specs.Typed.{FitsKind, FitsOwn, IsFitting, IsTyped}
use Rattle.p3l_firing.specs.Widths.{Carries, HasWidth, Widths}
use Rattle.p3l_firing.proofs.Fitting.{all_of_one}
use Rattle.p3l_firing.proofs.Places.{all-has, first_in, has-nth}
use Rattle.p3l_template.specs.Units.{Units}
use Rattle.p3l_template.specs.Part.{IsAlike}
use Rattle.p3l_link.specs.Laws.{IsLinkable, IsOrderly, net_of}
use Rattle.p3l_link.specs.Part.{root_part}
use Rattle.p3l_link.proofs.NetInvariants.{root_sound}
use Rattle.p3l_firing.specs.declared.shot.Own.{Own as SavedOwn}
use Rattle.p3l_firing.specs.declared.shot.SavedToken.{SavedToken}
use Rattle.p3l_firing.specs.Shot.{IsCountable, own_saved_at, saved_at, saved_own, saved_token, token_of}
use Rattle.p3l_net.specs.Channel.{Queue, no_queue, tokens_at}
use Rattle.p3l_net.specs.Fitting.{FitsLoop, HoldsFew, IsCredit, IsTurning, LoopPlace, NamesModule, most_tokens}
use Rattle.p3l_net.specs.Machine.{IsShaped, IsSound, Seen, state_of}
use Rattle.p3l_net.specs.Shot.{CanRestore, Fits, restored, saved_queue, shot_of}
use Rattle.p3l_net.proofs.Saving.{saved_back, saved_fits}
use Rattle.p3l_fitting.specs.Restoring.{AgreeOn}
use Rattle.p3l_fitting.specs.Survey.{linked_loops, linked_widths}
use Rattle.p3l_resume_laws.specs.Linked.{IsBalanced}
use Rattle.p3l_resume_laws.specs.Saved.{FitsLinked, saved_state}
use Rattle.p3l_resume_laws.specs.Traps.{TrapsNameModules}
use Rattle.p3l_resume_laws.proofs.Credits.{IsCreditThere}
use Rattle.p3l_resume_laws.proofs.KeptStates.{IsKept}
use Rattle.p3l_resume_laws.proofs.LinkedPlaces.{IsRootOrderly, linked_places, linked_tails}
use Rattle.p3l_resume_laws.proofs.LoopAt.{IsLoopAt}
use Rattle.p3l_resume_laws.proofs.Owns.{HoldsOne}
use Rattle.p3l_resume_laws.proofs.Rows.{all_split}
use Rattle.p3l_resume_laws.proofs.Turning.{IsTurned}
use Rattle.p3l_resume_laws.proofs.TurnTags.{InTurn, from_oldest}

-- WIDTHS THAT AGREE

wide_there : (v w : Widths) (c : ℕ) (xs : List Token) → Carries v c (w.words c) (w.tags c) →
    AllByRecursion (HasWidth (v.words c) (v.tags c)) xs → AllByRecursion (HasWidth (w.words c) (w.tags c)) xs
wide_there v w c xs same all =
    subst (λ t. AllByRecursion (HasWidth (w.words c) t) xs) same.tags (subst (λ a. AllByRecursion (HasWidth a (v.tags c)) xs) same.words all)

tagged_there : (v w : Widths) (a c : ℕ) (xs : List Token) → Carries v c (w.words c) (w.tags c) →
    AllByRecursion (HasWidth a (v.tags c)) xs → AllByRecursion (HasWidth a (w.tags c)) xs
tagged_there v w a c xs same all = subst (λ t. AllByRecursion (HasWidth a t) xs) same.tags all

none_wide : (a t : ℕ) (xs : List Token) → length xs ≤ 0 → AllByRecursion (HasWidth a t) xs
none_wide a t [] few = tt
none_wide a t (x ∷ xs) few = absurd (omega (arith, few))

-- a process's own state fits under both widths
module _ (tree : Tree) (v w : Widths) (q : Proc) (o : LocalState) (ins : (c : ℕ) → Has q.ins c → Carries v c (w.words c) (w.tags c))
    (outs : (c : ℕ) → Has q.outs c → Carries v c (w.words c) (w.tags c)) where
  own_agrees : (k : ProcKind) → FitsKind k tree v q → FitsOwn k tree v q o → FitsOwn k tree w q o
  own_agrees kinds.Source fits h = h
  own_agrees kinds.Sink fits h = h
  own_agrees kinds.Run fits h = h
  own_agrees kinds.Emit fits h = h
  own_agrees kinds.Collect fits h = h
  own_agrees kinds.Scatter fits h = record { held = wide_there v w (in_of q 0) o.held (ins (in_of q 0) (first_in q.ins fits.ins)) h.held; number = h.number }
  own_agrees kinds.Gather fits h = record { held = tagged_there v w _ (out_of q 0) o.held (outs (out_of q 0) (first_in q.outs fits.outs)) h.held; few = h.few }
  own_agrees kinds.Split fits h = record { held = wide_there v w (in_of q 0) o.held (ins (in_of q 0) (first_in q.ins fits.ins)) h.held; number = h.number }
  own_agrees kinds.FoldGather fits h = record { held = tagged_there v w _ (out_of q 0) o.held (outs (out_of q 0) (first_in q.outs fits.outs)) h.held; few = h.few }
  own_agrees kinds.Join fits h = h
  own_agrees kinds.Head fits h = h
  own_agrees kinds.Tail fits h = wide_there v w (in_of q 0) o.held (ins (in_of q 0) (first_in q.ins fits.ins)) h

module _ (tree : Tree) (net : Net) (typed : IsTyped tree net) (w : Widths) (agree : AgreeOn (length net.chans) w typed.widths) where
  reads_there : (p : ℕ) (q : Proc) → slice_get net.procs p ≡ Some q → (c : ℕ) → Has q.ins c → c < length net.chans
  reads_there p q stands c has = all-has (λ z. z < length net.chans) q.ins (all_of_one (λ z. z < length net.chans) (λ (x : Proc). x.ins) net.procs p q stands typed.reads) c has

  writes_there : (p : ℕ) (q : Proc) → slice_get net.procs p ≡ Some q → (c : ℕ) → Has q.outs c → c < length net.chans
  writes_there p q stands c has = all-has (λ z. z < length net.chans) q.outs (all_of_one (λ z. z < length net.chans) (λ (x : Proc). x.outs) net.procs p q stands typed.writes) c has

  state_agrees : (s : State) → IsFitting tree net typed.widths s → IsFitting tree net w s
  state_agrees s fits = record {
    rooms = fits.rooms;
    tokens = λ c. elim (cases_lt c (length net.chans)) [
      | inl there ↦ wide_there typed.widths w c (s.tokens c) (agree c there) (fits.tokens c)
      | inr past ↦
          let none : chan_at net c ≡ no_chan = get_or_past net.chans c no_chan (omega (arith, past)) in
          let room = fits.rooms c in
          none_wide _ _ (s.tokens c) (omega (arith, room, ap (λ (z : Chan). z.cap) none))
    ];
    owns = λ p q stands.
        own_agrees tree typed.widths w q (s.own p) (λ c has. agree c (reads_there p q stands c has)) (λ c has. agree c (writes_there p q stands c has))
        q.kind (typed.processes p q stands) (fits.owns p q stands);
    unsent = fits.unsent;
  }

-- TOKENS AS THEY ARE SAVED

all_saved : (P : SavedToken → Type 0) (Q : Token → Type 0) → ((x : Token) → Q x → P (saved_token x)) → (xs : List Token) →
    AllByRecursion Q xs → All P (map saved_token xs)
all_saved P Q each xs all = All-from_recursion P (map saved_token xs) (go xs all)
  where
    go : (ys : List Token) → AllByRecursion Q ys → AllByRecursion P (map saved_token ys)
    go [] h = tt
    go (y ∷ ys) h = (each y h.0, go ys h.1)

credit_saved : (x y : Token) → x ≡ y → token_of (saved_token x) ≡ y
credit_saved x y e = ap (λ tags. record { tags = tags; body = x.body }) (reverse-reverse x.tags) ∙ e

from_first : (tags : List ℕ) (k : ℕ) → k < length tags → slice_index (reverse tags) k ≡ from_oldest tags k
from_first tags k inside =
    let e : length tags - 1 - k ≡ length tags - 1 - k = refl in
    get_or-reverse tags k 0 inside

turning_saved : (depth next turns : ℕ) (x : Token) → InTurn depth next turns x.tags → IsTurning depth next turns (saved_token x)
turning_saved depth next turns x turn deep =
    let long = length-reverse x.tags in
    let enough : depth + 2 ≤ length x.tags = omega (arith, deep, long) in
    let here = turn enough in
    let low = here.number in
    let some = here.some in
    let few = here.few in
    let number = from_first x.tags depth (omega (arith, enough)) in
    let lap = from_first x.tags (depth + 1) (omega (arith, enough)) in
    (omega (arith, number, low), (omega (arith, lap, some), omega (arith, lap, few)))

-- A MACHINE

module _ (m : Seen) where
  saved_there : (c : ℕ) → saved_at (shot_of m) c ≡ map saved_token (tokens_at m.queues c)
  unfolding shot_of
  saved_there c = get_or-map saved_queue m.queues c no_queue

  own_there : (p : ℕ) → own_saved_at (shot_of m) p ≡ saved_own (own_at m.owns p)
  unfolding shot_of
  own_there p = get_or-map saved_own m.owns p fresh

  module _ (units : Units) (counts : List ℕ) (cap : ℕ) (l : IsLinkable units counts cap) (named : TrapsNameModules units.tree units.leaf)
      (typed : IsTyped units.tree (net_of units counts cap))
      (agrees : (t : IsTyped units.tree (net_of units counts cap)) → AgreeOn (length (net_of units counts cap).chans) (linked_widths units.tree counts) t.widths)
      (is : m.net ≡ net_of units counts cap) (shaped : IsShaped m) (outcomes : List Outcome) (rest : List (List ℤ)) (k : IsKept units counts cap l named typed (with_rest (state_of m outcomes) rest)) where
    abbrev net : Net
    net = net_of units counts cap

    abbrev linked : Widths
    linked = linked_widths units.tree counts

    -- the same machine, for the tree and the net
    abbrev same : Seen
    same = record {
      tree = units.tree;
      net = net;
      queues = m.queues;
      owns = m.owns;
      inbox = m.inbox;
      fired = m.fired;
      sent = m.sent;
      emitted = m.emitted;
      trapped = false;
    }

    same_shaped : IsShaped same
    same_shaped = record {
      rooms = subst (λ (n : Net). map (λ (q : Queue). q.room) m.queues ≡ map (λ (c : Chan). c.cap) n.chans) is shaped.rooms;
      keeps = subst (λ (n : Net). length m.owns ≡ length n.procs) is shaped.keeps;
      numbers = shaped.numbers;
      sent = shaped.sent;
      emitted = shaped.emitted;
    }

    same_sound : IsSound same
    unfolding with_rest state_of
    same_sound = record {
      typed = typed;
      shaped = same_shaped;
      fitting = record {
        rooms = k.fitting.rooms;
        tokens = k.fitting.tokens;
        owns = k.fitting.owns;
        unsent = (all_split (λ words. length words ≡ (node_at units.tree 0).ins) (option_to_list m.inbox) rest k.fitting.unsent).0;
      };
    }

    same_shot : shot_of same ≡ shot_of m
    unfolding shot_of
    same_shot = refl

    module _ (small : IsCountable (shot_of m)) where
      shot_fits : Fits units.tree net linked (shot_of m)
      shot_fits =
          let can : CanRestore units.tree net (shot_of m) =
          subst (CanRestore units.tree net) same_shot (saved_fits same same_sound refl (subst IsCountable (sym same_shot) small)) in
          let fits = can.fits in
          record {
            chans = fits.chans;
            owns = fits.owns;
            state = state_agrees units.tree net can.typed linked (agrees can.typed) (state_of (restored units.tree net (shot_of m)) []) fits.state;
            countable = small;
          }

      -- all tokens of a channel, and all that a process holds
      sent_all : (P : SavedToken → Type 0) (Q : Token → Type 0) → ((x : Token) → Q x → P (saved_token x)) → (c : ℕ) →
          AllByRecursion Q (tokens_at m.queues c) → All P (saved_at (shot_of m) c)
      sent_all P Q each c all = subst (All P) (sym (saved_there c)) (all_saved P Q each (tokens_at m.queues c) all)

      held_all : (P : SavedToken → Type 0) (Q : Token → Type 0) → ((x : Token) → Q x → P (saved_token x)) → (p : ℕ) →
          AllByRecursion Q (own_at m.owns p).held → All P (own_saved_at (shot_of m) p).held
      held_all P Q each p all = subst (λ (o : SavedOwn). All P o.held) (sym (own_there p)) (all_saved P Q each (own_at m.owns p).held all)

      credits_saved : (p : ℕ) (q : Proc) → slice_get net.procs p ≡ Some q → q.kind ≡ kinds.Head →
          All IsCredit (saved_at (shot_of m) (in_of q 2))
      unfolding with_rest state_of
      credits_saved p q stands kind =
          let fits = subst (λ z. FitsKind z units.tree typed.widths q) kind (typed.processes p q stands) in
          sent_all IsCredit (IsCreditThere typed.widths (in_of q 2)) (λ x h. credit_saved x _ (h fits.credits.words)) (in_of q 2) (k.credits.sent (in_of q 2))

      sent_named : (c : ℕ) → All (NamesModule units.tree) (saved_at (shot_of m) c)
      unfolding with_rest state_of
      sent_named c = sent_all (NamesModule units.tree) _ (λ x h. h) c (k.traps.sent c)

      held_named : (p : ℕ) → All (NamesModule units.tree) (own_saved_at (shot_of m) p).held
      unfolding with_rest state_of
      held_named p = held_all (NamesModule units.tree) _ (λ x h. h) p (k.traps.held p)

      held_long : (p : ℕ) → length (own_saved_at (shot_of m) p).held ≡ length (own_at m.owns p).held
      held_long p = ap (λ (o : SavedOwn). length o.held) (own_there p) ∙ length-map (own_at m.owns p).held saved_token

      few_held : (p : ℕ) (q : Proc) (kind : ProcKind) → slice_get net.procs p ≡ Some q → q.kind ≡ kind → HoldsOne kind (own_at m.owns p) →
          HoldsFew kind net q (own_saved_at (shot_of m) p)
      unfolding with_rest state_of
      few_held p q kinds.Source stands is one = tt
      few_held p q kinds.Sink stands is one = tt
      few_held p q kinds.Run stands is one = tt
      few_held p q kinds.Emit stands is one = tt
      few_held p q kinds.Collect stands is one = tt
      few_held p q kinds.Scatter stands is one = let long = held_long p in omega (arith, one, long)
      few_held p q kinds.Gather stands is one = tt
      few_held p q kinds.Split stands is one = let long = held_long p in omega (arith, one, long)
      few_held p q kinds.FoldGather stands is one = tt
      few_held p q kinds.Join stands is one = tt
      few_held p q kinds.Head stands is one = tt
      few_held p q kinds.Tail stands is one =
          let long = held_long p in
          let few : length (own_at m.owns p).held ≤ (chan_at net (out_of q 2)).cap =
          linked_tails units counts cap l typed (agrees typed) p q stands is (with_rest (state_of m outcomes) rest) k.orderly.root in
          omega (arith, long, few)

      held_few : (p : ℕ) (q : Proc) → slice_get net.procs p ≡ Some q → HoldsFew q.kind net q (own_saved_at (shot_of m) p)
      unfolding with_rest state_of
      held_few p q stands = few_held p q q.kind stands refl (k.one p q stands)

      -- the numbers and tokens that each loop rests on are saved as they are
      number_there : (p : ℕ) → (own_saved_at (shot_of m) p).number ≡ (own_at m.owns p).number
      number_there p = ap (λ (o : SavedOwn). o.number) (own_there p)

      sent_long : (c : ℕ) → length (saved_at (shot_of m) c) ≡ length (tokens_at m.queues c)
      sent_long c = ap length (saved_there c) ∙ length-map (tokens_at m.queues c) saved_token

      module _ (place : LoopPlace)
          (at : IsLoopAt net units (count_of units.tree counts) cap typed (IsRootOrderly units counts cap l typed (agrees typed)) place) where
        head_there : in_of at.h 0 < length net.chans
        head_there =
            let fits = subst (λ z. FitsKind z units.tree typed.widths at.h) at.closed.enters (typed.processes place.head at.h at.closed.head) in
            reads_there units.tree net typed linked (agrees typed) place.head at.h at.closed.head (in_of at.h 0)
            (has-nth at.h.ins 0 (let long = ap length fits.ins in omega (arith, long)))

        depth_is : typed.widths.tags (in_of at.h 0) ≡ linked.tags (in_of at.h 0)
        depth_is = (agrees typed (in_of at.h 0) head_there).tags

        turned : IsTurned units.tree units.leaf net typed place at.h at.t at.closed (with_rest (state_of m outcomes) rest)
        turned = k.turned place at.h at.t at.closed

        abbrev turns : ℕ
        turns = turns_of units.tree at.h.node

        sent_turns : (c : ℕ) → place.chan_from ≤ c → c < place.chan_to →
            All (IsTurning (linked.tags (in_of at.h 0)) (own_saved_at (shot_of m) place.head).number turns) (saved_at (shot_of m) c)
        unfolding with_rest state_of
        sent_turns c above below =
            subst₂ (λ depth next. All (IsTurning depth next turns) (saved_at (shot_of m) c)) depth_is (sym (number_there place.head))
            (sent_all (IsTurning (typed.widths.tags (in_of at.h 0)) (own_at m.owns place.head).number turns) _
            (λ x turn. turning_saved (typed.widths.tags (in_of at.h 0)) (own_at m.owns place.head).number turns x (turn (record { above = above; below = below })))
            c (turned.sent c))

        held_turns : (p : ℕ) → place.proc_from ≤ p → p < place.proc_to →
            All (IsTurning (linked.tags (in_of at.h 0)) (own_saved_at (shot_of m) place.head).number turns)
            (own_saved_at (shot_of m) p).held
        unfolding with_rest state_of
        held_turns p above below =
            subst₂ (λ depth next. All (IsTurning depth next turns) (own_saved_at (shot_of m) p).held) depth_is (sym (number_there place.head))
            (held_all (IsTurning (typed.widths.tags (in_of at.h 0)) (own_at m.owns place.head).number turns) _
            (λ x turn. turning_saved (typed.widths.tags (in_of at.h 0)) (own_at m.owns place.head).number turns x (turn (record { above = above; below = below })))
            p (turned.held p))

        loop_there : FitsLoop units.tree net linked (shot_of m) place at.h
        unfolding with_rest state_of
        loop_there =
            let kept = at.kept (with_rest (state_of m outcomes) rest) k.orderly.root in
            let ordered : (own_at m.owns place.tail).number ≤ (own_at m.owns place.head).number = kept.ordered in
            let credits : length (tokens_at m.queues (in_of at.h 2)) + (own_at m.owns place.head).number ≡ most_tokens (node_at units.tree at.h.node).form + (own_at m.owns place.tail).number = kept.credits in
            let head = number_there place.head in
            let tail = number_there place.tail in
            let many = sent_long (in_of at.h 2) in
            record { ordered = omega (arith, ordered, head, tail); credits = omega (arith, credits, head, tail, many); sent = sent_turns; held = held_turns }

        loop_fits : (q : Proc) → slice_get net.procs place.head ≡ Some q → FitsLoop units.tree net linked (shot_of m) place q
        loop_fits q e =
            let same : Some at.h ≡ Some q = sym at.closed.head ∙ e in
            let is : at.h ≡ q = cc in
            subst (FitsLoop units.tree net linked (shot_of m) place) is loop_there

      loops_fit : (places : List LoopPlace) →
          AllByRecursion (IsLoopAt net units (count_of units.tree counts) cap typed (IsRootOrderly units counts cap l typed (agrees typed))) places
          → AllByRecursion (λ (place : LoopPlace). (q : Proc) → slice_get net.procs place.head ≡ Some q → FitsLoop units.tree net linked (shot_of m) place q) places
      loops_fit [] all = tt
      loops_fit (place ∷ places) all = (loop_fits place all.0, loops_fit places all.1)

      -- the saved shot fits the linked net
      pub saved_fitting : FitsLinked units.tree counts cap (shot_of m)
      saved_fitting = record {
        fits = shot_fits;
        credits = credits_saved;
        sent_traps = sent_named;
        held_traps = held_named;
        held = held_few;
        turning = All-from_recursion _ (linked_loops units.tree counts) (loops_fit (linked_loops units.tree counts) (linked_places units counts cap l typed (agrees typed)));
      }

    -- the restored state is the one that it is in
    abbrev before : State
    before = with_rest (state_of m outcomes) rest

    abbrev after : State
    after = saved_state units counts cap (shot_of m) []

    back : restored units.tree net (shot_of m) ≡ record same { fired = 0 }
    back = ap (restored units.tree net) (sym same_shot) ∙ saved_back same same_sound refl

    alike : IsAlike (root_part units counts) before (state_of (record same { fired = 0 }) [])
    unfolding with_rest state_of
    alike =
        (root_sound units counts cap l.lawful l.fit l.room).lawful.reads before (state_of (record same { fired = 0 }) [])
        (record { tokens = λ c from to. refl; own = λ p from to. refl })

    items_left : HaveInWords units.tree (state_of (record same { fired = 0 }) []).unsent
    unfolding with_rest state_of
    items_left = (all_split (λ words. length words ≡ (node_at units.tree 0).ins) (option_to_list m.inbox) rest k.orderly.items).0

    pub saved_orderly : IsOrderly units counts after
    saved_orderly =
        subst (λ (z : Seen). IsOrderly units counts (state_of z [])) (sym back)
        (record { root = alike.orderly ∙ k.orderly.root; items = items_left })

    balanced_there : m.emitted ≡ length outcomes → IsBalanced units counts before
        → (shot_of m).sent ≡ (shot_of m).emitted
        + (length ((state_of (record same { fired = 0 }) []).tokens 1)
        + (length ((root_part units counts).pending (state_of (record same { fired = 0 }) [])) + length ((state_of (record same { fired = 0 }) []).tokens 0)))
    unfolding with_rest state_of shot_of
    balanced_there counted balanced =
        let pending = ap (λ (xs : List Token). length xs) alike.pending in
        omega (arith, counted, balanced, pending)

    pub saved_balanced : m.emitted ≡ length outcomes → IsBalanced units counts before
        → (shot_of m).sent ≡ (shot_of m).emitted + (length (after.tokens 1) + (length ((root_part units counts).pending after) + length (after.tokens 0)))
    saved_balanced counted balanced =
        subst (λ (z : Seen). (shot_of m).sent ≡ (shot_of m).emitted
        + (length ((state_of z []).tokens 1) + (length ((root_part units counts).pending (state_of z [])) + length ((state_of z []).tokens 0)))) (sym back)
        (balanced_there counted balanced)
