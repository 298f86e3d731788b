-- A shot of which all that is looked at fits, fits, and back.
use Rattle.std.proofs.Common.{◌≡◌, ◌≢◌, ℕ, ℤ, suc, ◌<◌, ◌≤◌, Bool, true, Option, Some, None, List, [], ◌∷◌, length, map, reverse, get_or, slice_get, refl, sym, ap, ap₂, ◌∙◌, subst, arith, inl, inr}
use Rattle.std.specs.Prelude.{◌↔◌, IsTrue}
use Rattle.std.specs.List.{All, AllByRecursion}
use Rattle.std.specs.Option.{IfSome, option_to_list}
use Rattle.std.proofs.Math.ListN.{get_or-map}
use Rattle.std.proofs.lemmas.Bool.{cases_lt}
use Rattle.std.proofs.lemmas.List.{get_or_past, length-map, length-reverse, reverse-reverse}
use Rattle.std.proofs.lemmas.List.Elements.{All-from_recursion, recursion_from_All}
use Rattle.std.proofs.lemmas.Option.{slice_get-get_or}
use Rattle.p3l_base.specs.declared.outcome.Outcome.{Outcome}
use Rattle.p3l_base.specs.declared.outcome.Outcome.TheVariants.{Value, Trapped}
use Rattle.p3l_skel.specs.declared.tree.Tree.{Tree}
use Rattle.p3l_skel.specs.Tree.{HasLength, node_at}
use Rattle.p3l_firing.specs.declared.net.Chan.{Chan}
use Rattle.p3l_firing.specs.declared.net.Net.{Net}
use Rattle.p3l_firing.specs.declared.process.Proc.{Proc}
use Rattle.p3l_firing.specs.declared.process.ProcKind.{ProcKind}
use Rattle.p3l_firing.specs.declared.process.ProcKind.TheVariants as kinds
use Rattle.p3l_firing.specs.declared.token.Token.{Token}
use Rattle.p3l_firing.specs.Lists.{has_first}
use Rattle.p3l_firing.specs.Process.{in_of}
use Rattle.p3l_firing.specs.Single.{the_source}
use Rattle.p3l_firing.specs.State.{chan_at, own_at}
use Rattle.p3l_firing.specs.Typed.{FitsOwn, IsFitting}
use Rattle.p3l_firing.specs.Widths.{HasWidth}
use Rattle.p3l_firing.specs.Shot.{own_of, own_saved_at, saved_at, token_of}
use Rattle.p3l_firing.specs.declared.shot.Own.{Own}
use Rattle.p3l_firing.specs.declared.shot.SavedToken.{SavedToken}
use Rattle.p3l_firing.specs.declared.shot.Shot.{Shot}
use Rattle.p3l_net.specs.Channel.{Queue, no_queue, tokens_at}
use Rattle.p3l_net.specs.Fitting.{Fitting, HoldsFew, IsCredit, IsOfModule, LoopPlace, NamesModule}
use Rattle.p3l_net.specs.Machine.{state_of}
use Rattle.p3l_net.specs.Shot.{Fits, queues_of, restored}
use Rattle.p3l_net.proofs.Saving.{queue-there}
use Rattle.p3l_fitting.specs.Decided.{AllFits, BodyFits, IsBareCredit, IsEmptyValue, LoopFits, OwnFits, QueueFits, TokenFits}
use Rattle.p3l_fitting.specs.Survey.{linked_loops, linked_survey, linked_widths}
use Rattle.p3l_fitting.specs.Survey.{widths_of}
use Rattle.p3l_fitting.specs.declared.survey.Survey.{Survey}
use Rattle.p3l_template.specs.declared.width.Width.{Width}

-- TOKENS

body_long : (tree : Tree) (n : ℕ) (o : Outcome) → BodyFits tree n o → HasLength n o
body_long tree n (Value words) h = h
body_long tree n (Trapped trap) h = tt

body_named : (tree : Tree) (n : ℕ) (o : Outcome) → BodyFits tree n o → IsOfModule tree o
body_named tree n (Value words) h = tt
body_named tree n (Trapped trap) h = h

body_fits : (tree : Tree) (n : ℕ) (o : Outcome) → HasLength n o → IsOfModule tree o → BodyFits tree n o
body_fits tree n (Value words) long named = long
body_fits tree n (Trapped trap) long named = named

module _ (tree : Tree) (width : Width) where
  wide : (xs : List SavedToken) → AllByRecursion (TokenFits tree width) xs → AllByRecursion (HasWidth width.words width.tags) (map token_of xs)
  wide [] h = tt
  wide (x ∷ xs) h = (
    record { words = body_long tree width.words x.body h.0.1; tags = length-reverse x.tags ∙ h.0.0 },
    wide xs h.1,
  )

  named : (xs : List SavedToken) → AllByRecursion (TokenFits tree width) xs → AllByRecursion (NamesModule tree) xs
  named [] h = tt
  named (x ∷ xs) h = (body_named tree width.words x.body h.0.1, named xs h.1)

  both : (xs : List SavedToken) → AllByRecursion (HasWidth width.words width.tags) (map token_of xs) → AllByRecursion (NamesModule tree) xs →
      AllByRecursion (TokenFits tree width) xs
  both [] h m = tt
  both (x ∷ xs) h m =
      let first : HasWidth width.words width.tags (token_of x) = h.0 in (
        (sym (length-reverse x.tags) ∙ first.tags, body_fits tree width.words x.body first.words m.0),
        both xs h.1 m.1,
      )

  all_wide : (xs : List SavedToken) → All (TokenFits tree width) xs → AllByRecursion (HasWidth width.words width.tags) (map token_of xs)
  all_wide xs h = wide xs (recursion_from_All (TokenFits tree width) xs h)

  all_named : (xs : List SavedToken) → All (TokenFits tree width) xs → All (NamesModule tree) xs
  all_named xs h = All-from_recursion (NamesModule tree) xs (named xs (recursion_from_All (TokenFits tree width) xs h))

  all_both : (xs : List SavedToken) → AllByRecursion (HasWidth width.words width.tags) (map token_of xs) → All (NamesModule tree) xs →
      All (TokenFits tree width) xs
  all_both xs h m = All-from_recursion (TokenFits tree width) xs (both xs h (recursion_from_All (NamesModule tree) xs m))

value_empty : (o : Outcome) → IsEmptyValue o → o ≡ Value []
value_empty (Value words) h = ap Value h
value_empty (Trapped trap) h = absurd h

empty_value : (o : Outcome) → o ≡ Value [] → IsEmptyValue o
empty_value (Value words) e = cc
empty_value (Trapped trap) e = cc

is_credit : (x : SavedToken) → IsBareCredit x → IsCredit x
is_credit x h = ap₂ (λ tags body. record { tags = reverse tags; body = body }) h.0 (value_empty x.body h.1)

bare_credit : (x : SavedToken) → IsCredit x → IsBareCredit x
bare_credit x e = (
  sym (reverse-reverse x.tags) ∙ ap (λ (z : Token). reverse z.tags) e,
  empty_value x.body (ap (λ (z : Token). z.body) e),
)

all_turned : {A : Type 0} (P Q : A → Type 0) (xs : List A) → ((x : A) → P x → Q x) → All P xs → All Q xs
all_turned P Q xs turn h = λ k d l. turn _ (h k d l)

none_all : (P : SavedToken → Type 0) (xs : List SavedToken) → xs ≡ [] → All P xs
none_all P [] e = All-from_recursion P [] tt
none_all P (x ∷ xs) e = cc

none_mapped : (xs : List SavedToken) → map token_of xs ≡ [] → xs ≡ []
none_mapped [] e = refl
none_mapped (x ∷ xs) e = cc

some_first : (xs : List SavedToken) → has_first (map token_of xs) ≡ true → xs ≢ []
some_first [] h e = cc
some_first (x ∷ xs) h e = cc

first_some : (xs : List SavedToken) → xs ≢ [] → has_first (map token_of xs) ≡ true
first_some [] h = absurd (h refl)
first_some (x ∷ xs) h = refl

-- PROCESSES

module _ (tree : Tree) (net : Net) (row : List Width) (shot : Shot) (q : Proc) (o : Own) where
  own_keeps : (k : ProcKind) → OwnFits k tree net row shot q o → FitsOwn k tree (widths_of row) q (own_of o)
  unfolding OwnFits
  own_keeps kinds.Source h = ap (map token_of) h
  own_keeps kinds.Sink h = ap (map token_of) h
  own_keeps kinds.Run h = ap (map token_of) h
  own_keeps kinds.Emit h = ap (map token_of) h
  own_keeps kinds.Collect h = ap (map token_of) h
  own_keeps kinds.Scatter h = record { held = all_wide tree _ o.held h.0.1; number = λ e. h.1 (some_first o.held e) }
  own_keeps kinds.Gather h = record { held = all_wide tree _ o.held h.1; few = omega (arith, h.0, length-map o.held token_of) }
  own_keeps kinds.Split h = record { held = all_wide tree _ o.held h.0.1; number = λ e. h.1 (some_first o.held e) }
  own_keeps kinds.FoldGather h = record { held = all_wide tree _ o.held h.1; few = omega (arith, h.0, length-map o.held token_of) }
  own_keeps kinds.Join h = ap (map token_of) h
  own_keeps kinds.Head h = ap (map token_of) h.0
  own_keeps kinds.Tail h = all_wide tree _ o.held h.1

  own_few : (k : ProcKind) → OwnFits k tree net row shot q o → HoldsFew k net q o
  unfolding OwnFits
  own_few kinds.Source h = tt
  own_few kinds.Sink h = tt
  own_few kinds.Run h = tt
  own_few kinds.Emit h = tt
  own_few kinds.Collect h = tt
  own_few kinds.Scatter h = h.0.0
  own_few kinds.Gather h = tt
  own_few kinds.Split h = h.0.0
  own_few kinds.FoldGather h = tt
  own_few kinds.Join h = tt
  own_few kinds.Head h = tt
  own_few kinds.Tail h = h.0

  own_named : (k : ProcKind) → OwnFits k tree net row shot q o → All (NamesModule tree) o.held
  unfolding OwnFits
  own_named kinds.Source h = none_all (NamesModule tree) o.held h
  own_named kinds.Sink h = none_all (NamesModule tree) o.held h
  own_named kinds.Run h = none_all (NamesModule tree) o.held h
  own_named kinds.Emit h = none_all (NamesModule tree) o.held h
  own_named kinds.Collect h = none_all (NamesModule tree) o.held h
  own_named kinds.Scatter h = all_named tree _ o.held h.0.1
  own_named kinds.Gather h = all_named tree _ o.held h.1
  own_named kinds.Split h = all_named tree _ o.held h.0.1
  own_named kinds.FoldGather h = all_named tree _ o.held h.1
  own_named kinds.Join h = none_all (NamesModule tree) o.held h
  own_named kinds.Head h = none_all (NamesModule tree) o.held h.0
  own_named kinds.Tail h = all_named tree _ o.held h.1

  own_credits : (k : ProcKind) → k ≡ kinds.Head → OwnFits k tree net row shot q o → All IsCredit (saved_at shot (in_of q 2))
  unfolding OwnFits
  own_credits k is h =
      let own : OwnFits kinds.Head tree net row shot q o = subst (λ z. OwnFits z tree net row shot q o) is h in
      all_turned IsBareCredit IsCredit (saved_at shot (in_of q 2)) is_credit own.1

  own_fits : (k : ProcKind) → FitsOwn k tree (widths_of row) q (own_of o) → HoldsFew k net q o → All (NamesModule tree) o.held →
      (k ≡ kinds.Head → All IsCredit (saved_at shot (in_of q 2))) → OwnFits k tree net row shot q o
  unfolding OwnFits
  own_fits kinds.Source h few m credits = none_mapped o.held h
  own_fits kinds.Sink h few m credits = none_mapped o.held h
  own_fits kinds.Run h few m credits = none_mapped o.held h
  own_fits kinds.Emit h few m credits = none_mapped o.held h
  own_fits kinds.Collect h few m credits = none_mapped o.held h
  own_fits kinds.Scatter h few m credits =
      ((few, all_both tree _ o.held h.held m), λ some. h.number (first_some o.held some))
  own_fits kinds.Gather h few m credits =
      let fewer = h.few in (omega (arith, fewer, length-map o.held token_of), all_both tree _ o.held h.held m)
  own_fits kinds.Split h few m credits =
      ((few, all_both tree _ o.held h.held m), λ some. h.number (first_some o.held some))
  own_fits kinds.FoldGather h few m credits =
      let fewer = h.few in (omega (arith, fewer, length-map o.held token_of), all_both tree _ o.held h.held m)
  own_fits kinds.Join h few m credits = none_mapped o.held h
  own_fits kinds.Head h few m credits =
      (none_mapped o.held h, all_turned IsCredit IsBareCredit (saved_at shot (in_of q 2)) bare_credit (credits refl))
  own_fits kinds.Tail h few m credits = (few, all_both tree _ o.held h m)

-- CHANNELS

queues_count : (chans : List Chan) (lists : List (List SavedToken)) → length (queues_of chans lists) ≡ length chans
unfolding queues_of
queues_count [] lists = refl
queues_count (chan ∷ chans) [] = ap suc (queues_count chans [])
queues_count (chan ∷ chans) (tokens ∷ lists) = ap suc (queues_count chans lists)

tokens_there : (chans : List Chan) (lists : List (List SavedToken)) (c : ℕ) → c < length chans →
    tokens_at (queues_of chans lists) c ≡ map token_of (get_or lists c [])
tokens_there chans lists c there = ap (λ (z : Queue). z.tokens) (queue-there chans lists c there)

tokens_past : (chans : List Chan) (lists : List (List SavedToken)) (c : ℕ) → length chans ≤ c → tokens_at (queues_of chans lists) c ≡ []
tokens_past chans lists c past =
    ap (λ (z : Queue). z.tokens) (get_or_past (queues_of chans lists) c no_queue (omega (arith, past, queues_count chans lists)))

inbox_items : (n : ℕ) (inbox : Option (List ℤ)) → IfSome inbox (λ item. length item ≡ n) →
    AllByRecursion (λ item. length item ≡ n) (option_to_list inbox)
inbox_items n None h = tt
inbox_items n (Some item) h = (h, tt)

items_inbox : (n : ℕ) (inbox : Option (List ℤ)) → AllByRecursion (λ item. length item ≡ n) (option_to_list inbox) →
    IfSome inbox (λ item. length item ≡ n)
items_inbox n None h = tt
items_inbox n (Some item) h = h.0

-- ALL

module _ (tree : Tree) (net : Net) (row : List Width) (loops : List LoopPlace) (shot : Shot) where
  own_there : (p : ℕ) → own_at (map own_of shot.owns) p ≡ own_of (own_saved_at shot p)
  own_there p = get_or-map own_of shot.owns p (record { number = 0; held = [] })

  module _ (all : AllFits tree net row loops shot) where
    chan_past : (c : ℕ) → length net.chans ≤ c → saved_at shot c ≡ []
    chan_past c past = let same = all.chans in get_or_past shot.chans c [] (omega (arith, past, same))

    own_past : (p : ℕ) → length net.procs ≤ p → (own_saved_at shot p).held ≡ []
    own_past p past =
        let same = all.owns in
        ap (λ (z : Own). z.held) (get_or_past shot.owns p (record { number = 0; held = [] }) (omega (arith, past, same)))

    room : (c : ℕ) → length (tokens_at (queues_of net.chans shot.chans) c) ≤ (chan_at net c).cap
    room c = elim (cases_lt c (length net.chans)) [
      | inl there ↦
          let fits : QueueFits tree (chan_at net c) _ (saved_at shot c) = all.queues c there in
          let e = ap length (tokens_there net.chans shot.chans c there) in
          omega (arith, e, fits.0, length-map (saved_at shot c) token_of)
      | inr past ↦ let e = ap length (tokens_past net.chans shot.chans c past) in omega (arith, e)
    ]

    sent : (c : ℕ) → AllByRecursion (HasWidth ((widths_of row).words c) ((widths_of row).tags c)) (tokens_at (queues_of net.chans shot.chans) c)
    sent c = elim (cases_lt c (length net.chans)) [
      | inl there ↦
          subst (AllByRecursion (HasWidth ((widths_of row).words c) ((widths_of row).tags c)))
          (sym (tokens_there net.chans shot.chans c there)) (all_wide tree _ (saved_at shot c) (all.queues c there).1)
      | inr past ↦
          subst (AllByRecursion (HasWidth ((widths_of row).words c) ((widths_of row).tags c)))
          (sym (tokens_past net.chans shot.chans c past)) tt
    ]

    sent_named : (c : ℕ) → All (NamesModule tree) (saved_at shot c)
    sent_named c = elim (cases_lt c (length net.chans)) [
      | inl there ↦ all_named tree _ (saved_at shot c) (all.queues c there).1
      | inr past ↦ none_all (NamesModule tree) (saved_at shot c) (chan_past c past)
    ]

    held_named : (p : ℕ) → All (NamesModule tree) (own_saved_at shot p).held
    held_named p = elim (cases_lt p (length net.procs)) [
      | inl there ↦
          let q : Proc = get_or net.procs p the_source in
          own_named tree net row shot q (own_saved_at shot p) q.kind (all.procs p q (slice_get-get_or net.procs p the_source there))
      | inr past ↦ none_all (NamesModule tree) (own_saved_at shot p).held (own_past p past)
    ]

    state : IsFitting tree net (widths_of row) (state_of (restored tree net shot) [])
    unfolding restored state_of
    state = record {
      rooms = room;
      tokens = sent;
      owns = λ p q e.
          subst (FitsOwn q.kind tree (widths_of row) q) (sym (own_there p))
          (own_keeps tree net row shot q (own_saved_at shot p) q.kind (all.procs p q e));
      unsent = inbox_items (node_at tree 0).ins shot.inbox all.inbox;
    }

    pub all_fitting : Fitting tree net (widths_of row) loops shot
    unfolding LoopFits
    all_fitting = record {
      fits = record { chans = all.chans; owns = all.owns; state = state; countable = all.countable };
      credits = λ p q e is. own_credits tree net row shot q (own_saved_at shot p) q.kind is (all.procs p q e);
      sent_traps = sent_named;
      held_traps = held_named;
      held = λ p q e. own_few tree net row shot q (own_saved_at shot p) q.kind (all.procs p q e);
      turning = all.loops;
    }

  module _ (fitting : Fitting tree net (widths_of row) loops shot) where
    abbrev fits : Fits tree net (widths_of row) shot
    fits = fitting.fits

    looked_state : IsFitting tree net (widths_of row) (state_of (restored tree net shot) [])
    looked_state = fits.state

    queue : (c : ℕ) → c < length net.chans → QueueFits tree (chan_at net c) (get_or row c (record { words = 0; tags = 0 })) (saved_at shot c)
    unfolding restored state_of looked_state
    queue c there =
        let e = tokens_there net.chans shot.chans c there in
        let rooms = looked_state.rooms c in (
          omega (arith, rooms, ap length e, length-map (saved_at shot c) token_of),
          all_both tree _ (saved_at shot c)
              (subst (AllByRecursion (HasWidth ((widths_of row).words c) ((widths_of row).tags c))) e (looked_state.tokens c))
              (fitting.sent_traps c),
        )

    own : (p : ℕ) (q : Proc) → slice_get net.procs p ≡ Some q → OwnFits q.kind tree net row shot q (own_saved_at shot p)
    unfolding restored state_of looked_state
    own p q e =
        own_fits tree net row shot q (own_saved_at shot p) q.kind
        (subst (FitsOwn q.kind tree (widths_of row) q) (own_there p) (looked_state.owns p q e)) (fitting.held p q e)
        (fitting.held_traps p) (fitting.credits p q e)

    in_inbox : IfSome shot.inbox (λ item. length item ≡ (node_at tree 0).ins)
    unfolding restored state_of looked_state
    in_inbox = items_inbox (node_at tree 0).ins shot.inbox looked_state.unsent

    pub fitting_all : AllFits tree net row loops shot
    unfolding LoopFits
    fitting_all = record {
      chans = fits.chans;
      owns = fits.owns;
      countable = fits.countable;
      inbox = in_inbox;
      queues = queue;
      procs = own;
      loops = fitting.turning;
    }

-- by what a net was surveyed to have
pub fitting_is : (tree : Tree) (counts : List ℕ) (net : Net) (survey : Survey) (shot : Shot) (answer : Bool) →
    survey ≡ linked_survey tree counts → IsTrue answer ↔ AllFits tree net survey.widths survey.loops shot →
    IsTrue answer ↔ Fitting tree net (linked_widths tree counts) (linked_loops tree counts) shot
fitting_is tree counts net survey shot answer same h =
    subst (λ (z : Survey). IsTrue answer ↔ Fitting tree net (widths_of z.widths) z.loops shot) same (
      (λ so. all_fitting tree net survey.widths survey.loops shot (h.0 so)),
      (λ fitting. h.1 (fitting_all tree net survey.widths survey.loops shot fitting)),
    )
