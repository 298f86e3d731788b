-- A machine that runs a network pick by pick: its first state, each item, each pick, and its end.
use Rattle.std.proofs.Common.{◌≡◌, ◌≢◌, ℕ, ℤ, pos, suc, ◌+◌, ◌*◌, ◌<◌, ◌≤◌, Bool, true, false, List, [], ◌∷◌, ◌++◌, length, fold, replicate, Option, Some, None, IsTrue, refl, sym, ap, subst, ◌∙◌, arith, append_assoc, append-nil, length-append}
use Rattle.std.proofs.lemmas.List.{length-replicate}
use Rattle.std.specs.List.{AllByRecursion}
use Rattle.std.specs.Option.{option_to_list}
use Rattle.std.proofs.lemmas.Bool.{cond-false, cond-true, false≢true}
use Rattle.std.proofs.lemmas.List.Sums.{fold-append}
use Rattle.std.proofs.lemmas.Nat.{mod_below, mul-le}
use Rattle.p3l_base.specs.declared.outcome.Outcome.{Outcome}
use Rattle.p3l_base.specs.declared.outcome.Outcome.TheVariants.{Value, Trapped}
use Rattle.p3l_base.specs.declared.outcome.Trap.{Trap}
use Rattle.p3l_firing.specs.declared.net.Net.{Net}
use Rattle.p3l_firing.specs.declared.process.ProcKind.{ProcKind}
use Rattle.p3l_skel.specs.declared.tree.Tree.{Tree}
use Rattle.p3l_skel.specs.Item.{item, meaning, up_to_trap}
use Rattle.p3l_firing.specs.Fire.{can_fire}
use Rattle.p3l_firing.specs.Process.{kind_at}
use Rattle.p3l_net.specs.Machine.{HasEmitted, Seen, Fires, can_step, ready_list, state_of}
use Rattle.p3l_net.specs.Offered.{Follows, HasFilledInbox}
use Rattle.p3l_firing.specs.State.{with_rest}
use Rattle.p3l_firing.specs.Run.{Course, after_picks, course_from, picked}
use Rattle.p3l_firing.specs.NetInvariants.{HaveInWords}
use Rattle.p3l_firing.specs.Outcomes.{IsPrefixOf, up_to_first_trap}
use Rattle.p3l_io.specs.Change.{Change, Observation, change}
use Rattle.p3l_net.specs.Shot.{restored}
use Rattle.p3l_run.specs.declared.end.RunStats.{RunStats}
use Rattle.p3l_sched.specs.declared.picker.Way.{Way}
use Rattle.p3l_sched.specs.declared.picker.Way.TheVariants as way
use Rattle.p3l_sched.specs.declared.schedule.Schedule.{Schedule}
use Rattle.p3l_sched.specs.declared.schedule.Schedule.TheVariants as schedules
use Rattle.p3l_sched.specs.Course.{most_picks, picks_from}
use Rattle.p3l_sched.specs.Picker.{HasPlace, HasProcesses, IsPickedFrom, NamesProcesses, after_pick, begun, pick_of, ready_of}
use Rattle.p3l_stream.specs.declared.items.Ending.{Ending}
use Rattle.p3l_stream.specs.Text.{text_of}
use Rattle.p3l_trace.specs.declared.trace.TraceLine.{TraceLine}
use Rattle.p3l_trace.specs.Agreement as trace
use Rattle.p3l_trace.specs.Agreement.{AgreeFrom}
use Rattle.p3l_run.specs.Feed.{Offers, closed_so}
use Rattle.p3l_run.specs.Laws.{Laws, Runs}
use Rattle.p3l_run.specs.Network.{IsRunOn, Network, begun_with, course_of, course_under, goes_on, is_some, meaning_of, most_firings, picks_of, ready_at, size_of, stats_of, width_of}
use Rattle.p3l_run.specs.Run.{IsTraceOf, MayCome, MayFollow}
use Rattle.p3l_run.specs.Start.{IsWithin, Start, beginning, fresh, most_from, outcomes_from, saved}
use Rattle.p3l_run.specs.Steps.{HasRoom, IsAt, Stands, left_of}
use Rattle.p3l_run.specs.Sum.{sum_after, sum_of}
use Rattle.p3l_run.specs.Trap.{trap_after, trap_of}
use Rattle.p3l_run.specs.Write.{HasBegun, HasPut}
use Rattle.p3l_run.proofs.FiringSteps.{after_leaves}
use Rattle.p3l_run.proofs.TraceSteps.{agree_more, counts_fired, counts_idle, picks_more, same_line}
use Rattle.p3l_run.proofs.WriteSteps.{begun_longer, begun_more, begun_whole, text_begins, text_more}

-- items after others, each of `width` words
pub wide_append : (width : ℕ) (xs ys : List (List ℤ)) → AllByRecursion (λ (w : List ℤ). length w ≡ width) xs → AllByRecursion (λ (w : List ℤ). length w ≡ width) ys → AllByRecursion (λ (w : List ℤ). length w ≡ width) (xs ++ ys)
wide_append width [] ys all more = more
wide_append width (x ∷ xs) ys all more = (all.0, wide_append width xs ys all.1 more)

-- the last trap of outcomes, one list after another
pub trap_more : (trap : Option Trap) (first second : List Outcome) → trap ≡ trap_of first → fold trap_after trap second ≡ trap_of (first ++ second)
trap_more trap first second e = ap (λ t. fold trap_after t second) e ∙ sym (fold-append trap_after None first second)

-- and the sum of their words
pub sum_more : (sum : ℤ) (first second : List Outcome) → sum ≡ sum_of first → fold sum_after sum second ≡ sum_of (first ++ second)
sum_more sum first second e = ap (λ t. fold sum_after t second) e ∙ sym (fold-append sum_after (pos 0) first second)

-- nothing may always come
pub nothing_comes : (n : Network) (close : Option Ending) → MayCome n close []
nothing_comes n close = record { wide = tt; none = λ e is. refl }

-- the items that may follow a stream which running out of memory did not end may come
pub may_come : (n : Network) (close : Option Ending) (later : List (List ℤ)) → MayFollow n (closed_so close) later → MayCome n close later
may_come n close later may = record { wide = may.wide; none = λ e is. may.none e (ap closed_so is) }

-- as long as the stream isn't ended the inbox is filled
pub filled_after : (n : Network) (close : Option Ending) (m : Seen) → (close ≡ None → m.inbox ≢ None) → (later : List (List ℤ)) → MayCome n close later → HasFilledInbox m later
filled_after n None m filled later may = λ empty. absurd (filled refl empty)
filled_after n (Some e) m filled later may = λ empty. may.none e refl

most_first : (schedule : Schedule) (bound fired : ℕ) → fired ≡ 0 → left_of bound fired (begun schedule) ≡ most_picks schedule bound
most_first schedules.RoundRobin bound fired none = omega arith
most_first (schedules.Seeded seed) bound fired none = omega arith
most_first (schedules.Recorded picks) bound fired none = refl

place_first : (schedule : Schedule) (size : ℕ) → 0 < size → HasPlace size (begun schedule)
place_first schedules.RoundRobin size some = some
place_first (schedules.Seeded seed) size some = tt
place_first (schedules.Recorded picks) size some = tt

named_first : (schedule : Schedule) (size : ℕ) → NamesProcesses size schedule → HasProcesses size (begun schedule)
named_first schedules.RoundRobin size named = tt
named_first (schedules.Seeded seed) size named = tt
named_first (schedules.Recorded picks) size named = named

room_first : (schedule : Schedule) → HasRoom schedule (begun schedule) 0
room_first schedules.RoundRobin = omega arith
room_first (schedules.Seeded seed) = omega arith
room_first (schedules.Recorded picks) = omega arith

-- after a pick the cursor is a process
place_after : (size : ℕ) (w : Way) (p : ℕ) → 0 < size → HasPlace size (after_pick size w p)
place_after size (way.Turns cursor) p some = mod_below (p + 1) size some
place_after size (way.Draws generator) p some = tt
place_after size (way.Reads picks) p some = tt

named_after : (can : ℕ → Bool) (size : ℕ) (w : Way) (p : ℕ) → HasProcesses size w → HasProcesses size (after_pick size w p)
named_after can size (way.Turns cursor) p named = tt
named_after can size (way.Draws generator) p named = tt
named_after can size (way.Reads []) p named = tt
named_after can size (way.Reads (q ∷ picks)) p named = named.1

-- of recorded picks one less is left
room_after : (schedule : Schedule) (can : ℕ → Bool) (size : ℕ) (w : Way) (p idle : ℕ) → IsPickedFrom can size w p → HasRoom schedule w idle → HasRoom schedule (after_pick size w p) idle
room_after schedule can size (way.Turns cursor) p idle from room = room
room_after schedule can size (way.Draws generator) p idle from room = room
room_after schedule can size (way.Reads picks) p idle from room = (let one = ap length from in omega arith)

-- and one pick more may have been idle, which a turn and a draw are not
room_idle : (schedule : Schedule) (can : ℕ → Bool) (size : ℕ) (w : Way) (p idle : ℕ) → IsPickedFrom can size w p → can p ≡ false → HasRoom schedule w idle → HasRoom schedule (after_pick size w p) (idle + 1)
room_idle schedule can size (way.Turns cursor) p idle from cannot room = absurd (false≢true (sym cannot ∙ from))
room_idle schedule can size (way.Draws generator) p idle from cannot room = absurd (false≢true (sym cannot ∙ from))
room_idle schedule can size (way.Reads picks) p idle from cannot room = (let one = ap length from in omega arith)

-- the picks that are left after a firing
left_fired : (bound fired fired' : ℕ) (can : ℕ → Bool) (size : ℕ) (w : Way) (p : ℕ) → IsPickedFrom can size w p → fired' ≡ fired + 1 → fired + 1 ≤ bound → left_of bound fired w ≡ suc (left_of bound fired' (after_pick size w p))
left_fired bound fired fired' can size (way.Turns cursor) p from more low = omega arith
left_fired bound fired fired' can size (way.Draws generator) p from more low = omega arith
left_fired bound fired fired' can size (way.Reads picks) p from more low = ap length from

-- and after an idle pick
left_idle : (bound fired : ℕ) (can : ℕ → Bool) (size : ℕ) (w : Way) (p : ℕ) → IsPickedFrom can size w p → can p ≡ false → left_of bound fired w ≡ suc (left_of bound fired (after_pick size w p))
left_idle bound fired can size (way.Turns cursor) p from cannot = absurd (false≢true (sym cannot ∙ from))
left_idle bound fired can size (way.Draws generator) p from cannot = absurd (false≢true (sym cannot ∙ from))
left_idle bound fired can size (way.Reads picks) p from cannot = ap length from

-- so fewer are left
pub fewer_fired : (bound fired fired' : ℕ) (can : ℕ → Bool) (size : ℕ) (w : Way) (p : ℕ) → IsPickedFrom can size w p → fired' ≡ fired + 1 → fired + 1 ≤ bound → left_of bound fired' (after_pick size w p) < left_of bound fired w
fewer_fired bound fired fired' can size w p from more low = (let e = left_fired bound fired fired' can size w p from more low in omega arith)

pub fewer_idle : (bound fired : ℕ) (can : ℕ → Bool) (size : ℕ) (w : Way) (p : ℕ) → IsPickedFrom can size w p → can p ≡ false → left_of bound fired (after_pick size w p) < left_of bound fired w
fewer_idle bound fired can size w p from cannot = (let e = left_idle bound fired can size w p from cannot in omega arith)

-- no outcome was emitted before a run that begins with nothing fired
pub none_before : (k : ℕ) → k ≡ 0 + k
none_before k = omega arith

-- there is an outcome for each item if none is a trap
all_come : (tree : Tree) (leaf : ℕ → List ℤ → Outcome) (items : List (List ℤ)) → trap_of (meaning tree leaf items) ≡ None → length (meaning tree leaf items) ≡ length items
all_come tree leaf [] none = refl
all_come tree leaf (words ∷ items) none = by_first (all_come tree leaf items) (item tree leaf 0 words) none
  where
    by_first : (trap_of (meaning tree leaf items) ≡ None → length (meaning tree leaf items) ≡ length items) → (o : Outcome) → trap_of (up_to_trap o (meaning tree leaf items)) ≡ None →
        length (up_to_trap o (meaning tree leaf items)) ≡ suc (length items)
    by_first rest (Value result) h = ap suc (rest h)
    by_first rest (Trapped trap) h = cc

-- also where they are cut at the first trap
all_whole : (tree : Tree) (leaf : ℕ → List ℤ → Outcome) (items : List (List ℤ)) → trap_of (up_to_first_trap (meaning tree leaf items)) ≡ None → length (up_to_first_trap (meaning tree leaf items)) ≡ length items
unfolding up_to_first_trap
all_whole tree leaf [] none = refl
all_whole tree leaf (words ∷ items) none = by_first (all_whole tree leaf items) (item tree leaf 0 words) none
  where
    by_first : (trap_of (up_to_first_trap (meaning tree leaf items)) ≡ None → length (up_to_first_trap (meaning tree leaf items)) ≡ length items) → (o : Outcome) →
        trap_of (up_to_first_trap (up_to_trap o (meaning tree leaf items))) ≡ None → length (up_to_first_trap (up_to_trap o (meaning tree leaf items))) ≡ suc (length items)
    by_first rest (Value result) h = ap suc (rest h)
    by_first rest (Trapped trap) h = cc

one_before : (a b : ℕ) → suc (a + b) ≡ suc a + b
one_before a b = omega arith

-- and after outcomes that were to come
all_follow : (tree : Tree) (leaf : ℕ → List ℤ → Outcome) (ahead : List Outcome) (items : List (List ℤ)) → trap_of (up_to_first_trap (ahead ++ meaning tree leaf items)) ≡ None →
    length (up_to_first_trap (ahead ++ meaning tree leaf items)) ≡ length ahead + length items
unfolding up_to_first_trap
all_follow tree leaf [] items none = all_whole tree leaf items none ∙ none_before (length items)
all_follow tree leaf (Value words ∷ ahead) items none = ap suc (all_follow tree leaf ahead items none) ∙ one_before (length ahead) (length items)
all_follow tree leaf (Trapped trap ∷ ahead) items none = cc

-- the count of outcomes that are to come before those of the items
abbrev ahead_of : Start → ℕ
ahead_of fresh = 0
ahead_of (saved r) = length r.ahead

all_from : (start : Start) (tree : Tree) (leaf : ℕ → List ℤ → Outcome) (items : List (List ℤ)) → trap_of (outcomes_from start (meaning tree leaf items)) ≡ None →
    length (outcomes_from start (meaning tree leaf items)) ≡ ahead_of start + length items
all_from fresh tree leaf items none = all_come tree leaf items none ∙ none_before (length items)
all_from (saved r) tree leaf items none = all_follow tree leaf r.ahead items none

none_ready : (ready : List ℕ) → is_some ready ≡ false → ready ≡ []
none_ready [] e = refl
none_ready (p ∷ ps) e = cc

-- outcomes begin others, so the text that was written of them begins the text of those
pub begun_by : (whole outcomes : List Outcome) (output : Change (List ℕ)) → IsPrefixOf outcomes whole → HasPut output (text_of outcomes) → HasBegun output (text_of whole)
begun_by whole outcomes output begins put =
    let more = text_begins outcomes whole begins in
    begun_whole output (text_of outcomes) more.0 (text_of whole) put more.1

-- also where the text of the last outcome was only begun
pub begun_last : (whole outcomes : List Outcome) (handed : Option Outcome) (old mid new : Observation (List ℕ)) → IsPrefixOf (outcomes ++ option_to_list handed) whole →
    HasPut (change old mid) (text_of outcomes) → HasBegun (change mid new) (text_of (option_to_list handed)) → HasBegun (change old new) (text_of whole)
begun_last whole outcomes handed old mid new begins put begun =
    let more = text_begins (outcomes ++ option_to_list handed) whole begins in
    begun_longer (change old new) (text_of outcomes ++ text_of (option_to_list handed)) more.0 (text_of whole)
    (begun_more old mid new (text_of outcomes) (text_of (option_to_list handed)) put begun)
    (ap (λ t. t ++ more.0) (sym (text_more outcomes (option_to_list handed))) ∙ more.1)

-- the outcomes of a run begin those of the same run by more picks
emitted_first : (n : Network) (items : List (List ℤ)) (picks more whole : List ℕ) → picks ++ more ≡ whole → IsPrefixOf (course_under n items picks).state.emitted (course_under n items whole).state.emitted
unfolding after_picks
emitted_first n items picks more whole is =
    subst (λ ps. IsPrefixOf (course_under n items picks).state.emitted (course_under n items ps).state.emitted) is
    (subst (λ (c : Course). IsPrefixOf (course_under n items picks).state.emitted c.state.emitted)
    (sym (fold-append (picked n.tree n.leaf n.net) (course_from (begun_with n items)) picks more)) (after_leaves n.tree n.leaf n.net (course_under n items picks) more))

-- no run fires more often than one of more items may
pub few_fits : (start : Start) (firings count most : ℕ) → count ≤ most → most_from start firings count ≤ most_from start firings most
few_fits fresh firings count most a = mul-le firings count firings most (omega arith) a
few_fits (saved r) firings count most a =
    let waiting : ℕ = length (option_to_list r.shot.inbox) in
    let more : firings * (waiting + count) ≤ firings * (waiting + most) = mul-le firings (waiting + count) firings (waiting + most) (omega arith) (omega arith) in
    omega (arith, more)

-- a machine with which a run begins runs its network, and nothing has fired in it and nothing was emitted
pub record Begins (n : Network) (m : Seen) : Type 0 where
  pub runs : Runs n m
  pub fired : m.fired ≡ 0
  pub emitted : m.emitted ≡ 0

begins_by : (start : Start) (n : Network) → Begins n (beginning start n.tree n.net)
unfolding restored
begins_by fresh n = record { runs = record { tree = refl; net = refl }; fired = refl; emitted = refl }
begins_by (saved r) n = record { runs = record { tree = refl; net = refl }; fired = refl; emitted = refl }

-- at most one outcome is emitted by a firing
emitted_few : (outcomes : List Outcome) (handed : Option Outcome) (emitted emitted' fired fired' : ℕ) → emitted ≡ length outcomes → emitted' ≡ length (outcomes ++ option_to_list handed) →
    fired' ≡ fired + 1 → emitted ≤ fired → emitted' ≤ fired'
emitted_few outcomes None emitted emitted' fired fired' was is more few = omega (arith, length-append outcomes [])
emitted_few outcomes (Some outcome) emitted emitted' fired fired' was is more few = omega (arith, length-append outcomes (outcome ∷ []))

module _ (n : Network) (laws : Laws n) (schedule : Schedule) where
  -- a fact of the tree and the net of a machine that runs the network holds of the network's
  at_network : (m : Seen) → Runs n m → (P : Tree → Net → Type 0) → P m.tree m.net → P n.tree n.net
  at_network m runs P p = subst (λ t. P t n.net) runs.tree (subst (λ k. P m.tree k) runs.net p)

  -- a machine with which the run begins
  pub stands_first : (m : Seen) → m ≡ beginning n.start n.tree n.net → NamesProcesses (size_of n) schedule → Stands n schedule m (begun schedule) [] None [] 0 []
  unfolding after_picks AgreeFrom
  stands_first m is named =
      let begins : Begins n m = subst (Begins n) (sym is) (begins_by n.start n) in
      record {
        runs = begins.runs;
        wide = tt;
        place = place_first schedule (size_of n) laws.some;
        named = named_first schedule (size_of n) named;
        room = room_first schedule;
        few = (let none = begins.emitted in omega arith);
        counts = record { fired = begins.fired; idle = refl };
        at = λ later may. record {
          follows = subst (λ s. Follows s [] later (course_under n later [])) (sym is) (laws.starts later);
          idle_is = refl;
          goes_on = ap (λ k. picks_from n.tree n.leaf n.net k (begun schedule) (course_under n later [])) (most_first schedule (most_firings n later) m.fired begins.fired);
          agree = tt;
        };
      }

  -- an item that was offered
  module _ (m m' : Seen) (w : Way) (given : List (List ℤ)) (close close' : Option Ending) (outcomes : List Outcome) (idle : ℕ) (walked : List TraceLine) (s : Stands n schedule m w given close outcomes idle walked)
      (kept : (e : Ending) → close ≡ Some e → close' ≡ Some e) where
    stands_same : Offers m m' [] → Stands n schedule m' w (given ++ []) close' outcomes idle walked
    stands_same same =
        subst (λ k. Stands n schedule k w (given ++ []) close' outcomes idle walked) (sym same)
        (subst (λ g. Stands n schedule m w g close' outcomes idle walked) (sym (append-nil given)) (record {
          runs = s.runs;
          wide = s.wide;
          place = s.place;
          named = s.named;
          room = s.room;
          few = s.few;
          counts = s.counts;
          at = λ later may. s.at later (record { wide = may.wide; none = λ e is. may.none e (kept e is) });
        }))

    stands_offered : (item : List ℤ) → m.inbox ≡ None → m' ≡ record m { inbox = Some item } → length item ≡ width_of n → close ≡ None → Stands n schedule m' w (given ++ item ∷ []) close' outcomes idle walked
    stands_offered item empty is one not_ended =
        subst (λ k. Stands n schedule k w (given ++ item ∷ []) close' outcomes idle walked) (sym is) (record {
          runs = record { tree = s.runs.tree; net = s.runs.net };
          wide = wide_append (width_of n) given (item ∷ []) s.wide (one, tt);
          place = s.place;
          named = s.named;
          room = s.room;
          few = s.few;
          counts = record { fired = s.counts.fired; idle = s.counts.idle };
          at = λ later may.
              let was = s.at (item ∷ later) (record { wide = (one, may.wide); none = λ e closed. absurd (none_open e (sym not_ended ∙ closed)) }) in
              subst (λ i. IsAt n schedule (record m { inbox = Some item }) w i later outcomes idle walked) (sym (append_assoc given (item ∷ []) later)) (record {
                follows = laws.offered m outcomes item later (course_under n (given ++ item ∷ later) (trace.picks_of walked)) was.follows empty;
                idle_is = was.idle_is;
                goes_on = was.goes_on;
                agree = was.agree;
              });
        })
      where
        none_open : (e : Ending) → ◌≡◌ {A = Option Ending} None (Some e) → ⊥
        none_open e h = cc

    pub stands_fed : (more : List (List ℤ)) → Offers m m' more → AllByRecursion (λ (words : List ℤ). length words ≡ width_of n) more → (more ≢ [] → close ≡ None) → Stands n schedule m' w (given ++ more) close' outcomes idle walked
    stands_fed [] offers wide request = stands_same offers
    stands_fed (item ∷ []) offers wide request = stands_offered item offers.0 offers.1 wide.0 (request (λ e. cc))
    stands_fed (item ∷ other ∷ more) offers wide request = absurd (let none = offers.2 in cc)

  -- the machine stands so
  module _ (m : Seen) (w : Way) (given : List (List ℤ)) (close : Option Ending) (outcomes : List Outcome) (idle : ℕ) (walked : List TraceLine) (s : Stands n schedule m w given close outcomes idle walked) where
    abbrev picks : List ℕ
    picks = trace.picks_of walked

    abbrev course : List (List ℤ) → Course
    course later = course_under n (given ++ later) picks

    all_wide : (later : List (List ℤ)) → MayCome n close later → HaveInWords n.tree (given ++ later)
    all_wide later may = wide_append (width_of n) given later s.wide may.wide

    emitted_is : (later : List (List ℤ)) → MayCome n close later → outcomes ≡ (course later).state.emitted
    unfolding with_rest state_of
    emitted_is later may = ap (λ x. x.emitted) (s.at later may).follows.state

    sent_is : (later : List (List ℤ)) → MayCome n close later → m.sent ≡ (course later).state.sent
    unfolding with_rest state_of
    sent_is later may = ap (λ x. x.sent) (s.at later may).follows.state

    bare : (P : List (List ℤ) → Type 0) → P (given ++ []) → P given
    bare P p = subst P (append-nil given) p

    pub few_fired : m.fired ≤ most_firings n given
    few_fired =
        let may = nothing_comes n close in
        bare (λ i. m.fired ≤ most_firings n i)
        (subst (λ k. k ≤ most_firings n (given ++ [])) (sym (s.at [] may).follows.fired) (laws.fired_most (given ++ []) (all_wide [] may) picks))

    pub begins_given : (later : List (List ℤ)) → MayCome n close later → IsPrefixOf outcomes (meaning_of n (given ++ later))
    begins_given later may = subst (λ o. IsPrefixOf o (meaning_of n (given ++ later))) (sym (emitted_is later may)) (laws.begins (given ++ later) (all_wide later may) picks)

    pub begins_all : IsPrefixOf outcomes (meaning_of n given)
    begins_all = bare (λ i. IsPrefixOf outcomes (meaning_of n i)) (begins_given [] (nothing_comes n close))

    -- and what the network emits under the schedule
    pub begins_emitted : (later : List (List ℤ)) → MayCome n close later → IsPrefixOf outcomes (course_of n schedule (given ++ later)).state.emitted
    unfolding course_of
    begins_emitted later may =
        subst (λ o. IsPrefixOf o (course_of n schedule (given ++ later)).state.emitted) (sym (emitted_is later may))
        (emitted_first n (given ++ later) picks _ (picks_of n schedule (given ++ later)) (s.at later may).goes_on)

    module _ (filled : (later : List (List ℤ)) → MayCome n close later → HasFilledInbox m later) where
      pub ready_same : (later : List (List ℤ)) → MayCome n close later → ready_at n (course later) ≡ ready_list m
      ready_same later may =
          at_network m s.runs (λ t k. ready_of (can_fire t k (course later).state) (length k.procs) ≡ ready_list m) (laws.readies m outcomes later (course later) (s.at later may).follows (filled later may))

      pick_same : (later : List (List ℤ)) → MayCome n close later → pick_of (can_fire n.tree n.net (course later).state) (size_of n) w ≡ pick_of (can_step m) (length m.net.procs) w
      pick_same later may =
          at_network m s.runs (λ t k. pick_of (can_fire t k (course later).state) (length k.procs) w ≡ pick_of (can_step m) (length m.net.procs) w) (laws.picks m outcomes later (course later) w (s.at later may).follows (filled later may))

      can_same : (later : List (List ℤ)) → MayCome n close later → (p : ℕ) → can_fire n.tree n.net (course later).state p ≡ can_step m p
      can_same later may p = at_network m s.runs (λ t k. can_fire t k (course later).state p ≡ can_step m p) (laws.can_fires m outcomes later (course later) p (s.at later may).follows (filled later may))

      -- a pick that was made
      module _ (p : ℕ) (said : Option ProcKind) (is : pick_of (can_step m) (length m.net.procs) w ≡ Some p) (some : ready_list m ≢ []) where
        pub picked_so : IsPickedFrom (can_step m) (size_of n) w p
        picked_so = at_network m s.runs (λ t k. IsPickedFrom (can_step m) (length k.procs) w p) (laws.picked_from (can_step m) (length m.net.procs) w p is)

        abbrev after_it : Way
        after_it = after_pick (size_of n) w p

        -- the trace with its line
        abbrev line : TraceLine
        line = record { pick = p; kind = said }

        abbrev more : List TraceLine
        more = walked ++ line ∷ []

        one_more : (later : List (List ℤ)) → course_under n (given ++ later) (trace.picks_of more) ≡ picked n.tree n.leaf n.net (course later) p
        one_more later = ap (course_under n (given ++ later)) (picks_more walked line) ∙ laws.one_more _ picks p

        agree_on : (there : p < length m.net.procs) → said ≡ trace.said_if (can_step m p) m.net p → (later : List (List ℤ)) → MayCome n close later → trace.AllAgree n.tree n.leaf n.net (begun_with n (given ++ later)) more
        agree_on there is_said later may =
            agree_more n.tree n.leaf n.net _ walked line (s.at later may).agree
            (same_line (can_step m p) (can_fire n.tree n.net (course later).state p) m.net n.net line (sym (can_same later may p)) s.runs.net (record { there = there; said = is_said }))

        on : (later : List (List ℤ)) → MayCome n close later → (left left' : ℕ) → left ≡ suc left' → picks ++ picks_from n.tree n.leaf n.net left w (course later) ≡ picks_of n schedule (given ++ later) →
            trace.picks_of more ++ picks_from n.tree n.leaf n.net left' after_it (course_under n (given ++ later) (trace.picks_of more)) ≡ picks_of n schedule (given ++ later)
        on later may left left' one whole =
            let rest : List ℕ = picks_from n.tree n.leaf n.net left' after_it (course_under n (given ++ later) (trace.picks_of more)) in
            let some_there : ready_at n (course later) ≢ [] = λ none. some (sym (ready_same later may) ∙ none) in
            let taken : picks_from n.tree n.leaf n.net left w (course later) ≡ p ∷ rest =
            ap (λ k. picks_from n.tree n.leaf n.net k w (course later)) one
            ∙ laws.next left' w (course later) p some_there (pick_same later may ∙ is)
            ∙ ap (λ c. p ∷ picks_from n.tree n.leaf n.net left' after_it c) (sym (one_more later)) in
            ap (λ l. l ++ rest) (picks_more walked line) ∙ append_assoc picks (p ∷ []) rest ∙ ap (λ l. picks ++ l) (sym taken) ∙ whole

        -- its process fires
        module _ (new : Seen) (handed : Option Outcome) (can : IsTrue (can_step m p)) (fires : Fires n.leaf m new p handed) where
          led : (later : List (List ℤ)) → MayCome n close later → Follows new (outcomes ++ option_to_list handed) later (course_under n (given ++ later) (trace.picks_of more))
          led later may =
              subst (λ c. Follows new (outcomes ++ option_to_list handed) later c) (sym (one_more later))
              (at_network m s.runs (λ t k. Follows new (outcomes ++ option_to_list handed) later (picked t n.leaf k (course later) p)) (laws.fires m new outcomes later (course later) p handed (s.at later may).follows (filled later may) can fires))

          idle_stays : (later : List (List ℤ)) → MayCome n close later → (course_under n (given ++ later) (trace.picks_of more)).idle ≡ idle
          unfolding picked
          idle_stays later may =
              let here : can_fire n.tree n.net (course later).state p ≡ true = can_same later may p ∙ can in
              ap (λ c. c.idle) (one_more later) ∙ ap (λ (c : Course). c.idle) (cond-true _ _ _ here) ∙ (s.at later may).idle_is

          -- there was a firing left
          pub firing_left : (later : List (List ℤ)) → MayCome n close later → m.fired + 1 ≤ most_firings n (given ++ later)
          firing_left later may =
              subst (λ k. k ≤ most_firings n (given ++ later)) (sym (led later may).fired ∙ fires.fired) (laws.fired_most (given ++ later) (all_wide later may) (trace.picks_of more))

          pub firing_left_given : m.fired + 1 ≤ most_firings n given
          firing_left_given = bare (λ i. m.fired + 1 ≤ most_firings n i) (firing_left [] (nothing_comes n close))

          -- the outcomes that were emitted begin the meaning
          pub led_begins : IsPrefixOf (outcomes ++ option_to_list handed) (meaning_of n given)
          unfolding with_rest state_of
          led_begins =
              bare (λ i. IsPrefixOf (outcomes ++ option_to_list handed) (meaning_of n i))
              (subst (λ o. IsPrefixOf o (meaning_of n (given ++ []))) (sym (ap (λ x. x.emitted) (led [] (nothing_comes n close)).state)) (laws.begins (given ++ []) (all_wide [] (nothing_comes n close)) (trace.picks_of more)))

          pub stands_fired : p < length m.net.procs → (kind : ProcKind) → kind_at m.net p ≡ Some kind → said ≡ Some kind → Stands n schedule new after_it given close (outcomes ++ option_to_list handed) idle more
          stands_fired there kind kind_is is_said = record {
            runs = record { tree = fires.tree ∙ s.runs.tree; net = fires.net ∙ s.runs.net };
            wide = s.wide;
            place = place_after (size_of n) w p laws.some;
            named = named_after (can_step m) (size_of n) w p s.named;
            room = room_after schedule (can_step m) (size_of n) w p idle picked_so s.room;
            few =
                (let was : HasEmitted m outcomes = (s.at [] (nothing_comes n close)).follows.emitted in
                emitted_few outcomes handed m.emitted new.emitted m.fired new.fired was.count (fires.emitted outcomes was).count fires.fired s.few);
            counts = counts_fired walked line m.fired new.fired idle kind is_said fires.fired s.counts;
            at = λ later may. record {
              follows = led later may;
              agree = agree_on there (is_said ∙ sym kind_is ∙ sym (cond-true _ _ _ can)) later may;
              idle_is = idle_stays later may;
              goes_on = on later may _ _ (left_fired (most_firings n (given ++ later)) m.fired new.fired (can_step m) (size_of n) w p picked_so fires.fired (firing_left later may)) (s.at later may).goes_on;
            };
          }

        -- it can't fire
        module _ (cannot : can_step m p ≡ false) where
          pub stands_idle : p < length m.net.procs → said ≡ None → Stands n schedule m after_it given close outcomes (idle + 1) more
          unfolding picked
          stands_idle there is_said = record {
            runs = s.runs;
            wide = s.wide;
            place = place_after (size_of n) w p laws.some;
            named = named_after (can_step m) (size_of n) w p s.named;
            room = room_idle schedule (can_step m) (size_of n) w p idle picked_so cannot s.room;
            few = s.few;
            counts = counts_idle walked line m.fired idle is_said s.counts;
            at = λ later may. record {
              agree = agree_on there (is_said ∙ sym (cond-false _ _ _ cannot)) later may;
              follows =
                  subst (λ c. Follows m outcomes later c) (sym (one_more later))
                  (at_network m s.runs (λ t k. Follows m outcomes later (picked t n.leaf k (course later) p)) (laws.idles m outcomes later (course later) p (s.at later may).follows (filled later may) cannot));
              idle_is =
                  (let here : can_fire n.tree n.net (course later).state p ≡ false = can_same later may p ∙ cannot in
                  ap (λ c. c.idle) (one_more later) ∙ ap (λ (c : Course). c.idle) (cond-false _ _ _ here) ∙ ap (λ k. k + 1) (s.at later may).idle_is);
              goes_on = on later may _ _ (left_idle (most_firings n (given ++ later)) m.fired (can_step m) (size_of n) w p picked_so cannot) (s.at later may).goes_on;
            };
          }

      -- no pick is left
      module _ (over : (later : List (List ℤ)) → MayCome n close later → picks_from n.tree n.leaf n.net (left_of (most_firings n (given ++ later)) m.fired w) w (course later) ≡ []) where
        picks_whole : (later : List (List ℤ)) → MayCome n close later → picks ≡ picks_of n schedule (given ++ later)
        picks_whole later may = sym (append-nil picks) ∙ ap (λ l. picks ++ l) (sym (over later may)) ∙ (s.at later may).goes_on

        whole_course : (later : List (List ℤ)) → MayCome n close later → course later ≡ course_of n schedule (given ++ later)
        unfolding course_of
        whole_course later may = ap (course_under n (given ++ later)) (picks_whole later may)

        pub ran : (stats : RunStats) → stats ≡ record { items = m.sent; fired = m.fired; idle = idle; bound = m.sent * n.firings } → (later : List (List ℤ)) → MayCome n close later → IsRunOn n schedule (given ++ later) outcomes stats
        ran stats are later may =
            let c : Course = course later in
            let at = s.at later may in
            let same = whole_course later may in
            let numbers : record { items = m.sent; fired = m.fired; idle = idle; bound = m.sent * n.firings } ≡ stats_of n c =
            λ i. record { items = sent_is later may i; fired = at.follows.fired i; idle = sym at.idle_is i; bound = ap (λ k. k * n.firings) (sent_is later may) i } in
            let all : stats ≡ stats_of n c = are ∙ numbers in
            record {
              emitted = emitted_is later may ∙ ap (λ (x : Course). x.state.emitted) same;
              begins = begins_given later may;
              whole = λ stuck.
                  let none : ready_at n c ≡ [] = none_ready (ready_at n c) (ap (goes_on n) same ∙ stuck) in
                  emitted_is later may ∙ laws.finished (given ++ later) (all_wide later may) picks (laws.none_can c none);
              stops = λ goes. laws.stops schedule (given ++ later) (all_wide later may) goes;
              stats_are = all ∙ ap (stats_of n) same;
              bounded = subst (λ (x : RunStats). IsWithin n.start n.firings x.fired x.items) (sym all) (laws.fired_within (given ++ later) (all_wide later may) picks);
            }

        pub traced : (stats : RunStats) → stats ≡ record { items = m.sent; fired = m.fired; idle = idle; bound = m.sent * n.firings } → (later : List (List ℤ)) → MayCome n close later → IsTraceOf n schedule (given ++ later) stats walked
        traced stats are later may = record {
          picks = picks_whole later may;
          agrees = record {
            lines = (s.at later may).agree;
            counts = record { fired = ap (λ k. k.fired) are ∙ s.counts.fired; idle = ap (λ k. k.idle) are ∙ s.counts.idle };
          };
        }

        pub goes_same : (later : List (List ℤ)) → MayCome n close later → goes_on n (course_of n schedule (given ++ later)) ≡ is_some (ready_list m)
        goes_same later may = ap (goes_on n) (sym (whole_course later may)) ∙ ap is_some (ready_same later may)

        pub emitted_so : (later : List (List ℤ)) → MayCome n close later → (course_of n schedule (given ++ later)).state.emitted ≡ outcomes
        emitted_so later may = ap (λ (x : Course). x.state.emitted) (sym (whole_course later may)) ∙ sym (emitted_is later may)

        pub fired_so : (later : List (List ℤ)) → MayCome n close later → (course_of n schedule (given ++ later)).fired ≡ m.fired
        fired_so later may = ap (λ (x : Course). x.fired) (sym (whole_course later may)) ∙ sym (s.at later may).follows.fired

        pub idle_so : (later : List (List ℤ)) → MayCome n close later → (course_of n schedule (given ++ later)).idle ≡ idle
        idle_so later may = ap (λ (x : Course). x.idle) (sym (whole_course later may)) ∙ (s.at later may).idle_is

      -- no process can fire
      pub over_stuck : ready_list m ≡ [] → (later : List (List ℤ)) → MayCome n close later → picks_from n.tree n.leaf n.net (left_of (most_firings n (given ++ later)) m.fired w) w (course later) ≡ []
      over_stuck none later may = laws.stuck _ w (course later) (ready_same later may ∙ none)

      -- the picks are ended
      pub over_ended : pick_of (can_step m) (length m.net.procs) w ≡ None → (later : List (List ℤ)) → MayCome n close later → picks_from n.tree n.leaf n.net (left_of (most_firings n (given ++ later)) m.fired w) w (course later) ≡ []
      over_ended none later may = laws.ended _ w (course later) (pick_same later may ∙ none)

      finished_at : ready_list m ≡ [] → (later : List (List ℤ)) → MayCome n close later → outcomes ≡ meaning_of n (given ++ later)
      finished_at none later may =
          emitted_is later may ∙ laws.finished (given ++ later) (all_wide later may) picks (laws.none_can (course later) (ready_same later may ∙ none))

      -- without a trap this is only where the stream is ended
      pub must_end : ready_list m ≡ [] → trap_of outcomes ≡ None → close ≢ None
      must_end none untrapped not_ended =
          let word : List ℤ = replicate (width_of n) (pos 0) in
          let may : MayCome n close (word ∷ []) = record { wide = (length-replicate (width_of n) (pos 0), tt); none = λ e closed. absurd (none_open e (sym not_ended ∙ closed)) } in
          let a : outcomes ≡ meaning_of n (given ++ []) = finished_at none [] (nothing_comes n close) in
          let b : outcomes ≡ meaning_of n (given ++ word ∷ []) = finished_at none (word ∷ []) may in
          let x = all_from n.start n.tree n.leaf (given ++ []) (ap trap_of (sym a) ∙ untrapped) in
          let y = all_from n.start n.tree n.leaf (given ++ word ∷ []) (ap trap_of (sym b) ∙ untrapped) in
          let one = ap length a in
          let two = ap length b in
          absurd (omega (arith, length-append given [], length-append given (word ∷ [])))
        where
          none_open : (e : Ending) → ◌≡◌ {A = Option Ending} None (Some e) → ⊥
          none_open e h = cc
