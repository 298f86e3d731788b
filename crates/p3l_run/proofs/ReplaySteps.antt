-- A run under recorded picks that is to come to a checkpoint: its first state, what is fed, each pick, and its end.
use Rattle.std.proofs.Common.{◌≡◌, ◌≢◌, ℕ, ℤ, zero, suc, ◌+◌, ◌-◌, ◌<◌, ◌≤◌, ◌^◌, true, false, List, [], ◌∷◌, ◌++◌, ◌⊎◌, length, map, fold, take, drop, get_or, Option, Some, None, Result, Ok, Err, IsTrue, inl, inr, refl, sym, ap, subst, ◌∙◌, arith, append_assoc, append-nil, length-append}
use Rattle.std.specs.List.{All, AllByRecursion}
use Rattle.std.specs.Option.{option_to_list}
use Rattle.std.proofs.Math.Seq.{drop-cons, take-append_seam, take-suc}
use Rattle.std.proofs.Math.ListN.{get_or-map}
use Rattle.std.proofs.lemmas.Bool.{cases_lt}
use Rattle.std.proofs.lemmas.List.{drop_all, get_or_past, length-map}
use Rattle.std.proofs.lemmas.List.Elements.{All-get_or}
use Rattle.std.proofs.lemmas.List.Sums.{fold-append}
use Rattle.p3l_base.specs.declared.NoMemory.{NoMemory}
use Rattle.p3l_base.specs.declared.outcome.Outcome.{Outcome}
use Rattle.p3l_base.specs.declared.outcome.Outcome.TheVariants.{Value, Trapped}
use Rattle.p3l_base.specs.declared.outcome.Trap.{Trap}
use Rattle.p3l_firing.specs.declared.net.Chan.{Chan}
use Rattle.p3l_firing.specs.declared.net.Net.{Net}
use Rattle.p3l_firing.specs.Nodes.{Leaf}
use Rattle.p3l_firing.specs.State.{LocalState, fresh as unused_own, own_at, first_state, with_rest}
use Rattle.p3l_firing.specs.Token.{has_trap}
use Rattle.p3l_skel.specs.declared.tree.Tree.{Tree}
use Rattle.p3l_skel.specs.Item.{item, meaning, up_to_trap}
use Rattle.p3l_skel.specs.Tree.{node_at}
use Rattle.p3l_firing.specs.NetInvariants.{HaveInWords}
use Rattle.p3l_firing.specs.Run.{Course, after_picks, course_from, picked}
use Rattle.p3l_firing.specs.Shot.{IsCountable, saved_own}
use Rattle.p3l_firing.specs.declared.shot.Own.{Own as SavedOwn}
use Rattle.p3l_firing.specs.declared.shot.SavedToken.{SavedToken}
use Rattle.p3l_firing.specs.declared.shot.Shot.{Shot}
use Rattle.p3l_io.specs.Change.{HasSameFaults, Observation, change}
use Rattle.p3l_net.specs.Channel.{Queue}
use Rattle.p3l_net.specs.Machine as machine
use Rattle.p3l_net.specs.Machine.{Fires, IsShaped, can_step, state_of}
use Rattle.p3l_net.specs.Offered.{Follows, HasFilledInbox}
use Rattle.p3l_net.specs.Shot.{CanRestore, queues_of, restored, shot_of}
use Rattle.p3l_sched.specs.declared.schedule.Schedule.{Schedule}
use Rattle.p3l_stream.specs.declared.items.Ending.{Ending}
use Rattle.p3l_stream.specs.declared.items.Ending.TheVariants as ending
use Rattle.p3l_stream.specs.Given.{HasGiven}
use Rattle.p3l_stream.specs.Seen as stream
use Rattle.p3l_stream.specs.Text.{text_of}
use Rattle.p3l_run.specs.declared.checkpoint.Checkpoint.{Checkpoint}
use Rattle.p3l_run.specs.declared.checkpoint.CheckpointEnd.{CheckpointEnd}
use Rattle.p3l_run.specs.declared.checkpoint.CheckpointEnd.TheVariants as end
use Rattle.p3l_run.specs.declared.end.RunEnd.{RunEnd}
use Rattle.p3l_run.specs.declared.end.RunEnd.TheVariants as finish
use Rattle.p3l_run.specs.declared.execution.Execution.{Execution}
use Rattle.p3l_run.specs.declared.fault.RunFault.{RunFault}
use Rattle.p3l_run.specs.declared.fault.RunFault.TheVariants as fault
use Rattle.p3l_run.specs.declared.keeping.Keeping.{Keeping}
use Rattle.p3l_run.specs.declared.write.Emitted.{Emitted}
use Rattle.p3l_run.specs.Checkpoint.{Reaches}
use Rattle.p3l_run.specs.Execution.{HasFired, after_idle, started}
use Rattle.p3l_run.specs.Feed.{Feeds, FeedsInVain, Gives, IsFed, Offers, closed_so, ending_of, input_limit}
use Rattle.p3l_run.specs.Laws.{Laws, Runs}
use Rattle.p3l_run.specs.Network.{Network, begun_with, course_under, network, width_of}
use Rattle.p3l_run.specs.Requested as requested
use Rattle.p3l_run.specs.Requested.{IsRequestedBy, requested_for, sent_before_last}
use Rattle.p3l_run.specs.Replay.{AreAsked, Comes, FillsOn, Halts, IsFilled, IsReady, Opens, Replay, Replays, Saves, cut_of, replay_of}
use Rattle.p3l_run.specs.Run.{MayEnd, end_of}
use Rattle.p3l_run.specs.Start.{Start, item_number, outcomes_from, state_from}
use Rattle.p3l_run.specs.Streams.{Streams, streams}
use Rattle.p3l_run.specs.Trap.{trap_after, trap_of}
use Rattle.p3l_run.specs.Write.{HasBegun, HasPut, WriteCause}
use Rattle.p3l_run.proofs.FeedSteps.{gives_first}
use Rattle.p3l_run.proofs.WriteSteps.{begun_more, begun_whole, cause_on, put_more, put_nothing, text_more}

-- the picks in front of the last one
picks_front : (picks : List ℕ) (p : ℕ) → take (length (picks ++ p ∷ []) - 1) (picks ++ p ∷ []) ≡ picks
picks_front picks p =
    let size : length (picks ++ p ∷ []) - 1 ≡ length picks = omega (arith, length-append picks (p ∷ [])) in
    ap (λ k. take k (picks ++ p ∷ [])) size ∙ take-append_seam picks (p ∷ [])

-- items were requested before some picks if one item waits for the last of them, unless the stream has ended
pub request_last : (n : Network) (items : List (List ℤ)) (picks : List ℕ) (p given : ℕ) (close : Option Ending) → given ≡ (course_under n items picks).state.sent + requested.one_waits close → IsRequestedBy n items (picks ++ p ∷ []) given close
request_last n items picks p given close is = by picks (is ∙ ap (λ ps. (course_under n items ps).state.sent + requested.one_waits close) (sym (picks_front picks p)))
  where
    by : (ps : List ℕ) → given ≡ sent_before_last n items (ps ++ p ∷ []) + requested.one_waits close → IsRequestedBy n items (ps ++ p ∷ []) given close
    by [] so = so
    by (q ∷ ps) so = so

no_last : (front : List ℕ) (p : ℕ) → ◌≡◌ {A = List ℕ} [] (front ++ p ∷ []) → ⊥
no_last [] p h = cc
no_last (q ∷ front) p h = cc

-- picks in front of the same last one
same_front : (xs ys : List ℕ) (p q : ℕ) → xs ++ p ∷ [] ≡ ys ++ q ∷ [] → xs ≡ ys
same_front [] [] p q h = refl
same_front [] (y ∷ ys) p q h = absurd (no_last ys q (let z : [] ≡ ys ++ q ∷ [] = cc in z))
same_front (x ∷ xs) [] p q h = absurd (no_last xs p (let z : [] ≡ xs ++ p ∷ [] = cc in z))
same_front (x ∷ xs) (y ∷ ys) p q h =
    let first : x ≡ y = cc in
    let rest : xs ≡ ys = same_front xs ys p q cc in
    cc

-- items after others, each of `width` words
wide_append : (width : ℕ) (xs ys : List (List ℤ)) → AllByRecursion (λ (w : List ℤ). length w ≡ width) xs → AllByRecursion (λ (w : List ℤ). length w ≡ width) ys → AllByRecursion (λ (w : List ℤ). length w ≡ width) (xs ++ ys)
wide_append width [] ys all more = more
wide_append width (x ∷ xs) ys all more = (all.0, wide_append width xs ys all.1 more)

-- the last trap of outcomes, one list after another
trap_more : (trap : Option Trap) (first second : List Outcome) → trap ≡ trap_of first → fold trap_after trap second ≡ trap_of (first ++ second)
trap_more trap first second e = ap (λ t. fold trap_after t second) e ∙ sym (fold-append trap_after None first second)

-- among outcomes is a trap exactly where there is a last one
trapped_after : (trap : Option Trap) (outcomes : List Outcome) → fold trap_after trap outcomes ≡ None → (trap ≡ None) × (has_trap outcomes ≡ false)
unfolding has_trap
trapped_after trap [] none = (none, refl)
trapped_after trap (Value words ∷ outcomes) none = trapped_after trap outcomes none
trapped_after trap (Trapped other ∷ outcomes) none = absurd (let z = (trapped_after (Some other) outcomes none).0 in cc)

pub no_trap : (outcomes : List Outcome) → trap_of outcomes ≡ None → has_trap outcomes ≡ false
no_trap outcomes none = (trapped_after None outcomes none).1

some_after : (trap : Option Trap) (t : Trap) (outcomes : List Outcome) → fold trap_after trap outcomes ≡ Some t → (has_trap outcomes ≡ true) ⊎ (trap ≡ Some t)
unfolding has_trap
some_after trap t [] some = inr some
some_after trap t (Value words ∷ outcomes) some = some_after trap t outcomes some
some_after trap t (Trapped other ∷ outcomes) some = inl refl

pub some_trap : (outcomes : List Outcome) (t : Trap) → trap_of outcomes ≡ Some t → has_trap outcomes ≡ true
some_trap outcomes t some = by (some_after None t outcomes some)
  where
    by : (has_trap outcomes ≡ true) ⊎ (◌≡◌ {A = Option Trap} None (Some t)) → has_trap outcomes ≡ true
    by (inl is) = is
    by (inr is) = cc

no_end : (e : Ending) → ◌≡◌ {A = Option Ending} None (Some e) → ⊥
no_end e h = cc

-- some way in which a stream may end
abbrev some_end : Option Ending → Ending
some_end None = ending.End
some_end (Some e) = e

may_end : (close : Option Ending) → MayEnd close (some_end close)
may_end None = tt
may_end (Some e) = refl

-- an inbox that is filled holds one item
one_waits : (inbox : Option (List ℤ)) → inbox ≢ None → length (option_to_list inbox) ≡ 1
one_waits None filled = absurd (filled refl)
one_waits (Some item) filled = refl

-- nothing was requested and nothing written
pub comes_unstarted : (r : Replay) → HasGiven (width_of r.network) (stream.started (width_of r.network) input_limit) [] [] → Comes r r.before (Err fault.NoMemory)
comes_unstarted r given = record {
  ends = record {
    stream = stream.started (width_of r.network) input_limit;
    items = [];
    closed = None;
    gives = gives_first (width_of r.network) r.before.input (stream.started (width_of r.network) input_limit) given refl;
    used = [];
    unused = r.picks;
    whole = refl;
    emits = λ later may. begun_whole (change r.before.output r.before.output) [] _ _ (put_nothing r.before.output) refl;
  };
  output = refl;
}

-- nothing was requested yet, and no pick was made
pub opens_first : (tree : Tree) (leaf : ℕ → List ℤ → Outcome) (net : Net) (firings : ℕ) (picks : List ℕ) (before : Streams) → Laws (network tree leaf net firings) → length picks < 2 ^ 63 → AllByRecursion (λ p. p < length net.procs) picks →
    HasGiven (node_at tree 0).ins (stream.started (node_at tree 0).ins input_limit) [] [] →
    (width : ℕ) → width ≡ (node_at tree 0).ins → (schedule : Schedule) (keeping : Keeping) (e : Execution) → e ≡ started tree net firings width schedule keeping → Opens (replay_of (network tree leaf net firings) picks before) picks before e
unfolding after_picks
opens_first tree leaf net firings picks before laws few named given width wide schedule keeping e is =
    subst (Opens (replay_of (network tree leaf net firings) picks before) picks before) (sym is) (subst (λ w. Opens (replay_of (network tree leaf net firings) picks before) picks before (started tree net firings w schedule keeping)) (sym wide) (record {
      replays = record {
        laws = laws;
        begins = refl;
        whole = refl;
        few = few;
        named = named;
        items = [];
        outcomes = [];
        gives = gives_first (node_at tree 0).ins before.input (stream.started (node_at tree 0).ins input_limit) given refl;
        runs = record { tree = refl; net = refl };
        wide = tt;
        follows = λ later in_words. laws.starts later;
        untrapped = λ front p is later in_words. absurd (no_last front p is);
        filled = λ front p is later in_words. absurd (no_last front p is);
        counted = omega arith;
        trap_is = refl;
        put = put_nothing before.output;
        same_faults = refl;
      };
      open_is = refl;
      asked = λ later in_words. (refl, refl);
    }))

module _ (r : Replay) where
  abbrev n : Network
  n = r.network

  -- a fact of the tree and the net of a machine that runs the network holds of the network's
  at_network : (m : machine.Seen) → Runs n m → (P : Tree → Net → Type 0) → P m.tree m.net → P n.tree n.net
  at_network m runs P p = subst (λ t. P t n.net) runs.tree (subst (λ k. P m.tree k) runs.net p)

  module _ (used unused : List ℕ) (now : Streams) (e : Execution) (d : Replays r used unused now e) where
    abbrev course : List (List ℤ) → Course
    course later = course_under n (d.items ++ later) used

    pub same_width : (node_at e.machine.tree 0).ins ≡ width_of n
    same_width = ap (λ t. (node_at t 0).ins) d.runs.tree

    pub wide : e.stream.words ≡ (node_at e.machine.tree 0).ins
    wide = d.gives.given.width_is ∙ sym same_width

    pub few_picks : e.machine.fired + e.idle < 2 ^ 63
    few_picks =
        let all : length used + length unused ≡ length r.picks = sym (length-append used unused) ∙ ap length d.whole in
        let some = d.counted in
        let few = d.few in
        omega arith

    emitted_is : (later : List (List ℤ)) → HaveInWords n.tree later → d.outcomes ≡ (course later).state.emitted
    unfolding with_rest state_of
    emitted_is later in_words = ap (λ x. x.emitted) (d.follows later in_words).state

    -- the text that was written begins the text of all that the run emits
    begun : (later : List (List ℤ)) → HaveInWords n.tree later → HasBegun (change r.before.output now.output) (text_of (course later).state.emitted)
    begun later in_words = begun_whole (change r.before.output now.output) (text_of d.outcomes) [] _ d.put (append-nil (text_of d.outcomes) ∙ ap text_of (emitted_is later in_words))

    -- memory ran out
    pub comes_early : Comes r now (Err fault.NoMemory)
    comes_early = record {
      ends = record {
        stream = e.stream;
        items = d.items;
        closed = closed_so (ending_of e.stream);
        gives = d.gives;
        used = used;
        unused = unused;
        whole = d.whole;
        emits = λ later may. begun later may.wide;
      };
      output = d.same_faults;
    }

    -- the machine was fed
    module _ (m : machine.Seen) (s : stream.Seen) (input : Observation (List ℕ)) where
      abbrev new : Execution
      new = record e { machine = m; stream = s }

      follows_fed : (more : List (List ℤ)) → HaveInWords n.tree more → Offers e.machine m more → (later : List (List ℤ)) → HaveInWords n.tree later → Follows m d.outcomes later (course_under n ((d.items ++ more) ++ later) used)
      follows_fed [] all same later in_words =
          subst (λ k. Follows k d.outcomes later (course_under n ((d.items ++ []) ++ later) used)) (sym same)
          (subst (λ g. Follows e.machine d.outcomes later (course_under n (g ++ later) used)) (sym (append-nil d.items)) (d.follows later in_words))
      follows_fed (item ∷ more) all offers later in_words =
          subst (λ o. Follows m d.outcomes later (course_under n ((d.items ++ item ∷ o) ++ later) used)) (sym offers.2)
          (subst (λ k. Follows k d.outcomes later (course_under n ((d.items ++ item ∷ []) ++ later) used)) (sym offers.1)
          (subst (λ i. Follows (record e.machine { inbox = Some item }) d.outcomes later (course_under n i used)) (sym (append_assoc d.items (item ∷ []) later))
          (d.laws.offered e.machine d.outcomes item later (course (item ∷ later)) (d.follows (item ∷ later) (all.0, in_words)) offers.0)))

      runs_fed : (more : List (List ℤ)) → Offers e.machine m more → Runs n m × (m.fired ≡ e.machine.fired)
      runs_fed [] same = (record { tree = ap (λ k. k.tree) same ∙ d.runs.tree; net = ap (λ k. k.net) same ∙ d.runs.net }, ap (λ k. k.fired) same)
      runs_fed (item ∷ more) offers = (record { tree = ap (λ k. k.tree) offers.1 ∙ d.runs.tree; net = ap (λ k. k.net) offers.1 ∙ d.runs.net }, ap (λ k. k.fired) offers.1)

      pub fed : Feeds (node_at e.machine.tree 0).ins e.machine m e.stream s (change now.input input) → Replays r used unused (streams input now.output) new × IsFilled e new
      fed feeds =
          let f : Feeds (width_of n) e.machine m e.stream s (change now.input input) = subst (λ k. Feeds k e.machine m e.stream s (change now.input input)) same_width feeds in (
            record {
              laws = d.laws;
              begins = d.begins;
              whole = d.whole;
              few = d.few;
              named = d.named;
              items = d.items ++ f.more;
              outcomes = d.outcomes;
              gives = f.gives r.before.input d.items d.gives;
              runs = (runs_fed f.more f.offers).0;
              wide = wide_append (width_of n) d.items f.more d.wide f.wide;
              follows = follows_fed f.more f.wide f.offers;
              untrapped = λ front p is later in_words.
                  subst (λ i. has_trap (course_under n i front).state.emitted ≡ false) (sym (append_assoc d.items f.more later))
                  (d.untrapped front p is (f.more ++ later) (wide_append (width_of n) f.more later f.wide in_words));
              filled = λ front p is later in_words.
                  subst (λ i. (course_under n i front).state.sent < length (d.items ++ f.more)) (sym (append_assoc d.items f.more later))
                  (let low = d.filled front p is (f.more ++ later) (wide_append (width_of n) f.more later f.wide in_words) in let size = length-append d.items f.more in omega arith);
              counted = ap (λ k. k + e.idle) (runs_fed f.more f.offers).1 ∙ d.counted;
              trap_is = d.trap_is;
              put = d.put;
              same_faults = d.same_faults;
            },
            record { filled = f.filled; empty = f.empty; same_emitted = refl },
          )

    -- memory ran out for that
    pub comes_unfed : (s : stream.Seen) (input : Observation (List ℕ)) → FeedsInVain (node_at e.machine.tree 0).ins e.stream s (change now.input input) → Comes r (streams input now.output) (Err fault.NoMemory)
    comes_unfed s input vain =
        let f : FeedsInVain (width_of n) e.stream s (change now.input input) = subst (λ k. FeedsInVain k e.stream s (change now.input input)) same_width vain in
        record {
          ends = record {
            stream = s;
            items = d.items ++ f.more;
            closed = s.closed;
            gives = f.gives r.before.input d.items d.gives;
            used = used;
            unused = unused;
            whole = d.whole;
            emits = λ later may.
                subst (λ i. HasBegun (change r.before.output now.output) (text_of (course_under n i used).state.emitted)) (sym (append_assoc d.items f.more later))
                (begun (f.more ++ later) (wide_append (width_of n) f.more later f.wide may.wide));
          };
          output = d.same_faults;
        }

    -- the items that were given are those that were sent, and the one in the inbox
    pub items_given : e.machine.sent + length (option_to_list e.machine.inbox) ≡ length d.items
    unfolding with_rest state_of first_state
    items_given =
        let c : Course = course [] in
        let sent : e.machine.sent ≡ c.state.sent = ap (λ x. x.sent) (d.follows [] tt).state in
        let waits : option_to_list e.machine.inbox ++ [] ≡ c.state.unsent = ap (λ x. x.unsent) (d.follows [] tt).state in
        let all = d.laws.counted (d.items ++ []) (wide_append (width_of n) d.items [] d.wide tt) used in
        let first : (state_from n.start n.tree n.net (d.items ++ [])).sent + length (state_from n.start n.tree n.net (d.items ++ [])).unsent ≡ 0 + length (d.items ++ []) =
        subst (λ (k : Start). (state_from k n.tree n.net (d.items ++ [])).sent + length (state_from k n.tree n.net (d.items ++ [])).unsent ≡ 0 + length (d.items ++ [])) (sym d.begins) refl in
        let same = ap length (sym (append-nil (option_to_list e.machine.inbox)) ∙ waits) in
        let plain = ap length (append-nil d.items) in
        omega arith

    pub few_sent : e.machine.sent < 2 ^ 63
    few_sent = (let all = items_given in let few = d.gives.few in omega arith)

    pub trapped_is : e.machine.trapped ≡ has_trap d.outcomes
    trapped_is = (d.follows [] tt).emitted.trap

    pub emitted_count : e.machine.emitted ≡ length d.outcomes
    emitted_count = (d.follows [] tt).emitted.count

    -- one of them waits if the inbox is filled
    pub waits_given : e.machine.inbox ≢ None → length d.items ≡ e.machine.sent + 1
    waits_given filled = sym items_given ∙ ap (λ k. e.machine.sent + k) (one_waits e.machine.inbox filled)

    -- all were sent if it is empty
    pub all_sent : e.machine.inbox ≡ None → length d.items ≡ e.machine.sent + 0
    all_sent empty = sym items_given ∙ ap (λ (o : Option (List ℤ)). e.machine.sent + length (option_to_list o)) empty

    sent_on : (later : List (List ℤ)) → HaveInWords n.tree later → e.machine.sent ≡ (course later).state.sent
    unfolding with_rest state_of
    sent_on later in_words = ap (λ x. x.sent) (d.follows later in_words).state

    -- an item was requested before a pick after these, and that is the last of all
    pub requested_before : (p : ℕ) (close : Option Ending) → length d.items ≡ e.machine.sent + requested.one_waits close → (later : List (List ℤ)) → HaveInWords n.tree later → IsRequestedBy n (d.items ++ later) (used ++ p ∷ []) (length d.items) close
    requested_before p close given later in_words = request_last n (d.items ++ later) used p (length d.items) close (given ∙ ap (λ k. k + requested.one_waits close) (sent_on later in_words))

  -- the next pick is one of a process
  pub there : (used unused : List ℕ) (p : ℕ) (now : Streams) (e : Execution) → Replays r used (p ∷ unused) now e → p < length e.machine.net.procs
  there used unused p now e d = subst (λ (k : Net). p < length k.procs) (sym d.runs.net) d.named.0

  -- a pick that is made
  module _ (used unused : List ℕ) (p : ℕ) (now : Streams) (e : Execution) (d : Replays r used (p ∷ unused) now e) (ready : IsReady e) where
    abbrev on : List (List ℤ) → Course
    on later = course_under n (d.items ++ later) used

    filled : (later : List (List ℤ)) → HasFilledInbox e.machine later
    filled later = λ none. absurd (ready.filled none)

    whole_then : (used ++ p ∷ []) ++ unused ≡ r.picks
    whole_then = append_assoc used (p ∷ []) unused ∙ d.whole

    one_more : (later : List (List ℤ)) → course_under n (d.items ++ later) (used ++ p ∷ []) ≡ picked n.tree n.leaf n.net (on later) p
    one_more later = d.laws.one_more _ used p

    -- no trap was emitted before it
    untrapped_then : (front : List ℕ) (q : ℕ) → used ++ p ∷ [] ≡ front ++ q ∷ [] → (later : List (List ℤ)) → HaveInWords n.tree later → has_trap (course_under n (d.items ++ later) front).state.emitted ≡ false
    untrapped_then front q is later in_words =
        subst (λ ps. has_trap (course_under n (d.items ++ later) ps).state.emitted ≡ false) (same_front used front p q is)
        (ap has_trap (sym (emitted_is used (p ∷ unused) now e d later in_words)) ∙ no_trap d.outcomes (sym d.trap_is ∙ ready.untrapped))

    -- and an item waited
    filled_then : (front : List ℕ) (q : ℕ) → used ++ p ∷ [] ≡ front ++ q ∷ [] → (later : List (List ℤ)) → HaveInWords n.tree later → (course_under n (d.items ++ later) front).state.sent < length d.items
    unfolding with_rest state_of
    filled_then front q is later in_words =
        subst (λ ps. (course_under n (d.items ++ later) ps).state.sent < length d.items) (same_front used front p q is)
        (let sent : e.machine.sent ≡ (on later).state.sent = ap (λ x. x.sent) (d.follows later in_words).state in
        let one = one_waits e.machine.inbox ready.filled in
        let all = items_given used (p ∷ unused) now e d in
        omega arith)

    -- and was requested before it, as the last of all
    asked_then : (close : Option Ending) → close ≡ None → (later : List (List ℤ)) → HaveInWords n.tree later → IsRequestedBy n (d.items ++ later) (used ++ p ∷ []) (length d.items) close
    asked_then close open_is later in_words =
        requested_before used (p ∷ unused) now e d p close
        (waits_given used (p ∷ unused) now e d ready.filled ∙ ap (λ (o : Option Ending). e.machine.sent + requested.one_waits o) (sym open_is)) later in_words

    -- whose process can't fire
    pub passed : can_step e.machine p ≡ false → (new : Execution) → new ≡ after_idle p e → (k : Replays r (used ++ p ∷ []) unused now new) × (ending_of new.stream ≡ None) × AreAsked k
    passed cannot new is = subst (λ (x : Execution). (k : Replays r (used ++ p ∷ []) unused now x) × (ending_of x.stream ≡ None) × AreAsked k) (sym is) (
      record {
        laws = d.laws;
        begins = d.begins;
        whole = whole_then;
        few = d.few;
        named = d.named.1;
        items = d.items;
        outcomes = d.outcomes;
        gives = d.gives;
        runs = d.runs;
        wide = d.wide;
        follows = λ later in_words.
            subst (λ c. Follows e.machine d.outcomes later c) (sym (one_more later))
            (at_network e.machine d.runs (λ t k. Follows e.machine d.outcomes later (picked t n.leaf k (on later) p)) (d.laws.idles e.machine d.outcomes later (on later) p (d.follows later in_words) (filled later) cannot));
        untrapped = untrapped_then;
        filled = filled_then;
        counted = (let count = d.counted in let size = length-append used (p ∷ []) in omega arith);
        trap_is = d.trap_is;
        put = d.put;
        same_faults = d.same_faults;
      },
      ready.open_is,
      asked_then (ending_of e.stream) ready.open_is,
    )

    -- whose process fired
    module _ (can : IsTrue (can_step e.machine p)) (leaf : Leaf) (leaf_is : n.leaf ≡ leaf) (new : Execution) (handed : Option Outcome) (fired : HasFired leaf p e new handed) where
      fires : Fires n.leaf e.machine new.machine p handed
      fires = subst (λ l. Fires l e.machine new.machine p handed) (sym leaf_is) fired.fires

      led : (later : List (List ℤ)) → HaveInWords n.tree later → Follows new.machine (d.outcomes ++ option_to_list handed) later (course_under n (d.items ++ later) (used ++ p ∷ []))
      led later in_words =
          subst (λ c. Follows new.machine (d.outcomes ++ option_to_list handed) later c) (sym (one_more later))
          (at_network e.machine d.runs (λ t k. Follows new.machine (d.outcomes ++ option_to_list handed) later (picked t n.leaf k (on later) p)) (d.laws.fires e.machine new.machine d.outcomes later (on later) p handed (d.follows later in_words) (filled later) can fires))

      led_emitted : (later : List (List ℤ)) → HaveInWords n.tree later → d.outcomes ++ option_to_list handed ≡ (course_under n (d.items ++ later) (used ++ p ∷ [])).state.emitted
      unfolding with_rest state_of
      led_emitted later in_words = ap (λ x. x.emitted) (led later in_words).state

      -- memory ran out, or writing failed, for the line of the outcome that it handed out
      pub comes_unwritten : (output : Observation (List ℕ)) (failed : RunFault) → HasBegun (change now.output output) (text_of (option_to_list handed)) → WriteCause {T = Emitted} (change now.output output) (Err failed) →
          Comes r (streams now.input output) (Err failed)
      comes_unwritten output failed begins cause = record {
        ends = record {
          stream = e.stream;
          items = d.items;
          closed = closed_so (ending_of e.stream);
          gives = d.gives;
          used = used ++ p ∷ [];
          unused = unused;
          whole = whole_then;
          emits = λ later may.
              subst (HasBegun (change r.before.output output)) (sym (text_more d.outcomes (option_to_list handed)) ∙ ap text_of (led_emitted later may.wide))
              (begun_more r.before.output now.output output (text_of d.outcomes) (text_of (option_to_list handed)) d.put begins);
        };
        output = cause_on CheckpointEnd Emitted r.before.output now.output output failed d.same_faults cause;
      }

      -- its line was written
      pub went_on : (emitted : Emitted) (output : Observation (List ℕ)) → emitted.trap ≡ fold trap_after new.emitted.trap (option_to_list handed) → HasPut (change now.output output) (text_of (option_to_list handed)) → HasSameFaults (change now.output output) →
          (k : Replays r (used ++ p ∷ []) unused (streams now.input output) (record new { emitted = emitted })) × (ending_of new.stream ≡ None) × AreAsked k
      went_on emitted output trap_is put same_faults = (
        record {
          laws = d.laws;
          begins = d.begins;
          whole = whole_then;
          few = d.few;
          named = d.named.1;
          items = d.items;
          outcomes = d.outcomes ++ option_to_list handed;
          gives = subst (λ (k : Execution). Gives (width_of n) (change r.before.input now.input) k.stream d.items (closed_so (ending_of k.stream))) (sym fired.rest) d.gives;
          runs = record { tree = fires.tree ∙ d.runs.tree; net = fires.net ∙ d.runs.net };
          wide = d.wide;
          follows = led;
          untrapped = untrapped_then;
          filled = filled_then;
          counted = (let count = d.counted in let up = fires.fired in let idle = same_idle in let size = length-append used (p ∷ []) in omega arith);
          trap_is = trap_is ∙ ap (λ t. fold trap_after t.trap (option_to_list handed)) same_emitted ∙ trap_more e.emitted.trap d.outcomes (option_to_list handed) d.trap_is;
          put = subst (HasPut (change r.before.output output)) (sym (text_more d.outcomes (option_to_list handed))) (put_more r.before.output now.output output (text_of d.outcomes) (text_of (option_to_list handed)) d.put put);
          same_faults = same_faults ∙ d.same_faults;
        },
        ap (λ (k : Execution). ending_of k.stream) fired.rest ∙ ready.open_is,
        asked_then (ending_of new.stream) (ap (λ (k : Execution). ending_of k.stream) fired.rest ∙ ready.open_is),
      )
        where
          same_emitted : new.emitted ≡ e.emitted
          same_emitted = ap (λ (k : Execution). k.emitted) fired.rest

          same_idle : new.idle ≡ e.idle
          same_idle = ap (λ (k : Execution). k.idle) fired.rest

-- whatever run it is, an execution is filled as its machine is fed
pub fills_on : (e : Execution) (m : machine.Seen) (s : stream.Seen) (old new : Observation (List ℕ)) (result : Result (Unit {0}) NoMemory) → IsFed (node_at e.machine.tree 0).ins e.machine m e.stream s (change old new) result →
    FillsOn (change old new) e (record e { machine = m; stream = s }) result
fills_on e m s old new (Ok done) feeds = λ r used unused output d. fed r used unused (streams old output) e d m s new feeds
fills_on e m s old new (Err want) vain = λ r used unused output d. comes_unfed r used unused (streams old output) e d s new vain

-- a run goes no further
module _ (r : Replay) (used unused : List ℕ) (now : Streams) (e : Execution) (d : Replays r used unused now e) where
  -- while the stream isn't ended, items are requested before the picks that are made
  made_alone : ending_of e.stream ≡ None → AreAsked d → (later : List (List ℤ)) → HaveInWords r.network.tree later → IsRequestedBy r.network (d.items ++ later) (requested_for (ending_of e.stream) used unused) (length d.items) (ending_of e.stream)
  made_alone open_is asked later in_words =
      subst (λ ps. IsRequestedBy r.network (d.items ++ later) ps (length d.items) (ending_of e.stream)) (sym (ap (λ (o : Option Ending). requested_for o used unused) open_is)) (asked later in_words)

  -- since a trap was emitted
  pub halts_trapped : e.emitted.trap ≢ None → ending_of e.stream ≡ None → AreAsked d → Halts r now e
  halts_trapped some open_is asked = record {
    used = used;
    unused = unused;
    replays = d;
    request = λ x ends. absurd (no_end x (sym open_is ∙ ends));
    over = λ none still. absurd (some none);
    requested = made_alone open_is asked;
  }

  -- since no pick is left
  pub halts_over : unused ≡ [] → ending_of e.stream ≡ None → AreAsked d → Halts r now e
  halts_over over open_is asked = record {
    used = used;
    unused = unused;
    replays = d;
    request = λ x ends. absurd (no_end x (sym open_is ∙ ends));
    over = λ none still. over;
    requested = made_alone open_is asked;
  }

-- since the stream is ended
pub halts_closed : (r : Replay) (used unused : List ℕ) (p : ℕ) (now : Streams) (old e : Execution) → Replays r used (p ∷ unused) now e → IsFilled old e → ending_of old.stream ≡ None → ending_of e.stream ≢ None → Halts r now e
halts_closed r used unused p now old e d f open_is ended = record {
  used = used;
  unused = p ∷ unused;
  replays = d;
  request = λ x ends. (λ none. cc, f.empty x open_is ends);
  over = λ none still. absurd (ended still);
  requested = λ later in_words. by (ending_of e.stream) refl later in_words;
}
  where
    by : (close : Option Ending) → ending_of e.stream ≡ close → (later : List (List ℤ)) → HaveInWords r.network.tree later → IsRequestedBy r.network (d.items ++ later) (requested_for close used (p ∷ unused)) (length d.items) close
    by None is later in_words = absurd (ended is)
    by (Some x) is later in_words = requested_before r used (p ∷ unused) now e d p (Some x) (all_sent r used (p ∷ unused) now e d (f.empty x open_is is)) later in_words

-- the picks in front of one that comes next, and it
picks_longer : (picks : List ℕ) (i : ℕ) → i < length picks → take (i + 1) picks ≡ take i picks ++ get_or picks i 0 ∷ []
picks_longer picks i low = (let next : i + 1 ≡ suc i = omega arith in ap (λ k. take k picks) next ∙ take-suc picks i 0 low)

picks_left : (picks : List ℕ) (i : ℕ) → i < length picks → drop i picks ≡ get_or picks i 0 ∷ drop (i + 1) picks
picks_left picks i low = (let next : suc i ≡ i + 1 = omega arith in drop-cons picks i 0 low ∙ ap (λ k. get_or picks i 0 ∷ drop k picks) next)

-- an execution that was filled is ready for a pick, if there is no trap and the stream isn't ended
pub ready_then : (old new : Execution) → IsFilled old new → old.emitted.trap ≡ None → ending_of new.stream ≡ None → IsReady new
ready_then old e f untrapped open_is = record { open_is = open_is; filled = f.filled open_is; untrapped = ap (λ (t : Emitted). t.trap) f.same_emitted ∙ untrapped }

-- a run whose picks are gone over, of which this number were made
module _ (r : Replay) (picks : List ℕ) (made : ℕ) (now : Streams) (e : Execution) (d : Replays r (take made picks) (drop made picks) now e) where
  -- it has one more
  module _ (low : made < length picks) where
    pub next_is : Replays r (take made picks) (get_or picks made 0 ∷ drop (made + 1) picks) now e
    next_is = subst (λ l. Replays r (take made picks) l now e) (picks_left picks made low) d

    pub one_made : (after : Streams) (new : Execution) → (k : Replays r (take made picks ++ get_or picks made 0 ∷ []) (drop (made + 1) picks) after new) × (ending_of new.stream ≡ None) × AreAsked k
        → (k : Replays r (take (made + 1) picks) (drop (made + 1) picks) after new) × (ending_of new.stream ≡ None) × AreAsked k
    one_made after new then = subst (λ l. (k : Replays r l (drop (made + 1) picks) after new) × (ending_of new.stream ≡ None) × AreAsked k) (sym (picks_longer picks made low)) then

  -- it has no more
  pub all_made : length picks ≤ made → drop made picks ≡ []
  all_made past = drop_all made picks past

-- the state that a run reaches which goes no further
module _ (r : Replay) (now : Streams) (e : Execution) (h : Halts r now e) where
  abbrev d : Replays r h.used h.unused now e
  d = h.replays

  abbrev reached : Reaches r.network r.picks (change r.before.input now.input) (change r.before.output now.output)
  reached = record {
    stream = e.stream;
    items = d.items;
    close = ending_of e.stream;
    gives = d.gives;
    used = h.used;
    unused = h.unused;
    whole = d.whole;
    outcomes = d.outcomes;
    put = d.put;
    m = e.machine;
    runs = d.runs;
    wide = d.wide;
    follows = d.follows;
    untrapped = d.untrapped;
    filled = d.filled;
    request = h.request;
    requested = h.requested;
  }

  -- its state was saved
  pub ends_saved : e.emitted.trap ≡ None → cut_of (ending_of e.stream) ≡ None → (saved : Checkpoint) → Saves e saved → Comes r now (Ok (end.Saved saved))
  ends_saved untrapped whole saved saves = record {
    ends = record {
      reached = reached;
      shot_is = saves.shot_is;
      shaped = saves.shaped;
      countable = saves.countable;
      items_are = saves.items_are ∙ items_given r h.used h.unused now e d;
      picks_are = saves.picks_are ∙ d.counted;
      untrapped = no_trap d.outcomes (sym d.trap_is ∙ untrapped);
      over = by (ending_of e.stream) whole (h.over untrapped);
    };
    output = d.same_faults;
  }
    where
      by : (close : Option Ending) → cut_of close ≡ None → (close ≡ None → h.unused ≡ []) → (h.unused ≡ []) ⊎ (close ≡ Some ending.End)
      by None is over = inl (over refl)
      by (Some ending.End) is over = inr refl
      by (Some (ending.BadWord line)) is over = absurd cc
      by (Some (ending.WrongCount line had)) is over = absurd cc
      by (Some (ending.OutOfRange line)) is over = absurd cc
      by (Some ending.ReadFault) is over = absurd cc
      by (Some ending.TooLong) is over = absurd cc

  -- its stream ended so
  pub ends_cut : e.emitted.trap ≡ None → (x : Ending) → cut_of (ending_of e.stream) ≡ Some x → Comes r now (Ok (end.Ended (finish.Stream x)))
  ends_cut untrapped x cut = record {
    ends = record {
      reached = reached;
      close_is = (by (ending_of e.stream) cut).0;
      other = (by (ending_of e.stream) cut).1;
      untrapped = no_trap d.outcomes (sym d.trap_is ∙ untrapped);
    };
    output = d.same_faults;
  }
    where
      by : (close : Option Ending) → cut_of close ≡ Some x → (close ≡ Some x) × (x ≢ ending.End)
      by None is = absurd cc
      by (Some ending.End) is = absurd cc
      by (Some (ending.BadWord line)) is = (is, λ same. cc)
      by (Some (ending.WrongCount line had)) is = (is, λ same. cc)
      by (Some (ending.OutOfRange line)) is = (is, λ same. cc)
      by (Some ending.ReadFault) is = (is, λ same. cc)
      by (Some ending.TooLong) is = (is, λ same. cc)

  -- a trap was emitted
  pub ends_trapped : (trap : Option Trap) → e.emitted.trap ≡ trap → trap ≢ None → (named : Tree) → r.network.named ≡ named → (f : RunEnd) → ((x : Ending) → MayEnd (ending_of e.stream) x → f ≡ end_of named e.emitted.trap e.machine.emitted x) → Comes r now (Ok (end.Ended f))
  ends_trapped None is some named named_is f ends = absurd (some refl)
  ends_trapped (Some trap) is some named named_is f ends =
      subst (λ k. Comes r now (Ok (end.Ended k))) (sym f_is) (record {
        ends = record {
          reached = reached;
          trapped = some_trap d.outcomes trap trap_is;
          ends = λ x.
              ap (λ t. end_of r.network.named t e.machine.emitted x) (sym trap_is)
              ∙ ap (λ k. end_of r.network.named (trap_of d.outcomes) k x) (emitted_count r h.used h.unused now e d ∙ sym numbered);
        };
        output = d.same_faults;
      })
    where
      trap_is : trap_of d.outcomes ≡ Some trap
      trap_is = sym d.trap_is ∙ is

      numbered : item_number r.network.start (length d.outcomes) ≡ length d.outcomes
      numbered = ap (λ k. item_number k (length d.outcomes)) d.begins

      may : MayEnd (ending_of e.stream) (some_end (ending_of e.stream))
      may = may_end (ending_of e.stream)

      f_is : f ≡ end_of r.network.named (Some trap) e.machine.emitted ending.End
      f_is = ends (some_end (ending_of e.stream)) may ∙ ap (λ t. end_of named t e.machine.emitted (some_end (ending_of e.stream))) is ∙ ap (λ t. end_of t (Some trap) e.machine.emitted ending.End) (sym named_is)

-- the rooms of the queues that a shot restores are those of the channels
rooms_of : (chans : List Chan) (lists : List (List SavedToken)) → map (λ (q : Queue). q.room) (queues_of chans lists) ≡ map (λ (c : Chan). c.cap) chans
unfolding queues_of
rooms_of [] lists = refl
rooms_of (chan ∷ chans) [] = ap (λ l. chan.cap ∷ l) (rooms_of chans [])
rooms_of (chan ∷ chans) (tokens ∷ lists) = ap (λ l. chan.cap ∷ l) (rooms_of chans lists)

low_number : (owns : List LocalState) → All (λ (o : SavedOwn). o.number < 2 ^ 63) (map saved_own owns) → (p : ℕ) → (own_at owns p).number < 2 ^ 63
low_number owns low p = by (cases_lt p (length owns))
  where
    by : (p < length owns) ⊎ (length owns ≤ p) → (own_at owns p).number < 2 ^ 63
    by (inl there) =
        let size = length-map owns saved_own in
        let found = All-get_or (λ (o : SavedOwn). o.number < 2 ^ 63) (map saved_own owns) p (saved_own unused_own) (omega arith) low in
        subst (λ (o : SavedOwn). o.number < 2 ^ 63) (get_or-map saved_own owns p unused_own) found
    by (inr past) = subst (λ (o : LocalState). o.number < 2 ^ 63) (sym (get_or_past owns p unused_own past)) (omega arith)

-- a machine whose state can be restored from what was saved of it is as large as its net says
pub shaped_by : (m : machine.Seen) (shot : Shot) → shot ≡ shot_of m → restored m.tree m.net shot ≡ record m { fired = 0 } → IsCountable shot → CanRestore m.tree m.net shot → IsShaped m
unfolding restored shot_of
shaped_by m shot is back countable can = record {
  rooms = ap (λ (k : machine.Seen). map (λ (q : Queue). q.room) k.queues) (sym back) ∙ rooms_of m.net.chans shot.chans;
  keeps = sym (length-map m.owns saved_own) ∙ ap (λ (k : Shot). length k.owns) (sym is) ∙ can.fits.owns;
  numbers = λ p. (let low = low_number m.owns (subst (All (λ (o : SavedOwn). o.number < 2 ^ 63)) (ap (λ (k : Shot). k.owns) is) countable.numbers) p in omega arith);
  sent = (let same : shot.sent ≡ m.sent = ap (λ (k : Shot). k.sent) is in let low = countable.sent in omega arith);
  emitted = (let same : shot.emitted ≡ m.emitted = ap (λ (k : Shot). k.emitted) is in let low = countable.emitted in omega arith);
}

-- the saved states of processes count no more than the processes
saved_low : (owns : List LocalState) → ((p : ℕ) → (own_at owns p).number < 2 ^ 63) → All (λ (o : SavedOwn). o.number < 2 ^ 63) (map saved_own owns)
saved_low [] low k o below = absurd (omega arith)
saved_low (own ∷ owns) low zero o below = low 0
saved_low (own ∷ owns) low (suc k) o below = saved_low owns (λ p. low (suc p)) k o (omega arith)

-- there is at most one outcome for each item
meaning_within : (tree : Tree) (leaf : ℕ → List ℤ → Outcome) (items : List (List ℤ)) → length (meaning tree leaf items) ≤ length items
meaning_within tree leaf [] = omega arith
meaning_within tree leaf (words ∷ items) = by (item tree leaf 0 words) (meaning_within tree leaf items)
  where
    by : (o : Outcome) → length (meaning tree leaf items) ≤ length items → length (up_to_trap o (meaning tree leaf items)) ≤ suc (length items)
    by (Value result) rest = omega (arith, rest)
    by (Trapped trap) rest = omega arith

-- a run that goes no further counts to less than 2^63
module _ (r : Replay) (now : Streams) (e : Execution) (h : Halts r now e) where
  abbrev at : Replays r h.used h.unused now e
  at = h.replays

  abbrev last : Course
  last = course_under r.network (at.items ++ []) h.used

  few_used : length h.used < 2 ^ 63
  few_used = (let all : length h.used + length h.unused ≡ length r.picks = sym (length-append h.used h.unused) ∙ ap length at.whole in let few = at.few in omega arith)

  first_number : (p : ℕ) → ((state_from r.network.start r.network.tree r.network.net (at.items ++ [])).own p).number ≡ 0
  unfolding first_state
  first_number p = ap (λ (k : Start). ((state_from k r.network.tree r.network.net (at.items ++ [])).own p).number) at.begins

  low_own : (p : ℕ) → (own_at e.machine.owns p).number < 2 ^ 63
  unfolding with_rest state_of
  low_own p =
      let same : (own_at e.machine.owns p).number ≡ (last.state.own p).number = ap (λ x. (x.own p).number) (at.follows [] tt).state in
      let most = at.laws.numbers (course_from (begun_with r.network (at.items ++ []))) h.used p in
      let first = first_number p in
      let few = few_used in
      omega arith

  few_emitted : e.machine.emitted < 2 ^ 63
  few_emitted =
      let begins = at.laws.begins (at.items ++ []) (wide_append (width_of r.network) at.items [] at.wide tt) h.used in
      let all : length at.outcomes ≡ length last.state.emitted = ap length (emitted_is r h.used h.unused now e at [] tt) in
      let part = ap length begins.1 in
      let size = length-append last.state.emitted begins.0 in
      let within = meaning_within r.network.tree r.network.leaf (at.items ++ []) in
      let plain = ap length (append-nil at.items) in
      let count = emitted_count r h.used h.unused now e at in
      let few = at.gives.few in
      let start = ap (λ (k : Start). length (outcomes_from k (meaning r.network.tree r.network.leaf (at.items ++ [])))) at.begins in
      omega arith

  pub is_countable : IsCountable (shot_of e.machine)
  unfolding shot_of
  is_countable = record { numbers = saved_low e.machine.owns low_own; sent = few_sent r h.used h.unused now e at; emitted = few_emitted }
