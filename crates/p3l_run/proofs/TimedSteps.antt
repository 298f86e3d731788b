-- A run whose picks a timer makes, step by step: it goes as a run under the picks made so far, of which one more is recorded at each
-- firing.
use Rattle.std.proofs.Common.{◌≡◌, ◌≢◌, ℕ, ℤ, suc, ◌+◌, ◌<◌, ◌^◌, Bool, true, false, not, ◌&&◌, filter, List, [], ◌∷◌, ◌++◌, length, fold, slice_index, Option, Some, None, Err, inl, inr, refl, sym, ap, ap₂, subst, ◌∙◌, arith, append_assoc, append-nil, length-append, zero-mul}
use Rattle.std.specs.List.{AllByRecursion, range_with_len, slice_get}
use Rattle.std.specs.Option.{is_some, option_to_list}
use Rattle.std.proofs.lemmas.Bool.{cases_eq, cond-false}
use Rattle.std.proofs.lemmas.List.{get_or-set_same, get_or-set_other}
use Rattle.p3l_base.specs.declared.outcome.Outcome.{Outcome}
use Rattle.p3l_firing.specs.Nodes.{Leaf}
use Rattle.p3l_skel.specs.declared.tree.Tree.{Tree}
use Rattle.p3l_skel.specs.Tree.{node_at}
use Rattle.p3l_io.specs.Change.{HasSameFaults, Observation, change}
use Rattle.p3l_net.specs.Machine as machine
use Rattle.p3l_net.specs.Machine.{Fires, can_step, ready_list}
use Rattle.p3l_net.specs.Offered.{Follows, HasFilledInbox}
use Rattle.p3l_firing.specs.Run.{Course, after_picks, course_from, picked}
use Rattle.p3l_net.specs.Steps.{OthersStay, ShareNone}
use Rattle.p3l_firing.specs.Fire.{is_ready}
use Rattle.p3l_firing.specs.declared.net.Net.{Net}
use Rattle.p3l_ready.specs.Flags.{count_from}
use Rattle.p3l_firing.specs.Typed.{IsTyped}
use Rattle.p3l_net.proofs.Frame.{kth, offer_moves, offer_stays}
use Rattle.p3l_sched.specs.declared.picker.Way.TheVariants as way
use Rattle.p3l_sched.specs.declared.schedule.Schedule.TheVariants as schedules
use Rattle.p3l_sched.specs.Course.{picks_from}
use Rattle.p3l_stream.specs.declared.items.Ending.{Ending}
use Rattle.p3l_stream.specs.Given.{HasGiven}
use Rattle.p3l_stream.specs.Seen as stream
use Rattle.p3l_stream.specs.Text.{text_of}
use Rattle.p3l_trace.specs.declared.trace.TraceLine.{TraceLine}
use Rattle.p3l_trace.specs.Agreement as trace
use Rattle.p3l_timed.specs.Moments.{due_at}
use Rattle.p3l_timed.specs.Clock.{Clock, IsInStep, IsRenewed}
use Rattle.p3l_timed.specs.Clock as clock
use Rattle.p3l_timed.specs.Due.{IsNext}
use Rattle.p3l_timed.specs.Follow.{Times}
use Rattle.p3l_timed.specs.Price.{price_at}
use Rattle.p3l_timed.specs.Timed.{Timing, busy_of, timed_step, timing_from}
use Rattle.p3l_timed.proofs.FollowLaw.{firing_keeps, in_time, offer_keeps, same_keeps, starts}
use Rattle.p3l_timed.proofs.TimedLaw.{begins_all, begins_more, begins_none, busy_last, busy_stays, no_step, same_course, timed_more}
use Rattle.p3l_run.specs.declared.execution.Execution.{Execution}
use Rattle.p3l_run.specs.declared.fault.RunFault.{RunFault}
use Rattle.p3l_run.specs.declared.fault.RunFault.TheVariants as fault
use Rattle.p3l_run.specs.declared.run.Ran.{Ran}
use Rattle.p3l_run.specs.declared.write.Emitted.{Emitted}
use Rattle.p3l_run.specs.Execution.{Ends, Executes, HasFired, IsFinish, Job, started, stats_at}
use Rattle.p3l_run.specs.Feed.{Feeds, FeedsInVain, Offers, closed_so, ending_of, input_limit, most_of_input}
use Rattle.p3l_run.specs.Laws.{Laws}
use Rattle.p3l_run.specs.Network.{Network, begun_with, course_of, course_under, meaning_of, picks_of as picks_under, ready_at, size_of, width_of}
use Rattle.p3l_run.specs.Run.{MayCome, MayFollow}
use Rattle.p3l_run.specs.Start.{beginning, fresh, item_number, most_from, state_from}
use Rattle.p3l_run.specs.Steps.{Stands}
use Rattle.p3l_run.specs.Streams.{Streams, streams}
use Rattle.p3l_run.specs.Timed.{AreTimed, AtTime, AwaitsInTime, BeginTimed, EndsEarly, EndsInTime, GoesInTime, InTime, NoneIsDue, timing, under}
use Rattle.p3l_run.specs.Write.{HasBegun, HasPut, WriteCause}
use Rattle.p3l_run.proofs.ExecutionSteps.{comes_then, ends_over, ends_early, ends_unfed, ends_unstarted, fed, fed_in_vain, fed_so, kept_more}
use Rattle.p3l_run.proofs.FeedSteps.{fed_fired, gives_first}
use Rattle.p3l_run.proofs.RunSteps as steps
use Rattle.p3l_run.proofs.TraceSteps.{picks_more}
use Rattle.p3l_run.specs.Sum.{sum_after}
use Rattle.p3l_run.specs.Trap.{trap_after}
use Rattle.p3l_run.proofs.WriteSteps.{cause_on, put_more, put_nothing, text_more}

-- an end that came early
early_under : (job : Job) (prices picks : List ℕ) (now : Streams) (failed : RunFault) (ends : Ends (under job picks) now (Err failed))
    → ((later : List (List ℤ)) → MayFollow job.network ends.ends.closed later → BeginTimed job.network prices (ends.ends.items ++ later) picks) → EndsEarly job prices now failed
early_under job prices picks now failed ends begins = record { picks = picks; ends = ends; begins = begins }

-- before anything was requested and anything fired
pub unstarted_in_time : (job : Job) (prices : List ℕ) → HasGiven (width_of job.network) (stream.started (width_of job.network) input_limit) [] [] → EndsEarly job prices job.before fault.NoMemory
unfolding ends_unstarted
unstarted_in_time job prices given = early_under job prices [] _ _ (ends_unstarted (under job []) given)
    (λ later on. begins_none job.network.tree job.network.leaf job.network.net (price_at prices) (timing_from job.network.tree job.network.net (price_at prices) later))

module _ (n : Network) (laws : Laws n) where
  -- RECORDED PICKS, all of which were made, and one more, where some process can fire after them
  made_more : (xs : List ℕ) (c : Course) (p : ℕ) → picks_from n.tree n.leaf n.net (length xs) (way.Reads xs) c ≡ xs → ready_at n (after_picks n.tree n.leaf n.net c xs) ≢ []
      → picks_from n.tree n.leaf n.net (length (xs ++ p ∷ [])) (way.Reads (xs ++ p ∷ [])) c ≡ xs ++ p ∷ []
  unfolding picks_from after_picks
  made_more [] c p made some = by (ready_at n c) refl
    where
      by : (ready : List ℕ) → ready_at n c ≡ ready → picks_from n.tree n.leaf n.net 1 (way.Reads (p ∷ [])) c ≡ p ∷ []
      by [] none = absurd (some none)
      by (q ∷ qs) is = laws.next 0 (way.Reads (p ∷ [])) c p (λ none. cons_none (sym is ∙ none)) refl
        where
          cons_none : q ∷ qs ≡ [] → ⊥
          cons_none e = cc
  made_more (x ∷ xs) c p made some = by (ready_at n c) refl (λ rest. made_more xs (picked n.tree n.leaf n.net c x) p rest some)
    where
      cons_none : {q : ℕ} {qs : List ℕ} → q ∷ qs ≡ [] → ⊥
      cons_none e = cc

      tails : (a b : ℕ) (xs ys : List ℕ) → a ∷ xs ≡ b ∷ ys → xs ≡ ys
      tails a b xs ys e = cc

      by : (ready : List ℕ) → ready_at n c ≡ ready
          → (picks_from n.tree n.leaf n.net (length xs) (way.Reads xs) (picked n.tree n.leaf n.net c x) ≡ xs → picks_from n.tree n.leaf n.net (length (xs ++ p ∷ [])) (way.Reads (xs ++ p ∷ [])) (picked n.tree n.leaf n.net c x) ≡ xs ++ p ∷ [])
          → picks_from n.tree n.leaf n.net (suc (length (xs ++ p ∷ []))) (way.Reads (x ∷ (xs ++ p ∷ []))) c ≡ x ∷ (xs ++ p ∷ [])
      by [] none again = absurd (cons_none (sym made ∙ laws.stuck (suc (length xs)) (way.Reads (x ∷ xs)) c none))
      by (q ∷ qs) is again =
          let some_now : ready_at n c ≢ [] = λ none. cons_none (sym is ∙ none) in
          let first = laws.next (length xs) (way.Reads (x ∷ xs)) c x some_now refl in
          let rest = tails x x (picks_from n.tree n.leaf n.net (length xs) (way.Reads xs) (picked n.tree n.leaf n.net c x)) xs (sym first ∙ made) in
          laws.next (length (xs ++ p ∷ [])) (way.Reads (x ∷ (xs ++ p ∷ []))) c x some_now refl
          ∙ ap (λ ys. x ∷ ys) (again rest)

  -- a machine that stands under picks that were all made stands under these and one more that is to be made
  module _ (m : machine.Seen) (given : List (List ℤ)) (close : Option Ending) (outcomes : List Outcome) (walked : List TraceLine) (picks : List ℕ)
      (s : Stands n (schedules.Recorded picks) m (way.Reads []) given close outcomes 0 walked) (walked_are : trace.picks_of walked ≡ picks)
      (filled : (later : List (List ℤ)) → MayCome n close later → HasFilledInbox m later) where
    all_made : (later : List (List ℤ)) → MayCome n close later → picks_from n.tree n.leaf n.net (length picks) (way.Reads picks) (course_from (begun_with n (given ++ later))) ≡ picks
    unfolding picks_from
    all_made later may = sym (s.at later may).goes_on ∙ append-nil (trace.picks_of walked) ∙ walked_are

    pub one_recorded : (p : ℕ) → p < size_of n → ready_list m ≢ [] → Stands n (schedules.Recorded (picks ++ p ∷ [])) m (way.Reads (p ∷ [])) given close outcomes 0 walked
    unfolding picks_from
    one_recorded p there some = record {
      runs = s.runs;
      wide = s.wide;
      place = tt;
      named = (there, tt);
      room = let long = length-append picks (p ∷ []) in omega (arith, long);
      few = s.few;
      counts = s.counts;
      at = λ later may.
          let was = s.at later may in
          let items : List (List ℤ) = given ++ later in
          let ready = steps.ready_same n laws (schedules.Recorded picks) m (way.Reads []) given close outcomes 0 walked s filled later may in
          let some_there : ready_at n (after_picks n.tree n.leaf n.net (course_from (begun_with n items)) picks) ≢ [] =
          λ none. some (sym ready ∙ ap (λ ps. ready_at n (after_picks n.tree n.leaf n.net (course_from (begun_with n items)) ps)) walked_are ∙ none) in
          let some_now : ready_at n (course_under n items (trace.picks_of walked)) ≢ [] = λ none. some (sym ready ∙ none) in
          record {
            follows = was.follows;
            idle_is = was.idle_is;
            goes_on =
                ap (λ ps. trace.picks_of walked ++ ps) (laws.next 0 (way.Reads (p ∷ [])) (course_under n items (trace.picks_of walked)) p some_now refl)
                ∙ ap (λ ps. ps ++ p ∷ []) walked_are
                ∙ sym (made_more picks (course_from (begun_with n items)) p (all_made later may) some_there);
            agree = was.agree;
          };
    }

-- some processes are ready if one can fire, and none if none can
some_listed : (m : machine.Seen) (p : ℕ) → p < length m.net.procs → can_step m p ≡ true → ready_list m ≢ []
some_listed m p there can none = none_at (sym (kth (can_step m) 0 p (length m.net.procs) there (let e : 0 + p ≡ p = omega arith in ap (can_step m) e ∙ can)) ∙ ap (λ ps. slice_get ps (count_from (can_step m) 0 p)) none)
  where
    none_at : Some (0 + p) ≡ None → ⊥
    none_at e = cc

none_listed : (m : machine.Seen) → ((p : ℕ) → can_step m p ≡ false) → ready_list m ≡ []
none_listed m none = go (range_with_len 0 (length m.net.procs))
  where
    go : (xs : List ℕ) → filter (can_step m) xs ≡ []
    go [] = refl
    go (x ∷ xs) = cond-false (can_step m x) _ _ (none x) ∙ go xs

some_due : (o : Option ℕ) → o ≢ None → is_some o ≡ true
some_due None some = absurd (some refl)
some_due (Some d) some = refl

module _ (job : Job) (prices : List ℕ) where
  abbrev n : Network
  n = job.network

  module _ (now : Streams) (e : Execution) (k : Clock) (is : InTime job prices now e k) where
    abbrev d : Executes (under job is.picks) now e
    d = is.executes

    stands : Stands n (schedules.Recorded is.picks) e.machine (way.Reads []) d.items (ending_of e.stream) d.outcomes 0 d.walked
    stands =
        subst (λ w. Stands n (schedules.Recorded is.picks) e.machine w d.items (ending_of e.stream) d.outcomes 0 d.walked) is.reads
        (subst (λ i. Stands n (schedules.Recorded is.picks) e.machine e.picker d.items (ending_of e.stream) d.outcomes i d.walked) is.none_idle d.stands)

    pub typed : IsTyped e.machine.tree e.machine.net
    typed = subst (λ t. IsTyped t e.machine.net) (sym d.stands.runs.tree) (subst (IsTyped n.tree) (sym d.stands.runs.net) d.laws.typed)

    pub in_step : IsInStep k e.machine
    in_step = (is.at [] (steps.nothing_comes n (ending_of e.stream))).times.step

    -- the requirements of the timer after an item may have been offered
    pub others_due : (m : machine.Seen) (more : List (List ℤ)) → Offers e.machine m more → (r : ℕ) → r ≢ 0 → can_step m r ≡ is_some (due_at k.due r)
    others_due m [] same r other = ap (λ x. can_step x r) same ∙ sym (in_step.due r)
    others_due m (item ∷ more) offers r other =
        ap (λ x. can_step x r) offers.1
        ∙ ap (λ b. not e.machine.trapped && b) (offer_stays (offer_moves e.machine (record e.machine { inbox = Some item }) item typed refl) r other)
        ∙ sym (in_step.due r)

    pub over_same : (m : machine.Seen) (more : List (List ℤ)) → Offers e.machine m more → m.trapped ≡ k.over
    over_same m [] same = ap (λ x. x.trapped) same ∙ sym in_step.over
    over_same m (item ∷ more) offers = ap (λ x. x.trapped) offers.1 ∙ sym in_step.over

    pub size_same : (m : machine.Seen) (more : List (List ℤ)) → Offers e.machine m more → length m.net.procs ≡ length k.prices
    size_same m [] same = ap (λ x. length x.net.procs) same ∙ sym in_step.size
    size_same m (item ∷ more) offers = ap (λ x. length x.net.procs) offers.1 ∙ sym in_step.size

    pub some_prices : 0 < length k.prices
    some_prices = subst (λ m. 0 < m) (sym (in_step.size ∙ ap (λ k. length k.procs) d.stands.runs.net)) d.laws.some

    -- the timer and the machine after that
    fed_at : (m : machine.Seen) (new : Clock) (close : Option Ending) (more : List (List ℤ)) → Offers e.machine m more → AllByRecursion (λ (words : List ℤ). length words ≡ width_of n) more
        → (more ≢ [] → ending_of e.stream ≡ None) → ((x : Ending) → ending_of e.stream ≡ Some x → close ≡ Some x) → IsRenewed m k new
        → (later : List (List ℤ)) → MayCome n close later → AtTime n prices new m ((d.items ++ more) ++ later) is.picks
    fed_at m new close [] same wide request kept renews later may =
        let was = is.at later (record { wide = may.wide; none = λ x c. may.none x (kept x c) }) in
        let renews_old : IsRenewed e.machine k new = subst (λ x. IsRenewed x k new) same renews in
        subst (λ x. AtTime n prices new x ((d.items ++ []) ++ later) is.picks) (sym same)
        (subst (λ xs. AtTime n prices new e.machine (xs ++ later) is.picks) (sym (append-nil d.items))
        (record { times = same_keeps e.machine _ k new was.times renews_old; begins = was.begins }))
    fed_at m new close (item ∷ []) offers wide request kept renews later may =
        let open_now = request (λ x. cons_none x) in
        let was = is.at (item ∷ later) (record { wide = (wide.0, may.wide); none = λ x c. absurd (none_open x (sym open_now ∙ c)) }) in
        let renews_new : IsRenewed (record e.machine { inbox = Some item }) k new = subst (λ x. IsRenewed x k new) offers.1 renews in
        subst (λ x. AtTime n prices new x ((d.items ++ item ∷ []) ++ later) is.picks) (sym offers.1)
        (subst (λ xs. AtTime n prices new (record e.machine { inbox = Some item }) xs is.picks) (sym (append_assoc d.items (item ∷ []) later))
        (record { times = offer_keeps e.machine item _ k new typed was.times offers.0 renews_new; begins = was.begins }))
      where
        cons_none : item ∷ [] ≡ [] → ⊥
        cons_none x = cc

        none_open : (x : Ending) → ◌≡◌ {A = Option Ending} None (Some x) → ⊥
        none_open x h = cc
    fed_at m new close (item ∷ other ∷ more) offers wide request kept renews later may = absurd (let none = offers.2 in cc)

    -- the machine was fed
    pub fed_in_time : (m : machine.Seen) (s : stream.Seen) (input : Observation (List ℕ)) (new : Clock) → Feeds (node_at e.machine.tree 0).ins e.machine m e.stream s (change now.input input) → IsRenewed m k new
        → AwaitsInTime job prices (streams input now.output) (record e { machine = m; stream = s }) new × (m.fired ≡ e.machine.fired)
    unfolding fed
    fed_in_time m s input new feeds renews =
        let f : Feeds (width_of n) e.machine m e.stream s (change now.input input) = fed_so (under job is.picks) now e d m s input feeds in
        let same = fed_fired e.machine m f.more f.offers in
        let awaits = (fed (under job is.picks) now e d m s input feeds).0 in (
          record {
            is = record {
              fresh_is = is.fresh_is;
              picks = is.picks;
              executes = awaits.executes;
              reads = is.reads;
              walked_are = is.walked_are;
              count = is.count ∙ sym same;
              none_idle = is.none_idle;
              prices_are = renews.prices ∙ is.prices_are;
              busy = λ p. ap (λ b. slice_index b p) renews.busy ∙ is.busy p;
              at = fed_at m new (ending_of s) f.more f.offers f.wide f.request f.kept renews;
            };
            filled = awaits.filled;
          },
          same,
        )

    pub unfed_in_time : (s : stream.Seen) (input : Observation (List ℕ)) → FeedsInVain (node_at e.machine.tree 0).ins e.stream s (change now.input input) → EndsEarly job prices (streams input now.output) fault.NoMemory
    unfolding ends_unfed
    unfed_in_time s input vain =
        early_under job prices is.picks _ _ (ends_unfed (under job is.picks) now e d s input vain)
        (λ later on.
        let more = (fed_in_vain (under job is.picks) now e d s input vain).more in
        subst (λ items. BeginTimed n prices items is.picks) (sym (append_assoc d.items more later))
        (is.at (more ++ later) (comes_then (under job is.picks) now e d s input vain later on.wide)).begins)

    pub early_in_time : EndsEarly job prices now fault.NoMemory
    unfolding ends_early
    early_in_time = early_under job prices is.picks _ _ (ends_early (under job is.picks) now e d) (λ later on. (is.at later (steps.may_come n (ending_of e.stream) later on)).begins)

  module _ (now : Streams) (e : Execution) (k : Clock) (a : AwaitsInTime job prices now e k) where
    abbrev it : InTime job prices now e k
    it = a.is

    abbrev x : Executes (under job it.picks) now e
    x = it.executes

    filled : (later : List (List ℤ)) → MayCome n (ending_of e.stream) later → HasFilledInbox e.machine later
    filled = steps.filled_after n (ending_of e.stream) e.machine a.filled

    t_course : (later : List (List ℤ)) → (timing n prices (x.items ++ later) it.picks).course ≡ course_under n (x.items ++ later) it.picks
    t_course later =
        same_course n.tree n.leaf n.net (price_at prices) (timing_from n.tree n.net (price_at prices) (x.items ++ later)) it.picks
        ∙ ap (λ s. after_picks n.tree n.leaf n.net (course_from (state_from s n.tree n.net (x.items ++ later))) it.picks) (sym it.fresh_is)

    follows : (later : List (List ℤ)) → MayCome n (ending_of e.stream) later → Follows e.machine x.outcomes later (timing n prices (x.items ++ later) it.picks).course
    follows later may =
        subst (Follows e.machine x.outcomes later) (sym (t_course later))
        (subst (λ ps. Follows e.machine x.outcomes later (course_under n (x.items ++ later) ps)) it.walked_are (x.stands.at later may).follows)

    -- none is due
    module _ (none : NoneIsDue k) where
      pub stuck : ready_list e.machine ≡ []
      stuck = none_listed e.machine (λ p. sym ((in_step now e k it).due p) ∙ ap is_some (none p))

      pub are_timed : (later : List (List ℤ)) → MayCome n (ending_of e.stream) later → AreTimed n prices (x.items ++ later) it.picks
      are_timed later may =
          let at = it.at later may in
          let t = timing n prices (x.items ++ later) it.picks in
          let over = (in_time e.machine x.outcomes later t k (follows later may) (filled later may) at.times).none none in
          begins_all n.tree n.leaf n.net (price_at prices) (timing_from n.tree n.net (price_at prices) (x.items ++ later)) it.picks at.begins over

      -- all picks were made
      made_all : (later : List (List ℤ)) → MayCome n (ending_of e.stream) later → picks_under n (schedules.Recorded it.picks) (x.items ++ later) ≡ it.picks
      made_all = all_made n x.laws e.machine x.items (ending_of e.stream) x.outcomes x.walked it.picks (stands now e k it) it.walked_are filled

      -- so it is over
      pub ended_in_time : (named : Tree) → named ≡ n.named → (ran : Ran) → IsFinish named e ran.finish → ran.stats ≡ stats_at e → ran.lines ≡ e.kept → ran.sum ≡ e.emitted.sum → EndsInTime job prices now ran k
      unfolding ends_over
      ended_in_time named named_is ran finish_is stats_are lines_are sum_is = record {
        picks = it.picks;
        ends = ends_over (under job it.picks) now e (record { executes = x; filled = a.filled }) (inl stuck) named named_is ran finish_is stats_are lines_are sum_is;
        timed = are_timed;
        finish = λ later may. (it.at later may).times.moment;
        busy = it.busy;
        made = made_all;
        prices_are = it.prices_are;
        some = some_prices now e k it;
      }

    -- a process fired, which was due next
    module _ (p : ℕ) (next : IsNext (due_at k.due) p) (inside : p < length k.prices) where
      pub can : can_step e.machine p ≡ true
      can = sym ((in_step now e k it).due p) ∙ some_due (due_at k.due p) next.due_is

      pub there : p < length e.machine.net.procs
      there = subst (λ m. p < m) (in_step now e k it).size inside

      pub fired_few : e.machine.fired < 2 ^ 63
      fired_few =
          let l = steps.few_fired n x.laws (schedules.Recorded it.picks) e.machine e.picker x.items (ending_of e.stream) x.outcomes e.idle x.walked x.stands in
          let few = x.gives.few in
          let most = steps.few_fits n.start n.firings (length x.items) most_of_input (omega (arith, few)) in
          let fits = x.fits in
          omega (arith, l, most, fits)

      some : ready_list e.machine ≢ []
      some = some_listed e.machine p there can

      in_size : p < size_of n
      in_size = subst (λ (k : Net). p < length k.procs) x.stands.runs.net there

      recorded_one : Stands n (schedules.Recorded (it.picks ++ p ∷ [])) e.machine (way.Reads (p ∷ [])) x.items (ending_of e.stream) x.outcomes 0 x.walked
      recorded_one = one_recorded n x.laws e.machine x.items (ending_of e.stream) x.outcomes x.walked it.picks (stands now e k it) it.walked_are filled p in_size some

      begins_next : (later : List (List ℤ)) → MayCome n (ending_of e.stream) later → BeginTimed n prices (x.items ++ later) (it.picks ++ p ∷ [])
      begins_next later may =
          let at = it.at later may in
          let items : List (List ℤ) = x.items ++ later in
          let due = (in_time e.machine x.outcomes later (timing n prices items it.picks) k (follows later may) (filled later may) at.times).next p next in
          begins_more n.tree n.leaf n.net (price_at prices) (timing_from n.tree n.net (price_at prices) items) it.picks p at.begins due

      module _ (leaf : Leaf) (leaf_is : n.leaf ≡ leaf) (e' : Execution) (handed : Option Outcome) (fired : HasFired leaf p e e' handed) where
        fires : Fires n.leaf e.machine e'.machine p handed
        fires = subst (λ l. Fires l e.machine e'.machine p handed) (sym leaf_is) fired.fires

        -- the requirements of the timer then
        pub typed_after : IsTyped e'.machine.tree e'.machine.net
        typed_after = subst (λ y. IsTyped y e'.machine.net) (sym fires.tree) (subst (IsTyped e.machine.tree) (sym fires.net) (typed now e k it))

        pub size_after : length e'.machine.net.procs ≡ length k.prices
        size_after = ap (λ (k : Net). length k.procs) fires.net ∙ sym (in_step now e k it).size

        pub count_after : e'.machine.fired ≡ k.fired + 1
        count_after = fires.fired ∙ ap (λ m. m + 1) (sym (in_step now e k it).fired)

        pub others_after : OthersStay e.machine e'.machine p → e'.machine.trapped ≡ false → clock.OthersAsBefore e'.machine p (due_at k.due)
        others_after stay untrapped = λ r other apart.
            let untrapped_before : e.machine.trapped ≡ false = untrapped_where e.machine.trapped _ can in
            let none_shared = subst (λ (net : Net). ShareNone net p r) fires.net apart in
            ap (λ b. not b && ready_now r) untrapped
            ∙ stay r other none_shared
            ∙ sym (ap (λ b. not b && ready_then r) untrapped_before)
            ∙ sym ((in_step now e k it).due r)
          where
            ready_now : ℕ → Bool
            ready_now r = is_ready e'.machine.tree e'.machine.net (machine.state_of e'.machine []) r

            ready_then : ℕ → Bool
            ready_then r = is_ready e.machine.tree e.machine.net (machine.state_of e.machine []) r

            untrapped_where : (b c : Bool) → (not b && c) ≡ true → b ≡ false
            untrapped_where true c h = cc
            untrapped_where false c h = refl

        abbrev line : TraceLine
        line = record { pick = p; kind = Some fired.kind }

        stands_more : Stands n (schedules.Recorded (it.picks ++ p ∷ [])) e'.machine (way.Reads []) x.items (ending_of e.stream) (x.outcomes ++ option_to_list handed) 0 (x.walked ++ line ∷ [])
        stands_more = steps.stands_fired n x.laws (schedules.Recorded (it.picks ++ p ∷ [])) e.machine (way.Reads (p ∷ [])) x.items (ending_of e.stream) x.outcomes 0 x.walked recorded_one filled p (Some fired.kind) refl some e'.machine handed can fires there fired.kind fired.kind_is refl

        pub ends_unwritten_in_time : (output : Observation (List ℕ)) (failed : RunFault) → HasBegun (change now.output output) (text_of (option_to_list handed)) → WriteCause {T = Emitted} (change now.output output) (Err failed)
            → EndsEarly job prices (streams now.input output) failed
        ends_unwritten_in_time output failed begun cause =
            early_under job prices (it.picks ++ p ∷ []) _ _ (record {
              ends = record {
                stream = e.stream;
                items = x.items;
                closed = closed_so (ending_of e.stream);
                gives = x.gives;
                begun =
                    steps.begun_last (meaning_of n x.items) x.outcomes handed job.before.output now.output output
                    (steps.led_begins n x.laws (schedules.Recorded (it.picks ++ p ∷ [])) e.machine (way.Reads (p ∷ [])) x.items (ending_of e.stream) x.outcomes 0 x.walked recorded_one filled p None refl some e'.machine handed can fires) x.put begun;
                emits = λ later on.
                    steps.begun_last (course_of n (schedules.Recorded (it.picks ++ p ∷ [])) (x.items ++ later)).state.emitted x.outcomes handed job.before.output now.output output
                    (steps.begins_emitted n x.laws (schedules.Recorded (it.picks ++ p ∷ [])) e'.machine (way.Reads []) x.items (ending_of e.stream) (x.outcomes ++ option_to_list handed) 0 (x.walked ++ line ∷ []) stands_more later (steps.may_come n (ending_of e.stream) later on))
                    x.put begun;
              };
              output = cause_on Ran Emitted job.before.output now.output output failed x.same_faults cause;
            })
            (λ later on. begins_next later (steps.may_come n (ending_of e.stream) later on))

        module _ (k' : Clock) (item : p ≢ 0 → e'.machine.inbox ≡ e.machine.inbox) (tells : clock.HasFired e'.machine p k k') where
          at_next : (later : List (List ℤ)) → MayCome n (ending_of e.stream) later → AtTime n prices k' e'.machine (x.items ++ later) (it.picks ++ p ∷ [])
          at_next later may =
              let at = it.at later may in
              let items : List (List ℤ) = x.items ++ later in
              let t : Timing = timing n prices items it.picks in
              let more : timing n prices items (it.picks ++ p ∷ []) ≡ timed_step n.tree n.leaf n.net (price_at prices) t p = timed_more n.tree n.leaf n.net (price_at prices) (timing_from n.tree n.net (price_at prices) items) it.picks p in
              let keeps = firing_keeps e.machine x.outcomes later t k (follows later may) (filled later may) at.times e'.machine k' n.leaf p handed (typed now e k it) can fires item tells in
              let keeps_here : Times k' e'.machine (timed_step n.tree n.leaf n.net (price_at prices) t p) =
              subst (λ y. Times k' e'.machine (timed_step y n.leaf n.net (price_at prices) t p)) x.stands.runs.tree
              (subst (λ y. Times k' e'.machine (timed_step e.machine.tree n.leaf y (price_at prices) t p)) x.stands.runs.net
              (subst (λ ps. Times k' e'.machine (timed_step e.machine.tree n.leaf e.machine.net (price_at ps) t p)) it.prices_are keeps)) in
              record {
                times = subst (Times k' e'.machine) (sym more) keeps_here;
                begins = begins_next later may;
              }

          busy_next : (q : ℕ) → slice_index k'.busy q ≡ busy_of (price_at prices) (it.picks ++ p ∷ []) q
          busy_next q = elim (cases_eq q p) [
            | inl same ↦ subst (λ z. slice_index k'.busy z ≡ busy_of (price_at prices) (it.picks ++ p ∷ []) z) (sym same) (own)
            | inr other ↦
                ap (λ b. slice_index b q) tells.busy ∙ get_or-set_other k.busy p q _ 0 other ∙ it.busy q
                ∙ sym (busy_stays n.tree n.leaf n.net (price_at prices) q p it.picks other)
          ]
            where
              own : slice_index k'.busy p ≡ busy_of (price_at prices) (it.picks ++ p ∷ []) p
              own =
                  ap (λ b. slice_index b p) tells.busy ∙ get_or-set_same k.busy p _ 0 tells.there
                  ∙ ap₂ (λ b ps. b + price_at ps p) (it.busy p) it.prices_are
                  ∙ sym (busy_last n.tree n.leaf n.net (price_at prices) p it.picks)

          pub went_in_time : (emitted : Emitted) (output : Observation (List ℕ)) → emitted.trap ≡ fold trap_after e'.emitted.trap (option_to_list handed) → emitted.sum ≡ fold sum_after e'.emitted.sum (option_to_list handed)
              → HasPut (change now.output output) (text_of (option_to_list handed)) → HasSameFaults (change now.output output)
              → GoesInTime job prices (streams now.input output) e (record e' { emitted = emitted }) k' true
          went_in_time emitted output trap_is sum_is put same_faults = subst (λ y. GoesInTime job prices (streams now.input output) e (record y { emitted = emitted }) k' true) (sym fired.rest) (
            record {
              fresh_is = it.fresh_is;
              picks = it.picks ++ p ∷ [];
              executes = record {
                laws = x.laws;
                firings_is = x.firings_is;
                fits = x.fits;
                few = few_more;
                numbered = x.numbered;
                few_earlier = x.few_earlier;
                items = x.items;
                outcomes = x.outcomes ++ option_to_list handed;
                walked = x.walked ++ line ∷ [];
                gives = x.gives;
                stands =
                    subst (λ i. Stands n (schedules.Recorded (it.picks ++ p ∷ [])) e'.machine e.picker x.items (ending_of e.stream) (x.outcomes ++ option_to_list handed) i (x.walked ++ line ∷ [])) (sym it.none_idle)
                    (subst (λ w. Stands n (schedules.Recorded (it.picks ++ p ∷ [])) e'.machine w x.items (ending_of e.stream) (x.outcomes ++ option_to_list handed) 0 (x.walked ++ line ∷ [])) (sym it.reads)
                    stands_more);
                trap_is = trap_is ∙ ap (λ y. fold trap_after y.emitted.trap (option_to_list handed)) fired.rest ∙ steps.trap_more e.emitted.trap x.outcomes (option_to_list handed) x.trap_is;
                sum_is = sum_is ∙ ap (λ y. fold sum_after y.emitted.sum (option_to_list handed)) fired.rest ∙ steps.sum_more e.emitted.sum x.outcomes (option_to_list handed) x.sum_is;
                put =
                    subst (HasPut (change job.before.output output)) (sym (text_more x.outcomes (option_to_list handed)))
                    (put_more job.before.output now.output output (text_of x.outcomes) (text_of (option_to_list handed)) x.put put);
                kept_is = kept_more job.keeping e.kept x.walked p (Some fired.kind) x.kept_is;
                same_faults = same_faults ∙ x.same_faults;
              };
              reads = it.reads;
              walked_are = picks_more x.walked line ∙ ap (λ ps. ps ++ p ∷ []) it.walked_are;
              count = length-append it.picks (p ∷ []) ∙ ap (λ m. m + 1) it.count ∙ sym fires.fired;
              none_idle = it.none_idle;
              prices_are = tells.prices ∙ it.prices_are;
              busy = busy_next;
              at = at_next;
            },
            fires.fired,
          )
            where
              few_more : length (it.picks ++ p ∷ []) < 2 ^ 63
              few_more =
                  let long = length-append it.picks (p ∷ []) in
                  let l = steps.firing_left_given n x.laws (schedules.Recorded (it.picks ++ p ∷ [])) e.machine (way.Reads (p ∷ [])) x.items (ending_of e.stream) x.outcomes 0 x.walked recorded_one filled p (Some fired.kind) refl some e'.machine handed can fires in
                  let few = x.gives.few in
                  let most = steps.few_fits n.start n.firings (length x.items) most_of_input (omega (arith, few)) in
                  let fits = x.fits in
                  let count = it.count in
                  omega (arith, long, l, most, fits, count)

-- the result of a step
pub went_now : (job : Job) (prices : List ℕ) (now : Streams) (old new : Execution) (k : Clock) (going : Bool) → going ≡ true → GoesInTime job prices now old new k going → InTime job prices now new k × (new.machine.fired ≡ old.machine.fired + 1)
went_now job prices now old new k going is goes = subst (GoesInTime job prices now old new k) is goes

pub none_due_now : (job : Job) (prices : List ℕ) (now : Streams) (old new : Execution) (k : Clock) (going : Bool) → going ≡ false → GoesInTime job prices now old new k going → AwaitsInTime job prices now new k × NoneIsDue k
none_due_now job prices now old new k going is goes = subst (GoesInTime job prices now old new k) is goes

-- as many firings as were counted may still come
pub fired_at_most : {job : Job} {prices : List ℕ} {now : Streams} {e : Execution} {k : Clock} → InTime job prices now e k → e.machine.fired < 2 ^ 63
fired_at_most {job = job} {e = e} is =
    let d = is.executes in
    let n : Network = job.network in
    let l = steps.few_fired n d.laws (schedules.Recorded is.picks) e.machine e.picker d.items (ending_of e.stream) d.outcomes e.idle d.walked d.stands in
    let few = d.gives.few in
    let most = steps.few_fits n.start n.firings (length d.items) most_of_input (omega (arith, few)) in
    let fits = d.fits in
    omega (arith, l, most, fits)

-- THE START: nothing has fired
module _ (job : Job) (prices : List ℕ) where
  pub in_time_first : (e : Execution) (k : Clock) (laws : Laws job.network) → job.network.start ≡ fresh → most_from job.network.start job.network.firings most_of_input < 2 ^ 63
      → HasGiven (width_of job.network) (stream.started (width_of job.network) input_limit) [] []
      → (width : ℕ) → width ≡ width_of job.network → e ≡ started job.network.tree job.network.net job.network.firings width (schedules.Recorded []) job.keeping → clock.IsStarted prices e.machine k → InTime job prices job.before e k
  in_time_first e k laws fresh_is fits given width wide is begun =
      subst (λ y. clock.IsStarted prices y.machine k → InTime job prices job.before y k) (sym is)
      (subst (λ w. clock.IsStarted prices (machine.started job.network.tree job.network.net) k → InTime job prices job.before (started job.network.tree job.network.net job.network.firings w (schedules.Recorded []) job.keeping) k) (sym wide) (λ begins. record {
        fresh_is = fresh_is;
        picks = [];
        executes = record {
          laws = laws;
          firings_is = refl;
          fits = fits;
          few = omega arith;
          numbered = λ count. ap (λ s. item_number s count) fresh_is ∙ steps.none_before count;
          few_earlier = omega arith;
          items = [];
          outcomes = [];
          walked = [];
          gives = gives_first (width_of job.network) job.before.input (stream.started (width_of job.network) input_limit) given refl;
          stands = steps.stands_first job.network laws (schedules.Recorded []) (machine.started job.network.tree job.network.net) (ap (λ s. beginning s job.network.tree job.network.net) (sym fresh_is)) tt;
          trap_is = refl;
          sum_is = refl;
          put = put_nothing job.before.output;
          kept_is = refl;
          same_faults = refl;
        };
        reads = refl;
        walked_are = refl;
        count = refl;
        none_idle = refl;
        prices_are = begins.prices_are;
        busy = λ p. begins.busy p ∙ sym (zero-mul (price_at prices p));
        at = λ later may.
            let t0 : Timing = timing_from job.network.tree job.network.net (price_at prices) later in
            let none = no_step job.network.tree job.network.leaf job.network.net (price_at prices) t0 in
            record {
              times = subst (Times k (machine.started job.network.tree job.network.net)) (sym none) (starts job.network.tree job.network.net later prices k begins);
              begins = begins_none job.network.tree job.network.leaf job.network.net (price_at prices) t0;
            };
      })) begun
