-- A run under way: its first state, what is fed, each pick, and its end.
use Rattle.std.proofs.Common.{◌≡◌, ◌≢◌, ℕ, ℤ, ◌+◌, ◌*◌, ◌<◌, ◌≤◌, ◌^◌, Bool, true, false, List, [], ◌∷◌, ◌++◌, length, fold, Option, Some, None, Result, Ok, Err, IsTrue, IsNone, IsSome, inl, inr, refl, sym, ap, subst, ◌∙◌, arith, append_assoc, append-nil, length-append}
use Rattle.std.specs.Option.{option_to_list}
use Rattle.std.proofs.lemmas.Bool.{cond-false, cond-true}
use Rattle.p3l_base.specs.declared.NoMemory.{NoMemory}
use Rattle.p3l_base.specs.declared.outcome.Outcome.{Outcome}
use Rattle.p3l_base.specs.declared.outcome.Trap.{Trap}
use Rattle.p3l_firing.specs.declared.process.ProcKind.{ProcKind}
use Rattle.p3l_firing.specs.Nodes.{Leaf}
use Rattle.p3l_skel.specs.declared.tree.Tree.{Tree}
use Rattle.p3l_skel.specs.Tree.{node_at}
use Rattle.p3l_firing.specs.NetInvariants.{HaveInWords}
use Rattle.p3l_io.specs.Change.{HasSameFaults, Observation, change}
use Rattle.p3l_net.specs.Machine as machine
use Rattle.p3l_firing.specs.Run.{Course}
use Rattle.p3l_firing.specs.State.{first_state, with_rest}
use Rattle.p3l_firing.specs.declared.net.Net.{Net}
use Rattle.p3l_net.specs.Shot.{restored}
use Rattle.p3l_net.specs.Machine.{Fires, can_step, ready_list, state_of}
use Rattle.p3l_net.specs.Offered.{HasFilledInbox}
use Rattle.p3l_firing.specs.Process.{kind_at}
use Rattle.p3l_run.specs.declared.end.RunStats.{RunStats}
use Rattle.p3l_run.specs.declared.end.RunEnd.TheVariants as finish
use Rattle.p3l_sched.specs.declared.picker.Way.{Way}
use Rattle.p3l_sched.specs.Course.{picks_from}
use Rattle.p3l_sched.specs.Picker.{HasPlace, HasProcesses, IsPickedFrom, NamesProcesses, after_pick, recorded}
use Rattle.p3l_stream.specs.declared.items.Ending.{Ending}
use Rattle.p3l_stream.specs.Given.{HasGiven}
use Rattle.p3l_stream.specs.Seen as stream
use Rattle.p3l_stream.specs.Text.{text_of}
use Rattle.p3l_trace.specs.declared.trace.TraceLine.{TraceLine}
use Rattle.p3l_trace.specs.Agreement as trace
use Rattle.p3l_run.specs.declared.execution.Execution.{Execution}
use Rattle.p3l_run.specs.declared.fault.RunFault.{RunFault}
use Rattle.p3l_run.specs.declared.fault.RunFault.TheVariants as fault
use Rattle.p3l_run.specs.declared.keeping.Keeping.{Keeping}
use Rattle.p3l_run.specs.declared.keeping.Keeping.TheVariants as keep
use Rattle.p3l_run.specs.declared.run.Ran.{Ran}
use Rattle.p3l_run.specs.declared.write.Emitted.{Emitted}
use Rattle.p3l_run.specs.Execution.{AwaitsPick, Ends, Executes, FeedsOn, GoesOn, HasFired, IsFinish, IsInRange, IsOver, Job, Picks, after_idle, begun_on, kept_with, left_at, stats_at}
use Rattle.p3l_run.specs.Feed.{Feeds, FeedsInVain, IsFed, closed_so, ending_of, input_limit, most_of_input}
use Rattle.p3l_run.specs.Keeping.{kept_by}
use Rattle.p3l_run.specs.Laws.{Laws}
use Rattle.p3l_run.specs.Network.{Network, begun_with, course_of, course_under, goes_on, is_some, meaning_of, most_firings, size_of, width_of}
use Rattle.p3l_run.specs.Run.{MayCome, MayEnd, end_of, finish_of}
use Rattle.p3l_run.specs.Start.{Start, beginning, fresh, item_number, most_from, saved, state_from, uncounted}
use Rattle.p3l_run.specs.Steps.{Stands, left_of}
use Rattle.p3l_run.specs.Streams.{Streams, streams}
use Rattle.p3l_run.specs.Sum.{sum_after}
use Rattle.p3l_run.specs.Trap.{trap_after, trap_of}
use Rattle.p3l_run.specs.Write.{HasBegun, HasPut, WriteCause}
use Rattle.p3l_run.proofs.FeedSteps.{fed_fired, gives_first}
use Rattle.p3l_run.proofs.RunSteps as steps
use Rattle.p3l_run.proofs.WriteSteps.{begun_whole, cause_on, put_more, put_nothing, text_more}

-- an inbox holds one item at most
at_most_one : (inbox : Option (List ℤ)) → length (option_to_list inbox) ≤ 1
at_most_one None = omega arith
at_most_one (Some item) = omega arith

-- the items are to be sent where a run begins
begun_unsent : (start : Start) (tree : Tree) (net : Net) (items : List (List ℤ)) → length items ≤ length (state_from start tree net items).unsent
unfolding with_rest first_state
begun_unsent fresh tree net items = omega arith
begun_unsent (saved r) tree net items = omega (arith, length-append (state_of (restored tree net (uncounted r.shot)) []).unsent items)

-- the lines that are kept are those of the trace with one more
pub kept_more : (keeping : Keeping) (kept : Option (List TraceLine)) (walked : List TraceLine) (p : ℕ) (kind : Option ProcKind) → kept ≡ kept_by keeping walked →
    kept_with p kind kept ≡ kept_by keeping (walked ++ record { pick = p; kind = kind } ∷ [])
kept_more keeping kept walked p kind is = ap (kept_with p kind) is ∙ by keeping
  where
    by : (k : Keeping) → kept_with p kind (kept_by k walked) ≡ kept_by k (walked ++ record { pick = p; kind = kind } ∷ [])
    by keep.Lines = refl
    by keep.Nothing = refl

-- the result of a pick that was made, and of one that was not left
pub made : (job : Job) (now : Streams) (old new : Execution) (going : Bool) → going ≡ true → GoesOn job now old new going → Executes job now new × (left_at new < left_at old)
made job now old new going is goes = subst (GoesOn job now old new) is goes

pub none_made : (job : Job) (now : Streams) (old new : Execution) (going : Bool) → going ≡ false → GoesOn job now old new going → AwaitsPick job now new × IsOver new
none_made job now old new going is goes = subst (GoesOn job now old new) is goes

module _ (job : Job) where
  abbrev n : Network
  n = job.network

  -- nothing was requested and nothing written
  unfoldable pub ends_unstarted : HasGiven (width_of n) (stream.started (width_of n) input_limit) [] [] → Ends job job.before (Err fault.NoMemory)
  ends_unstarted given = record {
    ends = record {
      stream = stream.started (width_of n) input_limit;
      items = [];
      closed = None;
      gives = gives_first (width_of n) job.before.input (stream.started (width_of n) input_limit) given refl;
      begun = begun_whole (change job.before.output job.before.output) [] _ _ (put_nothing job.before.output) refl;
      emits = λ later may. begun_whole (change job.before.output job.before.output) [] _ _ (put_nothing job.before.output) refl;
    };
    output = refl;
  }

  pub executes_first : Laws n → most_from n.start n.firings most_of_input < 2 ^ 63 → recorded job.schedule < 2 ^ 63 → NamesProcesses (size_of n) job.schedule → HasGiven (width_of n) (stream.started (width_of n) input_limit) [] [] →
      (m : machine.Seen) → m ≡ beginning n.start n.tree n.net → (earlier : ℕ) → earlier < 2 ^ 63 → ((k : ℕ) → item_number n.start k ≡ earlier + k) →
      (width : ℕ) → width ≡ width_of n → (e : Execution) → e ≡ begun_on m earlier n.firings width job.schedule job.keeping → Executes job job.before e
  executes_first laws fits few named given m begins earlier few_earlier numbered width wide e is =
      subst (Executes job job.before) (sym is) (subst (λ w. Executes job job.before (begun_on m earlier n.firings w job.schedule job.keeping)) (sym wide) (record {
        laws = laws;
        firings_is = refl;
        fits = fits;
        few = few;
        numbered = numbered;
        few_earlier = few_earlier;
        items = [];
        outcomes = [];
        walked = [];
        gives = gives_first (width_of n) job.before.input (stream.started (width_of n) input_limit) given refl;
        stands = steps.stands_first n laws job.schedule m begins named;
        trap_is = refl;
        sum_is = refl;
        put = put_nothing job.before.output;
        kept_is = refl;
        same_faults = refl;
      }))

  module _ (now : Streams) (e : Execution) (d : Executes job now e) where
    pub same_width : (node_at e.machine.tree 0).ins ≡ width_of n
    same_width = ap (λ t. (node_at t 0).ins) d.stands.runs.tree

    pub wide : e.stream.words ≡ (node_at e.machine.tree 0).ins
    wide = d.gives.given.width_is ∙ sym same_width

    few_items : length d.items ≤ most_of_input
    few_items = (let few = d.gives.few in omega arith)

    few_firings : most_firings n d.items ≤ most_from n.start n.firings most_of_input
    few_firings = steps.few_fits n.start n.firings (length d.items) most_of_input few_items

    few_fired : e.machine.fired < 2 ^ 63
    few_fired =
        let a = steps.few_fired n d.laws job.schedule e.machine e.picker d.items (ending_of e.stream) d.outcomes e.idle d.walked d.stands in
        let b = few_firings in
        let c = d.fits in
        omega arith

    pub in_range : IsInRange e
    in_range = record {
      place = subst (λ k. HasPlace (length k.procs) e.picker) (sym d.stands.runs.net) d.stands.place;
      named = subst (λ k. HasProcesses (length k.procs) e.picker) (sym d.stands.runs.net) d.stands.named;
      fired = few_fired;
      idle = (let a = d.stands.room in let b = d.few in omega arith);
    }

    -- the number of the item that was emitted last is one of 64 bits
    pub number_fits : e.earlier + e.machine.emitted < 2 ^ 64
    number_fits = (let a = d.few_earlier in let b = d.stands.few in let c = few_fired in omega arith)

    -- memory ran out
    unfoldable pub ends_early : Ends job now (Err fault.NoMemory)
    ends_early = record {
      ends = record {
        stream = e.stream;
        items = d.items;
        closed = closed_so (ending_of e.stream);
        gives = d.gives;
        begun = steps.begun_by (meaning_of n d.items) d.outcomes (change job.before.output now.output) (steps.begins_all n d.laws job.schedule e.machine e.picker d.items (ending_of e.stream) d.outcomes e.idle d.walked d.stands) d.put;
        emits = λ later may.
            steps.begun_by (course_of n job.schedule (d.items ++ later)).state.emitted d.outcomes (change job.before.output now.output)
            (steps.begins_emitted n d.laws job.schedule e.machine e.picker d.items (ending_of e.stream) d.outcomes e.idle d.walked d.stands later (steps.may_come n (ending_of e.stream) later may)) d.put;
      };
      output = d.same_faults;
    }

    -- the machine was fed
    module _ (m : machine.Seen) (s : stream.Seen) (input : Observation (List ℕ)) (feeds : Feeds (node_at e.machine.tree 0).ins e.machine m e.stream s (change now.input input)) where
      abbrev pub fed_so : Feeds (width_of n) e.machine m e.stream s (change now.input input)
      fed_so = subst (λ k. Feeds k e.machine m e.stream s (change now.input input)) same_width feeds

      unfoldable pub fed : AwaitsPick job (streams input now.output) (record e { machine = m; stream = s }) × (left_at (record e { machine = m; stream = s }) ≡ left_at e)
      fed = (
        record {
          executes = record {
            laws = d.laws;
            firings_is = d.firings_is;
            fits = d.fits;
            few = d.few;
            numbered = d.numbered;
            few_earlier = d.few_earlier;
            items = d.items ++ fed_so.more;
            outcomes = d.outcomes;
            walked = d.walked;
            gives = fed_so.gives job.before.input d.items d.gives;
            stands = steps.stands_fed n d.laws job.schedule e.machine m e.picker d.items (ending_of e.stream) (ending_of s) d.outcomes e.idle d.walked d.stands fed_so.kept fed_so.more fed_so.offers fed_so.wide fed_so.request;
            trap_is = d.trap_is;
            sum_is = d.sum_is;
            put = d.put;
            kept_is = d.kept_is;
            same_faults = d.same_faults;
          };
          filled = fed_so.filled;
        },
        ap (λ k. left_of (2 ^ 63) k e.picker) (fed_fired e.machine m fed_so.more fed_so.offers),
      )

    -- memory ran out for that
    module _ (s : stream.Seen) (input : Observation (List ℕ)) (vain : FeedsInVain (node_at e.machine.tree 0).ins e.stream s (change now.input input)) where
      abbrev pub fed_in_vain : FeedsInVain (width_of n) e.stream s (change now.input input)
      fed_in_vain = subst (λ k. FeedsInVain k e.stream s (change now.input input)) same_width vain

      pub unended_then : (x : Ending) → ending_of e.stream ≡ Some x → ⊥
      unended_then x is = no_end (sym fed_in_vain.request ∙ is)
        where
          no_end : ◌≡◌ {A = Option Ending} None (Some x) → ⊥
          no_end h = cc

      pub comes_then : (later : List (List ℤ)) → HaveInWords n.tree later → MayCome n (ending_of e.stream) (fed_in_vain.more ++ later)
      comes_then later in_words = record {
        wide = steps.wide_append (width_of n) fed_in_vain.more later fed_in_vain.wide in_words;
        none = λ x is. absurd (unended_then x is);
      }

      unfoldable pub ends_unfed : Ends job (streams input now.output) (Err fault.NoMemory)
      ends_unfed = record {
        ends = record {
          stream = s;
          items = d.items ++ fed_in_vain.more;
          closed = s.closed;
          gives = fed_in_vain.gives job.before.input d.items d.gives;
          begun =
              steps.begun_by (meaning_of n (d.items ++ fed_in_vain.more)) d.outcomes (change job.before.output now.output)
              (steps.begins_given n d.laws job.schedule e.machine e.picker d.items (ending_of e.stream) d.outcomes e.idle d.walked d.stands fed_in_vain.more
              (record { wide = fed_in_vain.wide; none = λ x is. absurd (unended_then x is) })) d.put;
          emits = λ later on.
              subst (λ i. HasBegun (change job.before.output now.output) (text_of (course_of n job.schedule i).state.emitted)) (sym (append_assoc d.items fed_in_vain.more later))
              (steps.begun_by (course_of n job.schedule (d.items ++ (fed_in_vain.more ++ later))).state.emitted d.outcomes (change job.before.output now.output)
              (steps.begins_emitted n d.laws job.schedule e.machine e.picker d.items (ending_of e.stream) d.outcomes e.idle d.walked d.stands (fed_in_vain.more ++ later) (comes_then later on.wide)) d.put);
        };
        output = d.same_faults;
      }

  module _ (now : Streams) (e : Execution) (a : AwaitsPick job now e) where
    abbrev d : Executes job now e
    d = a.executes

    pub filled : (later : List (List ℤ)) → MayCome n (ending_of e.stream) later → HasFilledInbox e.machine later
    filled = steps.filled_after n (ending_of e.stream) e.machine a.filled

    -- the stream is ended if no process can fire and no trap was emitted
    pub must_end : ready_list e.machine ≡ [] → IsNone e.emitted.trap → IsSome (ending_of e.stream)
    must_end none untrapped = by_trap e.emitted.trap (ending_of e.stream) untrapped d.trap_is (steps.must_end n d.laws job.schedule e.machine e.picker d.items (ending_of e.stream) d.outcomes e.idle d.walked d.stands filled none)
      where
        by_trap : (t : Option Trap) (c : Option Ending) → IsNone t → t ≡ trap_of d.outcomes → (trap_of d.outcomes ≡ None → c ≢ None) → IsSome c
        by_trap None None untrapped is ends = absurd (ends (sym is) refl)
        by_trap None (Some x) untrapped is ends = refl
        by_trap (Some t) c untrapped is ends = absurd (let z : true ≡ false = untrapped in cc)

    -- one at most of the items that were given was not sent
    pub one_waits_at_most : (begun_with n d.items).sent + length d.items ≤ e.machine.sent + 1
    unfolding with_rest state_of
    one_waits_at_most =
        let c : Course = course_under n (d.items ++ []) (trace.picks_of d.walked) in
        let at = d.stands.at [] (steps.nothing_comes n (ending_of e.stream)) in
        let sent : e.machine.sent ≡ c.state.sent = ap (λ x. x.sent) at.follows.state in
        let waits : option_to_list e.machine.inbox ++ [] ≡ c.state.unsent = ap (λ x. x.unsent) at.follows.state in
        let all = d.laws.counted (d.items ++ []) (wide_plain d.items d.stands.wide) (trace.picks_of d.walked) in
        let same = ap length (sym (append-nil (option_to_list e.machine.inbox)) ∙ waits) in
        let first : (begun_with n (d.items ++ [])).sent ≡ (begun_with n d.items).sent = ap (λ i. (begun_with n i).sent) (append-nil d.items) in
        let more : length d.items ≤ length (begun_with n (d.items ++ [])).unsent = subst (λ i. length d.items ≤ length (begun_with n i).unsent) (sym (append-nil d.items)) (begun_unsent n.start n.tree n.net d.items) in
        let one : length (option_to_list e.machine.inbox) ≤ 1 = at_most_one e.machine.inbox in
        omega (arith, sent, all, same, first, more, one)
      where
        wide_plain : (items : List (List ℤ)) → HaveInWords n.tree items → HaveInWords n.tree (items ++ [])
        wide_plain items wide = subst (HaveInWords n.tree) (sym (append-nil items)) wide

    -- no pick is left
    module _ (over : IsOver e) (named : Tree) (named_is : named ≡ n.named) (ran : Ran) (finishes_so : IsFinish named e ran.finish) (stats_are : ran.stats ≡ stats_at e) (lines_are : ran.lines ≡ e.kept) (sum_is : ran.sum ≡ e.emitted.sum) where
      finish_is : IsFinish n.named e ran.finish
      finish_is = subst (λ t. IsFinish t e ran.finish) named_is finishes_so

      pub none_left : (later : List (List ℤ)) → MayCome n (ending_of e.stream) later → picks_from n.tree n.leaf n.net (left_of (most_firings n (d.items ++ later)) e.machine.fired e.picker) e.picker (course_under n (d.items ++ later) (trace.picks_of d.walked)) ≡ []
      none_left = by over
        where
          by : IsOver e → (later : List (List ℤ)) → MayCome n (ending_of e.stream) later → picks_from n.tree n.leaf n.net (left_of (most_firings n (d.items ++ later)) e.machine.fired e.picker) e.picker (course_under n (d.items ++ later) (trace.picks_of d.walked)) ≡ []
          by (inl stuck) = steps.over_stuck n d.laws job.schedule e.machine e.picker d.items (ending_of e.stream) d.outcomes e.idle d.walked d.stands filled stuck
          by (inr ended) = steps.over_ended n d.laws job.schedule e.machine e.picker d.items (ending_of e.stream) d.outcomes e.idle d.walked d.stands filled ended

      -- the run on the items, and whatever may still come after them, goes on just where a process can fire
      goes : (later : List (List ℤ)) → MayCome n (ending_of e.stream) later → goes_on n (course_of n job.schedule (d.items ++ later)) ≡ is_some (ready_list e.machine)
      goes = steps.goes_same n d.laws job.schedule e.machine e.picker d.items (ending_of e.stream) d.outcomes e.idle d.walked d.stands filled none_left

      emitted : (later : List (List ℤ)) → MayCome n (ending_of e.stream) later → (course_of n job.schedule (d.items ++ later)).state.emitted ≡ d.outcomes
      emitted = steps.emitted_so n d.laws job.schedule e.machine e.picker d.items (ending_of e.stream) d.outcomes e.idle d.walked d.stands filled none_left

      pub finishes : (later : List (List ℤ)) → MayCome n (ending_of e.stream) later → (x : Ending) → MayEnd (ending_of e.stream) x → ran.finish ≡ finish_of n (course_of n job.schedule (d.items ++ later)) x
      finishes later may x ends = by (ready_list e.machine) refl
        where
          by : (ready : List ℕ) → ready_list e.machine ≡ ready → ran.finish ≡ finish_of n (course_of n job.schedule (d.items ++ later)) x
          by [] is =
              let count : e.machine.emitted ≡ length d.outcomes = (d.stands.at later may).follows.emitted.count in
              finish_is.stuck is x ends
              ∙ ap (λ k. end_of n.named e.emitted.trap k x) (sym (d.numbered e.machine.emitted))
              ∙ ap (λ k. end_of n.named e.emitted.trap (item_number n.start k) x) count
              ∙ ap (λ t. end_of n.named t (item_number n.start (length d.outcomes)) x) d.trap_is
              ∙ ap (λ o. end_of n.named (trap_of o) (item_number n.start (length o)) x) (sym (emitted later may))
              ∙ sym (cond-false _ _ _ (goes later may ∙ ap is_some is))
          by (p ∷ ps) is =
              finish_is.stopped (λ none. (let z : [] ≡ p ∷ ps = sym none ∙ is in cc))
              ∙ ap (λ k. finish.Stopped k e.idle) (sym (steps.fired_so n d.laws job.schedule e.machine e.picker d.items (ending_of e.stream) d.outcomes e.idle d.walked d.stands filled none_left later may))
              ∙ ap (λ k. finish.Stopped (course_of n job.schedule (d.items ++ later)).fired k) (sym (steps.idle_so n d.laws job.schedule e.machine e.picker d.items (ending_of e.stream) d.outcomes e.idle d.walked d.stands filled none_left later may))
              ∙ sym (cond-true _ _ _ (goes later may ∙ ap is_some is))

      pub closed_so_is : (x : Ending) → ran.finish ≡ finish.Stream x → ending_of e.stream ≡ Some x
      closed_so_is x is = by (ready_list e.machine) refl
        where
          by_close : (t : Option Trap) (c : Option Ending) → (IsNone t → IsSome c) → ((y : Ending) → MayEnd c y → ran.finish ≡ end_of n.named t (e.earlier + e.machine.emitted) y) → c ≡ Some x
          by_close None None must ends = absurd (let z : false ≡ true = must refl in cc)
          by_close None (Some y) must ends = (let z : finish.Stream y ≡ finish.Stream x = sym (ends y refl) ∙ is in let same : y ≡ x = cc in ap (λ k. Some k) same)
          by_close (Some t) None must ends = absurd (let z = sym (ends x tt) ∙ is in cc)
          by_close (Some t) (Some y) must ends = absurd (let z = sym (ends y refl) ∙ is in cc)

          by : (ready : List ℕ) → ready_list e.machine ≡ ready → ending_of e.stream ≡ Some x
          by [] none = by_close e.emitted.trap (ending_of e.stream) (must_end none) (finish_is.stuck none)
          by (p ∷ ps) some = absurd (let z = sym (finish_is.stopped (λ none. (let y : [] ≡ p ∷ ps = sym none ∙ some in cc))) ∙ is in cc)

      pub numbers : ran.stats ≡ record { items = e.machine.sent; fired = e.machine.fired; idle = e.idle; bound = e.machine.sent * n.firings }
      numbers = (let with_firings : ℕ → RunStats = λ k. record { items = e.machine.sent; fired = e.machine.fired; idle = e.idle; bound = e.machine.sent * k } in stats_are ∙ ap with_firings d.firings_is)

      unfoldable pub ends_over : Ends job now (Ok ran)
      ends_over = record {
        ends = record {
          stream = e.stream;
          items = d.items;
          close = ending_of e.stream;
          gives = d.gives;
          requested = subst (λ (k : RunStats). (begun_with n d.items).sent + length d.items ≤ k.items + 1) (sym stats_are) one_waits_at_most;
          outcomes = d.outcomes;
          put = d.put;
          ran = steps.ran n d.laws job.schedule e.machine e.picker d.items (ending_of e.stream) d.outcomes e.idle d.walked d.stands filled none_left ran.stats numbers;
          ends = finishes;
          closed = closed_so_is;
          lines = d.walked;
          traced = steps.traced n d.laws job.schedule e.machine e.picker d.items (ending_of e.stream) d.outcomes e.idle d.walked d.stands filled none_left ran.stats numbers;
          kept = lines_are ∙ d.kept_is;
          summed = sum_is ∙ d.sum_is;
        };
        output = d.same_faults;
      }

    -- a process was picked
    module _ (e' : Execution) (p : ℕ) (picked : Picks e e' p) where
      same_machine : e'.machine ≡ e.machine
      same_machine = ap (λ k. k.machine) picked.after

      abbrev way : Way
      way = after_pick (length e.machine.net.procs) e.picker p

      from : IsPickedFrom (can_step e.machine) (size_of n) e.picker p
      from = steps.picked_so n d.laws job.schedule e.machine e.picker d.items (ending_of e.stream) d.outcomes e.idle d.walked d.stands filled p None picked.pick picked.some

      way_is : way ≡ after_pick (size_of n) e.picker p
      way_is = ap (λ k. after_pick (length k.procs) e.picker p) d.stands.runs.net

      -- the process can't fire
      pub passed : can_step e'.machine p ≡ false → (e'' : Execution) → e'' ≡ after_idle p e' → GoesOn job now e e'' true
      passed cant e'' is = let cannot : can_step e.machine p ≡ false = subst (λ m. can_step m p ≡ false) same_machine cant in subst (λ k. GoesOn job now e k true) (sym (is ∙ ap (after_idle p) picked.after)) (
        record {
          laws = d.laws;
          firings_is = d.firings_is;
          fits = d.fits;
          few = d.few;
          numbered = d.numbered;
          few_earlier = d.few_earlier;
          items = d.items;
          outcomes = d.outcomes;
          walked = d.walked ++ record { pick = p; kind = None } ∷ [];
          gives = d.gives;
          stands =
              subst (λ k. Stands n job.schedule e.machine k d.items (ending_of e.stream) d.outcomes (e.idle + 1) (d.walked ++ record { pick = p; kind = None } ∷ [])) (sym way_is)
              (steps.stands_idle n d.laws job.schedule e.machine e.picker d.items (ending_of e.stream) d.outcomes e.idle d.walked d.stands filled p None picked.pick picked.some cannot picked.there refl);
          trap_is = d.trap_is;
          sum_is = d.sum_is;
          put = d.put;
          kept_is = kept_more job.keeping e.kept d.walked p None d.kept_is;
          same_faults = d.same_faults;
        },
        subst (λ k. left_of (2 ^ 63) e.machine.fired k < left_at e) (sym way_is) (steps.fewer_idle (2 ^ 63) e.machine.fired (can_step e.machine) (size_of n) e.picker p from cannot),
      )

      -- the process fired
      module _ (may : IsTrue (can_step e'.machine p)) (leaf : Leaf) (leaf_is : n.leaf ≡ leaf) (e'' : Execution) (handed : Option Outcome) (fired : HasFired leaf p e' e'' handed) where
        can : IsTrue (can_step e.machine p)
        can = subst (λ m. IsTrue (can_step m p)) same_machine may

        fires : Fires n.leaf e.machine e''.machine p handed
        fires = subst (λ l. Fires l e.machine e''.machine p handed) (sym leaf_is) (subst (λ m. Fires leaf m e''.machine p handed) same_machine fired.fires)

        kind_is : kind_at e.machine.net p ≡ Some fired.kind
        kind_is = subst (λ m. kind_at m.net p ≡ Some fired.kind) same_machine fired.kind_is

        led : Stands n job.schedule e''.machine (after_pick (size_of n) e.picker p) d.items (ending_of e.stream) (d.outcomes ++ option_to_list handed) e.idle (d.walked ++ record { pick = p; kind = Some fired.kind } ∷ [])
        led = steps.stands_fired n d.laws job.schedule e.machine e.picker d.items (ending_of e.stream) d.outcomes e.idle d.walked d.stands filled p (Some fired.kind) picked.pick picked.some e''.machine handed can fires picked.there fired.kind kind_is refl

        -- memory ran out, or writing failed, for the line of the outcome that it handed out
        pub ends_unwritten : (output : Observation (List ℕ)) (failed : RunFault) → HasBegun (change now.output output) (text_of (option_to_list handed)) → WriteCause {T = Emitted} (change now.output output) (Err failed) →
            Ends job (streams now.input output) (Err failed)
        ends_unwritten output failed begun cause = record {
          ends = record {
            stream = e.stream;
            items = d.items;
            closed = closed_so (ending_of e.stream);
            gives = d.gives;
            begun =
                steps.begun_last (meaning_of n d.items) d.outcomes handed job.before.output now.output output
                (steps.led_begins n d.laws job.schedule e.machine e.picker d.items (ending_of e.stream) d.outcomes e.idle d.walked d.stands filled p None picked.pick picked.some e''.machine handed can fires) d.put begun;
            emits = λ later on.
                steps.begun_last (course_of n job.schedule (d.items ++ later)).state.emitted d.outcomes handed job.before.output now.output output
                (steps.begins_emitted n d.laws job.schedule e''.machine (after_pick (size_of n) e.picker p) d.items (ending_of e.stream) (d.outcomes ++ option_to_list handed) e.idle (d.walked ++ record { pick = p; kind = Some fired.kind } ∷ []) led later (steps.may_come n (ending_of e.stream) later on))
                d.put begun;
          };
          output = cause_on Ran Emitted job.before.output now.output output failed d.same_faults cause;
        }

        -- its line was written
        pub went_on : (emitted : Emitted) (output : Observation (List ℕ)) → emitted.trap ≡ fold trap_after e''.emitted.trap (option_to_list handed) → emitted.sum ≡ fold sum_after e''.emitted.sum (option_to_list handed) →
            HasPut (change now.output output) (text_of (option_to_list handed)) → HasSameFaults (change now.output output) → GoesOn job (streams now.input output) e (record e'' { emitted = emitted }) true
        went_on emitted output trap_is sum_is put same_faults = subst (λ k. GoesOn job (streams now.input output) e (record k { emitted = emitted }) true) (sym rest_is) (
          record {
            laws = d.laws;
            firings_is = d.firings_is;
            fits = d.fits;
            few = d.few;
            numbered = d.numbered;
            few_earlier = d.few_earlier;
            items = d.items;
            outcomes = d.outcomes ++ option_to_list handed;
            walked = d.walked ++ record { pick = p; kind = Some fired.kind } ∷ [];
            gives = d.gives;
            stands =
                subst (λ k. Stands n job.schedule e''.machine k d.items (ending_of e.stream) (d.outcomes ++ option_to_list handed) e.idle (d.walked ++ record { pick = p; kind = Some fired.kind } ∷ [])) (sym way_is) led;
            trap_is = trap_is ∙ ap (λ t. fold trap_after t.trap (option_to_list handed)) same_emitted ∙ steps.trap_more e.emitted.trap d.outcomes (option_to_list handed) d.trap_is;
            sum_is = sum_is ∙ ap (λ t. fold sum_after t.sum (option_to_list handed)) same_emitted ∙ steps.sum_more e.emitted.sum d.outcomes (option_to_list handed) d.sum_is;
            put =
                subst (HasPut (change job.before.output output)) (sym (text_more d.outcomes (option_to_list handed)))
                (put_more job.before.output now.output output (text_of d.outcomes) (text_of (option_to_list handed)) d.put put);
            kept_is = kept_more job.keeping e.kept d.walked p (Some fired.kind) d.kept_is;
            same_faults = same_faults ∙ d.same_faults;
          },
          fewer,
        )
          where
            rest_is : e'' ≡ record e { machine = e''.machine; picker = way; kept = kept_with p (Some fired.kind) e.kept }
            rest_is = fired.rest ∙ ap (λ (k : Execution). record k { machine = e''.machine; kept = kept_with p (Some fired.kind) k.kept }) picked.after

            same_emitted : e''.emitted ≡ e.emitted
            same_emitted = ap (λ k. k.emitted) rest_is

            fewer : left_of (2 ^ 63) e''.machine.fired way < left_at e
            fewer =
                let low = (in_range now e d).fired in
                subst (λ k. left_of (2 ^ 63) e''.machine.fired k < left_at e) (sym way_is) (steps.fewer_fired (2 ^ 63) e.machine.fired e''.machine.fired (can_step e.machine) (size_of n) e.picker p from fires.fired (omega arith))

-- whatever job it executes, an execution is fed as its machine is
pub feeds_on : (e : Execution) (m : machine.Seen) (s : stream.Seen) (old new : Observation (List ℕ)) (result : Result (Unit {0}) NoMemory) → IsFed (node_at e.machine.tree 0).ins e.machine m e.stream s (change old new) result →
    FeedsOn (change old new) e (record e { machine = m; stream = s }) result
feeds_on e m s old new (Ok done) feeds = λ job output d. fed job (streams old output) e d m s new feeds
feeds_on e m s old new (Err want) vain = λ job output d. ends_unfed job (streams old output) e d s new vain
