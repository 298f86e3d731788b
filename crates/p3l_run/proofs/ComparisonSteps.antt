-- A walk along a trace: its first state, what is fed, each line, and the end.
use Rattle.std.proofs.Common.{◌≡◌, ◌≢◌, ℕ, ℤ, suc, ◌+◌, ◌-◌, ◌<◌, ◌≤◌, ◌^◌, Bool, true, false, List, [], ◌∷◌, ◌++◌, length, take, drop, get_or, Option, Some, None, Result, Ok, Err, OnErr, inl, inr, refl, sym, ap, subst, ◌∙◌, arith, append_assoc, append-nil, zero-add}
use Rattle.std.specs.Option.{option_to_list}
use Rattle.std.proofs.Math.Seq.{take-append_seam, take-suc}
use Rattle.std.proofs.lemmas.List.{length-append, length-take-le, take-append-drop, take_all}
use Rattle.p3l_base.specs.declared.NoMemory.{NoMemory}
use Rattle.p3l_base.specs.declared.outcome.Outcome.{Outcome}
use Rattle.p3l_base.specs.Memory.{OnGiven, Refused}
use Rattle.p3l_firing.specs.declared.net.Net.{Net}
use Rattle.p3l_skel.specs.declared.tree.Tree.{Tree}
use Rattle.p3l_skel.specs.Tree.{node_at}
use Rattle.p3l_firing.specs.NetInvariants.{HaveInWords}
use Rattle.p3l_io.specs.Change.{Observation, change}
use Rattle.p3l_firing.specs.Fire.{can_fire}
use Rattle.p3l_net.specs.Machine.{Fires, Seen, can_step, state_of}
use Rattle.p3l_firing.specs.Nodes.{Leaf}
use Rattle.p3l_net.specs.Offered.{Follows, HasFilledInbox}
use Rattle.p3l_firing.specs.Run.{Course, after_picks, course_from, picked}
use Rattle.p3l_firing.specs.State.{first_state, with_rest}
use Rattle.p3l_stream.specs.declared.items.Ending.{Ending}
use Rattle.p3l_stream.specs.Given.{HasGiven}
use Rattle.p3l_stream.specs.Seen as stream
use Rattle.p3l_run.specs.Feed.{Feeds, IsFed, Offers, ending_of, input_limit, most_of_input}
use Rattle.p3l_run.specs.Laws.{Laws, Runs}
use Rattle.p3l_run.specs.Network.{Network, begun_with, course_under, width_of}
use Rattle.p3l_run.specs.Run.{MayCome}
use Rattle.p3l_run.specs.Start.{beginning, fresh, most_from, state_from}
use Rattle.p3l_run.proofs.FeedSteps.{gives_first}
use Rattle.p3l_run.proofs.RunSteps.{few_fits, filled_after, nothing_comes, wide_append}
use Rattle.p3l_run.proofs.TraceSteps.{agree_more, picks_more, same_line}
use Rattle.p3l_trace.specs.declared.trace.TraceLine.{TraceLine}
use Rattle.p3l_trace.specs.declared.trace.Traced.{Traced}
use Rattle.p3l_trace.specs.Agreement.{AgreeFrom, AgreesIn, AgreesWith, AllAgree, IsCounted, picks_of}
use Rattle.p3l_run.specs.declared.comparison.Comparison.{Comparison}
use Rattle.p3l_run.specs.Retraced.{AgreesOn, DiffersOn, IsRequestedBy, one_waits, picks_to, sent_before_last}
use Rattle.p3l_run.specs.Comparison.{AwaitsLine, FeedsOn, HasPassed, IsAt, Passes, Stands, Steps, StepsIf, Walks, started}

no_end : (e : Ending) → ◌≡◌ {A = Option Ending} None (Some e) → ⊥
no_end e h = cc

-- the picks in front of the last one
picks_front : (picks : List ℕ) (p : ℕ) → take (length (picks ++ p ∷ []) - 1) (picks ++ p ∷ []) ≡ picks
picks_front picks p =
    let size : length (picks ++ p ∷ []) - 1 ≡ length picks = omega (arith, length-append picks (p ∷ [])) in
    ap (λ k. take k (picks ++ p ∷ [])) size ∙ take-append_seam picks (p ∷ [])

-- the lines up to the one of a number
lines_to : (lines walked : List TraceLine) (line : TraceLine) (after : List TraceLine) (number : ℕ) → lines ≡ walked ++ line ∷ after → number ≡ length walked + 2 → take (number - 1) lines ≡ walked ++ line ∷ []
lines_to lines walked line after number are is =
    let size : number - 1 ≡ length (walked ++ line ∷ []) = omega (arith, length-append walked (line ∷ [])) in
    ap (take (number - 1)) (are ∙ sym (append_assoc walked (line ∷ []) after))
    ∙ ap (λ k. take k ((walked ++ line ∷ []) ++ after)) size ∙ take-append_seam (walked ++ line ∷ []) after

-- of the last line these are all
all_picks : (traced : Traced) (number : ℕ) → number ≡ length traced.lines + 2 → picks_to traced number ≡ picks_of traced.lines
all_picks traced number is = ap picks_of (take_all (number - 1) traced.lines (omega arith))

module _ (n : Network) where
  -- items were requested before some picks if one item waits for the last of them, unless the stream has ended
  request_last : (items : List (List ℤ)) (picks : List ℕ) (p given : ℕ) (close : Option Ending) → given ≡ (course_under n items picks).state.sent + one_waits close → IsRequestedBy n items (picks ++ p ∷ []) given close
  request_last items picks p given close is = by picks (is ∙ ap (λ ps. (course_under n items ps).state.sent + one_waits close) (sym (picks_front picks p)))
    where
      by : (ps : List ℕ) → given ≡ sent_before_last n items (ps ++ p ∷ []) + one_waits close → IsRequestedBy n items (ps ++ p ∷ []) given close
      by [] so = so
      by (q ∷ ps) so = so

  -- a fact of the tree and the net of a machine that runs the network holds of the network's
  at_network : (m : Seen) → Runs n m → (P : Tree → Net → Type 0) → P m.tree m.net → P n.tree n.net
  at_network m runs P p = subst (λ t. P t n.net) runs.tree (subst (λ k. P m.tree k) runs.net p)

  -- an item that was offered
  module _ (laws : Laws n) (m m' : Seen) (given : List (List ℤ)) (close close' : Option Ending) (outcomes : List Outcome) (walked : List TraceLine) (s : Stands n m given close outcomes walked)
      (kept : (e : Ending) → close ≡ Some e → close' ≡ Some e) where
    stands_same : Offers m m' [] → Stands n m' (given ++ []) close' outcomes walked
    stands_same same =
        subst (λ k. Stands n k (given ++ []) close' outcomes walked) (sym same)
        (subst (λ g. Stands n m g close' outcomes walked) (sym (append-nil given)) (record {
          runs = s.runs;
          wide = s.wide;
          at = λ later may. s.at later (record { wide = may.wide; none = λ e is. may.none e (kept e is) });
        }))

    stands_offered : (item : List ℤ) → m.inbox ≡ None → m' ≡ record m { inbox = Some item } → length item ≡ width_of n → close ≡ None → Stands n m' (given ++ item ∷ []) close' outcomes walked
    stands_offered item empty is one not_ended =
        subst (λ k. Stands n k (given ++ item ∷ []) close' outcomes walked) (sym is) (record {
          runs = record { tree = s.runs.tree; net = s.runs.net };
          wide = wide_append (width_of n) given (item ∷ []) s.wide (one, tt);
          at = λ later may.
              let was = s.at (item ∷ later) (record { wide = (one, may.wide); none = λ e closed. absurd (no_end e (sym not_ended ∙ closed)) }) in
              subst (λ i. IsAt n (record m { inbox = Some item }) i later outcomes walked) (sym (append_assoc given (item ∷ []) later)) (record {
                follows = laws.offered m outcomes item later (course_under n (given ++ item ∷ later) (picks_of walked)) was.follows empty;
                agree = was.agree;
              });
        })

    pub stands_fed : (more : List (List ℤ)) → Offers m m' more → HaveInWords n.tree more → (more ≢ [] → close ≡ None) → Stands n m' (given ++ more) close' outcomes walked
    stands_fed [] offers wide request = stands_same offers
    stands_fed (item ∷ more) offers wide request =
        subst (λ k. Stands n m' (given ++ item ∷ k) close' outcomes walked) (sym offers.2) (stands_offered item offers.0 offers.1 wide.0 (request (λ e. cc)))

  -- once the stream has ended nothing more is given, and the inbox is as it was
  still_empty : (m m' : Seen) (close : Option Ending) (more : List (List ℤ)) → Offers m m' more → (more ≢ [] → close ≡ None) → (e : Ending) → close ≡ Some e → m.inbox ≡ None → m'.inbox ≡ None
  still_empty m m' close [] offers request e ended empty = ap (λ (k : Seen). k.inbox) offers ∙ empty
  still_empty m m' close (item ∷ more) offers request e ended empty = absurd (no_end e (sym (request (λ h. cc)) ∙ ended))

  -- before the first firing no item was sent
  none_sent : n.start ≡ fresh → (items : List (List ℤ)) → (begun_with n items).sent + length (begun_with n items).unsent ≡ length items
  unfolding first_state
  none_sent fresh_is items = ap (λ s. (state_from s n.tree n.net items).sent + length (state_from s n.tree n.net items).unsent) fresh_is ∙ zero-add (length items)

  -- each item that was given was sent, or waits
  module _ (laws : Laws n) (fresh_is : n.start ≡ fresh) (m : Seen) (given : List (List ℤ)) (close : Option Ending) (outcomes : List Outcome) (walked : List TraceLine) (s : Stands n m given close outcomes walked) where
    abbrev at_last : Course
    at_last = course_under n (given ++ []) (picks_of walked)

    sent_is : m.sent ≡ at_last.state.sent
    unfolding with_rest state_of
    sent_is = ap (λ x. x.sent) (s.at [] (nothing_comes n close)).follows.state

    waiting_is : option_to_list m.inbox ++ [] ≡ at_last.state.unsent
    unfolding with_rest state_of
    waiting_is = ap (λ x. x.unsent) (s.at [] (nothing_comes n close)).follows.state

    pub all_given : length given ≡ m.sent + length (option_to_list m.inbox)
    all_given =
        let count = laws.counted (given ++ []) (wide_append (width_of n) given [] s.wide tt) (picks_of walked) in
        let a = ap length (append-nil given) in
        let b = ap length (append-nil (option_to_list m.inbox)) in
        let c = ap length waiting_is in
        let d = sent_is in
        let e = none_sent fresh_is (given ++ []) in
        omega arith

    -- so one waits as long as the stream isn't ended, and none then
    pub waits_so : (close ≡ None → m.inbox ≢ None) → ((e : Ending) → close ≡ Some e → m.inbox ≡ None) → length given ≡ m.sent + one_waits close
    waits_so filled empty = all_given ∙ ap (λ k. m.sent + k) (by close m.inbox filled empty)
      where
        by : (c : Option Ending) (inbox : Option (List ℤ)) → (c ≡ None → inbox ≢ None) → ((e : Ending) → c ≡ Some e → inbox ≡ None) → length (option_to_list inbox) ≡ one_waits c
        by None None filled empty = absurd (filled refl refl)
        by None (Some item) filled empty = refl
        by (Some e) None filled empty = refl
        by (Some e) (Some item) filled empty = absurd (let z = empty e refl in cc)

    -- once all was sent and nothing comes, no firing leaves an item that waits
    pub stays_empty : (m' : Seen) (outcomes' : List Outcome) (p : ℕ) → Follows m' outcomes' [] (picked n.tree n.leaf n.net at_last p) → m.inbox ≡ None → m'.inbox ≡ None
    unfolding with_rest state_of
    stays_empty m' outcomes' p follows none =
        let nothing : at_last.state.unsent ≡ [] = sym waiting_is ∙ ap (λ o. option_to_list o ++ []) none in
        let left : option_to_list m'.inbox ++ [] ≡ [] = ap (λ x. x.unsent) follows.state ∙ laws.none_comes at_last p nothing in
        by m'.inbox left
      where
        by : (inbox : Option (List ℤ)) → option_to_list inbox ++ [] ≡ [] → inbox ≡ None
        by None left = refl
        by (Some item) left = absurd (let z = left in cc)

  module _ (first : Observation (List ℕ)) where
    -- nothing was requested and no line passed
    pub walks_first : Laws n → n.start ≡ fresh → most_from n.start n.firings most_of_input < 2 ^ 63 → HasGiven (width_of n) (stream.started (width_of n) input_limit) [] [] → (width : ℕ) → width ≡ width_of n → (w : Comparison) → w ≡ started n.tree n.net width → Walks n (change first first) [] w
    unfolding after_picks AgreeFrom
    walks_first laws fresh_is fits given width wide w is =
        subst (Walks n (change first first) []) (sym is) (subst (λ k. Walks n (change first first) [] (started n.tree n.net k)) (sym wide) (record {
          passed = record {
            laws = laws;
            fresh_is = fresh_is;
            fits = fits;
            items = [];
            outcomes = [];
            gives = gives_first (width_of n) first (stream.started (width_of n) input_limit) given refl;
            stands = record { runs = record { tree = refl; net = refl }; wide = tt; at = λ later may. record { follows = subst (λ s. Follows (beginning s n.tree n.net) [] later (course_from (begun_with n later))) fresh_is (laws.starts later); agree = tt } };
            empty = λ e ends. refl;
          };
          request = λ later may. (refl, refl);
        }))

    module _ (now : Observation (List ℕ)) (walked : List TraceLine) (w : Comparison) (d : HasPassed n (change first now) walked w) where
      same_width : (node_at w.machine.tree 0).ins ≡ width_of n
      same_width = ap (λ t. (node_at t 0).ins) d.stands.runs.tree

      pub wide : w.stream.words ≡ (node_at w.machine.tree 0).ins
      wide = d.gives.given.width_is ∙ sym same_width

      -- no machine fires more often than this number
      pub fired_fits : w.machine.fired < 2 ^ 63
      fired_fits =
          let may = nothing_comes n (ending_of w.stream) in
          let items : List (List ℤ) = d.items ++ [] in
          let all_wide : HaveInWords n.tree items = wide_append (width_of n) d.items [] d.stands.wide may.wide in
          let a = d.laws.fired_most items all_wide (picks_of walked) in
          let same = (d.stands.at [] may).follows.fired in
          let whole = ap length (append-nil d.items) in
          let few : length items ≤ most_of_input = (let few = d.gives.few in omega arith) in
          let most = few_fits n.start n.firings (length items) most_of_input few in
          let fits = d.fits in
          omega (arith, a, most, same, fits)

      fed_empty : (m : Seen) (close : Option Ending) (more : List (List ℤ)) → Offers w.machine m more → (more ≢ [] → ending_of w.stream ≡ None) → ((e : Ending) → ending_of w.stream ≡ None → close ≡ Some e → m.inbox ≡ None) →
          (e : Ending) → close ≡ Some e → m.inbox ≡ None
      fed_empty m close more offers request empty e ends = by (ending_of w.stream) refl
        where
          by : (c : Option Ending) → ending_of w.stream ≡ c → m.inbox ≡ None
          by None is = empty e is ends
          by (Some x) is = still_empty w.machine m (ending_of w.stream) more offers request x is (d.empty x is)

      -- the machine was fed
      pub fed : (m : Seen) (s : stream.Seen) (after : Observation (List ℕ)) → Feeds (node_at w.machine.tree 0).ins w.machine m w.stream s (change now after) → AwaitsLine n (change first after) walked (record w { machine = m; stream = s })
      fed m s after feeds =
          let f : Feeds (width_of n) w.machine m w.stream s (change now after) = subst (λ k. Feeds k w.machine m w.stream s (change now after)) same_width feeds in
          let stands : Stands n m (d.items ++ f.more) (ending_of s) d.outcomes walked = stands_fed d.laws w.machine m d.items (ending_of w.stream) (ending_of s) d.outcomes walked d.stands f.kept f.more f.offers f.wide f.request in
          let empty : (e : Ending) → ending_of s ≡ Some e → m.inbox ≡ None = fed_empty m (ending_of s) f.more f.offers f.request f.empty in
          record {
            passed = record {
              laws = d.laws;
              fresh_is = d.fresh_is;
              fits = d.fits;
              items = d.items ++ f.more;
              outcomes = d.outcomes;
              gives = f.gives first d.items d.gives;
              stands = stands;
              empty = empty;
            };
            filled = f.filled;
            waits = waits_so d.laws d.fresh_is m (d.items ++ f.more) (ending_of s) d.outcomes walked stands f.filled empty;
          }

    module _ (now : Observation (List ℕ)) (walked : List TraceLine) (w : Comparison) (walks : Walks n (change first now) walked w) where
      abbrev so : HasPassed n (change first now) walked w
      so = walks.passed

      -- the trace is one of a run
      pub agrees_on : (traced : Traced) → traced.lines ≡ walked → IsCounted traced → AgreesOn n traced (change first now) (ending_of w.stream)
      agrees_on traced all counted = record {
        stream = w.stream;
        items = so.items;
        gives = so.gives;
        request = λ later may. subst (λ k. IsRequestedBy n (so.items ++ later) (picks_of k) (length so.items) (ending_of w.stream)) (sym all) (walks.request later may);
        holds = λ later may. record { lines = subst (λ k. AllAgree n.tree n.leaf n.net (begun_with n (so.items ++ later)) k) (sym all) (so.stands.at later may).agree; counts = counted };
      }

      -- or its counts are not those of its lines
      pub miscounts_on : (traced : Traced) (number : ℕ) → traced.lines ≡ walked → (IsCounted traced → ⊥) → number ≡ length traced.lines + 2 → DiffersOn n traced (change first now) number
      miscounts_on traced number all other is = (
        ending_of w.stream,
        record {
          stream = w.stream;
          items = so.items;
          gives = so.gives;
          request = λ later may. subst (λ k. IsRequestedBy n (so.items ++ later) k (length so.items) (ending_of w.stream)) (ap picks_of (sym all) ∙ sym (all_picks traced number is)) (walks.request later may);
          holds = λ later may. inr (record { agree = subst (λ k. AllAgree n.tree n.leaf n.net (begun_with n (so.items ++ later)) k) (sym all) (so.stands.at later may).agree; other = other; number_is = is });
        },
      )

    module _ (now : Observation (List ℕ)) (walked : List TraceLine) (w : Comparison) (a : AwaitsLine n (change first now) walked w) (line : TraceLine) where
      abbrev d : HasPassed n (change first now) walked w
      d = a.passed

      abbrev course : List (List ℤ) → Course
      course later = course_under n (d.items ++ later) (picks_of walked)

      filled : (later : List (List ℤ)) → MayCome n (ending_of w.stream) later → HasFilledInbox w.machine later
      filled = filled_after n (ending_of w.stream) w.machine a.filled

      can_same : (later : List (List ℤ)) → MayCome n (ending_of w.stream) later → can_fire n.tree n.net (course later).state line.pick ≡ can_step w.machine line.pick
      can_same later may =
          at_network w.machine d.stands.runs (λ t k. can_fire t k (course later).state line.pick ≡ can_step w.machine line.pick)
          (d.laws.can_fires w.machine d.outcomes later (course later) line.pick (d.stands.at later may).follows (filled later may))

      -- items were requested before the line's pick too
      request_more : (later : List (List ℤ)) → MayCome n (ending_of w.stream) later → IsRequestedBy n (d.items ++ later) (picks_of (walked ++ line ∷ [])) (length d.items) (ending_of w.stream)
      unfolding with_rest state_of
      request_more later may =
          subst (λ ps. IsRequestedBy n (d.items ++ later) ps (length d.items) (ending_of w.stream)) (sym (picks_more walked line))
          (request_last (d.items ++ later) (picks_of walked) line.pick (length d.items) (ending_of w.stream)
          (a.waits ∙ ap (λ k. k + one_waits (ending_of w.stream)) (ap (λ x. x.sent) (d.stands.at later may).follows.state)))

      -- the line differs
      pub differs_on : (traced : Traced) (after : List TraceLine) (number : ℕ) → traced.lines ≡ walked ++ line ∷ after → (AgreesWith w.machine line → ⊥) → number ≡ length walked + 2 → DiffersOn n traced (change first now) number
      differs_on traced after number are other is = (
        ending_of w.stream,
        record {
          stream = w.stream;
          items = d.items;
          gives = d.gives;
          request = λ later may. subst (λ k. IsRequestedBy n (d.items ++ later) (picks_of k) (length d.items) (ending_of w.stream)) (sym (lines_to traced.lines walked line after number are is)) (request_more later may);
          holds = λ later may. inl (record {
            front = walked;
            line = line;
            after = after;
            lines_are = are;
            agree = (d.stands.at later may).agree;
            other = λ agrees. other (same_line _ _ n.net w.machine.net line (can_same later may) (sym d.stands.runs.net) agrees);
            number_is = is;
          });
        },
      )

      -- the line agrees, and its pick is made
      module _ (agrees : AgreesWith w.machine line) where
        agrees_in : (later : List (List ℤ)) → MayCome n (ending_of w.stream) later → AgreesIn n.tree n.net (course later).state line
        agrees_in later may = same_line _ _ w.machine.net n.net line (sym (can_same later may)) d.stands.runs.net agrees

        one_more : (later : List (List ℤ)) → course_under n (d.items ++ later) (picks_of (walked ++ line ∷ [])) ≡ picked n.tree n.leaf n.net (course later) line.pick
        one_more later = ap (course_under n (d.items ++ later)) (picks_more walked line) ∙ d.laws.one_more _ (picks_of walked) line.pick

        walks_on : (m : Seen) (handed : Option Outcome) → Runs n m
            → ((later : List (List ℤ)) → MayCome n (ending_of w.stream) later → Follows m (d.outcomes ++ option_to_list handed) later (picked w.machine.tree n.leaf w.machine.net (course later) line.pick)) → Walks n (change first now) (walked ++ line ∷ []) (record w { machine = m })
        walks_on m handed runs follows = record {
          passed = record {
            laws = d.laws;
            fresh_is = d.fresh_is;
            fits = d.fits;
            items = d.items;
            outcomes = d.outcomes ++ option_to_list handed;
            gives = d.gives;
            stands = record {
              runs = runs;
              wide = d.stands.wide;
              at = λ later may. record {
                follows = subst (λ c. Follows m (d.outcomes ++ option_to_list handed) later c) (sym (one_more later)) (follows_on later may);
                agree = agree_more n.tree n.leaf n.net _ walked line (d.stands.at later may).agree (agrees_in later may);
              };
            };
            empty = λ e ends.
                stays_empty d.laws d.fresh_is w.machine d.items (ending_of w.stream) d.outcomes walked d.stands m (d.outcomes ++ option_to_list handed) line.pick
                (follows_on [] (nothing_comes n (ending_of w.stream))) (d.empty e ends);
          };
          request = request_more;
        }
          where
            follows_on : (later : List (List ℤ)) → MayCome n (ending_of w.stream) later → Follows m (d.outcomes ++ option_to_list handed) later (picked n.tree n.leaf n.net (course later) line.pick)
            follows_on later may =
                at_network w.machine d.stands.runs (λ t k. Follows m (d.outcomes ++ option_to_list handed) later (picked t n.leaf k (course later) line.pick)) (follows later may)

        fired : (m : Seen) (handed : Option Outcome) → can_step w.machine line.pick ≡ true → Fires n.leaf w.machine m line.pick handed → Walks n (change first now) (walked ++ line ∷ []) (record w { machine = m })
        fired m handed can fires =
            walks_on m handed (record { tree = fires.tree ∙ d.stands.runs.tree; net = fires.net ∙ d.stands.runs.net })
            (λ later may. d.laws.fires w.machine m d.outcomes later (course later) line.pick handed (d.stands.at later may).follows (filled later may) can fires)

        idle : can_step w.machine line.pick ≡ false → Walks n (change first now) (walked ++ line ∷ []) w
        idle cannot =
            walks_on w.machine None d.stands.runs
            (λ later may.
            subst (λ o. Follows w.machine o later (picked w.machine.tree n.leaf w.machine.net (course later) line.pick)) (sym (append-nil d.outcomes))
            (d.laws.idles w.machine d.outcomes later (course later) line.pick (d.stands.at later may).follows (filled later may) cannot))

        pub stepped : (leaf : Leaf) → n.leaf ≡ leaf → (new : Comparison) → Steps leaf line.pick w new → Walks n (change first now) (walked ++ line ∷ []) new
        stepped leaf leaf_is new steps = by (can_step w.machine line.pick) refl steps
          where
            by : (b : Bool) → can_step w.machine line.pick ≡ b → StepsIf b leaf line.pick w new → Walks n (change first now) (walked ++ line ∷ []) new
            by true can step =
                subst (Walks n (change first now) (walked ++ line ∷ [])) (sym step.2) (fired new.machine step.0 can (subst (λ l. Fires l w.machine new.machine line.pick step.0) (sym leaf_is) step.1))
            by false cannot same = subst (Walks n (change first now) (walked ++ line ∷ [])) (sym same) (idle cannot)

-- whatever the network is, a comparison is fed as its machine is
pub feeds_on : (w : Comparison) (m : Seen) (s : stream.Seen) (old new : Observation (List ℕ)) (result : Result (Unit {0}) NoMemory) → IsFed (node_at w.machine.tree 0).ins w.machine m w.stream s (change old new) result → OnErr result Refused →
    OnGiven result (FeedsOn (change old new) w (record w { machine = m; stream = s }))
feeds_on w m s old new (Ok done) feeds wants = λ n first walked d. fed n first old walked w d m s new feeds
feeds_on w m s old new (Err want) vain wants = wants

next : (i : ℕ) → i + 1 ≡ suc i
next i = omega arith

-- the lines in front of one, and it
lines_longer : (xs : List TraceLine) (i : ℕ) (d : TraceLine) → i < length xs → take (i + 1) xs ≡ take i xs ++ get_or xs i d ∷ []
lines_longer xs i d low = ap (λ k. take k xs) (next i) ∙ take-suc xs i d low

lines_here : (xs : List TraceLine) (i : ℕ) (d : TraceLine) → i < length xs → xs ≡ take i xs ++ get_or xs i d ∷ drop (i + 1) xs
lines_here xs i d low =
    sym (take-append-drop (i + 1) xs) ∙ ap (λ t. t ++ drop (i + 1) xs) (lines_longer xs i d low) ∙ append_assoc (take i xs) (get_or xs i d ∷ []) (drop (i + 1) xs)

-- a trace whose lines are gone over, of which the first `passed` were passed
module _ (n : Network) (first now : Observation (List ℕ)) (traced : Traced) (lines : List TraceLine) (same : lines ≡ traced.lines) (passed : ℕ) (w : Comparison) where
  abbrev front : List TraceLine
  front = take passed traced.lines

  -- its next line
  module _ (d : TraceLine) (low : passed < length lines) where
    abbrev line : TraceLine
    line = get_or lines passed d

    there : passed < length traced.lines
    there = subst (λ l. passed < length l) same low

    line_is : get_or traced.lines passed d ≡ line
    line_is = ap (λ l. get_or l passed d) (sym same)

    pub line_passed : (agrees : Bool) → agrees ≡ true → Passes n (change first now) front line w agrees → Walks n (change first now) (take (passed + 1) traced.lines) w
    line_passed agrees is passes =
        subst (λ l. Walks n (change first now) l w) (sym (lines_longer traced.lines passed d there ∙ ap (λ l. front ++ l ∷ []) line_is)) (subst (Passes n (change first now) front line w) is passes)

    pub line_differs : (agrees : Bool) → agrees ≡ false → Passes n (change first now) front line w agrees → (number : ℕ) → number ≡ passed + 2 → DiffersOn n traced (change first now) number
    line_differs agrees is passes number counts =
        let differs = subst (Passes n (change first now) front line w) is passes in
        differs_on n first now front w differs.0 line traced (drop (passed + 1) traced.lines) number (lines_here traced.lines passed d there ∙ ap (λ l. front ++ l ∷ drop (passed + 1) traced.lines) line_is) differs.1
        (let size = length-take-le passed traced.lines (let t = there in omega arith) in omega arith)

  -- it has no more lines
  module _ (past : length lines ≤ passed) (walks : Walks n (change first now) front w) where
    all : traced.lines ≡ front
    all = sym (take_all passed traced.lines (subst (λ l. length l ≤ passed) same past))

    pub lines_agree : IsCounted traced → AgreesOn n traced (change first now) (ending_of w.stream)
    lines_agree = agrees_on n first now front w walks traced all

    pub counts_differ : passed ≤ length lines → (IsCounted traced → ⊥) → (number : ℕ) → number ≡ passed + 2 → DiffersOn n traced (change first now) number
    counts_differ most other number counts = miscounts_on n first now front w walks traced number all other (let size = ap length same in omega arith)
