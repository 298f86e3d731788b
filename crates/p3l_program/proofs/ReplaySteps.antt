-- Picks that were written are read again, and a run under them ends as the one in virtual time that left them.
use Rattle.std.proofs.Common.{◌≡◌, ℕ, ℤ, ◌+◌, ◌<◌, ◌^◌, true, List, [], ◌∷◌, ◌++◌, count_by, length, Option, Some, Ok, refl, sym, ap, subst, ◌∙◌, arith, append_assoc, append-nil, rules}
use Rattle.std.specs.List.{AllByRecursion, list_all}
use Rattle.std.specs.Char.{is_ascii_digit}
use Rattle.std.specs.Fmt.{decimal}
use Rattle.std.specs.Str.Parse.{AllDigits, digits_value}
use Rattle.std.proofs.lemmas.Bool.{lt-ltb, ne_eqb}
use Rattle.std.proofs.lemmas.Fmt.{decimal_is_IsNumeral}
use Rattle.std.proofs.lemmas.Str.Parse.{IsDigitsTest, IsNumeralModel, digit_from_value, numerals_by_value}
use Rattle.p3l_io.specs.Change.{Change, HasRisen}
use Rattle.p3l_io.specs.Content.{Held}
use Rattle.p3l_base.specs.declared.outcome.Outcome.{Outcome}
use Rattle.p3l_skel.specs.declared.tree.Tree.{Tree}
use Rattle.p3l_firing.specs.Run.{Course, picked}
use Rattle.p3l_firing.specs.declared.net.Net.{Net}
use Rattle.p3l_run.specs.Network.{Network, course_of, size_of, stats_of, width_of}
use Rattle.p3l_run.specs.declared.keeping.Keeping.{Keeping}
use Rattle.p3l_run.specs.declared.run.Ran.{Ran}
use Rattle.p3l_run.specs.Run.{Finishes, finish_of}
use Rattle.p3l_opts.specs.declared.command.Build.{Build}
use Rattle.p3l_report.specs.declared.stats.Stats.{Stats}
use Rattle.p3l_report.specs.declared.verdict.Finish.{Finish}
use Rattle.p3l_report.specs.declared.verdict.Finish.TheVariants.{Run}
use Rattle.p3l_run.proofs.RunSteps.{nothing_comes}
use Rattle.p3l_sched.specs.declared.schedule.Schedule.{Schedule}
use Rattle.p3l_sched.specs.declared.schedule.Schedule.TheVariants.{Recorded}
use Rattle.p3l_sched.specs.Picks.{AreGap, AreOfWord, AreRead, IsWord, Reads, is_feed, number_of, pick_of}
use Rattle.p3l_stream.specs.declared.items.Items.{Items}
use Rattle.p3l_trace.specs.declared.trace.TraceLine.{TraceLine}
use Rattle.p3l_trace.specs.Agreement.{AgreeFrom}
use Rattle.p3l_trace.specs.Agreement as lines
use Rattle.p3l_program.specs.File.{HasText}
use Rattle.p3l_program.specs.Origin.{built}
use Rattle.p3l_program.specs.Picks.{picks_text}
use Rattle.p3l_program.specs.Plan.{HasNetwork}
use Rattle.p3l_program.specs.Replay.{EveryTimedRunIsReplayed}
use Rattle.p3l_program.specs.Run.{seen_of}
use Rattle.p3l_program.specs.Scheduled.{HasPicks, picks_limit}
use Rattle.p3l_program.specs.Time.{EndsTime}
use Rattle.p3l_program.specs.World.{World}
use Rattle.p3l_program.proofs.DeterminedSteps.{one_network}
use Rattle.p3l_program.proofs.PickSteps.{picks_once}
use Rattle.p3l_program.proofs.SeenSteps.{GoesOnTo, seen_goes_on}

-- ---- picks that were written are read again

digits_test : IsDigitsTest (λ ds. list_all is_ascii_digit ds ≡ true)
digits_test = search rules

own : IsNumeralModel (λ ds. list_all is_ascii_digit ds ≡ true) (digits_value 10)
own = numerals_by_value _ digits_test

-- digits are bytes of a word
of_word : (ds : List ℕ) → AllDigits 10 ds → AreOfWord ds
of_word [] d = tt
of_word (c ∷ cs) d =
    let k = digit_from_value c d.0 in
    (rw (ne_eqb c 32 (λ e. omega (arith, k)), ne_eqb c 9 (λ e. omega (arith, k)), ne_eqb c 13 (λ e. omega (arith, k)), ne_eqb c 10 (λ e. omega (arith, k))) refl, of_word cs d.1)

decimal_word : (n : ℕ) → n < 2 ^ 64 → IsWord (decimal n)
decimal_word n small = (let d = decimal_is_IsNumeral n small in by (decimal n) d.0.0 (of_word (decimal n) d.0.1))
  where
    by : (ds : List ℕ) → 0 < length ds → AreOfWord ds → IsWord ds
    by [] some word = absurd (omega arith)
    by (c ∷ cs) some word = word

-- and write their number
number_again : (n : ℕ) → n < 2 ^ 64 → number_of (decimal n) ≡ Some n
number_again n small =
    let d = decimal_is_IsNumeral n small in
    rw (own.from (decimal n) d.0.1, d.1, lt-ltb n (2 ^ 64) small) refl

pick_again : (count line pick : ℕ) → count < 2 ^ 64 → pick < count → pick_of count line (decimal pick) ≡ Ok pick
pick_again count line pick few below = rw (number_again pick (omega arith), lt-ltb pick count below) refl

-- the picks of a text that begins with a gap on its first line
read_from : (count : ℕ) → count < 2 ^ 64 → (gap picks : List ℕ) → AreGap gap → count_by is_feed gap ≡ 0 → AllByRecursion (λ pick. pick < count) picks
    → (rest : List ℕ) × AreRead count 1 (gap ++ picks_text picks) picks 1 rest × AreGap rest
read_from count few gap [] blank none below = (gap ++ [], (refl, refl), subst AreGap (sym (append-nil gap)) blank)
read_from count few gap (p ∷ []) blank none below =
    let feed = ap (λ k. 1 + k) none in
    (10 ∷ [], (gap, decimal p, 10 ∷ [], record { text_is = ap (λ t. gap ++ t) (append-nil (decimal p ++ 10 ∷ [])); are_gap = blank; is_word = decimal_word p (omega (arith, below.0)); ends = refl }, pick_again count _ p few below.0, (feed, refl)), (refl, tt))
read_from count few gap (p ∷ q ∷ picks) blank none below =
    let later = read_from count few (32 ∷ []) (q ∷ picks) (refl, tt) refl below.1 in
    let feed = ap (λ k. 1 + k) none in (
      later.0,
      (
        gap,
        decimal p,
        32 ∷ picks_text (q ∷ picks),
        record { text_is = ap (λ t. gap ++ t) (append_assoc (decimal p) (32 ∷ []) (picks_text (q ∷ picks))); are_gap = blank; is_word = decimal_word p (omega (arith, below.0)); ends = refl },
        pick_again count _ p few below.0,
        subst (λ line. AreRead count line (32 ∷ picks_text (q ∷ picks)) (q ∷ picks) 1 later.0) (sym feed) later.1,
      ),
      later.2,
    )

pub reads_again : (count : ℕ) (picks : List ℕ) → count < 2 ^ 64 → AllByRecursion (λ pick. pick < count) picks → Reads (picks_text picks) count (Ok picks)
reads_again count picks few below = (let r = read_from count few [] picks tt refl below in (1, r.0, r.1, r.2))

-- ---- the picks of a run are below the number of its processes

all_there : (tree : Tree) (leaf : ℕ → List ℤ → Outcome) (net : Net) (c : Course) (ls : List TraceLine) → AgreeFrom tree leaf net c ls → AllByRecursion (λ pick. pick < length net.procs) (lines.picks_of ls)
unfolding AgreeFrom
all_there tree leaf net c [] agree = tt
all_there tree leaf net c (line ∷ ls) agree = (agree.0.there, all_there tree leaf net (picked tree leaf net c line.pick) ls agree.1)

-- the same of a run in virtual time
picks_there : (w : World) (build : Build) (name : List ℕ) (finish : Finish) (report : Option Stats) (e : EndsTime w build (Some name) finish report) → AllByRecursion (λ pick. pick < size_of e.n) e.to.picks
picks_there w build name finish report e =
    let runs = e.to.runs in
    let f = runs.finishes in
    let traced = f.traced [] (nothing_comes e.n f.close) in
    subst (AllByRecursion (λ pick. pick < size_of e.n)) (traced.picks ∙ runs.made [] (nothing_comes e.n f.close))
    (all_there e.n.tree e.n.leaf e.n.net _ f.lines traced.agrees.lines)

-- ---- a run under them ends alike

-- on what is seen of its input a run of a network emits what the network does under its schedule, has its numbers and its end
module _ (n : Network) (s : Schedule) (keeping : Keeping) (input out : Change (List ℕ)) (end : Ran) (f : Finishes n s keeping input out end)
    (rest : List ℕ) (known : input.old.content ≡ Some rest) (faultless : HasRisen input → ⊥) where
  abbrev to : GoesOnTo n f.close f.items rest
  to = seen_goes_on n rest input f.close f.stream f.items f.gives known faultless

  items_are : f.items ++ to.later ≡ (seen_of (width_of n) rest).items
  items_are = ap (λ (i : Items). i.items) (sym to.seen)

  outcomes_seen : f.outcomes ≡ (course_of n s (seen_of (width_of n) rest).items).state.emitted
  outcomes_seen = (f.ran to.later to.may_come).emitted ∙ ap (λ items. (course_of n s items).state.emitted) items_are

  numbers_seen : end.stats ≡ stats_of n (course_of n s (seen_of (width_of n) rest).items)
  numbers_seen = (f.ran to.later to.may_come).stats_are ∙ ap (λ items. stats_of n (course_of n s items)) items_are

  finish_seen : end.finish ≡ finish_of n (course_of n s (seen_of (width_of n) rest).items) (seen_of (width_of n) rest).ending
  finish_seen =
      f.ends to.later to.may_come to.e to.may_end
      ∙ ap (λ (i : Items). finish_of n (course_of n s i.items) i.ending) (sym to.seen)

-- one text is held under a name
one_text : (held : Held) (name text other : List ℕ) → HasText (Some held) picks_limit name text → HasText (Some held) picks_limit name other → other ≡ text
one_text held name text other a b = (let x = a.holds in let y = b.holds in cc)

pub replayed : EveryTimedRunIsReplayed
replayed w build name finish report held e has =
    let there = picks_there w build name finish report e in
    let few = e.to.runs.few in
    let reads : Reads (picks_text e.to.picks) (size_of e.n) (Ok e.to.picks) = reads_again (size_of e.n) e.to.picks (omega (arith, few)) there in
    record {
      reads = record { text = picks_text e.to.picks; has = has; picks = e.to.picks; reads = reads; is = refl };
      alike = λ after trace reported other_finish stats rest r files_are texts input other_input faultless other_faultless.
          let same : r.n ≡ e.n = one_network w.files.old.content held build e.n r.n e.has.network texts (subst (λ f. HasNetwork f (built build) r.n) files_are r.has.network) in
          let p : HasPicks (Some held) (size_of r.n) name r.s = subst (λ h. HasPicks h (size_of r.n) name r.s) files_are r.has.schedule in
          let text : p.text ≡ picks_text e.to.picks = one_text held name (picks_text e.to.picks) p.text has p.has in
          let read : Reads (picks_text e.to.picks) (size_of e.n) (Ok p.picks) = subst (λ t. Reads t (size_of e.n) (Ok p.picks)) text (subst (λ (n : Network). Reads p.text (size_of n) (Ok p.picks)) same p.reads) in
          let s_is : r.s ≡ Recorded e.to.picks = p.is ∙ ap Recorded (picks_once (picks_text e.to.picks) (size_of e.n) p.picks e.to.picks read reads) in
          let f = r.finishes in
          let g = e.to.runs.finishes in
          let mine = outcomes_seen e.n (Recorded e.to.picks) _ _ _ e.to.ran g rest input faultless in
          let here = outcomes_seen r.n r.s _ _ _ r.ran f rest other_input other_faultless in
          let my_numbers = numbers_seen e.n (Recorded e.to.picks) _ _ _ e.to.ran g rest input faultless in
          let here_numbers = numbers_seen r.n r.s _ _ _ r.ran f rest other_input other_faultless in
          let my_finish = finish_seen e.n (Recorded e.to.picks) _ _ _ e.to.ran g rest input faultless in
          let here_finish = finish_seen r.n r.s _ _ _ r.ran f rest other_input other_faultless in
          record {
            finish_is =
                r.finish_is
                ∙ ap Run (here_finish
                ∙ ap (λ (n : Network). finish_of n (course_of n r.s (seen_of (width_of n) rest).items) (seen_of (width_of n) rest).ending) same
                ∙ ap (λ s. finish_of e.n (course_of e.n s (seen_of (width_of e.n) rest).items) (seen_of (width_of e.n) rest).ending) s_is
                ∙ sym my_finish)
                ∙ sym e.to.finish_is;
            outcomes_are =
                here
                ∙ ap (λ (n : Network). (course_of n r.s (seen_of (width_of n) rest).items).state.emitted) same
                ∙ ap (λ s. (course_of e.n s (seen_of (width_of e.n) rest).items).state.emitted) s_is
                ∙ sym mine;
            numbers_are =
                here_numbers
                ∙ ap (λ (n : Network). stats_of n (course_of n r.s (seen_of (width_of n) rest).items)) same
                ∙ ap (λ s. stats_of e.n (course_of e.n s (seen_of (width_of e.n) rest).items)) s_is
                ∙ sym my_numbers;
          };
    }
