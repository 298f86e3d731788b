-- From the run of what is generated to the verdict of `gen`.
use Rattle.std.proofs.Common.{◌≡◌, ℕ, ◌<◌, ◌≤◌, ◌^◌, true, false, List, [], ◌∷◌, length, Option, Some, None, refl, sym, ap, subst, inl, inr, ◌∙◌, arith}
use Rattle.std.specs.declared.result.Result.TheVariants.{Ok, Err}
use Rattle.p3l_gen.specs.Texts.{costs_text, program_text, stream_text}
use Rattle.p3l_io.specs.Change.{Change, IsStill, change, stream}
use Rattle.p3l_io.specs.Content.{Held}
use Rattle.p3l_cost.specs.declared.costs.Costs.{Costs}
use Rattle.p3l_cost.specs.declared.refusal.CostRefusal.{CostRefusal}
use Rattle.p3l_cost.specs.declared.refusal.CostRefusal.TheVariants as costs
use Rattle.p3l_cost.specs.File.{IsRead, Says}
use Rattle.p3l_model.specs.Service.{service}
use Rattle.p3l_alloc.specs.Chosen.{IsShort}
use Rattle.p3l_opts.specs.declared.word.TheConstants.{ITEMS}
use Rattle.p3l_opts.specs.Command.{HasCount}
use Rattle.p3l_run.specs.declared.end.RunEnd.{RunEnd}
use Rattle.p3l_run.specs.declared.end.RunEnd.TheVariants as ends
use Rattle.p3l_report.specs.declared.verdict.Refusal.TheVariants as refusal
use Rattle.p3l_report.specs.declared.verdict.Verdict.{Verdict}
use Rattle.p3l_report.specs.declared.verdict.Verdict.TheVariants as verdict
use Rattle.p3l_report.specs.Verdict.{verdict_of}
use Rattle.p3l_run.specs.Network.{Network, course_of, goes_on, meaning_of, picks_of, stats_of, width_of}
use Rattle.p3l_run.specs.declared.keeping.Keeping.TheVariants as keep
use Rattle.p3l_run.specs.declared.run.Ran.{Ran}
use Rattle.p3l_run.specs.Run.{Finishes, finish_of}
use Rattle.p3l_run.specs.Start.{IsWithin, fresh}
use Rattle.p3l_run.specs.Sum.{sum_of}
use Rattle.p3l_sched.specs.declared.schedule.Schedule.{Schedule}
use Rattle.p3l_sched.specs.declared.schedule.Schedule.TheVariants as schedule
use Rattle.p3l_stream.specs.declared.items.Ending.TheVariants as ending
use Rattle.p3l_stream.specs.declared.items.Items.{Items}
use Rattle.p3l_check.specs.Resolving.{ResolvedTree}
use Rattle.p3l_program.specs.declared.plan.Accepted.{Accepted}
use Rattle.p3l_program.specs.declared.plan.Allotted.{Allotted}
use Rattle.p3l_program.specs.Plan.{ComesTo, IsPriced, IsUnpriced, IsUnsaid, network_of}
use Rattle.p3l_program.specs.Generated.{AreNotLoaded, EndsGen, Gen, IsGenExpected, IsGenRun, IsGenText, IsGenerated, IsLineOf, IsRanOn, IsRanUnder, LoadsTexts, comes_whole, gen_capacity, gen_stages, line_at, saves_of, summary_line, text_stages}
use Rattle.p3l_program.specs.Saved.{AreSaved, HasSaves, HoldFirst, KeepsFirst, names_of}
use Rattle.p3l_program.specs.Stage.{AllPass}
use Rattle.p3l_program.specs.Text.{BeginsText}
use Rattle.p3l_program.specs.World.{world}
use Rattle.p3l_program.proofs.TreeSteps.{said_once}
use Rattle.p3l_program.proofs.SavedSteps.{kept_by}
use Rattle.p3l_program.proofs.SeenSteps.{seen_goes_on, seen_short, still_of}
use Rattle.p3l_program.proofs.TextSteps.{not_loaded}

-- a text of costs that is refused, and processors that are too few
module _ (text said : List ℕ) (processors : ℕ) (r : ResolvedTree) (program : Accepted) (comes : ComesTo text r program) where
  unpriced : (why : CostRefusal) → IsUnsaid program.tree said why → IsUnpriced text said why
  unpriced why none = record {
    r = r;
    accepted = comes.accepted;
    refused = here;
    never = λ other cs p. said_once r.tree said cs why (subst (λ t. Says t.tree said (Ok cs)) (comes.only other p.accepted) p.costs) here;
  }
    where
      here : IsUnsaid r.tree said why
      here = subst (λ t. IsUnsaid t said why) comes.compiled.tree_is none

  not_priced : (why : CostRefusal) → IsRead program.tree said (Err why) → (why ≡ costs.NoMemory → ⊥) → AreNotLoaded text said processors (verdict.Refused (refusal.Costs why))
  not_priced why read named = λ files same_faults. (inr ((r, comes.accepted), inl (unpriced why (record { read = read; named = named }))), same_faults)

  pub costs_refused : (why : CostRefusal) → IsRead program.tree said (Err why) → AreNotLoaded text said processors (verdict_of (refusal.Costs why))
  costs_refused costs.NotToml read = not_priced costs.NotToml read (λ e. absurd cc)
  costs_refused (costs.BadKey key) read = not_priced (costs.BadKey key) read (λ e. absurd cc)
  costs_refused (costs.BadValue key) read = not_priced (costs.BadValue key) read (λ e. absurd cc)
  costs_refused (costs.Missing name) read = not_priced (costs.Missing name) read (λ e. absurd cc)
  costs_refused costs.NoMemory read = λ files same_faults. same_faults

  module _ (cs : Costs) (says : Says program.tree said (Ok cs)) where
    priced : IsPriced text (Some said) r cs
    priced = record { accepted = comes.accepted; costs = subst (λ t. Says t said (Ok cs)) comes.compiled.tree_is says }

    pub texts_too_few : (need : ℕ) → IsShort program.tree processors need → AreNotLoaded text said processors (verdict.Refused (refusal.TooFew need))
    texts_too_few need short = λ files same_faults. (
      inr (
        (r, comes.accepted),
        inr (
          (r, cs, priced),
          inl (record {
            r = r;
            cs = cs;
            priced = priced;
            short = here;
            never = λ other others counts p.
                let fits = p.chosen.optimal.fit in
                here.none counts (subst (λ t. Rattle.p3l_skel.specs.Numbers.Fits t.tree processors counts) (comes.only other p.priced.accepted) fits);
          }),
        ),
      ),
      same_faults,
    )
      where
        here : IsShort r.tree processors need
        here = subst (λ t. IsShort t processors need) comes.compiled.tree_is short

-- if all is loaded, the stages pass
module _ (text said : List ℕ) (processors : ℕ) (loaded : Allotted) (loads : LoadsTexts text said processors loaded) where
  pub texts_pass : (files : Change Held) → AllPass files (text_stages text said processors)
  texts_pass files =
      let a = loads.are in
      ((loads.r, a.comes.accepted), ((loads.r, loaded.costs, a.allotted.priced), ((loads.r, loaded.costs, loaded.choice.counts.list, a.allotted), tt)))

-- there are few items
pub items_few : (text : Option (List ℕ)) (items : ℕ) → HasCount ITEMS text items → items ≤ 100000
items_few None items h = (let same : 1000 ≡ items = cc in omega (arith, same))
items_few (Some text) items h = h.most_is

-- only the end of a stream is whole
whole_is : (f : RunEnd) → comes_whole f ≡ true → f ≡ ends.Stream ending.End
whole_is (ends.Stream ending.End) h = refl
whole_is (ends.Stream (ending.BadWord line)) h = absurd cc
whole_is (ends.Stream (ending.WrongCount line had)) h = absurd cc
whole_is (ends.Stream (ending.OutOfRange line)) h = absurd cc
whole_is (ends.Stream ending.ReadFault) h = absurd cc
whole_is (ends.Stream ending.TooLong) h = absurd cc
whole_is (ends.Stopped fired idle) h = absurd cc
whole_is (ends.Trapped item kind home) h = absurd cc

-- a text in memory, of which no reading fails
abbrev pub in_memory : (rest left : List ℕ) → Change (List ℕ)
in_memory rest left = change (stream (Some rest) 0) (stream (Some left) 0)

-- a run on a text in memory below the limit is one on all items of the text
pub ran_on : (n : Network) → n.start ≡ fresh → (s : Schedule) (text : List ℕ) (rest left : List ℕ) (out : Change (List ℕ)) (ran : Ran) → rest ≡ text → length text < 2 ^ 36 → Finishes n s keep.Nothing (in_memory rest left) out ran → IsRanOn n s text ran.finish ran.stats ran.sum
ran_on n begins s text rest left out ran known short f =
    let to = seen_goes_on n text (in_memory rest left) f.close f.stream f.items f.gives (ap Some known) (λ rose. absurd (omega arith)) in
    let all = sym (sym (seen_short (width_of n) text (omega arith)) ∙ to.seen) in
    let on = f.ran to.later to.may_come in
    let ends = subst (λ (i : Items). ran.finish ≡ finish_of n (course_of n s i.items) i.ending) all (f.ends to.later to.may_come to.e to.may_end) in
    let emitted = subst (λ (i : Items). f.outcomes ≡ (course_of n s i.items).state.emitted) all on.emitted in
    record {
      ends = ends;
      stats_are = subst (λ (i : Items). ran.stats ≡ stats_of n (course_of n s i.items)) all on.stats_are;
      bounded = subst (λ start. IsWithin start n.firings ran.stats.fired ran.stats.items) begins on.bounded;
      stops = λ goes. subst (λ (i : Items). goes_on n (course_of n s i.items) ≡ true → s ≡ schedule.Recorded (picks_of n s i.items)) all on.stops goes;
      sum_is = f.summed ∙ ap sum_of emitted;
      whole = λ h.
          let stuck = subst (λ (i : Items). goes_on n (course_of n s i.items) ≡ false) (sym all) (still_of n _ _ ending.End ran.finish (whole_is ran.finish h) ends) in
          sym emitted ∙ subst (λ (i : Items). f.outcomes ≡ meaning_of n i.items) all (on.whole stuck);
    }

-- the run of what is generated, as it was reported
module _ (out : Change (List ℕ)) (g : Gen) where
  -- texts that are not loaded are not run
  pub gen_refused : (v : Verdict) → IsStill out → AreNotLoaded (program_text g.number) costs_text g.processors v → IsGenRun out g v
  gen_refused v untouched h = λ files input same_faults saved still. not_loaded (world files input out) (gen_stages g) (EndsGen (world files input out) g) (BeginsText (world files input out) (IsGenText g)) ⊥ v still untouched (h files same_faults)

  module _ (f : RunEnd) (text : List ℕ) (is : IsGenerated g f text) (passed : (files : Change Held) → AllPass files (gen_stages g)) where
    pub gen_line : (v : Verdict) → IsLineOf out f text v → IsGenRun out g v
    gen_line (verdict.Refused refused) h = absurd h
    gen_line (verdict.Ended f' stats) h = λ files input same_faults saved still. record {
      passed = passed files;
      ends = record { end = f; finish_is = h.0; stats_are = h.1; text = text; is = is; put = h.2; input = still; saved = saved };
      files = same_faults;
      output = h.3;
    }
    gen_line verdict.WriteFault h = λ files input same_faults saved still. record {
      begun = record { passed = passed files; begins = record { text = text; is = (f, is); begun = h.0; input = still } };
      fault = inl (record { files = same_faults; output = h.1 });
    }
    gen_line verdict.NoMemory h = λ files input same_faults saved still. inr (record {
      passed = passed files;
      begins = record { text = text; is = (f, is); begun = h; input = still };
    })

-- the line of a run of what was loaded is that of what is requested
pub generated_by : (g : Gen) (loaded : Allotted) (ran : Ran) → (loads : LoadsTexts (program_text g.number) costs_text g.processors loaded) →
    IsRanUnder (network_of loads.r loaded.choice.counts.list gen_capacity) g.request (stream_text g.number g.items) ran →
    IsGenerated g ran.finish (line_at ran.finish (summary_line g.number ran.stats loaded.choice.service loaded.choice.used ran.sum))
generated_by g loaded ran loads under = record {
  r = loads.r;
  cs = loaded.costs;
  counts = loaded.choice.counts.list;
  allotted = loads.are.allotted;
  s = under.s;
  picked = under.picked;
  numbers = ran.stats;
  sum = ran.sum;
  ran = under.on;
  text_is = ap (λ k. line_at ran.finish (summary_line g.number ran.stats k loaded.choice.used ran.sum)) loads.are.service_is
      ∙ ap (λ k. line_at ran.finish (summary_line g.number ran.stats (service loads.r.tree loaded.costs loaded.choice.counts.list 0) k ran.sum)) loads.are.used_is;
}

-- files that were saved before
module _ (files : Change Held) where
  held_first : (saves : List (List ℕ × List ℕ)) (v : Verdict) → AreSaved files saves → HoldFirst files saves v
  held_first saves (verdict.Refused refused) saved = saved
  held_first saves (verdict.Ended f stats) saved = saved
  held_first saves verdict.WriteFault saved = saved
  held_first saves verdict.NoMemory saved = tt

  first_saved : (saves : List (List ℕ × List ℕ)) (v : Verdict) → HasSaves files saves (Ok tt) → KeepsFirst files (names_of saves) saves v
  first_saved [] v h = kept_by files [] v h.kept
  first_saved (save ∷ saves) v h = (h.kept, held_first (save ∷ saves) v h.by.0)

  -- so the verdict of their run is expected of what is requested
  pub generated_expected : (out : Change (List ℕ)) (g : Gen) (v : Verdict) → HasSaves files (saves_of g) (Ok tt) → IsGenRun out g v → IsGenExpected files out g v
  generated_expected out g v saves run = record { expected = λ input quiet. run files input saves.by.1 saves.by.0 quiet; kept = first_saved (saves_of g) v saves }
