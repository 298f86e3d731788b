-- From what is promised of `run` to the meaning of the program's items.
use Rattle.std.proofs.Common.{◌≡◌, ◌≢◌, ℕ, ℤ, Bool, true, false, cond, List, [], ◌∷◌, ◌++◌, ◌⊎◌, length, map, take, Option, Some, None, refl, sym, ap, subst, ◌∙◌, inl, inr, arith, append_assoc, append-nil, length-append}
use Rattle.std.proofs.Math.Seq.{take-append_seam}
use Rattle.std.specs.List.{flat_map}
use Rattle.std.specs.declared.result.Result.{Result}
use Rattle.clap.specs.Words.{Text}
use Rattle.p3l_base.specs.declared.NoMemory.{NoMemory}
use Rattle.p3l_base.specs.declared.outcome.Outcome.{Outcome}
use Rattle.p3l_base.specs.declared.outcome.Outcome.TheVariants.{Value, Trapped}
use Rattle.p3l_base.specs.declared.outcome.Trap.{Trap}
use Rattle.p3l_io.specs.Change.{Change}
use Rattle.p3l_io.specs.Content.{Held}
use Rattle.p3l_ast.specs.Tree.{EntryTree, ProgramTree}
use Rattle.p3l_lexer.proofs.Unique.{tokens_same}
use Rattle.p3l_grammar.specs.Symbol.{symbols}
use Rattle.p3l_grammar.specs.Grammar.{Derives, Spells}
use Rattle.p3l_grammar.specs.Parser.{entries}
use Rattle.p3l_grammar.proofs.Exact.{derives_run}
use Rattle.p3l_skel.specs.declared.tree.Tree.{Tree}
use Rattle.p3l_skel.specs.Item.{item, meaning, up_to_trap}
use Rattle.p3l_check.specs.Resolving.{ResolvedTree, resolved}
use Rattle.p3l_compile.specs.Leaves.{body_leaf}
use Rattle.p3l_firing.specs.Outcomes.{IsPrefixOf}
use Rattle.p3l_firing.specs.Run.{Course}
use Rattle.p3l_stream.specs.declared.items.Ending.{Ending}
use Rattle.p3l_stream.specs.declared.items.Ending.TheVariants as ending
use Rattle.p3l_stream.specs.declared.taken.Cutoff.TheVariants as stop
use Rattle.p3l_stream.specs.Given.{Closes, ended_by}
use Rattle.p3l_stream.specs.Items.{items_of, items_taken}
use Rattle.p3l_stream.specs.Seen.{Seen}
use Rattle.p3l_stream.specs.Text.{item_text, text_of}
use Rattle.p3l_sched.specs.declared.schedule.Schedule.{Schedule}
use Rattle.p3l_run.specs.declared.end.RunEnd.{RunEnd}
use Rattle.p3l_run.specs.declared.end.RunEnd.TheVariants as ends
use Rattle.p3l_run.specs.declared.keeping.Keeping.{Keeping}
use Rattle.p3l_run.specs.declared.run.Ran.{Ran}
use Rattle.p3l_run.specs.Feed.{Gives, closed_so, input_limit}
use Rattle.p3l_run.specs.Network.{IsRunOn, Network, course_of, goes_on, meaning_of, width_of}
use Rattle.p3l_run.specs.Run.{Finishes, MayEnd, Starts, end_of, finish_of}
use Rattle.p3l_run.specs.Start.{item_number}
use Rattle.p3l_run.specs.Trap.{trap_of}
use Rattle.p3l_run.proofs.RunSteps.{nothing_comes}
use Rattle.p3l_opts.specs.declared.command.Build.{Build}
use Rattle.p3l_opts.specs.declared.command.Command.{Command}
use Rattle.p3l_opts.specs.declared.command.Command.TheVariants as command
use Rattle.p3l_opts.specs.declared.command.Sched.{Sched}
use Rattle.p3l_opts.specs.Command as opts
use Rattle.p3l_opts.specs.Laws.{SpellsOneAtMost}
use Rattle.p3l_report.specs.Status as status
use Rattle.p3l_report.specs.Verdict.{end_status, ending_status, finish_status}
use Rattle.p3l_report.proofs.Statuses as statuses
use Rattle.p3l_program.specs.Answer.{BeginsWork}
use Rattle.p3l_program.specs.Command.{Begins, Ends, work_of}
use Rattle.p3l_program.specs.File.{HasText, Holds, text_limit}
use Rattle.p3l_program.specs.Headline.{EveryRunMeansItsProgram, EveryScheduleWritesTheSame, HasOneProgram, IsMeant, TrapsFirst, WritesMeaning, input_of, outcome_of}
use Rattle.p3l_program.specs.Origin.{built}
use Rattle.p3l_program.specs.Plan.{IsAccepted, network_of}
use Rattle.p3l_program.specs.Run.{BeginsRun, EndsRun, keeping_for}
use Rattle.p3l_program.specs.Top.{Promises}
use Rattle.p3l_program.specs.World.{IsUntouched, World}
use Rattle.p3l_program.proofs.EndSteps.{put_known, stream_is}
use Rattle.p3l_program.proofs.RunLaws.{whole_of}
use Rattle.p3l_program.proofs.SeenSteps.{at_end_left, still_of, taken_known}

-- A TEXT SPELLS ONE PROGRAM

same_entries : (one other : List EntryTree) → Some (entries one) ≡ Some (entries other) → one ≡ other
same_entries one other e = cc

same_program : (one other : ProgramTree) → one.entries ≡ other.entries → one.end ≡ other.end → one ≡ other
same_program one other p q = λ i. record { entries = p i; end = q i }

spelled_once : (text : List ℕ) (one other : ProgramTree) → Spells text one → Spells text other → other ≡ one
spelled_once text one other a b =
    let same : b.tokens ≡ a.tokens = tokens_same text b.tokens a.tokens b.are_tokens a.are_tokens in
    let here : Derives (symbols a.tokens) other.entries = subst (λ ts. Derives (symbols ts) other.entries) same b.derives in
    let read = sym (derives_run (symbols a.tokens) other.entries here) ∙ derives_run (symbols a.tokens) one.entries a.derives in
    same_program other one (same_entries other.entries one.entries read) (b.end_is ∙ sym a.end_is)

-- OUTCOMES AND THEIR TEXT

-- outcomes that begin the meaning of items: those of the first items are results, whose lines are their text; after them one traps, or
-- where they are all of the meaning, there is none
record IsSplit (tree : Tree) (leaf : ℕ → List ℤ → Outcome) (items : List (List ℤ)) (outcomes : List Outcome) : Type 0 where
  first : List (List ℤ)
  later : List (List ℤ)
  items_are : items ≡ first ++ later
  results : List (List ℤ)
  mean : map (item tree leaf 0) first ≡ map Value results
  text_is : text_of outcomes ≡ flat_map item_text results
  trapped : (t : Trap) → trap_of outcomes ≡ Some t → TrapsFirst (item tree leaf 0) later
  all : trap_of outcomes ≡ None → outcomes ≡ meaning tree leaf items → later ≡ []

never_empty : (o : Outcome) (rest : List Outcome) → [] ≡ up_to_trap o rest → ⊥
never_empty (Value words) rest e = absurd cc
never_empty (Trapped trap) rest e = absurd cc

no_items : (tree : Tree) (leaf : ℕ → List ℤ → Outcome) (items : List (List ℤ)) → [] ≡ meaning tree leaf items → items ≡ []
no_items tree leaf [] e = refl
no_items tree leaf (words ∷ items) e = absurd (never_empty (item tree leaf 0 words) (meaning tree leaf items) e)

value_first : (tree : Tree) (leaf : ℕ → List ℤ → Outcome) (words : List ℤ) (items : List (List ℤ)) (result : List ℤ) (outcomes more : List Outcome) →
    (outcomes ++ more ≡ meaning tree leaf items → IsSplit tree leaf items outcomes) → (o : Outcome) → item tree leaf 0 words ≡ o →
    Value result ∷ (outcomes ++ more) ≡ up_to_trap o (meaning tree leaf items) → IsSplit tree leaf (words ∷ items) (Value result ∷ outcomes)
value_first tree leaf words items result outcomes more next (Trapped trap) is e = absurd cc
value_first tree leaf words items result outcomes more next (Value other) is e =
    let same : other ≡ result = cc in
    let s = next (cc) in
    record {
      first = words ∷ s.first;
      later = s.later;
      items_are = ap (λ z. words ∷ z) s.items_are;
      results = result ∷ s.results;
      mean = let here : item tree leaf 0 words ≡ Value result = is ∙ ap Value same in let rest = s.mean in cc;
      text_is = ap (λ z. item_text result ++ z) s.text_is;
      trapped = s.trapped;
      all = λ none whole. (let z : Value result ∷ outcomes ≡ Value other ∷ meaning tree leaf items = whole ∙ ap (λ o. up_to_trap o (meaning tree leaf items)) is in s.all none (cc));
    }

trap_first : (tree : Tree) (leaf : ℕ → List ℤ → Outcome) (words : List ℤ) (items : List (List ℤ)) (trap : Trap) (outcomes more : List Outcome) → (o : Outcome) → item tree leaf 0 words ≡ o →
    Trapped trap ∷ (outcomes ++ more) ≡ up_to_trap o (meaning tree leaf items) → IsSplit tree leaf (words ∷ items) (Trapped trap ∷ outcomes)
trap_first tree leaf words items trap [] more (Trapped other) is e = record {
  first = [];
  later = words ∷ items;
  items_are = refl;
  results = [];
  mean = refl;
  text_is = refl;
  trapped = λ t h. (other, is);
  all = λ none whole. absurd cc;
}
trap_first tree leaf words items trap (o ∷ outcomes) more (Trapped other) is e = absurd cc
trap_first tree leaf words items trap outcomes more (Value other) is e = absurd cc

split : (tree : Tree) (leaf : ℕ → List ℤ → Outcome) (items : List (List ℤ)) (outcomes more : List Outcome) → outcomes ++ more ≡ meaning tree leaf items → IsSplit tree leaf items outcomes
split tree leaf items [] more e = record {
  first = [];
  later = items;
  items_are = refl;
  results = [];
  mean = refl;
  text_is = refl;
  trapped = λ t h. absurd cc;
  all = λ none whole. no_items tree leaf items whole;
}
split tree leaf [] (o ∷ outcomes) more e = absurd cc
split tree leaf (words ∷ items) (Value result ∷ outcomes) more e = value_first tree leaf words items result outcomes more (split tree leaf items outcomes more) (item tree leaf 0 words) refl e
split tree leaf (words ∷ items) (Trapped trap ∷ outcomes) more e = trap_first tree leaf words items trap outcomes more (item tree leaf 0 words) refl e

-- LISTS

nothing_more : {A : Type 0} (xs ys : List A) → xs ++ ys ≡ xs → ys ≡ []
nothing_more xs [] e = refl
nothing_more xs (y ∷ ys) e = absurd (let size = ap length e in omega (arith, size, length-append xs (y ∷ ys)))

both_nothing : {A : Type 0} (xs ys : List A) → xs ≡ [] → ys ≡ [] → xs ++ ys ≡ []
both_nothing xs ys a b = ap (λ z. z ++ ys) a ∙ b

traps_more : (outcome : List ℤ → Outcome) (items more : List (List ℤ)) → TrapsFirst outcome items → TrapsFirst outcome (items ++ more)
traps_more outcome [] more h = absurd h
traps_more outcome (words ∷ items) more h = h

-- ITEMS OF THE INPUT

-- if a line is refused, the items before it are all of them, and they end so
line_ends : (width : ℕ) (s : Seen) (got after : List ℕ) (items : List (List ℤ)) (e : Ending) → (s.at_end ≡ true → after ≡ []) → ending_status e ≡ status.stream → Closes width s got items (closed_so (Some e)) →
    (items_of width (got ++ after) ≡ ended_by items e) × (e ≢ ending.End)
line_ends width s got after items (ending.BadWord line) ended h closes = (closes stop.End after (λ at. (refl, ended at)), λ z. absurd cc)
line_ends width s got after items (ending.WrongCount line had) ended h closes = (closes stop.End after (λ at. (refl, ended at)), λ z. absurd cc)
line_ends width s got after items (ending.OutOfRange line) ended h closes = (closes stop.End after (λ at. (refl, ended at)), λ z. absurd cc)
line_ends width s got after items ending.End ended h closes = absurd (omega arith)
line_ends width s got after items ending.ReadFault ended h closes = absurd (omega arith)
line_ends width s got after items ending.TooLong ended h closes = absurd (omega arith)

module _ (width : ℕ) (input : Change (List ℕ)) (s : Seen) (items : List (List ℤ)) (bytes : List ℕ) (known : input.old.content ≡ Some bytes) where
  module _ (closed : Option (Result Ending NoMemory)) (g : Gives width input s items closed) where
    -- the bytes that are left behind those that were taken
    got : (after : List ℕ) × (input.new.content ≡ Some after) × (bytes ≡ g.bytes ++ after)
    got = taken_known input bytes g.bytes known g.read

    ended : s.at_end ≡ true → got.0 ≡ []
    ended h = at_end_left input.new.content got.0 got.1 (g.at_end h)

    -- the items that a stream gave come first among those of its bytes
    items_first : (later : List (List ℤ)) × ((items_of width bytes).items ≡ items ++ later)
    items_first =
        let f = g.given.first stop.End got.0 (λ h. (refl, ended h)) in
        (f.0.items, ap (λ b. (items_of width b).items) got.2 ∙ ap (λ i. i.items) f.1)

  -- and where it ended at a line that is refused they are all
  stream_ended : (e : Ending) → Gives width input s items (closed_so (Some e)) → ending_status e ≡ status.stream → (items_of width bytes ≡ ended_by items e) × (e ≢ ending.End)
  stream_ended e g h =
      let a = line_ends width s g.bytes (got (closed_so (Some e)) g).0 items e (ended (closed_so (Some e)) g) h (subst (λ c. Closes width s g.bytes items c) g.closed_is g.given.closes) in
      (ap (items_of width) (got (closed_so (Some e)) g).2 ∙ a.0, a.1)

  -- if the stream ended at the limit, the items are all those of the bytes below it
  limit_ended : Gives width input s items (closed_so (Some ending.TooLong)) → items ≡ (items_taken width stop.Limit (take input_limit bytes)).items
  limit_ended g =
      let closes : Closes width s g.bytes items (closed_so (Some ending.TooLong)) = subst (λ c. Closes width s g.bytes items c) g.closed_is g.given.closes in
      let t = got (closed_so (Some ending.TooLong)) g in
      let size : length g.bytes ≡ input_limit = sym g.given.counted ∙ closes.1 ∙ g.limit in
      let front : take input_limit bytes ≡ g.bytes = ap (take input_limit) t.2 ∙ subst (λ m. take m (g.bytes ++ t.0) ≡ g.bytes) size (take-append_seam g.bytes t.0) in
      sym (ap (λ i. i.items) closes.2) ∙ ap (λ b. (items_taken width stop.Limit b).items) (sym front)

-- HOW A RUN ENDED

some_ending : (close : Option Ending) → (e : Ending) × MayEnd close e
some_ending None = (ending.End, tt)
some_ending (Some e) = (e, refl)

module _ (n : Network) (c : Course) (close : Ending) (f : RunEnd) (is : f ≡ finish_of n c close) where
  -- a run that ended as its stream does emitted no trap
  untrapped : (e : Ending) → f ≡ ends.Stream e → trap_of c.state.emitted ≡ None
  untrapped e stream = by (goes_on n c) (trap_of c.state.emitted) (sym is ∙ stream)
    where
      by : (b : Bool) (trap : Option Trap) → cond b (ends.Stopped c.fired c.idle) (end_of n.named trap (item_number n.start (length c.state.emitted)) close) ≡ ends.Stream e → trap ≡ None
      by true trap h = absurd cc
      by false None h = refl
      by false (Some t) h = absurd cc

  -- and one that ended by a trap did
  some_trap : end_status f ≡ status.trap → (t : Trap) × (trap_of c.state.emitted ≡ Some t)
  some_trap h = by (goes_on n c) (trap_of c.state.emitted) (sym (ap (λ k. end_status k) is) ∙ h)
    where
      by : (b : Bool) (trap : Option Trap) → end_status (cond b (ends.Stopped c.fired c.idle) (end_of n.named trap (item_number n.start (length c.state.emitted)) close)) ≡ status.trap → (t : Trap) × (trap ≡ Some t)
      by true trap h = absurd (omega arith)
      by false None h = absurd (let t = statuses.trap_is (ends.Stream close) h in let z = t.1.1.1 in cc)
      by false (Some t) h = (t, refl)

-- WHAT WAS WRITTEN

record HasWritten (r : ResolvedTree) (bytes taken : List ℕ) (new : Option (List ℕ)) (k : ℕ) : Type 0 where
  written : List ℕ
  new_is : new ≡ Some (taken ++ written)
  means : WritesMeaning r bytes written k

module _ (r : ResolvedTree) (counts : List ℕ) (capacity : ℕ) (bytes taken : List ℕ) where
  abbrev n : Network
  n = network_of r counts capacity

  abbrev leaf : ℕ → List ℤ → Outcome
  leaf = body_leaf r.tree r.seqs

  module _ (s : Schedule) (keeping : Keeping) (input out : Change (List ℕ)) (end : Ran) (f : Finishes n s keeping input out end) (reports : input.old.content ≡ Some bytes) (known : out.old.content ≡ Some taken) where
    abbrev ran : IsRunOn n s (f.items ++ []) f.outcomes end.stats
    ran = f.ran [] (nothing_comes n f.close)

    abbrev course : Course
    course = course_of n s (f.items ++ [])

    so_far : IsSplit r.tree leaf f.items f.outcomes
    so_far = (let begins : IsPrefixOf f.outcomes (meaning_of n f.items) = subst (λ i. IsPrefixOf f.outcomes (meaning_of n i)) (append-nil f.items) ran.begins in split r.tree leaf f.items f.outcomes begins.0 begins.1)

    after : (later : List (List ℤ)) × ((input_of r bytes).items ≡ f.items ++ later)
    after = items_first (width_of n) input f.stream f.items bytes reports (closed_so f.close) f.gives

    finish_is : end.finish ≡ finish_of n course (some_ending f.close).0
    finish_is = f.ends [] (nothing_comes n f.close) (some_ending f.close).0 (some_ending f.close).1

    -- all items came to results where the run ended as its stream does
    all_mean : (e : Ending) → end.finish ≡ ends.Stream e → so_far.later ≡ []
    all_mean e stream =
        so_far.all (ap trap_of ran.emitted ∙ untrapped n course (some_ending f.close).0 end.finish finish_is e stream)
        (ran.whole (still_of n course (some_ending f.close).0 e end.finish stream finish_is) ∙ ap (meaning_of n) (append-nil f.items))

    is_all : (e : Ending) → end.finish ≡ ends.Stream e → f.items ≡ (input_of r bytes).items → so_far.later ++ after.0 ≡ []
    is_all e stream same = both_nothing so_far.later after.0 (all_mean e stream) (nothing_more f.items after.0 (sym after.1 ∙ sym same))

    finished : (k : ℕ) → end_status end.finish ≡ k → HasWritten r bytes taken out.new.content k
    finished k h = record {
      written = text_of f.outcomes;
      new_is = put_known out taken (text_of f.outcomes) known f.put;
      means = record {
        first = so_far.first;
        later = so_far.later ++ after.0;
        items_are = after.1 ∙ ap (λ i. i ++ after.0) so_far.items_are ∙ append_assoc so_far.first so_far.later after.0;
        results = so_far.results;
        mean = so_far.mean;
        missing = [];
        lines = append-nil (text_of f.outcomes) ∙ so_far.text_is;
        whole = λ z. refl;
        done = λ z.
            let st = stream_is end.finish status.done (h ∙ z) (λ y. absurd (omega arith)) (λ y. absurd (omega arith)) in
            let all = whole_of n s keeping input out end f bytes taken reports known (h ∙ z) in
            (is_all st.e st.finish_is (sym (append-nil f.items) ∙ all.items_are), all.all_items);
        stream = λ z.
            let st = stream_is end.finish status.stream (h ∙ z) (λ y. absurd (omega arith)) (λ y. absurd (omega arith)) in
            let gives = subst (λ c. Gives (width_of n) input f.stream f.items (closed_so c)) (f.closed st.e st.finish_is) f.gives in
            let all = stream_ended (width_of n) input f.stream f.items bytes reports st.e gives st.status_is in
            (is_all st.e st.finish_is (sym (ap (λ i. i.items) all.0)), λ y. all.1 (sym (ap (λ i. i.ending) all.0) ∙ y));
        too_long = λ z.
            let st = stream_is end.finish status.too_long (h ∙ z) (λ y. absurd (omega arith)) (λ y. absurd (omega arith)) in
            let gives = subst (λ c. Gives (width_of n) input f.stream f.items (closed_so c)) (f.closed st.e st.finish_is ∙ ap Some (statuses.too_long_is st.e st.status_is)) f.gives in
            sym (so_far.items_are ∙ ap (λ l. so_far.first ++ l) (all_mean st.e st.finish_is) ∙ append-nil so_far.first)
            ∙ limit_ended (width_of n) input f.stream f.items bytes reports gives;
        trap = λ z.
            let t = some_trap n course (some_ending f.close).0 end.finish finish_is (h ∙ z) in
            traps_more (outcome_of r) so_far.later after.0 (so_far.trapped t.0 (ap trap_of ran.emitted ∙ t.1));
      };
    }

  -- a run that was begun wrote a prefix of it
  begun : (s : Schedule) (input out : Change (List ℕ)) → Starts n s input out → input.old.content ≡ Some bytes → out.old.content ≡ Some taken → (k : ℕ) → status.is_end k ≡ false → HasWritten r bytes taken out.new.content k
  begun s input out f reports known k unended =
      let all = split r.tree leaf f.items (meaning_of n f.items) [] (append-nil (meaning_of n f.items)) in
      let after = items_first (width_of n) input f.stream f.items bytes reports f.closed f.gives in
      record {
        written = f.begun.written;
        new_is = put_known out taken f.begun.written known f.begun.put;
        means = record {
          first = all.first;
          later = all.later ++ after.0;
          items_are = after.1 ∙ ap (λ i. i ++ after.0) all.items_are ∙ append_assoc all.first all.later after.0;
          results = all.results;
          mean = all.mean;
          missing = f.begun.more;
          lines = f.begun.text_is ∙ all.text_is;
          whole = λ z. absurd (let y = sym z ∙ unended in cc);
          done = λ z. absurd (let y = sym (ap status.is_end z) ∙ unended in cc);
          stream = λ z. absurd (let y = sym (ap status.is_end z) ∙ unended in cc);
          too_long = λ z. absurd (let y = sym (ap status.is_end z) ∙ unended in cc);
          trap = λ z. absurd (let y = sym (ap status.is_end z) ∙ unended in cc);
        };
      }

-- THE LAW

-- the file of a network that was built has its program
pub program_of : (held : Held) (files : Option Held) (name text : List ℕ) (r : ResolvedTree) → files ≡ Some held → HasText files text_limit name text → IsAccepted text r → HasOneProgram held name r
program_of held files name text r known has a = record {
  text = text;
  holds = subst (λ f. Holds f name text) known has.holds;
  program = a.program;
  spelled = a.spelled;
  only = λ other s. spelled_once text a.program other a.spelled s;
  keeps = a.keeps;
}

module _ (once : SpellsOneAtMost) (outside : Bool) (words : List Text) (w : World) (err : Change (List ℕ)) (k : ℕ) (p : Promises outside words w err k) (build : Build) (schedule : Sched) (trace : Option (List ℕ)) (stats : Bool)
    (spelled : opts.Spells words (command.Run build schedule trace stats)) (held : Held) (bytes taken : List ℕ) (files : w.files.old.content ≡ Some held) (input : w.input.old.content ≡ Some bytes) (out : w.output.old.content ≡ Some taken) where
  abbrev requested : Command
  requested = command.Run build schedule trace stats

  -- a run that came to an end
  ended_so : status.is_end k ≡ true → IsMeant held build.program bytes taken w.output.new.content k
  unfolding work_of
  ended_so kind =
      let e = p.ended kind in
      let x : EndsRun w (built build) schedule trace stats e.finish e.stats = subst (λ c. Ends w c e.finish e.stats) (once words e.command requested e.spelled spelled) e.end.ends in
      let b = x.has.network.is in
      let f = subst (λ m. Finishes m x.s (keeping_for trace) w.input w.output x.ran) b.network_is x.finishes in
      let o = finished b.r b.counts build.capacity bytes taken x.s (keeping_for trace) w.input w.output x.ran f input out k (sym (ap finish_status x.finish_is) ∙ e.status_is) in
      record {
        written = o.written;
        new_is = o.new_is;
        means = inl (b.r, program_of held w.files.old.content build.program x.has.network.texts.text b.r files x.has.network.have.0 b.allotted.priced.accepted, o.means);
        refused = λ z. absurd (let y = sym (statuses.finish_other e.finish) ∙ ap status.is_refusal e.status_is ∙ z in cc);
      }

  -- one that was begun
  begun_so : BeginsWork words w → status.is_end k ≡ false → status.is_refusal k ≡ false → IsMeant held build.program bytes taken w.output.new.content k
  unfolding work_of
  begun_so e unended other =
      let x : BeginsRun w (built build) schedule = subst (λ c. Begins w c) (once words e.command requested e.spelled spelled) e.begun.begins in
      let b = x.has.network.is in
      let f = subst (λ m. Starts m x.s w.input w.output) b.network_is x.starts in
      let o = begun b.r b.counts build.capacity bytes taken x.s w.input w.output f input out k unended in
      record {
        written = o.written;
        new_is = o.new_is;
        means = inl (b.r, program_of held w.files.old.content build.program x.has.network.texts.text b.r files x.has.network.have.0 b.allotted.priced.accepted, o.means);
        refused = λ z. absurd (let y = sym z ∙ other in cc);
      }

  untouched : IsUntouched w → status.is_end k ≡ false → IsMeant held build.program bytes taken w.output.new.content k
  untouched u unended = record { written = []; new_is = u.output.same_content ∙ out ∙ ap Some (sym (append-nil taken)); means = inr (refl, unended); refused = λ z. refl }

  meant : (end refusal : Bool) → status.is_end k ≡ end → status.is_refusal k ≡ refusal → IsMeant held build.program bytes taken w.output.new.content k
  meant true refusal kind other = ended_so kind
  meant false true unended refusal = untouched (p.refused refusal).untouched unended
  meant false false unended other = elim p.begins [ inl still ↦ untouched still unended | inr begun ↦ begun_so begun unended other ]

pub run_means : SpellsOneAtMost → EveryRunMeansItsProgram
run_means once outside words w err k p build schedule trace stats spelled held bytes taken files input out =
    meant once outside words w err k p build schedule trace stats spelled held bytes taken files input out (status.is_end k) (status.is_refusal k) refl refl

-- THE SCHEDULE DOESN'T MATTER

-- the results of more items begin with those of the first
results_more : (outcome : List ℤ → Outcome) (items more results all : List (List ℤ)) → map outcome items ≡ map Value results → map outcome (items ++ more) ≡ map Value all →
    (after : List (List ℤ)) × (all ≡ results ++ after) × (map outcome more ≡ map Value after)
results_more outcome [] more [] all a b = (all, refl, b)
results_more outcome [] more (result ∷ results) all a b = absurd cc
results_more outcome (words ∷ items) more [] all a b = absurd cc
results_more outcome (words ∷ items) more (result ∷ results) [] a b = absurd cc
results_more outcome (words ∷ items) more (result ∷ results) (first ∷ all) a b =
    let next = results_more outcome items more results all (cc) (cc) in
    let same : first ≡ result = cc in
    (next.0, (let z = next.1 in cc), next.2)

texts_more : (first others : List (List ℤ)) → flat_map item_text (first ++ others) ≡ flat_map item_text first ++ flat_map item_text others
texts_more [] others = refl
texts_more (result ∷ first) others = ap (λ t. item_text result ++ t) (texts_more first others) ∙ sym (append_assoc (item_text result) (flat_map item_text first) (flat_map item_text others))

no_results : (results : List (List ℤ)) → [] ≡ map Value results → results ≡ []
no_results [] e = refl
no_results (result ∷ results) e = absurd cc

-- one program is in a file
program_once : (held : Held) (name : List ℕ) (r other : ResolvedTree) → HasOneProgram held name r → HasOneProgram held name other → other ≡ r
program_once held name r other a b =
    let text : b.text ≡ a.text = let x = a.holds in let y = b.holds in cc in
    let program : b.program ≡ a.program = a.only b.program (subst (λ t. Spells t b.program) text b.spelled) in
    let kept = sym (ap resolved program ∙ a.keeps) ∙ b.keeps in
    let same : r ≡ other = cc in sym same

module _ (r : ResolvedTree) (bytes some all : List ℕ) (k : ℕ) (a : WritesMeaning r bytes some k) (b : WritesMeaning r bytes all status.done) where
  abbrev later_none : b.later ≡ []
  later_none = (b.done refl).0

  items_more : b.first ≡ a.first ++ a.later
  items_more = sym (b.items_are ∙ ap (λ l. b.first ++ l) later_none ∙ append-nil b.first) ∙ a.items_are

  more_results : (after : List (List ℤ)) × (b.results ≡ a.results ++ after) × (map (outcome_of r) a.later ≡ map Value after)
  more_results = results_more (outcome_of r) a.first a.later a.results b.results a.mean (subst (λ i. map (outcome_of r) i ≡ map Value b.results) items_more b.mean)

  whole_text : all ≡ flat_map item_text b.results
  whole_text = sym (append-nil all) ∙ ap (λ m. all ++ m) (sym (b.whole refl)) ∙ b.lines

  text_more : some ++ (a.missing ++ flat_map item_text more_results.0) ≡ all
  text_more =
      sym (append_assoc some a.missing (flat_map item_text more_results.0)) ∙ ap (λ t. t ++ flat_map item_text more_results.0) a.lines
      ∙ sym (texts_more a.results more_results.0) ∙ ap (flat_map item_text) (sym more_results.1) ∙ sym whole_text

  all_written : k ≡ status.done → a.missing ++ flat_map item_text more_results.0 ≡ []
  all_written is =
      let none = no_results more_results.0 (ap (map (outcome_of r)) (sym (a.done is).0) ∙ more_results.2) in
      both_nothing a.missing (flat_map item_text more_results.0) (a.whole (ap status.is_end is)) (ap (flat_map item_text) none)

pub same_written : EveryScheduleWritesTheSame
same_written held name bytes taken others new other k whole run = by whole.means run.means
  where
    by : ((r : ResolvedTree) × HasOneProgram held name r × WritesMeaning r bytes whole.written status.done) ⊎ ((whole.written ≡ []) × (status.is_end status.done ≡ false)) →
        ((r : ResolvedTree) × HasOneProgram held name r × WritesMeaning r bytes run.written k) ⊎ ((run.written ≡ []) × (status.is_end k ≡ false)) →
        (more : List ℕ) × (run.written ++ more ≡ whole.written) × (k ≡ status.done → more ≡ [])
    by (inl b) (inl a) =
        let m = subst (λ r. WritesMeaning r bytes run.written k) (program_once held name b.0 a.0 b.1 a.1) a.2 in
        (_, text_more b.0 bytes run.written whole.written k m b.2, all_written b.0 bytes run.written whole.written k m b.2)
    by (inl b) (inr none) = (whole.written, ap (λ t. t ++ whole.written) none.0, λ is. absurd (let z = sym (ap status.is_end is) ∙ none.1 in cc))
    by (inr none) a = absurd (let z = none.1 in cc)
