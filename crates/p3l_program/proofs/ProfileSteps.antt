-- From the profile of a tree to the verdict of `profile`, and what its end says.
use Rattle.std.proofs.Common.{◌≡◌, ℕ, ℤ, Bool, true, false, List, [], ◌∷◌, ◌++◌, ◌||◌, length, Option, Some, None, refl, sym, ap, subst, inl, inr, ◌∙◌, arith, append-nil, if◌then◌else◌}
use Rattle.std.specs.declared.result.Result.TheVariants.{Ok}
use Rattle.std.specs.List.{All, list_any}
use Rattle.p3l_base.specs.declared.outcome.Outcome.{Outcome}
use Rattle.p3l_base.specs.declared.outcome.Outcome.TheVariants.{Value, Trapped}
use Rattle.p3l_base.specs.declared.outcome.TrapKind.{TrapKind}
use Rattle.p3l_io.specs.Change.{Change, HasRisen, HasSameFaults}
use Rattle.p3l_io.specs.Content.{Held}
use Rattle.p3l_skel.specs.declared.tree.Tree.{Tree}
use Rattle.p3l_skel.specs.Lawful.{IsLawfulTree}
use Rattle.p3l_skel.specs.Tree.{node_at}
use Rattle.p3l_check.specs.Resolving.{ResolvedTree}
use Rattle.p3l_code.specs.declared.instr.Code.{Code}
use Rattle.p3l_compile.specs.Leaves.{AreBodies, body_leaf}
use Rattle.p3l_compile.proofs.Leaves.{all_codes, have_codes, same_leaf}
use Rattle.p3l_units.specs.Table.{HasCode, Served}
use Rattle.p3l_report.specs.declared.stats.Stats.{Stats}
use Rattle.p3l_report.specs.declared.verdict.Finish.{Finish}
use Rattle.p3l_report.specs.declared.verdict.Finish.TheVariants as finish
use Rattle.p3l_report.specs.declared.verdict.Verdict.{Verdict}
use Rattle.p3l_report.specs.declared.verdict.Verdict.TheVariants as verdict
use Rattle.p3l_report.specs.Status as status
use Rattle.p3l_report.specs.Verdict.{ending_status, finish_status}
use Rattle.p3l_report.proofs.Statuses as statuses
use Rattle.p3l_run.specs.declared.end.RunEnd.TheVariants as end
use Rattle.p3l_run.specs.Feed.{closed_so}
use Rattle.p3l_run.specs.Network.{Network}
use Rattle.p3l_run.specs.Write.{HasBegun, HasPut}
use Rattle.p3l_stream.specs.declared.items.Ending.{Ending}
use Rattle.p3l_stream.specs.declared.items.Ending.TheVariants as ending
use Rattle.p3l_stream.specs.declared.items.Items.{Items}
use Rattle.p3l_stream.specs.Given.{Closes, GivenCause, ended_by}
use Rattle.p3l_stream.specs.Items.{items_of}
use Rattle.p3l_profile.specs.Greatest.{Greatest, none_noted, noted_all}
use Rattle.p3l_profile.specs.Law.{HasTheGreatest, notes_of}
use Rattle.p3l_profile.specs.Text.{text_of}
use Rattle.p3l_run.specs.declared.sampling.Sampled.{Sampled}
use Rattle.p3l_run.specs.declared.sampling.Sampled.TheVariants as sampled
use Rattle.p3l_run.specs.Sampling.{EndsSo, IsSampled, IsValue}
use Rattle.p3l_program.specs.declared.plan.Accepted.{Accepted}
use Rattle.p3l_program.specs.Load.{IsProgram}
use Rattle.p3l_program.specs.Plan.{IsCompiled, network_of}
use Rattle.p3l_program.specs.Profile.{BeginsProfile, ClosesSo, ClosesSome, EndsProfile, GivesAll, HasProgram, HaveValues, IsClosedProfile, IsNoted, IsProfileExpected, IsProfileOf, IsProfileStatus, IsProfiled, NotesSome, ProfilesWhole, StopsSo, Subject, TrapsSo, coded, cost_file, is_trap, outcome_on, profile_status, subject_of, subject_width}
use Rattle.p3l_program.specs.Run.{seen_of}
use Rattle.p3l_program.specs.World.{HasNoFault, World, world}
use Rattle.p3l_program.proofs.EndSteps.{ended_known, ended_same_faults}
use Rattle.p3l_program.proofs.LoadSteps.{program_passes}
use Rattle.p3l_program.proofs.SeenSteps.{GoesOnTo, ending_unstopped, seen_goes_on}

-- a tree was profiled on its codes, from nothing to these greatest numbers
module _ (tree : Tree) (codes : List Code) (known : HasTheGreatest) (g : Greatest) (input out : Change (List ℕ)) where
  abbrev served : Served
  served = record { tree = tree; codes = codes }

  abbrev start : Greatest
  start = none_noted (length tree.modules)

  -- the text of the greatest numbers is the cost file
  file_is : (items : List (List ℤ)) → g ≡ noted_all start (notes_of tree served items) → text_of tree g ≡ cost_file (coded tree codes) items
  file_is items noted = ap (text_of tree) noted ∙ known tree (notes_of tree served items)

  abbrev Ended : Ending → Type 0
  Ended close = EndsSo tree served start g input close

  all_given : (close : Ending) → Ended close → GivesAll (coded tree codes) input close
  all_given close h = record { stream = h.s; items = h.items; gives = h.gives; values = h.noted.values }

  noted_so : (close : Ending) → Ended close → (close ≡ ending.End) × HasPut out (text_of tree g) → IsNoted (coded tree codes) input out
  unfolding all_given
  noted_so close h c = (let ends = subst (λ e. Ended e) c.0 h in record {
    all = all_given ending.End ends;
    put = subst (λ text. HasPut out text) (file_is ends.items ends.noted.noted) c.1;
  })

  notes_some : (close : Ending) → Ended close → ClosesSome tree g close out → NotesSome (coded tree codes) input out
  unfolding all_given
  notes_some close h c = (let ends = subst (λ e. Ended e) c.0 h in record {
    all = all_given ending.End ends;
    begun = subst (λ text. HasBegun out text) (file_is ends.items ends.noted.noted) c.1;
  })

  profiled_so : (close : Ending) → Ended close → (f : Finish) → ClosesSo tree g close out f → IsProfiled (coded tree codes) input out f
  profiled_so close h finish.Done c = noted_so close h c
  profiled_so close h (finish.Run (end.Stream other)) c = subst (StopsSo (coded tree codes) input out) (sym c.0) (record { other = c.1; all = all_given close h; output_still = c.2 })
  profiled_so close h (finish.Run (end.Stopped fired idle)) c = absurd c
  profiled_so close h (finish.Run (end.Trapped number kind home)) c = absurd c
  profiled_so close h (finish.Differs line) c = absurd c

  -- and this is how its profile ends
  pub profile_of : (end : Sampled) → IsSampled tree served start g input end → (v : Verdict) → IsClosedProfile tree g end out v → IsProfileOf (coded tree codes) input out v
  profile_of (sampled.Trapped number kind home) s (verdict.Ended f stats) c = (
    c.0,
    c.2.same_faults,
    subst (λ f. IsProfiled (coded tree codes) input out f) (sym c.1) (record {
      stream = s.s;
      items = s.items;
      words = s.words;
      gives = s.gives;
      values = s.values;
      home = home;
      traps = s.traps;
      name_is = refl;
      number_is = s.number_is;
      output_still = c.2;
    }),
  )
  profile_of (sampled.Stream close) s (verdict.Ended f stats) c = (c.0, c.1, profiled_so close s f c.2)
  profile_of (sampled.Stream close) s verdict.WriteFault c = (notes_some close s c.0, c.1)
  profile_of (sampled.Stream close) s verdict.NoMemory (inl c) = inl c
  profile_of (sampled.Stream close) s verdict.NoMemory (inr c) = inr (notes_some close s c)
  profile_of (sampled.Stream close) s (verdict.Refused refused) c = absurd c
  profile_of (sampled.Trapped number kind home) s (verdict.Refused refused) c = absurd c
  profile_of (sampled.Trapped number kind home) s verdict.WriteFault c = absurd c
  profile_of (sampled.Trapped number kind home) s verdict.NoMemory c = inl c

-- the bodies of a program that was compiled are those of its tree, so this has their codes
module _ (r : ResolvedTree) (accepted : Accepted) (compiled : IsCompiled r accepted) where
  pub tree_bodies : AreBodies accepted.tree r.seqs
  tree_bodies = subst (λ t. AreBodies t r.seqs) (sym compiled.tree_is) compiled.bodies

  pub tree_codes : All (HasCode (record { tree = accepted.tree; codes = accepted.codes })) accepted.tree.nodes
  tree_codes = have_codes accepted.tree r.seqs accepted.codes tree_bodies compiled.codes

  pub tree_lawful : IsLawfulTree accepted.tree
  tree_lawful = subst (λ t. IsLawfulTree t) (sym compiled.tree_is) compiled.lawful

abbrev subject : Tree → (ℕ → List ℤ → Outcome) → List Code → Subject
subject tree leaf codes = record { tree = tree; leaf = leaf; codes = codes }

-- a program that was loaded and profiled
module _ (files : Change Held) (input out : Change (List ℕ)) (name : List ℕ) (r : ResolvedTree) (accepted : Accepted) (is : IsProgram files.old.content name r accepted) where
  compiled : IsCompiled r accepted
  compiled = is.comes.compiled

  -- its codes are those of its bodies, and do what these mean
  same : coded accepted.tree accepted.codes ≡ subject_of r
  same =
      ap (λ l. subject accepted.tree l accepted.codes) (same_leaf accepted.tree r.seqs accepted.codes (tree_bodies r accepted compiled) compiled.codes)
      ∙ ap (λ t. subject t (body_leaf t r.seqs) accepted.codes) compiled.tree_is
      ∙ ap (subject r.tree (body_leaf r.tree r.seqs)) (all_codes r.seqs accepted.codes compiled.codes)

  has : HasProgram files.old.content name r
  has = record { text = is.text; has = is.has; accepted = is.comes.accepted; only = is.comes.only }

  begins : HasSameFaults files → (NotesSome (subject_of r) input out) → BeginsProfile (world files input out) name
  begins same_faults some = record { r = r; has = has; begun = inr some }

  expected : HasSameFaults files → (v : Verdict) → IsProfileOf (subject_of r) input out v → IsProfileExpected (world files input out) name v
  expected same_faults (verdict.Ended f stats) h = record {
    passed = program_passes files name r accepted is.text is.has is.comes;
    ends = record { r = r; has = has; stats_are = h.0; profiled = h.2 };
    files = same_faults;
    output = h.1;
  }
  expected same_faults verdict.WriteFault h = record {
    begun = record { passed = program_passes files name r accepted is.text is.has is.comes; begins = begins same_faults h.0 };
    fault = inl (record { files = same_faults; output = h.1 });
  }
  expected same_faults verdict.NoMemory (inl h) = inr (record {
    passed = program_passes files name r accepted is.text is.has is.comes;
    begins = record { r = r; has = has; begun = inl h };
  })
  expected same_faults verdict.NoMemory (inr h) = inr (record { passed = program_passes files name r accepted is.text is.has is.comes; begins = begins same_faults h })
  expected same_faults (verdict.Refused refused) h = absurd h

  -- the verdict of the profile is expected
  pub profile_expected : HasSameFaults files → (v : Verdict) → IsProfileOf (coded accepted.tree accepted.codes) input out v → IsProfileExpected (world files input out) name v
  profile_expected same_faults v h = expected same_faults v (subst (λ p. IsProfileOf p input out v) same h)

-- a profile that came to its end was begun
pub ends_profile : (w : World) (name : List ℕ) (f : Finish) (stats : Option Stats) → EndsProfile w name f stats → BeginsProfile w name
ends_profile w name finish.Done stats h = record {
  r = h.r;
  has = h.has;
  begun = inr (record {
    all = h.profiled.all;
    begun = record {
      written = cost_file (subject_of h.r) h.profiled.all.items;
      more = [];
      put = h.profiled.put;
      text_is = append-nil (cost_file (subject_of h.r) h.profiled.all.items);
    };
  });
}
ends_profile w name (finish.Run (end.Stream close)) stats h = record { r = h.r; has = h.has; begun = inl h.profiled.output_still }
ends_profile w name (finish.Run (end.Trapped number kind home)) stats h = record { r = h.r; has = h.has; begun = inl h.profiled.output_still }
ends_profile w name (finish.Run (end.Stopped fired idle)) stats h = absurd h.profiled
ends_profile w name (finish.Differs line) stats h = absurd h.profiled

-- a profile that is stopped neither by a trap nor by a fault of reading lets the count of the input stay
pub profile_same_faults : (w : World) (name : List ℕ) (f : Finish) (stats : Option Stats) → EndsProfile w name f stats → (finish_status f ≡ status.trap → ⊥) → (finish_status f ≡ status.read → ⊥) → HasSameFaults w.input
profile_same_faults w name finish.Done stats h trap read = h.profiled.all.gives.cause
profile_same_faults w name (finish.Run (end.Stream close)) stats h trap read = ended_same_faults close w.input read h.profiled.all.gives.cause
profile_same_faults w name (finish.Run (end.Trapped number kind home)) stats h trap read = absurd (trap refl)
profile_same_faults w name (finish.Run (end.Stopped fired idle)) stats h trap read = absurd h.profiled
profile_same_faults w name (finish.Differs line) stats h trap read = absurd h.profiled

-- a fault of reading is answered where the count of the input rose
pub profile_read : (w : World) (name : List ℕ) (f : Finish) (stats : Option Stats) → EndsProfile w name f stats → finish_status f ≡ status.read → HasRisen w.input
profile_read w name finish.Done stats h is = absurd (omega arith)
profile_read w name (finish.Run (end.Stream close)) stats h is =
    subst (λ e. GivenCause (Some (Ok e)) w.input) (statuses.read_is close is) h.profiled.all.gives.cause
profile_read w name (finish.Run (end.Trapped number kind home)) stats h is = absurd (omega arith)
profile_read w name (finish.Run (end.Stopped fired idle)) stats h is = absurd h.profiled
profile_read w name (finish.Differs line) stats h is = absurd h.profiled

-- no profile is stopped
pub profile_unstopped : (w : World) (name : List ℕ) (f : Finish) (stats : Option Stats) → EndsProfile w name f stats → finish_status f ≡ status.stopped → ⊥
profile_unstopped w name finish.Done stats h is = absurd (omega arith)
profile_unstopped w name (finish.Run (end.Stream close)) stats h is = ending_unstopped close is
profile_unstopped w name (finish.Run (end.Trapped number kind home)) stats h is = absurd (omega arith)
profile_unstopped w name (finish.Run (end.Stopped fired idle)) stats h is = h.profiled
profile_unstopped w name (finish.Differs line) stats h is = h.profiled

-- the items of an input that came to its end are those that it gave
module _ (p : Subject) (input : Change (List ℕ)) (rest : List ℕ) (known : input.old.content ≡ Some rest) (all : GivesAll p input ending.End) where
  closes : Closes (subject_width p) all.stream all.gives.bytes all.items (closed_so (Some ending.End))
  closes = subst (λ c. Closes (subject_width p) all.stream all.gives.bytes all.items c) all.gives.closed_is all.gives.given.closes

  ended : (input.new.content ≡ Some []) × (all.gives.bytes ≡ rest)
  ended = ended_known input rest all.gives.bytes known all.gives.read (all.gives.at_end closes.0)

  pub at_end : input.new.content ≡ Some []
  at_end = ended.0

  pub all_items : items_of (subject_width p) rest ≡ ended_by all.items ending.End
  all_items = ap (items_of (subject_width p)) (sym ended.1) ∙ closes.1

-- a profile of status 0 is whole
pub profile_whole : (w : World) (name rest taken : List ℕ) (f : Finish) (stats : Option Stats) → ((text : List ℕ) → HasPut w.output text → w.output.new.content ≡ Some (taken ++ text)) → w.input.old.content ≡ Some rest → finish_status f ≡ status.done →
    EndsProfile w name f stats → ProfilesWhole w name rest taken
profile_whole w name rest taken finish.Done stats put input is h =
    let p = subject_of h.r in
    let all = h.profiled.all in
    let same = all_items p w.input rest input all in
    record {
      r = h.r;
      has = h.has;
      input_ended = at_end p w.input rest input all;
      all_items = ap (λ (i : Items). i.ending) same;
      values = subst (λ (i : Items). HaveValues p i.items) (sym same) all.values;
      taken_is = subst (λ (i : Items). w.output.new.content ≡ Some (taken ++ cost_file p i.items)) (sym same) (put (cost_file p all.items) h.profiled.put);
    }
profile_whole w name rest taken (finish.Run (end.Stream close)) stats put input is h = absurd (h.profiled.other (statuses.done_is close is))
profile_whole w name rest taken (finish.Run (end.Trapped number kind home)) stats put input is h = absurd (omega arith)
profile_whole w name rest taken (finish.Run (end.Stopped fired idle)) stats put input is h = absurd h.profiled
profile_whole w name rest taken (finish.Differs line) stats put input is h = absurd h.profiled

-- if a program has values on items, none of them has a trap
no_trap : (o : Outcome) → IsValue o → is_trap o ≡ false
no_trap (Value words) h = refl
no_trap (Trapped trap) h = absurd h

module _ (p : Subject) where
  abbrev traps_on : List ℤ → Bool
  traps_on words = is_trap (outcome_on p words)

  none_trap : (items : List (List ℤ)) → HaveValues p items → list_any traps_on items ≡ false
  none_trap [] h = refl
  none_trap (words ∷ items) h = ap (λ b. b || list_any traps_on items) (no_trap (outcome_on p words) h.0) ∙ none_trap items h.1

  one_traps : (items later : List (List ℤ)) (words : List ℤ) → HaveValues p items → traps_on words ≡ true → list_any traps_on ((items ++ words ∷ []) ++ later) ≡ true
  one_traps [] later words h is = ap (λ b. b || list_any traps_on later) is
  one_traps (first ∷ items) later words h is =
      ap (λ b. b || list_any traps_on ((items ++ words ∷ []) ++ later)) (no_trap (outcome_on p first) h.0) ∙ one_traps items later words h.1 is

  -- the status on items that go on from these
  pub value_status : (items later : List (List ℤ)) (close : Ending) → HaveValues p items → later ≡ [] → profile_status p (ended_by (items ++ later) close) ≡ ending_status close
  value_status items later close h none =
      ap (λ l. if list_any traps_on (items ++ l) then status.trap else ending_status close) none
      ∙ ap (λ l. if list_any traps_on l then status.trap else ending_status close) (append-nil items)
      ∙ ap (λ b. if b then status.trap else ending_status close) (none_trap items h)

  pub trap_status : (items later : List (List ℤ)) (words : List ℤ) (close : Ending) → HaveValues p items → traps_on words ≡ true →
      profile_status p (ended_by ((items ++ words ∷ []) ++ later) close) ≡ status.trap
  trap_status items later words close h is = ap (λ b. if b then status.trap else ending_status close) (one_traps items later words h is)

-- a network with items of this number of words; which processes it has makes no difference here
abbrev net_for : ResolvedTree → Network
net_for r = network_of r [] 0

module _ (r : ResolvedTree) (input : Change (List ℕ)) (rest : List ℕ) (known : input.old.content ≡ Some rest) (faultless : HasRisen input → ⊥) where
  abbrev p : Subject
  p = subject_of r

  abbrev seen : Items
  seen = seen_of (node_at r.tree 0).ins rest

  ended_status : (close : Ending) → GivesAll p input close → ending_status close ≡ profile_status p seen
  ended_status close all =
      let to : GoesOnTo (net_for r) (Some close) all.items rest = seen_goes_on (net_for r) rest input (Some close) all.stream all.items all.gives known faultless in
      sym (ap (profile_status p) to.seen ∙ value_status p all.items to.later to.e all.values (to.may_come.none close refl) ∙ ap ending_status (sym to.may_end))

  trapped_status : (out : Change (List ℕ)) (number : ℕ) (kind : TrapKind) (name : List ℕ) → TrapsSo p input out number kind name → status.trap ≡ profile_status p seen
  trapped_status out number kind name t =
      let to : GoesOnTo (net_for r) None (t.items ++ t.words ∷ []) rest = seen_goes_on (net_for r) rest input None t.stream (t.items ++ t.words ∷ []) t.gives known faultless in
      sym (ap (profile_status p) to.seen ∙ trap_status p t.items to.later t.words to.e t.values (ap is_trap t.traps))

-- without a fault, the input as it is seen determines how the profile ends
pub profile_status_expected : (w : World) (name rest : List ℕ) (f : Finish) (stats : Option Stats) → w.input.old.content ≡ Some rest → HasNoFault w → EndsProfile w name f stats → IsProfileStatus w name rest (finish_status f)
profile_status_expected w name rest finish.Done stats known faultless h = record {
  r = h.r;
  has = h.has;
  status_is = ended_status h.r w.input rest known faultless.input ending.End h.profiled.all;
}
profile_status_expected w name rest (finish.Run (end.Stream close)) stats known faultless h = record {
  r = h.r;
  has = h.has;
  status_is = ended_status h.r w.input rest known faultless.input close h.profiled.all;
}
profile_status_expected w name rest (finish.Run (end.Trapped number kind home)) stats known faultless h = record {
  r = h.r;
  has = h.has;
  status_is = trapped_status h.r w.input rest known faultless.input w.output number kind home h.profiled;
}
profile_status_expected w name rest (finish.Run (end.Stopped fired idle)) stats known faultless h = absurd h.profiled
profile_status_expected w name rest (finish.Differs line) stats known faultless h = absurd h.profiled
