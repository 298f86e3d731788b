-- Beginnings of runs, and the facts that every run keeps from there.
use Rattle.std.proofs.Common.{◌≡◌, ℕ, ℤ, ◌+◌, ◌*◌, ◌<◌, ◌≤◌, true, List, [], ◌∷◌, ◌++◌, cond, false, length, map, Some, refl, sym, ap, subst, ◌∙◌, arith, append_assoc, length-append}
use Rattle.std.proofs.lemmas.List.{map-append}
use Rattle.std.specs.List.{slice_get}
use Rattle.std.specs.Option.{option_map, option_to_list}
use Rattle.p3l_base.specs.declared.outcome.Outcome.{Outcome}
use Rattle.p3l_base.specs.declared.outcome.Outcome.TheVariants.{Value, Trapped}
use Rattle.p3l_firing.proofs.OutcomesLaw.{meaning_is}
use Rattle.p3l_firing.specs.NetInvariants.{whole, Invariants, HaveInWords, HasInvariants}
use Rattle.p3l_firing.specs.Nodes.{Leaf}
use Rattle.p3l_firing.specs.Token.{has_trap}
use Rattle.p3l_firing.specs.declared.net.Net.{Net}
use Rattle.p3l_firing.specs.declared.process.Proc.{Proc}
use Rattle.p3l_firing.specs.declared.process.ProcKind.TheVariants.{Source}
use Rattle.p3l_firing.specs.Fire.{IsStuck, can_fire, fire}
use Rattle.p3l_net.specs.Machine.{state_of}
use Rattle.p3l_net.specs.Offered.{Follows}
use Rattle.p3l_firing.specs.Outcomes.{IsPrefixOf, up_to_first_trap}
use Rattle.p3l_firing.specs.Run.{Course, after_picks, course_from, picked}
use Rattle.p3l_net.specs.Shot.{restored}
use Rattle.p3l_firing.specs.State.{State, first_state, with_rest}
use Rattle.p3l_firing.specs.Orderly as resumption
use Rattle.p3l_firing.proofs.OrderlyLaw.{IsKeptFrom, few_firings, kept_begins, kept_finished, kept_run}
use Rattle.p3l_skel.specs.Item.{item, meaning}
use Rattle.p3l_skel.specs.declared.tree.Tree.{Tree}
use Rattle.p3l_run.specs.Network.{IsSound, Network, begun_with, course_under, meaning_of, most_firings}
use Rattle.p3l_run.specs.Start.{CanBegin, IsWithin, Start, beginning, fresh, most_from, outcomes_from, saved, state_from}

-- a net that has a source has a process
pub some_process : (procs : List Proc) → option_map (λ (q : Proc). q.kind) (slice_get procs 0) ≡ Some Source → 0 < length procs
some_process [] e = absurd cc
some_process (q ∷ qs) e = omega arith

-- outcomes that were cut after their first trap are not cut again
up_to-same : (xs : List Outcome) → up_to_first_trap (up_to_first_trap xs) ≡ up_to_first_trap xs
unfolding up_to_first_trap
up_to-same [] = refl
up_to-same (Value words ∷ xs) = ap (λ l. Value words ∷ l) (up_to-same xs)
up_to-same (Trapped trap ∷ xs) = refl

-- nor after others
up_to-append : (xs ys : List Outcome) → up_to_first_trap (xs ++ up_to_first_trap ys) ≡ up_to_first_trap (xs ++ ys)
unfolding up_to_first_trap
up_to-append [] ys = up_to-same ys
up_to-append (Value words ∷ xs) ys = ap (λ l. Value words ∷ l) (up_to-append xs ys)
up_to-append (Trapped trap ∷ xs) ys = refl

module _ (tree : Tree) (net : Net) where
  -- the machine with which a run begins is where the run is
  pub follows_start : (follows : (items : List (List ℤ)) → Follows (beginning fresh tree net) [] items (course_from (first_state net items))) (start : Start) (items : List (List ℤ)) →
      Follows (beginning start tree net) [] items (course_from (state_from start tree net items))
  unfolding restored has_trap
  follows_start follows fresh items = follows items
  follows_start follows (saved r) items = record { state = refl; fired = refl; emitted = record { count = refl; trap = refl } }

  -- and nothing was emitted there
  none_emitted : (start : Start) (items : List (List ℤ)) → (state_from start tree net items).emitted ≡ []
  unfolding first_state with_rest state_of
  none_emitted fresh items = refl
  none_emitted (saved r) items = refl

module _ (tree : Tree) (leaf : Leaf) (net : Net) (firings : ℕ) (invariants : Invariants) (has_invariants : HasInvariants tree leaf net firings invariants) where
  -- the state in which a run begins is orderly
  pub orderly_start : (start : Start) → CanBegin start tree leaf net invariants → (items : List (List ℤ)) → HaveInWords tree items → invariants.orderly (state_from start tree net items) ≡ true
  orderly_start fresh begins items wide = (has_invariants.begins items wide).orderly
  orderly_start (saved r) begins items wide = begins.orderly items wide

  -- no more is owed in it than a run fires at most
  pub few_owed : (start : Start) → CanBegin start tree leaf net invariants → (items : List (List ℤ)) → HaveInWords tree items →
      invariants.owed (state_from start tree net items) + firings * length (state_from start tree net items).unsent ≤ most_from start firings (length items)
  unfolding first_state with_rest state_of restored
  few_owed fresh begins items wide = (let none = (has_invariants.begins items wide).owed in omega arith)
  few_owed (saved r) begins items wide =
      let few = begins.owed items wide in
      subst (λ k. invariants.owed (state_from (saved r) tree net items) + firings * k ≤ r.owed + firings * (length (option_to_list r.shot.inbox) + length items))
      (sym (length-append (option_to_list r.shot.inbox) items)) (omega arith)

  -- the firings are bounded by those owed, and `firings` for each item sent since
  within_start : (start : Start) → CanBegin start tree leaf net invariants → (items : List (List ℤ)) → HaveInWords tree items → (fired owed sent : ℕ) →
      (fired + owed) + firings * (state_from start tree net items).sent ≤ invariants.owed (state_from start tree net items) + firings * sent → IsWithin start firings fired sent
  unfolding first_state with_rest state_of restored
  within_start fresh begins items wide fired owed sent work = (let none = (has_invariants.begins items wide).owed in omega arith)
  within_start (saved r) begins items wide fired owed sent work = (let few = begins.owed items wide in omega arith)

  -- the outcomes to come, and those of the items, are what the items come to after what was in the net
  left_start : (start : Start) → CanBegin start tree leaf net invariants → (items : List (List ℤ)) → HaveInWords tree items →
      up_to_first_trap (invariants.to_come (state_from start tree net items) ++ map (item tree leaf 0) (state_from start tree net items).unsent) ≡ outcomes_from start (meaning tree leaf items)
  unfolding first_state with_rest state_of restored
  left_start fresh begins items wide =
      ap (λ l. up_to_first_trap (l ++ map (item tree leaf 0) items)) (has_invariants.begins items wide).to_come ∙ sym (meaning_is tree leaf items)
  left_start (saved r) begins items wide =
      let to_come : List Outcome = invariants.to_come (state_from (saved r) tree net items) in
      let inside : List Outcome = map (item tree leaf 0) (option_to_list r.shot.inbox) in
      let later : List Outcome = map (item tree leaf 0) items in
      ap (λ l. up_to_first_trap (to_come ++ l)) (map-append (item tree leaf 0) (option_to_list r.shot.inbox) items)
      ∙ ap up_to_first_trap (sym (append_assoc to_come inside later))
      ∙ ap (λ l. up_to_first_trap (l ++ later)) (begins.ahead items wide)
      ∙ sym (up_to-append r.ahead later)
      ∙ ap (λ l. up_to_first_trap (r.ahead ++ l)) (sym (meaning_is tree leaf items))

  outcomes_start : (start : Start) → CanBegin start tree leaf net invariants → (items : List (List ℤ)) → HaveInWords tree items →
      resumption.outcomes_from tree leaf invariants (state_from start tree net items) ≡ outcomes_from start (meaning tree leaf items)
  unfolding whole
  outcomes_start start begins items wide =
      ap (λ es. up_to_first_trap (es ++ (invariants.to_come (state_from start tree net items) ++ map (item tree leaf 0) (state_from start tree net items).unsent))) (none_emitted tree net start items)
      ∙ left_start start begins items wide

-- EVERY RUN of a sound network, whatever its picks
module _ (n : Network) (sound : IsSound n) (items : List (List ℤ)) (wide : HaveInWords n.tree items) where
  abbrev invariants : Invariants
  invariants = sound.has_invariants.0

  pub orderly : invariants.orderly (begun_with n items) ≡ true
  orderly = orderly_start n.tree n.leaf n.net n.firings invariants sound.has_invariants.1 n.start sound.begins items wide

  pub enough : invariants.owed (begun_with n items) + n.firings * length (begun_with n items).unsent ≤ most_firings n items
  enough = few_owed n.tree n.leaf n.net n.firings invariants sound.has_invariants.1 n.start sound.begins items wide

  outcomes_are : resumption.outcomes_from n.tree n.leaf invariants (begun_with n items) ≡ meaning_of n items
  outcomes_are = outcomes_start n.tree n.leaf n.net n.firings invariants sound.has_invariants.1 n.start sound.begins items wide

  unemitted : up_to_first_trap (begun_with n items).emitted ≡ (begun_with n items).emitted
  unfolding up_to_first_trap
  unemitted = ap up_to_first_trap (none_emitted n.tree n.net n.start items) ∙ sym (none_emitted n.tree n.net n.start items)

  module _ (picks : List ℕ) where
    kept : IsKeptFrom n.tree n.leaf n.firings invariants (begun_with n items) (course_under n items picks)
    kept = kept_run n.tree n.leaf n.net n.firings invariants sound.has_invariants.1 (begun_with n items) orderly picks

    pub fired_within : IsWithin n.start n.firings (course_under n items picks).fired (course_under n items picks).state.sent
    fired_within =
        within_start n.tree n.leaf n.net n.firings invariants sound.has_invariants.1 n.start sound.begins items wide (course_under n items picks).fired
        (invariants.owed (course_under n items picks).state) (course_under n items picks).state.sent kept.work

    pub fired_most : (course_under n items picks).fired ≤ most_firings n items
    fired_most =
        let few = few_firings n.tree n.leaf n.net n.firings invariants sound.has_invariants.1 (begun_with n items) (course_under n items picks) kept in
        omega (arith, few, enough)

    pub counted : (course_under n items picks).state.sent + length (course_under n items picks).state.unsent ≡ (begun_with n items).sent + length (begun_with n items).unsent
    counted = kept.count

    pub begins : IsPrefixOf (course_under n items picks).state.emitted (meaning_of n items)
    begins =
        subst (IsPrefixOf (course_under n items picks).state.emitted) outcomes_are
        (kept_begins n.tree n.leaf n.net n.firings invariants sound.has_invariants.1 (begun_with n items) (course_under n items picks) kept unemitted)

    pub finished : IsStuck n.tree n.net (course_under n items picks).state → (course_under n items picks).state.emitted ≡ meaning_of n items
    finished stuck =
        kept_finished n.tree n.leaf n.net n.firings invariants sound.has_invariants.1 (begun_with n items) (course_under n items picks) kept unemitted stuck ∙ outcomes_are

-- the count of a process rises by one at most at each pick
number_picked : (tree : Tree) (leaf : Leaf) (net : Net) → ((s : State) (p q : ℕ) → ((fire tree leaf net s p).own q).number ≤ (s.own q).number + 1) → (c : Course) (p q : ℕ) → ((picked tree leaf net c p).state.own q).number ≤ (c.state.own q).number + 1
unfolding picked
number_picked tree leaf net rises c p q =
    elim (can_fire tree net c.state p) as (
    λ b. ((cond b (record c { state = fire tree leaf net c.state p; fired = c.fired + 1 }) (record c { idle = c.idle + 1 })).state.own q).number ≤ (c.state.own q).number + 1
    ) [
      | true ↦ rises c.state p q
      | false ↦ omega arith
    ]

pub numbers_within : (tree : Tree) (leaf : Leaf) (net : Net) → ((s : State) (p q : ℕ) → ((fire tree leaf net s p).own q).number ≤ (s.own q).number + 1) → (c : Course) (picks : List ℕ) (q : ℕ) → ((after_picks tree leaf net c picks).state.own q).number ≤ (c.state.own q).number + length picks
unfolding after_picks
numbers_within tree leaf net rises c [] q = omega arith
numbers_within tree leaf net rises c (p ∷ picks) q =
    let one : ((picked tree leaf net c p).state.own q).number ≤ (c.state.own q).number + 1 = number_picked tree leaf net rises c p q in
    let rest : ((after_picks tree leaf net (picked tree leaf net c p) picks).state.own q).number ≤ ((picked tree leaf net c p).state.own q).number + length picks = numbers_within tree leaf net rises (picked tree leaf net c p) picks q in
    omega (arith, one, rest)
