-- The law of runs: each run of a net with invariants keeps them, from any orderly state.
use Rattle.std.proofs.Common.{◌≡◌, ℕ, zero, suc, ◌+◌, ◌*◌, ◌<◌, ◌≤◌, true, false, List, [], ◌∷◌, ◌++◌, length, map, refl, sym, ap, ap₂, ◌∙◌, subst, inl, inr, arith, length-append}
use Rattle.std.proofs.lemmas.Bool.{cases_Bool, cond-true, cond-false}
use Rattle.std.proofs.lemmas.List.{append-nil, length-map}
use Rattle.std.proofs.lemmas.Nat.{mod_below, mul-le}
use Rattle.p3l_base.specs.declared.outcome.Outcome.{Outcome}
use Rattle.p3l_skel.specs.declared.tree.Tree.{Tree}
use Rattle.p3l_skel.specs.Item.{item}
use Rattle.p3l_firing.specs.declared.net.Net.{Net}
use Rattle.p3l_firing.specs.Token.{has_trap}
use Rattle.p3l_firing.specs.Nodes.{Leaf}
use Rattle.p3l_firing.specs.State.{State}
use Rattle.p3l_firing.specs.Fire.{can_fire, IsStuck}
use Rattle.p3l_firing.specs.Run.{Course, course_from, picked, after_picks, run_from}
use Rattle.p3l_firing.specs.Outcomes.{up_to_first_trap, IsPrefixOf}
use Rattle.p3l_firing.specs.NetInvariants.{Invariants, whole, HasInvariants}
use Rattle.p3l_firing.proofs.OutcomesLaw.{begins_all, trap_ends_all}
use Rattle.p3l_firing.specs.RoundRobin.{after, next_of, round_robin}
use Rattle.p3l_firing.specs.Ways.{MayFire}
use Rattle.p3l_firing.proofs.RoundRobinLaw.{next_can, next_stuck, fired_at, goes_on, stops, cases_next}
use Rattle.p3l_firing.proofs.WaysLaw.{fire_is_a_way}
use Rattle.p3l_firing.specs.Orderly.{CanGoOn, IsBalanced, outcomes_from}

-- the invariant of every run from s
pub record IsKeptFrom (tree : Tree) (leaf : Leaf) (firings : ℕ) (invariants : Invariants) (s : State) (c : Course) : Type 0 where
  pub orderly : invariants.orderly c.state ≡ true
  pub emitted : up_to_first_trap s.emitted ≡ s.emitted → up_to_first_trap c.state.emitted ≡ c.state.emitted
  pub same : whole invariants (item tree leaf 0) c.state ≡ whole invariants (item tree leaf 0) s
  pub count : c.state.sent + length c.state.unsent ≡ s.sent + length s.unsent
  pub work : (c.fired + invariants.owed c.state) + firings * s.sent ≤ invariants.owed s + firings * c.state.sent

length-whole : (tree : Tree) (leaf : Leaf) (invariants : Invariants) (s : State) → length (whole invariants (item tree leaf 0) s) ≡ length s.emitted + (length (invariants.to_come s) + length s.unsent)
unfolding whole
length-whole tree leaf invariants s =
    let all = length-append s.emitted (invariants.to_come s ++ map (item tree leaf 0) s.unsent) in
    let later = length-append (invariants.to_come s) (map (item tree leaf 0) s.unsent) in
    let items = length-map s.unsent (item tree leaf 0) in
    omega (arith, all, later, items)

module _ (tree : Tree) (leaf : Leaf) (net : Net) (firings : ℕ) (invariants : Invariants) (laws : HasInvariants tree leaf net firings invariants) (s : State) where
  pub kept_first : invariants.orderly s ≡ true → IsKeptFrom tree leaf firings invariants s (course_from s)
  kept_first orderly = record { orderly = orderly; emitted = λ e. e; same = refl; count = refl; work = omega arith }

  -- whichever way a process fires
  pub kept_way : (c : Course) (p : ℕ) (t : State) → IsKeptFrom tree leaf firings invariants s c → MayFire tree leaf net c.state p t → IsKeptFrom tree leaf firings invariants s (record c { state = t; fired = c.fired + 1 })
  kept_way c p t k way =
      let f = laws.step c.state t p way k.orderly in
      let count = k.count in
      let items = f.items in
      let work = k.work in
      let less = f.work in
      record {
        orderly = f.orderly;
        emitted = λ e. f.emitted (k.emitted e);
        same = f.same ∙ k.same;
        count = omega arith;
        work = omega arith;
      }

  pub kept_fired : (c : Course) (p : ℕ) → IsKeptFrom tree leaf firings invariants s c → can_fire tree net c.state p ≡ true → IsKeptFrom tree leaf firings invariants s (fired_at tree leaf net c p)
  kept_fired c p k can = kept_way c p _ k (fire_is_a_way tree leaf net c.state p can)

  kept_picked : (c : Course) (p : ℕ) → IsKeptFrom tree leaf firings invariants s c → IsKeptFrom tree leaf firings invariants s (picked tree leaf net c p)
  unfolding picked
  kept_picked c p k =
      elim (cases_Bool (can_fire tree net c.state p)) [
        | inl can ↦ subst (IsKeptFrom tree leaf firings invariants s) (sym (cond-true _ _ _ can)) (kept_fired c p k can)
        | inr cannot ↦
            let idle : IsKeptFrom tree leaf firings invariants s (record c { idle = c.idle + 1 }) = record { orderly = k.orderly; emitted = k.emitted; same = k.same; count = k.count; work = k.work } in
            subst (IsKeptFrom tree leaf firings invariants s) (sym (cond-false _ _ _ cannot)) idle
      ]

  kept_picks : (c : Course) (picks : List ℕ) → IsKeptFrom tree leaf firings invariants s c → IsKeptFrom tree leaf firings invariants s (after_picks tree leaf net c picks)
  unfolding after_picks
  kept_picks c [] k = k
  kept_picks c (p ∷ picks) k = kept_picks (picked tree leaf net c p) picks (kept_picked c p k)

  pub kept_run : invariants.orderly s ≡ true → (picks : List ℕ) → IsKeptFrom tree leaf firings invariants s (run_from tree leaf net s picks)
  kept_run orderly picks = kept_picks _ picks (kept_first orderly)

  -- no run fires more often than is owed, and as all items may
  pub few_firings : (c : Course) → IsKeptFrom tree leaf firings invariants s c → c.fired ≤ invariants.owed s + firings * length s.unsent
  few_firings c k =
      let work = k.work in
      let count = k.count in
      let more : firings * c.state.sent ≤ firings * (s.sent + length s.unsent) = mul-le firings c.state.sent firings (s.sent + length s.unsent) (omega arith) (omega arith) in
      let parts : firings * (s.sent + length s.unsent) ≡ firings * s.sent + firings * length s.unsent = omega arith in
      omega (arith, more, parts)

  -- the round robin ends where nothing can fire
  ends : (most : ℕ) (c : Course) (from : ℕ) → from < length net.procs → IsKeptFrom tree leaf firings invariants s c → invariants.owed s + firings * length s.unsent ≤ c.fired + most → IsStuck tree net (after_picks tree leaf net c (round_robin tree leaf net most c.state from)).state
  unfolding round_robin after_picks
  ends zero c from there k enough = λ p.
      elim (cases_Bool (can_fire tree net c.state p)) [
        | inl can ↦
            let more = few_firings _ (kept_fired c p k can) in
            absurd (omega arith)
        | inr cannot ↦ cannot
      ]
  ends (suc most) c from there k enough =
      elim (cases_next tree leaf net (next_of tree net c.state from)) [
        | inl none ↦ subst (λ (x : Course). IsStuck tree net x.state) (sym (stops tree leaf net (suc most) c from none)) (next_stuck tree net c.state from there none)
        | inr some ↦
            let p : ℕ = some.0 in
            let can = next_can tree net c.state from p some.1 in
            subst (λ (x : Course). IsStuck tree net x.state) (sym (goes_on tree leaf net most c from p some.1))
            (ends most (fired_at tree leaf net c p) (after net p) (mod_below (p + 1) (length net.procs) (omega arith)) (kept_fired c p k can) (omega arith))
      ]

  pub kept_ends : invariants.orderly s ≡ true → (most from : ℕ) → from < length net.procs → invariants.owed s + firings * length s.unsent ≤ most → IsStuck tree net (run_from tree leaf net s (round_robin tree leaf net most s from)).state
  kept_ends orderly most from there enough = ends most (course_from s) from there (kept_first orderly) (omega arith)

  module _ (c : Course) (k : IsKeptFrom tree leaf firings invariants s c) where
    pub kept_balanced : IsBalanced invariants s → IsBalanced invariants c.state
    kept_balanced balanced =
        let all : length (whole invariants (item tree leaf 0) c.state) ≡ length (whole invariants (item tree leaf 0) s) = ap length k.same in
        let count = k.count in
        omega (arith, balanced, count, all, length-whole tree leaf invariants s, length-whole tree leaf invariants c.state)

    left : List Outcome
    left = invariants.to_come c.state ++ map (item tree leaf 0) c.state.unsent

    whole_is : up_to_first_trap (c.state.emitted ++ left) ≡ outcomes_from tree leaf invariants s
    unfolding left whole
    whole_is = ap up_to_first_trap k.same

    module _ (emitted : up_to_first_trap s.emitted ≡ s.emitted) where
      pub kept_going : CanGoOn invariants c.state
      kept_going = record { orderly = k.orderly; emitted = k.emitted emitted }

      pub kept_begins : IsPrefixOf c.state.emitted (outcomes_from tree leaf invariants s)
      kept_begins = subst (IsPrefixOf c.state.emitted) whole_is (begins_all c.state.emitted left (k.emitted emitted))

      drained : IsStuck tree net c.state → has_trap c.state.emitted ≡ false → c.state.emitted ≡ outcomes_from tree leaf invariants s
      unfolding left
      drained stuck untrapped =
          let d = laws.drained c.state k.orderly untrapped stuck in
          let none : invariants.to_come c.state ++ map (item tree leaf 0) c.state.unsent ≡ [] = ap₂ (λ a u. a ++ map (item tree leaf 0) u) d.to_come d.unsent in
          sym (ap up_to_first_trap (ap (λ z. c.state.emitted ++ z) none ∙ append-nil c.state.emitted) ∙ k.emitted emitted) ∙ whole_is

      pub kept_finished : IsStuck tree net c.state → c.state.emitted ≡ outcomes_from tree leaf invariants s
      kept_finished stuck =
          elim (cases_Bool (has_trap c.state.emitted)) [
            | inl trap ↦ sym (trap_ends_all c.state.emitted left trap (k.emitted emitted)) ∙ whole_is
            | inr untrapped ↦ drained stuck untrapped
          ]
