-- Runs on items are runs from the first state, which is orderly: so they mean their items.
use Rattle.std.proofs.Common.{◌≡◌, ℕ, ℤ, ◌+◌, ◌*◌, ◌<◌, ◌≤◌, true, List, ◌++◌, length, map, refl, sym, ap, ◌∙◌, subst, arith}
use Rattle.p3l_skel.specs.declared.tree.Tree.{Tree}
use Rattle.p3l_skel.specs.Item.{item, meaning}
use Rattle.p3l_firing.specs.declared.net.Net.{Net}
use Rattle.p3l_firing.specs.Nodes.{Leaf}
use Rattle.p3l_firing.specs.State.{State, first_state}
use Rattle.p3l_firing.specs.Fire.{IsStuck}
use Rattle.p3l_firing.specs.Run.{Course, run}
use Rattle.p3l_firing.specs.RoundRobin.{round_robin}
use Rattle.p3l_firing.specs.Outcomes.{up_to_first_trap, IsPrefixOf}
use Rattle.p3l_firing.specs.NetInvariants.{Invariants, whole, HaveInWords, HasInvariants}
use Rattle.p3l_firing.specs.Orderly.{outcomes_from}
use Rattle.p3l_firing.proofs.OutcomesLaw.{meaning_is}
use Rattle.p3l_firing.proofs.OrderlyLaw.{IsKeptFrom, kept_run, kept_begins, kept_finished, kept_ends}

module _ (tree : Tree) (leaf : Leaf) (net : Net) (firings : ℕ) (invariants : Invariants) (laws : HasInvariants tree leaf net firings invariants) (items : List (List ℤ)) (long : HaveInWords tree items) where
  abbrev first : State
  first = first_state net items

  pub first_orderly : invariants.orderly first ≡ true
  first_orderly = (laws.begins items long).orderly

  first_outcomes : outcomes_from tree leaf invariants first ≡ meaning tree leaf items
  unfolding first_state whole
  first_outcomes = ap (λ z. up_to_first_trap (z ++ map (item tree leaf 0) items)) (laws.begins items long).to_come ∙ sym (meaning_is tree leaf items)

  none_emitted : up_to_first_trap first.emitted ≡ first.emitted
  unfolding first_state up_to_first_trap
  none_emitted = refl

  pub run_with_invariants : (picks : List ℕ) → IsKeptFrom tree leaf firings invariants first (run tree leaf net items picks)
  run_with_invariants picks = kept_run tree leaf net firings invariants laws first first_orderly picks

  module _ (c : Course) (k : IsKeptFrom tree leaf firings invariants first c) where
    pub invariants_begin : IsPrefixOf c.state.emitted (meaning tree leaf items)
    invariants_begin = subst (IsPrefixOf c.state.emitted) first_outcomes (kept_begins tree leaf net firings invariants laws first c k none_emitted)

    pub invariants_finish : IsStuck tree net c.state → c.state.emitted ≡ meaning tree leaf items
    invariants_finish stuck = kept_finished tree leaf net firings invariants laws first c k none_emitted stuck ∙ first_outcomes

    pub invariants_work : c.fired + invariants.owed c.state ≤ firings * c.state.sent
    unfolding first_state
    invariants_work =
        let owed = (laws.begins items long).owed in
        let work = k.work in
        omega arith

    pub invariants_bound : c.fired ≤ firings * c.state.sent
    invariants_bound = let work = invariants_work in omega arith

    pub invariants_sent : c.state.sent ≤ length items
    unfolding first_state
    invariants_sent = let count = k.count in omega arith

  pub invariants_end : 0 < length net.procs → IsStuck tree net (run tree leaf net items (round_robin tree leaf net (firings * length items) first 0)).state
  unfolding first_state
  invariants_end some =
      let owed = (laws.begins items long).owed in
      kept_ends tree leaf net firings invariants laws first first_orderly (firings * length items) 0 some (omega arith)
