-- The laws of linked nets as they are said.
use Rattle.std.proofs.Common.{◌≡◌, ℕ, ℤ, ◌&&◌, true, List, [], ◌∷◌, ◌++◌, map, length, sym, ap, ap₂, subst, eqb-true}
use Rattle.std.specs.List.{AllByRecursion}
use Rattle.std.proofs.lemmas.Bool.{and_parts}
use Rattle.p3l_skel.specs.Item.{item}
use Rattle.p3l_skel.specs.Tree.{node_at, HasLength}
use Rattle.p3l_firing.specs.NetInvariants.{whole}
use Rattle.p3l_firing.specs.State.{State, first_state}
use Rattle.p3l_firing.proofs.InvariantsLaw.{run_with_invariants, invariants_begin, invariants_finish, invariants_work, invariants_end}
use Rattle.p3l_firing.proofs.WaysLaw.{fire_is_a_way}
use Rattle.p3l_firing.proofs.row.{fitting_first, fitting_fired}
use Rattle.p3l_template.specs.Units.{Units}
use Rattle.p3l_link.specs.Laws.{IsOrderly, net_of, EveryNodeDoesWhatItMeans, EveryRootIsAPart, EveryNetHasInvariants, EveryRunBeginsOrderly, EveryFiringKeepsTheList, EveryWayKeepsTheList, EveryRunBeginsFitting, EveryFiringKeepsFitting, EveryRunBeginsTheMeaning, StuckMeansEmpty, StuckMeansFinished, RoundRobinEnds, FiringsAreBounded, OwedIsBoundedByTokens}
use Rattle.p3l_link.specs.Whole.{all_long, root_invariants}
use Rattle.p3l_link.proofs.NetInvariants.{root_sound, root_means, root_fires, linked_step, linked_begins, linked_drained, linked_has_invariants, owed_bound, some_procs}
use Rattle.p3l_link.proofs.NodeMeaning.{outcome-keeps}
use Rattle.p3l_link.proofs.RoleLaw.{role_means, role_fires}
use Rattle.p3l_link.proofs.Round.{long_all}
use Rattle.p3l_link.proofs.Counted.{root_counted, counted_there}

all_from : (n : ℕ) (items : List (List ℤ)) → all_long n items ≡ true → AllByRecursion (λ words. length words ≡ n) items
unfolding all_long
all_from n [] long = tt
all_from n (words ∷ items) long = let both = and_parts _ _ long in (eqb-true (length words) n both.0, all_from n items both.1)

-- the order of the record and that of the law
to_invariants : (units : Units) (counts : List ℕ) (s : State) → IsOrderly units counts s → (root_invariants units counts).orderly s ≡ true
to_invariants units counts s o = ap₂ (λ a b. a && b) o.root (long_all (node_at units.tree 0).ins s.unsent o.items)

from_invariants : (units : Units) (counts : List ℕ) (s : State) → (root_invariants units counts).orderly s ≡ true → IsOrderly units counts s
from_invariants units counts s h =
    let both = and_parts _ _ h in record { root = both.0; items = all_from (node_at units.tree 0).ins s.unsent both.1 }

pub node_does : EveryNodeDoesWhatItMeans
node_does units count d k lawful gives counted =
    let means = role_means units lawful count gives d k counted in
    let there = counted_there units.tree count d k counted in
    record {
      means = means;
      words = λ o long. subst (HasLength (node_at units.tree k).outs) (sym (means.same o long))
          (outcome-keeps units lawful k there gives o long);
      firings = role_fires units lawful count d k counted;
    }

pub root_part_is : EveryRootIsAPart
root_part_is units counts cap l =
    let means = root_means units counts cap l.lawful l.fit l.room l.gives in
    let there = counted_there units.tree _ _ 0 (root_counted units.tree counts l.lawful l.fit) in
    record {
      lawful = (root_sound units counts cap l.lawful l.fit l.room).lawful;
      means = means;
      words = λ o long. subst (HasLength (node_at units.tree 0).outs) (sym (means.same o long))
          (outcome-keeps units l.lawful 0 there l.gives o long);
      firings = root_fires units counts cap l.lawful l.fit l.room;
    }

pub net_has_invariants : EveryNetHasInvariants
net_has_invariants units counts cap l = linked_has_invariants units counts cap l.lawful l.fit l.room l.gives

first_whole : (units : Units) (counts : List ℕ) (cap : ℕ) (items : List (List ℤ)) →
    (root_invariants units counts).to_come (first_state (net_of units counts cap) items) ≡ [] →
    whole (root_invariants units counts) (item units.tree units.leaf 0) (first_state (net_of units counts cap) items)
    ≡ map (item units.tree units.leaf 0) items
unfolding whole first_state
first_whole units counts cap items none = ap (λ z. z ++ map (item units.tree units.leaf 0) items) none

pub run_begun : EveryRunBeginsOrderly
run_begun units counts cap items l long =
    let b = linked_begins units counts cap l.lawful l.fit l.room items long in
    record { orderly = from_invariants units counts _ b.orderly; whole = first_whole units counts cap items b.to_come }

pub way_keeps : EveryWayKeepsTheList
way_keeps units counts cap s t p l o way =
    let k = linked_step units counts cap l.lawful l.fit l.room l.gives s t p way (to_invariants units counts s o) in
    record { orderly = from_invariants units counts _ k.orderly; whole = k.same; items = k.items; work = k.work }

pub fired : EveryFiringKeepsTheList
fired units counts cap s p l o can = way_keeps units counts cap s _ p l o (fire_is_a_way units.tree units.leaf _ s p can)

pub first_fitting : EveryRunBeginsFitting
first_fitting units counts cap typed items long = fitting_first units.tree _ typed items long

pub fired_fitting : EveryFiringKeepsFitting
fired_fitting units counts cap typed s p gives fits can = fitting_fired units.tree units.leaf gives _ typed s fits p can

pub run_begins : EveryRunBeginsTheMeaning
run_begins units counts cap items picks l long =
    let laws = net_has_invariants units counts cap l in
    invariants_begin units.tree units.leaf _ _ (root_invariants units counts) laws items long _
    (run_with_invariants units.tree units.leaf _ _ (root_invariants units counts) laws items long picks)

pub stuck_empty : StuckMeansEmpty
stuck_empty units counts cap s l o stuck untrapped =
    let d = linked_drained units counts cap l.lawful l.fit l.room s o.root untrapped stuck in
    record { unsent = d.0; before = d.1; pending = d.2; after = d.3 }

pub run_finished : StuckMeansFinished
run_finished units counts cap items picks l long stuck =
    let laws = net_has_invariants units counts cap l in
    invariants_finish units.tree units.leaf _ _ (root_invariants units counts) laws items long _
    (run_with_invariants units.tree units.leaf _ _ (root_invariants units counts) laws items long picks) stuck

pub round_robin_ends : RoundRobinEnds
round_robin_ends units counts cap items l long =
    invariants_end units.tree units.leaf _ _ (root_invariants units counts) (net_has_invariants units counts cap l) items long
    (some_procs units counts cap l.lawful l.fit l.room)

pub run_bounded : FiringsAreBounded
run_bounded units counts cap items picks l long =
    let laws = net_has_invariants units counts cap l in
    invariants_work units.tree units.leaf _ _ (root_invariants units counts) laws items long _
    (run_with_invariants units.tree units.leaf _ _ (root_invariants units counts) laws items long picks)

pub owed_bounded : OwedIsBoundedByTokens
owed_bounded units counts cap s l o = owed_bound units counts cap l.lawful l.fit l.room s o.root
