-- Picks for a run, one by one.
use Rattle.std.proofs.Common.{◌≡◌, ◌≢◌, ℕ, zero, suc, ◌+◌, ◌<◌, ◌≤◌, Bool, true, false, List, [], ◌∷◌, drop, length, Some, None, filter, refl, sym, ap, ◌∙◌, inl, inr, arith}
use Rattle.std.specs.List.{find, range_with_len, slice_get}
use Rattle.std.proofs.lemmas.Bool.{cases_Bool, cases_lt, cond-false, cond-true, false≢true}
use Rattle.std.proofs.lemmas.Option.{slice_get_past}
use Rattle.p3l_skel.specs.declared.tree.Tree.{Tree}
use Rattle.p3l_ready.specs.Flags.{in_turn}
use Rattle.p3l_firing.specs.declared.net.Net.{Net}
use Rattle.p3l_firing.specs.Fire.{IsStuck, can_fire}
use Rattle.p3l_firing.specs.Nodes.{Leaf}
use Rattle.p3l_firing.specs.Run.{Course, picked}
use Rattle.p3l_firing.specs.State.{State}
use Rattle.p3l_firing.proofs.Rows.{none_ready, ready_from_can}
use Rattle.p3l_sched.specs.declared.picker.Way.{Way}
use Rattle.p3l_sched.specs.declared.picker.Way.TheVariants as way
use Rattle.p3l_sched.specs.Course.{pick_before, picks_from}
use Rattle.p3l_sched.specs.Picker.{IsPickedFrom, after_pick, pick_of, ready_of}

before_some : (ready : List ℕ) (p : ℕ) (later : ℕ → List ℕ) → ready ≢ [] → pick_before ready (Some p) later ≡ p ∷ later p
before_some [] p later some = absurd (some refl)
before_some (q ∷ qs) p later some = refl

before_none : (ready : List ℕ) (later : ℕ → List ℕ) → pick_before ready None later ≡ []
before_none [] later = refl
before_none (q ∷ qs) later = refl

module _ (tree : Tree) (leaf : Leaf) (net : Net) where
  pub picks_from-next : (most : ℕ) (w : Way) (c : Course) (p : ℕ) → ready_of (can_fire tree net c.state) (length net.procs) ≢ [] → pick_of (can_fire tree net c.state) (length net.procs) w ≡ Some p →
      picks_from tree leaf net (suc most) w c ≡ p ∷ picks_from tree leaf net most (after_pick (length net.procs) w p) (picked tree leaf net c p)
  unfolding picks_from
  picks_from-next most w c p some is =
      ap (λ o. pick_before (ready_of (can_fire tree net c.state) (length net.procs)) o (λ q. picks_from tree leaf net most (after_pick (length net.procs) w q) (picked tree leaf net c q))) is
      ∙ before_some _ p _ some

  pub picks_from-ended : (most : ℕ) (w : Way) (c : Course) → pick_of (can_fire tree net c.state) (length net.procs) w ≡ None → picks_from tree leaf net most w c ≡ []
  unfolding picks_from
  picks_from-ended zero w c is = refl
  picks_from-ended (suc most) w c is =
      ap (λ o. pick_before (ready_of (can_fire tree net c.state) (length net.procs)) o (λ q. picks_from tree leaf net most (after_pick (length net.procs) w q) (picked tree leaf net c q))) is
      ∙ before_none _ _

  pub picks_from-stuck : (most : ℕ) (w : Way) (c : Course) → ready_of (can_fire tree net c.state) (length net.procs) ≡ [] → picks_from tree leaf net most w c ≡ []
  unfolding picks_from
  picks_from-stuck zero w c is = refl
  picks_from-stuck (suc most) w c is =
      ap (λ r. pick_before r (pick_of (can_fire tree net c.state) (length net.procs) w) (λ q. picks_from tree leaf net most (after_pick (length net.procs) w q) (picked tree leaf net c q))) is

-- a found number passes the test
find_passes : (test : ℕ → Bool) (xs : List ℕ) (p : ℕ) → find test xs ≡ Some p → test p ≡ true
find_passes test [] p h = cc
find_passes test (x ∷ xs) p h =
    elim (cases_Bool (test x)) [
      | inl e ↦
          let same : Some x ≡ Some p = sym (cond-true (test x) _ _ e) ∙ h in
          let here : x ≡ p = cc in
          ap test (sym here) ∙ e
      | inr e ↦ find_passes test xs p (sym (cond-false (test x) _ _ e) ∙ h)
    ]

-- all numbers of a list pass the test
abbrev Pass : (ℕ → Bool) → List ℕ → Type 0
Pass test [] = Unit {0}
Pass test (x ∷ xs) = (test x ≡ true) × Pass test xs

filter_passes : (test : ℕ → Bool) (xs : List ℕ) → Pass test (filter test xs)
filter_passes test [] = tt
filter_passes test (x ∷ xs) =
    elim (cases_Bool (test x)) [
      | inl e ↦ (let same : filter test (x ∷ xs) ≡ x ∷ filter test xs = cond-true (test x) _ _ e in rw same (e, filter_passes test xs))
      | inr e ↦ (let same : filter test (x ∷ xs) ≡ filter test xs = cond-false (test x) _ _ e in rw same (filter_passes test xs))
    ]

get_passes : (test : ℕ → Bool) (xs : List ℕ) (k p : ℕ) → Pass test xs → slice_get xs k ≡ Some p → test p ≡ true
get_passes test [] k p all h = cc
get_passes test (x ∷ xs) zero p all h = (let here : x ≡ p = cc in ap test (sym here) ∙ all.0)
get_passes test (x ∷ xs) (suc k) p all h = get_passes test xs k p all.1 h

first_left : (picks : List ℕ) (p : ℕ) → slice_get picks 0 ≡ Some p → picks ≡ p ∷ drop 1 picks
first_left [] p h = cc
first_left (x ∷ xs) p h = (let here : x ≡ p = cc in ap (λ y. y ∷ xs) here)

-- a turn and a draw pick what can fire
pub picked_ready : (can : ℕ → Bool) (size : ℕ) (w : Way) (p : ℕ) → pick_of can size w ≡ Some p → IsPickedFrom can size w p
picked_ready can size (way.Turns cursor) p h = find_passes can (in_turn size cursor) p h
picked_ready can size (way.Draws generator) p h = get_passes can (ready_of can size) _ p (filter_passes can (range_with_len 0 size)) h
picked_ready can size (way.Reads picks) p h = first_left picks p h

-- no number of a range passes a test if the filtered range is empty
none_in_range : (test : ℕ → Bool) (from count : ℕ) → filter test (range_with_len from count) ≡ [] → (p : ℕ) → from ≤ p → p < from + count → test p ≡ false
none_in_range test from zero none p low high = absurd (omega arith)
none_in_range test from (suc count) none p low high =
    elim (cases_Bool (test from)) [
      | inl e ↦ (let same : filter test (range_with_len from (suc count)) ≡ from ∷ filter test (range_with_len (from + 1) count) = cond-true (test from) _ _ e in absurd (let z = sym same ∙ none in cc))
      | inr e ↦
          let rest : filter test (range_with_len (from + 1) count) ≡ [] = sym (cond-false (test from) _ _ e) ∙ none in
          elim (cases_lt from p) [
            | inl later ↦ none_in_range test (from + 1) count rest p (omega arith) (omega arith)
            | inr here ↦ (let at : from ≡ p = omega arith in ap test (sym at) ∙ e)
          ]
    ]

past_end : (tree : Tree) (net : Net) (s : State) (p : ℕ) → length net.procs ≤ p → can_fire tree net s p ≡ false
past_end tree net s p h =
    elim (cases_Bool (can_fire tree net s p)) [
      | inl can ↦ absurd (false≢true (sym (none_ready tree net s p (slice_get_past net.procs p h)) ∙ ready_from_can tree net s p can))
      | inr cannot ↦ cannot
    ]

-- nothing can fire if none of the processes can
pub none_can : (tree : Tree) (net : Net) (s : State) → ready_of (can_fire tree net s) (length net.procs) ≡ [] → IsStuck tree net s
none_can tree net s none = λ p. elim (cases_lt p (length net.procs)) [
  | inl inside ↦ none_in_range (can_fire tree net s) 0 (length net.procs) none p (omega arith) (omega arith)
  | inr past ↦ past_end tree net s p past
]
