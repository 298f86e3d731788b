-- Each firing of a spread net is a firing of the whole net in one of its ways, so a spread run has the invariants of every run.
use Rattle.std.proofs.Common.{◌≡◌, ℕ, ℤ, zero, suc, ◌≤◌, ◌<◌, inl, inr, true, not, ◌&&◌, List, [], ◌∷◌, ◌++◌, length, map, refl, sym, ap, ap₂, ◌∙◌, subst, arith, le_refl, lt-ltb, ltb-true, length-append}
use Rattle.std.proofs.lemmas.Bool.{cases_Bool}
use Rattle.std.proofs.lemmas.List.{append-nil, length-map}
use Rattle.p3l_base.specs.declared.outcome.Outcome.{Outcome}
use Rattle.p3l_base.specs.declared.outcome.Outcome.TheVariants.{Value, Trapped}
use Rattle.p3l_skel.specs.Item.{item, meaning}
use Rattle.p3l_firing.specs.Outcomes.{up_to_first_trap, IsPrefixOf}
use Rattle.p3l_firing.proofs.OutcomesLaw.{meaning_is}
use Rattle.p3l_skel.specs.declared.tree.Tree.{Tree}
use Rattle.p3l_firing.specs.declared.net.Net.{Net}
use Rattle.p3l_firing.specs.declared.token.Token.{Token}
use Rattle.p3l_firing.specs.NetInvariants.{Invariants, HaveInWords, HasInvariants}
use Rattle.p3l_firing.specs.Fire.{is_ready, can_fire, fire, IsStuck}
use Rattle.p3l_firing.specs.Lists.{has_first}
use Rattle.p3l_firing.specs.Nodes.{Leaf}
use Rattle.p3l_firing.specs.Run.{Course}
use Rattle.p3l_firing.specs.State.{State, has_room, first_state}
use Rattle.p3l_firing.specs.Token.{has_trap}
use Rattle.p3l_firing.specs.Ways.{eyes_of, Knows}
use Rattle.p3l_firing.proofs.InvariantsLaw.{first_orderly, invariants_begin, invariants_bound, invariants_sent, invariants_finish}
use Rattle.p3l_firing.proofs.Fitting.{fitting_at_first}
use Rattle.p3l_firing.proofs.FittingWays.{fitting_way}
use Rattle.p3l_firing.proofs.OrderlyLaw.{IsKeptFrom, kept_first, kept_way}
use Rattle.p3l_firing.proofs.WaysLaw.{sees_more, fire_is_a_way}
use Rattle.p3l_firing.proofs.row.{fitting_first}
use Rattle.p3l_firing.specs.Typed.{IsTyped, IsFitting}
use Rattle.p3l_skel.specs.Numbers.{firings}
use Rattle.p3l_skel.specs.Tree.{GivesOuts}
use Rattle.p3l_link.proofs.LinkedLaws.{net_has_invariants}
use Rattle.p3l_link.specs.Laws.{net_of}
use Rattle.p3l_link.specs.Whole.{root_invariants}
use Rattle.p3l_spread_laws.specs.Laws.{EveryTypedNetBegins, EveryStepStaysSound, EveryViewIsTrue, DeliveredMeansQuiet, QuietMeansStuck, EverySpreadRunMeansItsItems, EveryLinkedSpreadRunMeansItsItems, EverySpreadRunFits, Means}
use Rattle.p3l_spread_laws.specs.Spread.{Spread, IsSound, view, Fires, Learns, Step, IsBegun, IsRun, IsQuiet}

pub net_begins : EveryTypedNetBegins
unfolding first_state
net_begins tree net items typed = record {
  state = refl;
  fired = refl;
  sound = record {
    seen = λ c. le_refl _;
    credit = λ c. let r = (fitting_at_first tree net typed c).1 in omega (arith, r);
  };
}

-- VIEWS STAY TRUE
fires_sound : (tree : Tree) (leaf : Leaf) (net : Net) (d e : Spread) → IsSound net d → Fires tree leaf net d e → IsSound net e
fires_sound tree leaf net d e k f = record {
  seen = λ c.
      let x = f.shifts c in
      let a = ap length x.before ∙ length-append x.taken x.kept in
      let b = ap length x.after ∙ length-append x.kept x.given in
      omega (arith, a, b, x.seen, k.seen c);
  credit = λ c.
      let x = f.shifts c in
      let a = ap length x.before ∙ length-append x.taken x.kept in
      let b = ap length x.after ∙ length-append x.kept x.given in
      omega (arith, a, b, x.credit, k.credit c);
}

learns_sound : (net : Net) (d e : Spread) → Learns net d e → IsSound net e
learns_sound net d e l = record {
  seen = λ c. let a = ap (λ s. length (s.tokens c)) l.state in omega (arith, a, l.there c);
  credit = λ c. let a = ap (λ s. length (s.tokens c)) l.state in omega (arith, a, l.room c);
}

pub stays_sound : EveryStepStaysSound
stays_sound tree leaf net d e k step = elim step [ inl f ↦ fires_sound tree leaf net d e k f | inr l ↦ learns_sound net d e l ]

-- VIEWS ARE TRUE
some_first : (ts : List Token) → 0 < length ts → has_first ts ≡ true
some_first [] l = absurd (omega arith)
some_first (t ∷ ts) l = refl

first_some : (ts : List Token) → has_first ts ≡ true → 0 < length ts
first_some [] h = cc
first_some (t ∷ ts) h = omega arith

view_known : (net : Net) (d : Spread) → IsSound net d → Knows (view d) (eyes_of net d.state)
unfolding has_room
view_known net d k = record {
  fronts = λ c h. let l = ltb-true _ _ h in some_first (d.state.tokens c) (omega (arith, l, k.seen c));
  rooms = λ c h. let l = ltb-true _ _ h in lt-ltb _ _ (omega (arith, l, k.credit c));
}

pub view_true : EveryViewIsTrue
view_true tree leaf net d p t k way = sees_more tree leaf net (view d) (eyes_of net d.state) (view_known net d k) d.state p t way

-- QUIET NETS
quiet_known : (tree : Tree) (leaf : Leaf) (net : Net) (d : Spread) → IsQuiet tree leaf net d → Knows (eyes_of net d.state) (view d)
unfolding has_room
quiet_known tree leaf net d q = record {
  fronts = λ c h. lt-ltb _ _ (q.arrived c (first_some (d.state.tokens c) h));
  rooms = λ c h. lt-ltb _ _ (q.told c (ltb-true _ _ h));
}

pub delivered_quiet : DeliveredMeansQuiet
delivered_quiet tree leaf net d i none = record {
  none = none;
  arrived = λ c l. omega (arith, l, i.tokens c);
  told = λ c l. omega (arith, l, i.rooms c);
}

pub quiet_stuck : QuietMeansStuck
quiet_stuck tree leaf net d q = λ p.
    elim (cases_Bool (can_fire tree net d.state p)) [
      | inl can ↦
          absurd (q.none p (fire tree leaf net d.state p)
          (sees_more tree leaf net (eyes_of net d.state) (view d) (quiet_known tree leaf net d q) d.state p _
          (fire_is_a_way tree leaf net d.state p can)))
      | inr cannot ↦ cannot
    ]

-- RUNS
-- a spread net as a point of a run by picks
abbrev course : Spread → Course
course d = record { state = d.state; fired = d.fired; idle = 0 }

shorter : (os : List Outcome) → length (up_to_first_trap os) ≤ length os
unfolding up_to_first_trap
shorter [] = omega arith
shorter (Value words ∷ os) = let r = shorter os in omega (arith, r)
shorter (Trapped trap ∷ os) = omega arith

none_there : (os : List Outcome) → length os ≡ 0 → os ≡ []
none_there [] e = refl
none_there (o ∷ os) e = absurd (omega (arith, e))

all_counted : (tree : Tree) (leaf : Leaf) (items : List (List ℤ)) (emitted : List Outcome) →
    IsPrefixOf emitted (meaning tree leaf items) → length items ≤ length emitted → emitted ≡ meaning tree leaf items
all_counted tree leaf items emitted begins all =
    let m = ap length (meaning_is tree leaf items) in
    let s = shorter (map (item tree leaf 0) items) in
    let i = length-map items (item tree leaf 0) in
    let a = length-append emitted begins.0 in
    let b = ap length begins.1 in
    let none = none_there begins.0 (omega (arith, m, s, i, a, b, all)) in
    sym (ap (λ z. emitted ++ z) none ∙ append-nil emitted) ∙ begins.1

trap_stuck : (tree : Tree) (net : Net) (s : State) → has_trap s.emitted ≡ true → IsStuck tree net s
unfolding can_fire
trap_stuck tree net s trap = λ p. ap (λ b. not b && is_ready tree net s p) trap

module _ (tree : Tree) (leaf : Leaf) (net : Net) (most : ℕ) (invariants : Invariants) (laws : HasInvariants tree leaf net most invariants)
    (items : List (List ℤ)) (long : HaveInWords tree items) where
  -- the invariant of spread runs
  record IsKept (d : Spread) : Type 0 where
    sound : IsSound net d
    kept : IsKeptFrom tree leaf most invariants (first_state net items) (course d)

  begun_kept : (d : Spread) → IsBegun net items d → IsKept d
  begun_kept d b = record {
    sound = b.sound;
    kept = subst (IsKeptFrom tree leaf most invariants (first_state net items))
        (sym (ap₂ (λ s n. record { state = s; fired = n; idle = 0 }) b.state b.fired))
        (kept_first tree leaf net most invariants laws (first_state net items)
        (first_orderly tree leaf net most invariants laws items long));
  }

  step_kept : (d e : Spread) → IsKept d → Step tree leaf net d e → IsKept e
  step_kept d e k step = record {
    sound = stays_sound tree leaf net d e k.sound step;
    kept = elim step [
      | inl f ↦
          subst (λ n. IsKeptFrom tree leaf most invariants (first_state net items) (record { state = e.state; fired = n; idle = 0 }))
          (sym f.count)
          (kept_way tree leaf net most invariants laws (first_state net items) (course d) f.by e.state k.kept
          (view_true tree leaf net d f.by e.state k.sound f.way))
      | inr l ↦
          subst (IsKeptFrom tree leaf most invariants (first_state net items))
          (sym (ap₂ (λ s n. record { state = s; fired = n; idle = 0 }) l.state l.fired)) k.kept
    ];
  }

  run_kept : (at : ℕ → Spread) (n : ℕ) → IsRun tree leaf net items at n → IsKept (at n)
  run_kept at zero r = begun_kept (at 0) r.begun
  run_kept at (suc n) r =
      step_kept (at n) (at (suc n))
      (run_kept at n (record { begun = r.begun; steps = λ i l. r.steps i (omega arith) })) (r.steps n (omega arith))

  run_means : (at : ℕ → Spread) (n : ℕ) → IsRun tree leaf net items at n → Means tree leaf net most items (at n)
  run_means at n r =
      let k = run_kept at n r in
      record {
        begins = invariants_begin tree leaf net most invariants laws items long (course (at n)) k.kept;
        bounded = invariants_bound tree leaf net most invariants laws items long (course (at n)) k.kept;
        sent = invariants_sent tree leaf net most invariants laws items long (course (at n)) k.kept;
        counted = λ all.
            all_counted tree leaf items (at n).state.emitted
            (invariants_begin tree leaf net most invariants laws items long (course (at n)) k.kept) all;
        trapped = λ trap.
            invariants_finish tree leaf net most invariants laws items long (course (at n)) k.kept (trap_stuck tree net (at n).state trap);
        finished = λ quiet.
            invariants_finish tree leaf net most invariants laws items long (course (at n)) k.kept
            (quiet_stuck tree leaf net (at n) quiet);
      }

-- WIDTHS
module _ (tree : Tree) (leaf : Leaf) (net : Net) (typed : IsTyped tree net) (items : List (List ℤ)) (gives : GivesOuts tree leaf)
    (long : HaveInWords tree items) where
  record IsFit (d : Spread) : Type 0 where
    sound : IsSound net d
    fits : IsFitting tree net typed.widths d.state

  step_fits : (d e : Spread) → IsFit d → Step tree leaf net d e → IsFit e
  step_fits d e k step = record {
    sound = stays_sound tree leaf net d e k.sound step;
    fits = elim step [
      | inl f ↦
          fitting_way tree leaf gives net typed d.state k.fits f.by e.state
          (view_true tree leaf net d f.by e.state k.sound f.way)
      | inr l ↦ subst (IsFitting tree net typed.widths) (sym l.state) k.fits
    ];
  }

  run_fits : (at : ℕ → Spread) (n : ℕ) → IsRun tree leaf net items at n → IsFit (at n)
  run_fits at zero r = record {
    sound = r.begun.sound;
    fits = subst (IsFitting tree net typed.widths) (sym r.begun.state) (fitting_first tree net typed items long);
  }
  run_fits at (suc n) r =
      step_fits (at n) (at (suc n))
      (run_fits at n (record { begun = r.begun; steps = λ i l. r.steps i (omega arith) })) (r.steps n (omega arith))

pub spread_fits : EverySpreadRunFits
spread_fits tree leaf net typed items at n gives long r = (run_fits tree leaf net typed items gives long at n r).fits

pub linked_spread_means : EveryLinkedSpreadRunMeansItsItems
linked_spread_means units counts cap items at n linkable long r =
    run_means units.tree units.leaf (net_of units counts cap) (firings units.tree counts) (root_invariants units counts)
    (net_has_invariants units counts cap linkable) items long at n r

pub spread_means : EverySpreadRunMeansItsItems
spread_means tree leaf net most invariants items at n laws long r =
    run_means tree leaf net most invariants laws items long at n r
