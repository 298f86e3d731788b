-- THE LAW OF RUN (`run_lawful`): a node of one process is a lawful template. Each firing takes the first token of
-- the in channel and puts its meaning after those of the out channel, so the line stays.
-- Nothing is ever pending inside, and where it cannot fire and the out channel has room, nothing waits.
use Rattle.std.proofs.Common.{◌≡◌, ℕ, ◌<◌, ◌≢◌, true, false, List, [], ◌∷◌, ◌++◌, map, length, refl, sym, ap, ◌∙◌, subst, arith, append_assoc, le_refl, slice_get, Some}
use Rattle.std.proofs.lemmas.Bool.{and_parts}
use Rattle.p3l_base.specs.declared.outcome.Outcome.{Outcome}
use Rattle.p3l_firing.specs.Fire.{row_can, can_fire}
use Rattle.p3l_firing.specs.Ways.{row_ways, MayFire}
use Rattle.p3l_firing.specs.kinds.Run as run
use Rattle.p3l_firing.specs.Lists.{first_or, has_first}
use Rattle.p3l_firing.specs.State.{State, pop, push, has_room}
use Rattle.p3l_firing.specs.Token.{over, has_trap, credit}
use Rattle.p3l_firing.specs.declared.net.Net.{Net}
use Rattle.p3l_template.specs.Part.{Part, line, IsInside, Moves, due}
use Rattle.p3l_template.specs.Placed.{IsLawfulShape, LiesAt, IsPlaced, AreStanding, AreChained, proc_end, chan_end}
use Rattle.p3l_template.specs.Run.{run_proc, run_part, run_shape}
use Rattle.p3l_template.specs.Shape.{Role, Base}
use Rattle.p3l_template.specs.Units.{Units, outcome_at}
use Rattle.p3l_template.specs.laws.Rows.{front, moved-in, moved-out, moved-other, way_at, cannot_at, emptied, and_right_true}

-- a step that takes the first token of the in channel and puts f of it at the out channel
unfoldable through_one : Base → (Outcome → Outcome) → State → State
through_one base f s = push (pop s base.input) base.output (over f (first_or credit (s.tokens base.input)))

module _ (base : Base) (f : Outcome → Outcome) (s : State) (apart : base.input ≢ base.output) where
  one_line : has_first (s.tokens base.input) ≡ true →
      line (run_part f base) (through_one base f s) ≡ line (run_part f base) s
  unfolding line through_one
  one_line full =
      rw (
        moved-out s base.input base.output (over f (first_or credit (s.tokens base.input))) apart,
        moved-in s base.input base.output (over f (first_or credit (s.tokens base.input))) apart,
      )
      (append_assoc (s.tokens base.output) _ _
      ∙ ap (λ ts. s.tokens base.output ++ map (over f) ts) (sym (front (s.tokens base.input) full)))

  one_moves : Moves (run_part f base) s (through_one base f s)
  unfolding through_one push pop
  one_moves = record {
    tokens = λ c h k _. moved-other s base.input base.output (over f (first_or credit (s.tokens base.input))) c h k;
    own = λ p _. refl;
    unsent = refl;
    sent = refl;
    emitted = refl;
  }

module _ (net : Net) (units : Units) (node : ℕ) (base : Base) (s : State) (p : ℕ)
    (stands : AreStanding net base.proc (run_proc node base ∷ [])) (inside : IsInside (run_part (outcome_at units node) base) p) where
  is_it : p ≡ base.proc
  is_it = omega (arith, inside.from, inside.to)

  stands_at : slice_get net.procs p ≡ Some (run_proc node base)
  unfolding AreStanding
  stands_at = ap (λ k. slice_get net.procs k) is_it ∙ stands.0

  run_fires : (t : State) → MayFire units.tree units.leaf net s p t →
      (t ≡ through_one base (outcome_at units node) s) × (has_first (s.tokens base.input) ≡ true)
  unfolding row_ways run.fire through_one
  run_fires t way = let w = way_at net units s p (run_proc node base) stands_at t way in (w.1, (and_parts _ _ w.0).0)

run_lies : (net : Net) (units : Units) (roles : ℕ → Role) (node : ℕ) (base : Base) (parts : List Part) →
    IsPlaced net units roles (run_shape node) base parts →
    LiesAt (run_shape node) units roles base parts (run_part (outcome_at units node) base)
unfolding AreChained proc_end chan_end
run_lies net units roles node base [] placed =
    record {
      meaning = refl;
      firings = refl;
      input = refl;
      output = refl;
      proc_from = refl;
      chan_from = refl;
      proc_to = refl;
      chan_to = omega arith;
    }
run_lies net units roles node base (P ∷ Ps) placed = absurd placed.inner

one_due : (base : Base) (f : Outcome → Outcome) (s : State) → base.input ≢ base.output →
    has_first (s.tokens base.input) ≡ true → due (run_part f base) (through_one base f s) < due (run_part f base) s
unfolding due through_one
one_due base f s apart full =
    let e = ap length (moved-in s base.input base.output (over f (first_or credit (s.tokens base.input))) apart) in
    let h = ap length (front (s.tokens base.input) full) in
    omega (arith, e, h)

run_drains : (net : Net) (units : Units) (node : ℕ) (base : Base) (s : State) →
    AreStanding net base.proc (run_proc node base ∷ []) → can_fire units.tree net s base.proc ≡ false →
    has_trap s.emitted ≡ false → has_room net s base.output ≡ true → s.tokens base.input ≡ []
unfolding AreStanding row_can run.can
run_drains net units node base s stands cannot untrapped room =
    emptied (s.tokens base.input)
    (and_right_true _ _ room (cannot_at net units s base.proc (run_proc node base) stands.0 untrapped cannot))

pub run_lawful : (node : ℕ) → IsLawfulShape (run_shape node)
run_lawful node = record {
  lawful = λ net units roles base parts placed. record {
    procs = omega arith;
    chans = le_refl _;
    reads = λ s t same. record { pending = refl; orderly = refl; owed = refl };
    begins = λ s fresh. record { orderly = refl; pending = refl; owed = refl };
    moves = λ s t p inside way.
        subst (λ u. Moves (run_part (outcome_at units node) base) s u)
        (sym (run_fires net units node base s p placed.procs inside t way).0)
        (one_moves base (outcome_at units node) s placed.good.apart);
    step = λ s t p inside way orderly.
        let w = run_fires net units node base s p placed.procs inside t way in
        record {
          orderly = refl;
          line = ap (line (run_part (outcome_at units node) base)) w.0 ∙ one_line base (outcome_at units node) s placed.good.apart w.1;
        };
    work = λ s t p inside way orderly.
        let w = run_fires net units node base s p placed.procs inside t way in
        subst (λ u. due (run_part (outcome_at units node) base) u < due (run_part (outcome_at units node) base) s)
        (sym w.0) (one_due base (outcome_at units node) s placed.good.apart w.1);
    size = λ s orderly. record { owed = omega arith; pending = omega arith };
    drain = λ s orderly quiet untrapped room.
        record {
          input =
              run_drains net units node base s placed.procs
              (quiet base.proc (record { from = le_refl _; to = omega arith })) untrapped room;
          pending = refl;
        };
  };
  lies = λ net units roles base parts placed. run_lies net units roles node base parts placed;
  count = λ base. refl;
  laid = λ cap base. refl;
  rooms = λ cap base k h l. absurd (omega arith);
  slots = λ net base good v l. absurd (omega arith);
}
