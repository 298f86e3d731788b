-- Searches among the processes of a machine.
use Rattle.std.proofs.Common.{◌≡◌, ℕ, ◌+◌, ◌-◌, ◌<◌, ◌≤◌, Bool, true, false, not, ◌&&◌, List, [], length, Option, Some, None, refl, sym, ap, ◌∙◌, inl, inr, arith}
use Rattle.std.specs.List.{find, range_with_len}
use Rattle.std.specs.Option.{option_or, IfSome, IfNone}
use Rattle.std.proofs.lemmas.Bool.{cases_lt}
use Rattle.std.proofs.lemmas.List.Folds.{find-append}
use Rattle.std.proofs.lemmas.Option.{slice_get_past}
use Rattle.p3l_base.specs.declared.outcome.Outcome.{Outcome}
use Rattle.p3l_ready.specs.Flags.{in_turn}
use Rattle.p3l_ready.proofs.AtLemmas.{same_function}
use Rattle.p3l_ready.proofs.Cyclic.{found_passes, none_passes}
use Rattle.p3l_firing.specs.RoundRobin.{next_of}
use Rattle.p3l_firing.proofs.Rows.{none_ready}
use Rattle.p3l_net.specs.Machine.{Seen, HasEmitted, can_step, state_of}
use Rattle.p3l_net.proofs.Emitted.{can_step-state}

-- of a machine
module _ (m : Seen) (from : ℕ) (there : from < length m.net.procs) where
  past_end : (p : ℕ) → length m.net.procs ≤ p → can_step m p ≡ false
  past_end p h = ap (λ b. not m.trapped && b) (none_ready m.tree m.net (state_of m []) p (slice_get_past m.net.procs p h)) ∙ and_false (not m.trapped)
    where
      and_false : (b : Bool) → (b && false) ≡ false
      and_false true = refl
      and_false false = refl

  pub next_passes : (a n : ℕ) → a + n ≤ length m.net.procs → (r : Option ℕ) → r ≡ find (can_step m) (range_with_len a n) → IfSome r (λ p. (p < length m.net.procs) × (can_step m p ≡ true))
  next_passes a n h None e = tt
  next_passes a n h (Some p) e =
      let found = found_passes (can_step m) a n p (sym e) in
      (omega (arith, found.0), found.1)

  module _ (first : find (can_step m) (range_with_len from (length m.net.procs - from)) ≡ None) where
    pub next_none : (r : Option ℕ) → r ≡ find (can_step m) (range_with_len 0 from) → IfNone r ((p : ℕ) → can_step m p ≡ false)
    next_none (Some p) e = tt
    next_none None e = λ p.
        elim (cases_lt p from) [
          | inl low ↦ none_passes (can_step m) 0 from p (sym e) (omega arith) (omega arith)
          | inr high ↦
              elim (cases_lt p (length m.net.procs)) [
                | inl inside ↦ none_passes (can_step m) from (length m.net.procs - from) p first high (omega arith)
                | inr past ↦ past_end p past
              ]
        ]

  pub next_is : (emitted : List Outcome) → HasEmitted m emitted → next_of m.tree m.net (state_of m emitted) from ≡ option_or (find (can_step m) (range_with_len from (length m.net.procs - from))) (find (can_step m) (range_with_len 0 from))
  next_is emitted has =
      ap (λ test. find test (in_turn (length m.net.procs) from)) (same_function (λ p. can_step-state m emitted p has))
      ∙ find-append (can_step m) _ _
