use Rattle.std.proofs.Common.{◌^◌, ◌<◌, ◌≤◌, subst, sym, arith, inl, inr}
use Rattle.std.proofs.Math.Pow.{pow_mono}
use Rattle.std.proofs.lemmas.Bool.{cases_lt}
use Rattle.std.proofs.lemmas.Nat.{pow_pos}
use Rattle.p3l_skel.specs.Numbers.{joined_procs}
use Rattle.p3l_model.specs.NodeCost.{segments_service}
use Rattle.p3l_model.specs.Costed.{IsIn}
use Rattle.p3l_alloc.proofs.First.{few_levels}
use Rattle.p3l_alloc.proofs.walk.first_segments.Goals as goal

pub returns-then-service-time-clause-found : goal.returns-then-service-time-clause-found
returns-then-service-time-clause-found c =
    let level = c.loop-level.level in
    let m = c.power_of_two-segments.result in
    let power = c.power_of_two-segments.ensures in
    let positive : 1 ≤ 2 ^ level = pow_pos level in
    let may = c.can_segment.ensures.0 c.if-can_segment.true in
    record {
      inside = ((level, power), (omega arith, may.0, may.1));
      few = may.2;
      soon = omega (arith, c.service.ensures, c.if-service-time.true, c.requires.time);
      before = λ n ((k, is), range) less fits.
          let lower : k < level = elim (cases_lt k level) [
            | inl yes' ↦ yes'
            | inr late ↦ let grown : 2 ^ level ≤ 2 ^ k = pow_mono late in absurd (omega arith)
          ] in
          subst (λ y. c.args.time < segments_service c.args.fold.now y) (sym is)
          (c.loop-level.invariant k lower (subst (IsIn c.args.span) is range) (subst (λ y. joined_procs y ≤ c.args.processes) is fits));
    }

pub returns-clause-none : goal.returns-clause-none
returns-clause-none c = λ m ((k, is), range) fits.
    let small : joined_procs (2 ^ k) ≤ c.args.processes = subst (λ y. joined_procs y ≤ c.args.processes) is fits in
    let lower : k < c.loop-level.level = omega (arith, few_levels k c.args.processes c.requires.processes small) in
    subst (λ y. c.args.time < segments_service c.args.fold.now y) (sym is) (c.loop-level.invariant k lower (subst (IsIn c.args.span) is range) small)
