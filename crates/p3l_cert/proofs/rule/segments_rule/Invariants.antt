use Rattle.std.proofs.Common.{◌≡◌, ◌≤◌, ◌^◌}
use Rattle.p3l_model.specs.Least.{least_over}
use Rattle.p3l_cert.specs.Rule.{segments_step}
use Rattle.p3l_cert.proofs.rule.segments_rule.Given as goal

abbrev pub invariant-loop-power : goal.invariant-loop-power
invariant-loop-power l = record {
  so_far : least_over (λ k. segments_step l.span l.fold l.bound l.cap (2 ^ k)) 0 l.power l.cap ≡ l.best;
  end : l.power ≤ 10;
}
