use Rattle.std.proofs.Common.{◌≡◌, ◌≤◌, ◌+◌, drop}
use Rattle.p3l_cert.specs.Rule.{needed, stages_rule}
use Rattle.p3l_cert.proofs.rule.stages_rule.Given as goal

abbrev pub invariant-loop-part : goal.invariant-loop-part
invariant-loop-part l = record {
  rest : stages_rule (needed l.rows) l.bound l.cap l.before (drop l.part-index l.parts) ≡ stages_rule (needed l.rows) l.bound l.cap 0 l.parts;
  small : l.before ≤ l.cap + 1;
}
