use Rattle.std.proofs.Common.{◌≡◌, drop}
use Rattle.p3l_calls.specs.Plain.{in_order, plain_out_rule}
use Rattle.p3l_calls.proofs.plain.check_plain_outs.Given as goal

-- the arguments that are left, with the variables and ports that are left
abbrev pub invariant-loop-k : goal.invariant-loop-k
invariant-loop-k l =
    in_order plain_out_rule l.call.at.pos (drop l.k l.vars) (drop l.k l.ports) (drop l.k l.outs)
    ≡ in_order plain_out_rule l.call.at.pos l.vars l.ports l.outs
