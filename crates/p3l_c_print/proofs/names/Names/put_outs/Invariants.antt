use Rattle.std.proofs.Common.{◌≡◌, ◌++◌, drop, string_bytes}
use Rattle.p3l_c.specs.Condition.{vars_shapes}
use Rattle.p3l_c_print.specs.Function.{outs_text}
use Rattle.p3l_c_print.proofs.names.Names.put_outs.Given as goal

abbrev pub invariant-loop-var : goal.invariant-loop-var
invariant-loop-var l =
    string_bytes l.out ++ outs_text l.self l.from (vars_shapes (drop l.var-index l.vars))
    ≡ string_bytes l.initial.out ++ outs_text l.self 0 (vars_shapes l.vars)
