use Rattle.std.proofs.Common.{◌≡◌, ◌++◌, drop, map, string_bytes}
use Rattle.p3l_c.specs.Condition.{zero_entry}
use Rattle.p3l_c_print.specs.Function.{entries_text}
use Rattle.p3l_c_print.proofs.names.Names.put_all_zero.Given as goal

abbrev pub invariant-loop-var : goal.invariant-loop-var
invariant-loop-var l =
    string_bytes l.out ++ entries_text l.self (map zero_entry (drop l.var-index l.vars))
    ≡ string_bytes l.initial.out ++ entries_text l.self (map zero_entry l.vars)
