use Rattle.std.proofs.Common.{◌≡◌, ◌++◌, drop, string_bytes}
use Rattle.p3l_c.specs.Condition.{take_entries}
use Rattle.p3l_c_print.specs.Function.{entries_text}
use Rattle.p3l_c_print.proofs.names.Names.put_all_taken.Given as goal

abbrev pub invariant-loop-var : goal.invariant-loop-var
invariant-loop-var l =
    string_bytes l.out ++ entries_text l.self (take_entries l.from (drop l.var-index l.vars))
    ≡ string_bytes l.initial.out ++ entries_text l.self (take_entries 0 l.vars)
