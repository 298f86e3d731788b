use Rattle.std.proofs.Common.{◌≡◌, ◌++◌, string_bytes}
use Rattle.p3l_c_print.specs.Function.{temps_text}
use Rattle.p3l_c_print.proofs.function.put_temps.Given as goal

abbrev pub invariant-loop-temp : goal.invariant-loop-temp
invariant-loop-temp l = string_bytes l.out ≡ string_bytes l.initial.out ++ temps_text l.temp
