use Rattle.std.proofs.Common.{◌≡◌, ◌++◌, drop, flat_map}
use Rattle.p3l_print.specs.Module.{call_line}
use Rattle.p3l_print.proofs.printer.Printer.calls.Given as goal

abbrev pub invariant-loop-call : goal.invariant-loop-call
invariant-loop-call l = l.self ++ flat_map call_line (drop l.call-index l.calls) ≡ l.initial.self ++ flat_map call_line l.calls
