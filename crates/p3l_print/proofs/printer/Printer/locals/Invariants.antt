use Rattle.std.proofs.Common.{◌≡◌, ◌++◌, drop, flat_map}
use Rattle.p3l_print.specs.Module.{local_line}
use Rattle.p3l_print.proofs.printer.Printer.locals.Given as goal

abbrev pub invariant-loop-port : goal.invariant-loop-port
invariant-loop-port l = l.self ++ flat_map local_line (drop l.port-index l.locals) ≡ l.initial.self ++ flat_map local_line l.locals
