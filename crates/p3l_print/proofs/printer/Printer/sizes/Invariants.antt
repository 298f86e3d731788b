use Rattle.std.proofs.Common.{◌≡◌, ◌++◌, drop, flat_map}
use Rattle.p3l_print.specs.Port.{size_text}
use Rattle.p3l_print.proofs.printer.Printer.sizes.Given as goal

abbrev pub invariant-loop-size : goal.invariant-loop-size
invariant-loop-size l = l.self ++ flat_map size_text (drop l.size-index l.sizes) ≡ l.initial.self ++ flat_map size_text l.sizes
