use Rattle.std.proofs.Common.{◌≡◌, ◌++◌, drop, flat_map}
use Rattle.p3l_print.specs.Call.{sub_text}
use Rattle.p3l_print.proofs.printer.Printer.subs.Given as goal

abbrev pub invariant-loop-sub : goal.invariant-loop-sub
invariant-loop-sub l = l.self ++ flat_map sub_text (drop l.sub-index l.subs) ≡ l.initial.self ++ flat_map sub_text l.subs
