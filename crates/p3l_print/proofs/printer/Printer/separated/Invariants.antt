use Rattle.std.proofs.Common.{◌≡◌, ◌++◌, drop, flat_map}
use Rattle.p3l_print.proofs.printer.Printer.separated.Given as goal

abbrev pub invariant-loop-item : goal.invariant-loop-item
invariant-loop-item g l =
    l.self ++ flat_map (λ item. l.separator ++ g.T.Print.text item) (drop l.item-index l.rest)
    ≡ l.initial.self ++ flat_map (λ item. l.separator ++ g.T.Print.text item) l.rest
