use Rattle.std.proofs.Common.{◌≡◌, map, take}
use Rattle.p3l_firing.specs.declared.process.Proc.{Proc}
use Rattle.p3l_timed.specs.Price.{counted, price_of}
use Rattle.p3l_timed.proofs.price.prices.Given as goal

-- the prices so far
abbrev pub invariant-loop-process : goal.invariant-loop-process
invariant-loop-process l =
    l.prices.items ≡ map (λ (q : Proc). counted (price_of l.tree l.costs q)) (take l.process-index l.process-items)
