use Rattle.std.proofs.Common.{map, ap, ◌∙◌, List}
use Rattle.std.proofs.lemmas.List.{take_all}
use Rattle.p3l_firing.specs.declared.process.Proc.{Proc}
use Rattle.p3l_timed.specs.Price.{counted, price_of}
use Rattle.p3l_timed.proofs.price.prices.Goals as goal

pub returns : goal.returns
returns c =
    let tree = c.args.tree.now in
    let costs = c.args.costs.now in
    let all = take_all c.loop-process.process-index c.as_slice-process-items.result.now c.loop-process-test.false ∙ c.as_slice-process-items.ensures in
    c.loop-process.invariant ∙ ap (λ (qs : List Proc). map (λ (q : Proc). counted (price_of tree costs q)) qs) all
