use Rattle.std.proofs.Common.{◌<◌, sym, arith}
use Rattle.std.proofs.lemmas.List.{append-nil}
use Rattle.p3l_skel.specs.Counts.{count_of}
use Rattle.p3l_export.proofs.RateSteps.{rates_none, rates_put}
use Rattle.p3l_export.proofs.rates.+rating.Goals as goal

pub push_rates-returns-then-levels-eq0 : goal.push_rates-returns-then-levels-eq0
push_rates-returns-then-levels-eq0 t c =
    rw (rates_none c.args.tree.now c.args.costs.now (count_of c.args.tree.now c.args.counts.now.list) c.args.levels c.args.rate
    c.args.number c.if-levels-eq0.true)
    (sym (append-nil c.args.rates.now.items))

pub push_rates-returns : goal.push_rates-returns
push_rates-returns t c =
    let count = count_of c.args.tree.now c.args.counts.now.list in
    let some : 0 < c.args.levels = omega (arith, c.if-levels-eq0.false) in
    rates_put c.args.tree.now c.args.costs.now count c.args.levels c.args.rate c.args.number c.rate_inside-inside.result
    c.parts_of-parts.result.now c.args.rates.now.items c.push.new.self.items c.push_parts.new.rates.items some
    c.rate_inside-inside.ensures c.parts_of-parts.ensures c.in_ok-push.ensures.items c.in_ok-push_parts.ensures
