use Rattle.std.proofs.Common.{◌≡◌, ◌-◌, subst, arith}
use Rattle.p3l_alloc.specs.Soonest.{split_time}
use Rattle.p3l_alloc.proofs.Soonest.{both_soonest}
use Rattle.p3l_alloc.proofs.table.both_entry.Goals as goal

pub returns : goal.returns
returns c = λ a b left right.
    let first = c.args.first.now in
    let others = c.args.others.now in
    let p = c.args.processes in
    let given = c.crossing-given.result in
    let fewer : c.split_time-before.result ≡ split_time first others p (given - 1) = subst (λ q. c.split_time-before.result ≡ split_time first others p q) c.saturating_sub.ensures c.split_time-before.ensures in
    both_soonest a b p first others given c.min.result left right c.crossing-given.ensures
    (omega (arith, c.min.ensures, c.split_time-from.ensures, fewer))
