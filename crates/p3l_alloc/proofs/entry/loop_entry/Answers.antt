use Rattle.std.proofs.Common.{◌≡◌, ◌*◌, ◌-◌, max, min, subst, sym, arith}
use Rattle.p3l_model.specs.NodeCost.{never}
use Rattle.p3l_model.specs.Costed.{Loop}
use Rattle.p3l_alloc.specs.Soonest.{IsSoonest}
use Rattle.p3l_alloc.proofs.Soonest.{loop_late, loop_never, loop_soonest}
use Rattle.p3l_alloc.proofs.entry.loop_entry.Goals as goal

pub returns-then-processes-lt2 : goal.returns-then-processes-lt2
returns-then-processes-lt2 c = λ a part. loop_late c.args.turns c.args.ends c.args.processes a c.if-processes-lt2.true

pub returns-then-time-ge-NEVER : goal.returns-then-time-ge-NEVER
returns-then-time-ge-NEVER c = λ a part.
    loop_never c.args.turns c.args.ends c.args.processes a c.soonest-time.result part.some c.if-processes-lt2.false c.if-time-ge-NEVER.true
    (subst (IsSoonest a (c.args.processes - 2)) (sym c.soonest-time.ensures) (part.soonest (c.args.processes - 2) (omega arith)))

pub returns : goal.returns
returns c = λ a part.
    let time = c.soonest-time.result in
    let same : c.min.result ≡ min (max c.args.ends (c.args.turns * time)) never = omega (arith, c.min.ensures, c.max.ensures, c.saturating_mul.ensures) in
    subst (IsSoonest (Loop c.args.turns c.args.ends a) c.args.processes) (sym same)
    (loop_soonest c.args.turns c.args.ends c.args.processes a time c.if-processes-lt2.false c.if-time-ge-NEVER.false
    (subst (IsSoonest a (c.args.processes - 2)) (sym c.soonest-time.ensures) (part.soonest (c.args.processes - 2) (omega arith))))
