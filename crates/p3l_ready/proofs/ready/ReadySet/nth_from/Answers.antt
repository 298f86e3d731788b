use Rattle.std.proofs.Common.{◌≡◌, ◌-◌, ap, arith}
use Rattle.p3l_ready.specs.Flags.{count_from, flag_at}
use Rattle.p3l_ready.proofs.Counting.{count-more, read-one}
use Rattle.p3l_ready.proofs.ready.ReadySet.nth_from.Goals as goal
use Rattle.p3l_ready.proofs.ready.ReadySet.nth_from.Goals.{then-index+else-left-eq0, else-index}

pub loop-p-init : goal.loop-p-init
unfolding count_from
loop-p-init c =
    let zero : c.args.start - c.args.start ≡ 0 = omega arith in
    let none : count_from (flag_at c.args.self.now) c.args.start (c.args.start - c.args.start) ≡ 0 = ap (count_from (flag_at c.args.self.now) c.args.start) zero in
    omega (arith, none)

pub loop-p-preserved : goal.loop-p-preserved
loop-p-preserved c =
    let more = count-more (flag_at c.args.self.now) c.args.start c.loop-p.p c.loop-p.auto.p in
    let was = c.loop-p.invariant in
    let one_is = read-one c.self.inside.flags.items c.args.self.now c.self.view_is c.loop-p.p c.index.result.now (omega (arith, c.loop-p-test.true, c.len-p-end.ensures)) c.index.ensures in
    elim c.if-index.branch [
      | then-index+else-left-eq0 w ↦
          let here = one_is.0 w.if-index.true in
          let some = w.if-left-eq0.false in
          omega (arith, more, was, here, some, w.left-is)
      | else-index w ↦
          let here = one_is.1 w.if-index.false in
          omega (arith, more, was, here, w.left-is)
    ]
