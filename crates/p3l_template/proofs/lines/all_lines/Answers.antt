use Rattle.std.proofs.Common.{◌+◌, ◌++◌, ◌-◌, drop, ap, ap₂, ◌∙◌, arith}
use Rattle.p3l_template.specs.declared.template.Ports.{Ports}
use Rattle.p3l_template.specs.Shape.{fan_slots, ports_of}
use Rattle.p3l_template.specs.Lines.{lines_by}
use Rattle.p3l_template.specs.Finding.{line_of}
use Rattle.p3l_firing.specs.Shot.{state_of}
use Rattle.p3l_template.proofs.LineSteps.{lines_more, lines_end, lines_first}
use Rattle.p3l_template.proofs.lines.all_lines.Goals as goal

pub loop-worker-init : goal.loop-worker-init
loop-worker-init c =
    ap (λ z. z ++ lines_by (state_of c.args.shot.now) (fan_slots (c.args.chan + 0) ((c.args.chan + c.args.workers) + 0) (c.args.workers - 0)) (drop 0 c.args.inner.now)) c.new-lines.ensures
    ∙ lines_first (state_of c.args.shot.now) c.args.chan (c.args.chan + c.args.workers) c.args.workers c.args.inner.now

pub loop-worker-preserved : goal.loop-worker-preserved
loop-worker-preserved c =
    let s = state_of c.args.shot.now in
    ap (λ z. z ++ lines_by s (fan_slots (c.args.chan + (c.loop-worker.worker + 1)) ((c.args.chan + c.args.workers) + (c.loop-worker.worker + 1)) (c.args.workers - (c.loop-worker.worker + 1))) (drop (c.loop-worker.worker + 1) c.args.inner.now))
    c.in_ok-push.ensures.ok
    ∙ lines_more s c.args.chan (c.args.chan + c.args.workers) c.args.workers c.loop-worker.worker c.args.inner.now c.index-inner-worker.result c.add_line.new.to c.loop-worker.lines
    c.loop-worker-test.true (omega (arith, c.loop-worker-test.true, c.requires.inner)) c.index-inner-worker.is
    (c.in_ok-add_line.ensures
    ∙ ap₂ (λ z (x : Ports). z ++ line_of s x.input x.output c.index-inner-worker.result) c.new-line.ensures
    (c.ports-slot.ensures ∙ ap ports_of c.worker_slot.ensures))
    ∙ c.loop-worker.invariant

pub returns : goal.returns
returns c =
    lines_end (state_of c.args.shot.now) c.args.chan (c.args.chan + c.args.workers) c.args.workers c.loop-worker.worker (drop c.loop-worker.worker c.args.inner.now) c.loop-worker.lines
    (omega (arith, c.loop-worker-test.false)) ∙ c.loop-worker.invariant
