-- Each turn gives the slot of the next worker.
use Rattle.std.proofs.Common.{◌+◌, ◌++◌, [], ◌∷◌, ◌-◌, sym, ap, ◌∙◌, append_assoc, append-nil}
use Rattle.p3l_template.specs.Shape.{fan_slots}
use Rattle.p3l_template.proofs.FanSlots.{slots_step, slots_end}
use Rattle.p3l_template.proofs.workers.worker_slots.Goals as goal

pub loop-worker-preserved : goal.loop-worker-preserved
loop-worker-preserved c =
    let i = c.args.first in
    let o = c.args.first + c.args.workers in
    ap (λ y. y ++ fan_slots (i + (c.loop-worker.worker + 1)) (o + (c.loop-worker.worker + 1))
    (c.args.workers - (c.loop-worker.worker + 1))) (c.in_ok-push.ensures.ok ∙ ap (λ x. c.loop-worker.slots ++ x ∷ []) c.worker_slot.ensures)
    ∙ append_assoc c.loop-worker.slots _ _
    ∙ ap (λ z. c.loop-worker.slots ++ z)
    (sym (slots_step i o c.loop-worker.worker c.args.workers c.loop-worker-test.true))
    ∙ c.loop-worker.invariant

pub returns : goal.returns
returns c =
    sym (append-nil c.loop-worker.slots)
    ∙ ap (λ z. c.loop-worker.slots ++ z)
    (sym (slots_end (c.args.first + c.loop-worker.worker)
    ((c.args.first + c.args.workers) + c.loop-worker.worker) c.loop-worker.worker c.args.workers c.loop-worker-test.false))
    ∙ c.loop-worker.invariant
