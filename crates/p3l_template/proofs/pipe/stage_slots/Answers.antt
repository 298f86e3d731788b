-- Each turn gives the slot of the next stage.
use Rattle.std.proofs.Common.{◌+◌, ◌-◌, ◌++◌, [], ◌∷◌, sym, ap, ◌∙◌, arith, append_assoc}
use Rattle.p3l_template.specs.Pipe.{stage_slots}
use Rattle.p3l_template.proofs.StageSlots.{stage_step, stage_end}
use Rattle.p3l_template.proofs.pipe.stage_slots.Goals as goal

pub loop-part-preserved : goal.loop-part-preserved
loop-part-preserved c = record {
  few = omega (arith, c.loop-part-test.true);
  all =
      let v = c.loop-part.part in
      ap (λ z. z ++ stage_slots (v + 1) (c.args.chan + v) (c.args.chan + (v + 1)) c.args.to (c.args.last - (v + 1))) c.in_ok-push.ensures.ok
      ∙ append_assoc c.loop-part.slots _ _
      ∙ ap (λ d. c.loop-part.slots
      ++ (record { input = c.loop-part.input; output = c.args.chan + v; part = v }
      ∷ stage_slots (v + 1) (c.args.chan + v) d c.args.to (c.args.last - (v + 1)))) (omega arith)
      ∙ ap (λ z. c.loop-part.slots ++ z)
      (sym (stage_step v c.loop-part.input (c.args.chan + v) c.args.to c.args.last c.loop-part-test.true))
      ∙ c.loop-part.invariant.all;
}

pub returns : goal.returns
returns c =
    c.in_ok-push-2.ensures.ok
    ∙ ap (λ n. c.loop-part.slots ++ record { input = c.loop-part.input; output = c.args.to; part = n } ∷ [])
    (omega (arith, c.loop-part-test.false, c.loop-part.invariant.few))
    ∙ ap (λ z. c.loop-part.slots ++ z)
    (sym (stage_end c.loop-part.part c.loop-part.input (c.args.chan + c.loop-part.part) c.args.to c.args.last c.loop-part-test.false))
    ∙ c.loop-part.invariant.all
