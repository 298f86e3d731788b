-- Each turn gives the next port.
use Rattle.std.proofs.Common.{◌+◌, ◌++◌, [], ◌∷◌, length, ◌-◌, sym, ap, ap₂, ◌∙◌, append_assoc, length-append}
use Rattle.std.proofs.lemmas.List.{replicate-append-replicate}
use Rattle.p3l_template.specs.Built.{all_ports}
use Rattle.p3l_template.specs.Pipe.{stage_slots}
use Rattle.p3l_template.specs.Shape.{empty_chan}
use Rattle.p3l_template.proofs.StageSlots.{stage_step, stage_end}
use Rattle.p3l_template.proofs.pipe.PipeTemplateTemplate.place.Goals as goal

pub loop-stage-preserved : goal.loop-stage-preserved
loop-stage-preserved c =
    let a = c.in_ok-output.ensures.added in
    let i = c.loop-stage.invariant in
    record {
      procs = ap (λ b. b.procs) a ∙ i.procs;
      chans =
          ap (λ b. b.chans) a ∙ ap (λ z. z ++ empty_chan c.args.cap ∷ []) i.chans
          ∙ append_assoc c.args.builder.now.chans _ _
          ∙ ap (λ z. c.args.builder.now.chans ++ z)
          (replicate-append-replicate c.loop-stage._stage 1 (empty_chan c.args.cap));
      ports =
          ap₂ (λ y z. y ++ all_ports (stage_slots (c.loop-stage._stage + 1) c.in_ok-output.output z c.args.at.now.output
          ((c.args.self.now.stages - 1) - (c.loop-stage._stage + 1))))
          c.in_ok-push.ensures.ok
          (ap (λ b. length b.chans) a ∙ length-append c.loop-stage.builder.chans (empty_chan c.args.cap ∷ []))
          ∙ append_assoc c.loop-stage.ports _ _
          ∙ ap (λ z. c.loop-stage.ports
          ++ (record { input = c.loop-stage.input; output = z } ∷ all_ports (stage_slots
          (c.loop-stage._stage + 1) z (length c.loop-stage.builder.chans + 1) c.args.at.now.output
          ((c.args.self.now.stages - 1) - (c.loop-stage._stage + 1))))) c.in_ok-output.ensures.number
          ∙ ap (λ z. c.loop-stage.ports ++ all_ports z)
          (sym (stage_step c.loop-stage._stage c.loop-stage.input
          (length c.loop-stage.builder.chans) c.args.at.now.output (c.args.self.now.stages - 1) c.loop-stage-test.true))
          ∙ i.ports;
    }

pub returns-clause-ports : goal.returns-clause-ports
returns-clause-ports c =
    c.in_ok-push-2.ensures.ok
    ∙ ap (λ z. c.loop-stage.ports ++ all_ports z)
    (sym (stage_end c.loop-stage._stage c.loop-stage.input
    (length c.loop-stage.builder.chans) c.args.at.now.output (c.args.self.now.stages - 1) c.loop-stage-test.false))
    ∙ c.loop-stage.invariant.ports
