-- Each step of the walk over the stages, by the lemmas of NestedPlacing.
use Rattle.std.proofs.Common.{◌≡◌, ℕ, ◌+◌, ◌-◌, ◌<◌, ◌≤◌, List, length, get_or, ap, ap₂, sym, subst, ◌∙◌, arith}
use Rattle.std.proofs.lemmas.List.{length-map}
use Rattle.p3l_template.specs.declared.template.Ports.{Ports}
use Rattle.p3l_template.specs.Built.{all_ports}
use Rattle.p3l_template.specs.Pipe.{pipe_shape, stage_slots}
use Rattle.p3l_template.specs.Shape.{Base, HasRoomFor, Blueprint, added, base_of, ports_of}
use Rattle.p3l_scan.specs.laws.NestedPlacing.{continued, ended, inner_room}
use Rattle.p3l_template.specs.laws.PipeLaw.{pipe_lawful}
use Rattle.p3l_template.specs.laws.PipeTyping.{stages_length}
use Rattle.p3l_scan.specs.Plan.{stage_node, step_node}
use Rattle.p3l_scan.specs.Template.{blocks, stage_shape}
use Rattle.p3l_scan.specs.declared.stage.StageTemplate.{StageTemplate}
use Rattle.p3l_scan.specs.laws.ScanLaw.{stages_inner}
use Rattle.p3l_scan.proofs.stages.StagesTemplateTemplate.place.Goals as goal

-- the ports of the pipe
the_ports : (d : ℕ) (base : Base) (items : List Ports) → items ≡ all_ports ((pipe_shape (d + 1 - 1)).slots base) →
    items ≡ all_ports ((pipe_shape d).slots base)
the_ports d base items e =
    let same : d + 1 - 1 ≡ d = omega arith in subst (λ k. items ≡ all_ports ((pipe_shape k).slots base)) same e

-- a stage that there are ports for is there
there : (d i : ℕ) (base : Base) (items : List Ports) → items ≡ all_ports (stage_slots 0 base.input base.chan base.output d) →
    i < length items → i ≤ d
there d i base items e l =
    omega (
      arith,
      l,
      ap length e,
      length-map (stage_slots 0 base.input base.chan base.output d) ports_of,
      stages_length 0 base.input base.chan base.output d,
    )

-- the shape of the template that stands there
stage_is : (d i : ℕ) (t : StageTemplate) → t.stage ≡ stage_node i → t.step ≡ step_node i → t.blocks ≡ blocks d i →
    stage_shape (stage_node i) (step_node i) (blocks d i) ≡ stage_shape t.stage t.step t.blocks
stage_is d i t a b e =
    ap₂ (λ x y. stage_shape x y (blocks d i)) (sym a) (sym b) ∙ ap (stage_shape t.stage t.step) (sym e)

pub stage_template-template-requires-clause-there : goal.stage_template-template-requires-clause-there
stage_template-template-requires-clause-there c =
    there c.args.self.now.levels c.loop-stage.stage (base_of c.args.at.now c.args.builder.now) c.as_slice-inner-items.result.now
    (the_ports c.args.self.now.levels (base_of c.args.at.now c.args.builder.now) c.as_slice-inner-items.result.now
    (c.as_slice-inner-items.ensures ∙ c.in_ok-ports.ensures.ports)) c.loop-stage-test.true

pub place-requires-in-loop-stage-clause-room : goal.place-requires-in-loop-stage-clause-room
place-requires-in-loop-stage-clause-room c =
    let d = c.args.self.now.levels in
    let i = c.loop-stage.stage in
    let t = c.stage_template-template.ensures in
    let none : Ports = record { input = 0; output = 0 } in
    let here : Base = base_of (get_or c.as_slice-inner-items.result.now i none) c.loop-stage.builder in
    subst (λ (x : Blueprint). HasRoomFor c.loop-stage.builder (length (x.procs here)) (x.chans here))
    (stage_is d i c.stage_template-template.result t.stage t.step t.blocks)
    (inner_room (pipe_shape d) (λ v. v) (λ s. stage_shape (stage_node s) (step_node s) (blocks d s)) (pipe_lawful d)
    (stages_inner d) c.args.cap c.args.at.now c.args.builder.now c.as_slice-inner-items.result.now
    (the_ports c.args.self.now.levels (base_of c.args.at.now c.args.builder.now) c.as_slice-inner-items.result.now
    (c.as_slice-inner-items.ensures ∙ c.in_ok-ports.ensures.ports)) c.loop-stage.builder i c.loop-stage.invariant
    c.loop-stage-test.true none c.requires.room)

pub loop-stage-preserved : goal.loop-stage-preserved
loop-stage-preserved c =
    let d = c.args.self.now.levels in
    let i = c.loop-stage.stage in
    let t = c.stage_template-template.ensures in
    let none : Ports = record { input = 0; output = 0 } in
    let here : Base = base_of (get_or c.as_slice-inner-items.result.now i none) c.loop-stage.builder in
    continued (pipe_shape d) (λ v. v) (λ s. stage_shape (stage_node s) (step_node s) (blocks d s)) (pipe_lawful d)
    (stages_inner d) c.args.cap c.args.at.now c.args.builder.now c.as_slice-inner-items.result.now
    (the_ports c.args.self.now.levels (base_of c.args.at.now c.args.builder.now) c.as_slice-inner-items.result.now
    (c.as_slice-inner-items.ensures ∙ c.in_ok-ports.ensures.ports)) c.loop-stage.builder i c.loop-stage.invariant
    c.loop-stage-test.true none c.place-in-loop-stage.new.builder
    (subst (λ (x : Blueprint). c.place-in-loop-stage.new.builder
    ≡ added c.loop-stage.builder (x.procs here) (x.laid c.args.cap here))
    (sym (stage_is d i c.stage_template-template.result t.stage t.step t.blocks)) c.in_ok-_closed.ensures.placed)

pub returns-clause-placed : goal.returns-clause-placed
returns-clause-placed c =
    let d = c.args.self.now.levels in
    ended (pipe_shape d) (λ v. v) (λ s. stage_shape (stage_node s) (step_node s) (blocks d s)) (pipe_lawful d)
    (stages_inner d) c.args.cap c.args.at.now c.args.builder.now c.as_slice-inner-items.result.now
    (the_ports c.args.self.now.levels (base_of c.args.at.now c.args.builder.now) c.as_slice-inner-items.result.now
    (c.as_slice-inner-items.ensures ∙ c.in_ok-ports.ensures.ports)) c.loop-stage.builder c.loop-stage.stage
    c.loop-stage.invariant c.loop-stage-test.false
