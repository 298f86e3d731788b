use Rattle.p3l_scan.specs.Nested.{IsBuilt}
use Rattle.p3l_template.specs.Pipe.{pipe_shape}
use Rattle.p3l_scan.specs.Plan.{stage_node, step_node}
use Rattle.p3l_scan.specs.Template.{blocks, stage_shape}
use Rattle.p3l_scan.proofs.stages.StagesTemplateTemplate.place.Given as goal

-- with a stage at each slot that is left, what is built is the whole
abbrev pub invariant-loop-stage : goal.invariant-loop-stage
invariant-loop-stage l =
    IsBuilt (pipe_shape l.self.levels)
    (λ s. stage_shape (stage_node s) (step_node s) (blocks l.self.levels s)) l.cap l.at l.fn.builder l.builder l.stage
