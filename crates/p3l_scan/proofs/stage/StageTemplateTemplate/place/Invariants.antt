use Rattle.p3l_map.specs.MapShape.{map_shape}
use Rattle.p3l_scan.specs.Nested.{IsBuilt}
use Rattle.p3l_template.specs.Run.{run_shape}
use Rattle.p3l_scan.proofs.stage.StageTemplateTemplate.place.Given as goal

-- with a process at each slot that is left, what is built is the whole
abbrev pub invariant-loop-block : goal.invariant-loop-block
invariant-loop-block l =
    IsBuilt (map_shape l.self.stage l.self.blocks) (λ v. run_shape l.self.step) l.cap l.at l.fn.builder l.builder l._block
