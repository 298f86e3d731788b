use Rattle.std.proofs.Common.{◌≡◌, ◌-◌, ◌==◌}
use Rattle.std.specs.Prelude.{find}
use Rattle.p3l_model.specs.Service.{service}
use Rattle.p3l_advise.specs.Bottleneck.{stages_from}
use Rattle.p3l_advise.proofs.Stages.{find_after}
use Rattle.p3l_advise.proofs.bottleneck.+stage_with.Given as goal

abbrev pub decreases-stage_with : goal.decreases-stage_with
decreases-stage_with l = l.levels

-- it is the first of the stages that are left
abbrev pub invariant-loop-part : goal.invariant-loop-part
invariant-loop-part l =
    find_after (λ k. service l.tree l.costs l.counts.list k == l.time) (stages_from l.tree (l.levels - 1)) l.part-items l.part-index
    ≡ find (λ k. service l.tree l.costs l.counts.list k == l.time) (stages_from l.tree l.levels l.number)
