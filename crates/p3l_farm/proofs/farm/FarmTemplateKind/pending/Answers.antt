use Rattle.std.proofs.Common.{◌≡◌, [], subst, ap, ◌∙◌}
use Rattle.p3l_base.specs.Memory.{IfGiven}
use Rattle.p3l_template.specs.Shape.{Base}
use Rattle.p3l_farm.specs.FarmKind.{farm_finds, found_by, seen_of}
use Rattle.p3l_template.specs.Finding.{if_orderly}
use Rattle.p3l_firing.specs.Shot.{state_of}
use Rattle.p3l_farm.proofs.farm.FarmTemplateKind.pending.Goals as goal

pub returns : goal.returns
unfolding farm_finds
returns c =
    let s = state_of c.args.shot.now in
    let n = c.args.self.now.workers in
    let lines = c.as_slice.ensures ∙ c.in_ok-lines.ensures in
    let e : found_by (record { next = c.number-next.result; least = c.number-least.result; lines = c.as_slice.result.now; input = []; output = [] })
    ≡ farm_finds n c.args._tree.now c.args.place.now s c.args.inner.now =
    (λ i. found_by (record { next = c.number-next.ensures i; least = c.number-least.ensures i; lines = lines i; input = []; output = [] }))
    ∙ ap (λ (x : Base). found_by (seen_of n x s c.args.inner.now)) c.place.view_is in
    subst (λ z. IfGiven c.by_lines.result (λ pending. pending ≡ if_orderly z)) e c.by_lines.ensures
