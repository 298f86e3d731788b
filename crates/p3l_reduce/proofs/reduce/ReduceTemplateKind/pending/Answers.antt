use Rattle.std.proofs.Common.{◌≡◌, ◌^◌, Some, subst, sym, ap, ◌∙◌}
use Rattle.p3l_base.specs.Memory.{IfGiven}
use Rattle.p3l_firing.specs.Segments.{level_of}
use Rattle.p3l_template.specs.Finding.{if_orderly}
use Rattle.p3l_reduce.specs.ReduceKind.{seen_of, found_by}
use Rattle.p3l_firing.specs.Shot.{state_of}
use Rattle.p3l_reduce.proofs.ReduceSteps.{finds_one, finds_more}
use Rattle.p3l_reduce.proofs.reduce.ReduceTemplateKind.pending.Goals as goal

pub returns-then-level-eq0 : goal.returns-then-level-eq0
returns-then-level-eq0 c =
    ap Some c.new.ensures
    ∙ finds_one c.args._tree.now c.args.place.now (state_of c.args.shot.now) c.args._inner.now (level_of c.args.self.now.segments)
    (sym c.level-level.ensures.value ∙ c.if-level-eq0.true)

pub returns : goal.returns
returns c =
    let s = state_of c.args.shot.now in
    let base = c.args.place.now in
    subst (λ z. IfGiven c.in_joins.result (λ pending. pending ≡ z))
    (ap (λ k. if_orderly (found_by (2 ^ k) k (seen_of base (2 ^ k) s))) c.level-level.ensures.value
    ∙ finds_more c.args._tree.now base s c.args._inner.now (level_of c.args.self.now.segments)
    (λ e. c.if-level-eq0.false (c.level-level.ensures.value ∙ e)))
    c.in_joins.ensures
