use Rattle.std.proofs.Common.{◌≡◌, subst, sym, ap, ◌∙◌, arith}
use Rattle.p3l_base.specs.Memory.{IfGiven}
use Rattle.p3l_template.specs.Finding.{if_orderly}
use Rattle.p3l_reduce.specs.ReduceKind.{seen_of, found_by}
use Rattle.p3l_firing.specs.Shot.{state_of}
use Rattle.p3l_reduce.proofs.ReduceSteps.{first_place, none_sent, found_whole}
use Rattle.p3l_reduce.proofs.found.in_joins.Goals as goal

pub to_come-requires-clause-count : goal.to_come-requires-clause-count
to_come-requires-clause-count c = omega (arith, c.segment_count-count.ensures.few)

pub to_come-requires-clause-places : goal.to_come-requires-clause-places
to_come-requires-clause-places c = first_place c.segment_count-count.result c.args.level c.segment_count-count.ensures.value

pub returns-then-not-is_at_segment : goal.returns-then-not-is_at_segment
returns-then-not-is_at_segment c =
    let s = state_of c.args.shot.now in
    let base = c.args.place.now in
    none_sent c.segment_count-count.result base s c.args.level (sym c.is_at_segment.ensures ∙ c.if-not-is_at_segment.true)
    ∙ ap (λ m. if_orderly (found_by m c.args.level (seen_of base m s))) c.segment_count-count.ensures.value

pub returns : goal.returns
returns c =
    let s = state_of c.args.shot.now in
    let base = c.args.place.now in
    subst (λ z. IfGiven c.to_come.result (λ pending. pending ≡ z))
    (found_whole c.segment_count-count.result base s c.args.level (sym c.is_at_segment.ensures ∙ c.if-not-is_at_segment.false)
    ∙ ap (λ m. if_orderly (found_by m c.args.level (seen_of base m s))) c.segment_count-count.ensures.value)
    c.to_come.ensures
