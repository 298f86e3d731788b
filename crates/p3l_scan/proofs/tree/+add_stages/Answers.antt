use Rattle.std.proofs.Common.{◌≡◌, ap, ap₂, arith, suc, sym, ◌∙◌, ◌+◌, ◌*◌, ◌^◌, ◌∷◌, ◌-◌, []}
use Rattle.p3l_scan.specs.Plan.{stage_of, stages_from}
use Rattle.p3l_scan.proofs.Building.{stages-last, stages-more, two_last, two_more}
use Rattle.p3l_scan.specs.laws.Powers.{doubled}
use Rattle.p3l_scan.proofs.tree.+add_stages.Goals as goal

pub add_stages-requires : goal.add_stages-requires
add_stages-requires t c =
    let more : suc (c.args.more - 1) ≡ c.args.more = omega (arith, c.if-more-gt0.true) in
    let same : 2 ^ (c.args.more - 1) * (2 * c.args.words) ≡ 2 ^ c.args.more * c.args.words =
    doubled (c.args.more - 1) c.args.words ∙ ap (λ n. 2 ^ n * c.args.words) more in (
      omega (arith, c.decreases, c.if-more-gt0.true),
      (omega (arith, c.requires.there, c.if-more-gt0.true), omega (arith, c.requires.small, same)),
    )

pub returns-in_ok-add_stages : goal.returns-in_ok-add_stages
returns-in_ok-add_stages t c =
    two_more _ _ _ _ _ _ _ _ c.in_ok-push.ensures.ok c.in_ok-push-2.ensures.ok c.in_ok-add_stages.ensures
    (stages-more c.args.stage c.args.more c.args.words (omega (arith, c.if-more-gt0.true))
    ∙ ap₂ (λ x y. x ∷ (y ∷ stages_from (c.args.stage + 1) (c.args.more - 1) (2 * c.args.words)))
    (ap (λ n. stage_of c.args.stage n c.args.words) (sym c.power_of_two.ensures) ∙ sym c.in_ok-map_node.ensures)
    (sym c.step_node.ensures))

pub returns-else-more-gt0 : goal.returns-else-more-gt0
returns-else-more-gt0 t c =
    two_last _ _ _ _ _ _ c.in_ok-push.ensures.ok c.in_ok-push-2.ensures.ok
    (stages-last c.args.stage c.args.more c.args.words (omega (arith, c.if-more-gt0.false))
    ∙ ap₂ (λ x y. x ∷ (y ∷ []))
    (ap (λ n. stage_of c.args.stage n c.args.words) (sym c.power_of_two.ensures) ∙ sym c.in_ok-map_node.ensures)
    (sym c.step_node.ensures))
