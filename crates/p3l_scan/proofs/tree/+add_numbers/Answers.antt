use Rattle.std.proofs.Common.{◌≡◌, ap, arith, sym, ◌∙◌, ◌+◌, ◌*◌, ◌∷◌, ◌++◌, ◌-◌, []}
use Rattle.p3l_scan.specs.Plan.{numbers_of, stage_node}
use Rattle.p3l_scan.proofs.Building.{numbers-last, numbers-more, one_more}
use Rattle.p3l_scan.proofs.tree.+add_numbers.Goals as goal

pub returns-in_ok-add_numbers : goal.returns-in_ok-add_numbers
returns-in_ok-add_numbers t c =
    let number : stage_node c.args.stage ≡ 2 * c.args.stage + 1 = omega arith in
    one_more _ _ _ _ _ _ c.in_ok-push.ensures.ok c.in_ok-add_numbers.ensures
    (numbers-more c.args.stage c.args.more (omega (arith, c.if-more-gt0.true))
    ∙ ap (λ n. n ∷ numbers_of (c.args.stage + 1) (c.args.more - 1)) number)

pub returns-else-more-gt0 : goal.returns-else-more-gt0
returns-else-more-gt0 t c =
    let number : stage_node c.args.stage ≡ 2 * c.args.stage + 1 = omega arith in
    c.in_ok-push.ensures.ok
    ∙ ap (λ ns. c.args.numbers.now ++ ns)
    (sym (numbers-last c.args.stage c.args.more (omega (arith, c.if-more-gt0.false)) ∙ ap (λ n. n ∷ []) number))
