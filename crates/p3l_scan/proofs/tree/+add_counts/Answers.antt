use Rattle.std.proofs.Common.{ap, arith, sym, ◌∙◌, ◌∷◌, ◌++◌, ◌-◌, []}
use Rattle.p3l_scan.specs.Plan.{counts_of}
use Rattle.p3l_scan.proofs.Building.{counts-last, counts-more, one_more}
use Rattle.p3l_scan.proofs.tree.+add_counts.Goals as goal

pub returns-in_ok-add_counts : goal.returns-in_ok-add_counts
returns-in_ok-add_counts t c =
    one_more _ _ _ _ _ _ c.in_ok-push.ensures.ok c.in_ok-add_counts.ensures
    (counts-more c.args.more (omega (arith, c.if-more-gt0.true))
    ∙ ap (λ n. n ∷ counts_of (c.args.more - 1)) (sym c.power_of_two.ensures))

pub returns-else-more-gt0 : goal.returns-else-more-gt0
returns-else-more-gt0 t c =
    c.in_ok-push.ensures.ok
    ∙ ap (λ ns. c.args.counts.now ++ ns)
    (sym (counts-last c.args.more (omega (arith, c.if-more-gt0.false)) ∙ ap (λ n. n ∷ []) (sym c.power_of_two.ensures)))
