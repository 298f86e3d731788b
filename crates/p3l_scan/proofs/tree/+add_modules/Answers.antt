use Rattle.std.proofs.Common.{arith}
use Rattle.p3l_scan.proofs.Building.{infos-last, infos-more, two_last, two_more}
use Rattle.p3l_scan.proofs.tree.+add_modules.Goals as goal

pub returns-in_ok-add_modules : goal.returns-in_ok-add_modules
returns-in_ok-add_modules t c =
    two_more _ _ _ _ _ _ _ _ c.in_ok-add_module.ensures c.in_ok-add_module-2.ensures c.in_ok-add_modules.ensures
    (infos-more c.args.more (omega (arith, c.if-more-gt0.true)))

pub returns-else-more-gt0 : goal.returns-else-more-gt0
returns-else-more-gt0 t c =
    two_last _ _ _ _ _ _ c.in_ok-add_module.ensures c.in_ok-add_module-2.ensures
    (infos-last c.args.more (omega (arith, c.if-more-gt0.false)))
