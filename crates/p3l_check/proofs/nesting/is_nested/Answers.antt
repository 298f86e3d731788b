use Rattle.std.proofs.Common.{◌+◌, sym, subst}
use Rattle.p3l_check.specs.Levels.{IsLevel}
use Rattle.p3l_check.proofs.Nested.{first_level, next_level}
use Rattle.p3l_check.proofs.nesting.is_nested.Goals as goal

pub levels-init : goal.levels-init
levels-init c =
    subst (λ l. IsLevel c.args.callables.now 0 l) (sym (c.in_ok-level.ensures.items_if_clones_equal (λ y h. h))) (first_level c.args.callables.now)

pub levels-preserved : goal.levels-preserved
levels-preserved c =
    subst (λ l. IsLevel c.args.callables.now (c.levels._depth + 1) l) (sym c.in_ok-level-2.ensures)
    (next_level c.args.callables.now c.levels._depth _ c.requires.calls (subst (λ l. IsLevel c.args.callables.now c.levels._depth l) (sym c.deref.ensures.value) c.levels.invariant))
