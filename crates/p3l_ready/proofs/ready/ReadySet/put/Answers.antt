use Rattle.std.proofs.Common.{arith, ◌<◌, length, subst, sym}
use Rattle.p3l_ready.proofs.Counting.{block-few, count-few, counted-in, block-some, count-some, counted-out}
use Rattle.p3l_ready.proofs.ready.ReadySet.put.Goals as goal

pub overflow_add-index_mut : goal.overflow_add-index_mut
overflow_add-index_mut c =
    let few = block-few _ _ _ c.self.invariant c.args.p (subst (λ fs. c.args.p < length fs) (sym c.self.view_is) c.requires) _ c.args.flag c.index.ensures c.if-index-flag.true _ c.index_mut-then-flag.ensures.value in
    omega (arith, few)

pub overflow_add-self : goal.overflow_add-self
overflow_add-self c =
    let few = count-few _ _ _ c.self.invariant c.args.p (subst (λ fs. c.args.p < length fs) (sym c.self.view_is) c.requires) _ c.args.flag c.index.ensures c.if-index-flag.true _ c.index_mut-then-flag.ensures.value in
    omega (arith, few)

pub invariant_of-self : goal.invariant_of-self
invariant_of-self c =
    counted-in _ _ _ c.self.invariant c.args.p (subst (λ fs. c.args.p < length fs) (sym c.self.view_is) c.requires) _ c.args.flag c.index.ensures c.if-index-flag.true _ c.index_mut-then-flag.ensures.value c.if-flag.true

pub overflow_sub-index_mut : goal.overflow_sub-index_mut
overflow_sub-index_mut c =
    block-some _ _ _ c.self.invariant c.args.p (subst (λ fs. c.args.p < length fs) (sym c.self.view_is) c.requires) _ c.args.flag c.index.ensures c.if-index-flag.true _ c.index_mut-else-flag.ensures.value c.if-flag.false

pub overflow_sub-self : goal.overflow_sub-self
overflow_sub-self c =
    count-some _ _ _ c.self.invariant c.args.p (subst (λ fs. c.args.p < length fs) (sym c.self.view_is) c.requires) _ c.args.flag c.index.ensures c.if-index-flag.true _ c.index_mut-else-flag.ensures.value c.if-flag.false

pub invariant_of-self-else-flag : goal.invariant_of-self-else-flag
invariant_of-self-else-flag c =
    counted-out _ _ _ c.self.invariant c.args.p (subst (λ fs. c.args.p < length fs) (sym c.self.view_is) c.requires) _ c.args.flag c.index.ensures c.if-index-flag.true _ c.index_mut-else-flag.ensures.value c.if-flag.false
