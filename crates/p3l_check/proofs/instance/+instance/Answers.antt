use Rattle.std.proofs.Common.{◌≡◌, ◌≢◌, ◌+◌, ◌-◌, ◌∷◌, ◌++◌, ℕ, length, refl, ap, sym, ◌∙◌, arith, length-append}
use Rattle.std.proofs.lemmas.Result.{err_from_is_err_and}
use Rattle.p3l_check.specs.declared.callables.Callable.{Callable}
use Rattle.p3l_check.specs.Wiring.{module_at}
use Rattle.p3l_check.specs.Unfolding.{instance}
use Rattle.p3l_check.proofs.Instances.{instance-none, more_nodes, more_parts, many_at, short_at, whole_instance}
use Rattle.p3l_check.proofs.instance.+instance.Goals as goal

pub returns-then-levels-eq0-clause-nodes : goal.returns-then-levels-eq0-clause-nodes
returns-then-levels-eq0-clause-nodes t c =
    rw c.if-levels-eq0.true (c.new.ensures.items ∙ sym (instance-none c.args.callables.now c.args.k c.args.at))

pub returns-then-at-eq-MOST_NODES-clause-refused : goal.returns-then-at-eq-MOST_NODES-clause-refused
returns-then-at-eq-MOST_NODES-clause-refused t c =
    many_at c.args.callables.now c.args.levels c.args.k c.args.at c.if-levels-eq0.false c.if-at-eq-MOST_NODES.true

pub returns-in_err-inner-clause-refused : goal.returns-in_err-inner-clause-refused
returns-in_err-inner-clause-refused t c =
    let p = err_from_is_err_and c.from_residual-in_err-inner.result c.from_residual-in_err-inner.ensures.1 in
    let calls : c.as_slice-call-items.result.now ≡ (module_at c.args.callables.now c.args.k).calls = c.as_slice-call-items.ensures ∙ ap (λ (m : Callable). m.calls) c.module_of-module.ensures in
    let len : c.len.result ≡ length c.loop-call.below.items = omega (arith, c.len.ensures) in
    rw (p.1, p.2) (short_at c.args.callables.now c.args.levels c.args.k c.args.at c.loop-call.call-index _ _ calls c.if-levels-eq0.false c.loop-call-test.true
    (ap (λ n. (c.args.at + 1) + n) (len ∙ ap length c.loop-call.invariant.nodes)) _ c.in_err-inner.ensures.refused)

pub loop-call-preserved : goal.loop-call-preserved
loop-call-preserved t c =
    let below = instance c.args.callables.now (c.args.levels - 1) in
    let first_is : (c.args.at + 1) + c.len.result ≡ (c.args.at + 1) + length c.loop-call.below.items = omega (arith, c.len.ensures) in
    record {
      nodes = c.in_ok-extend.ensures ∙ more_nodes below c.as_slice-call-items.result.now c.loop-call.call-index (c.args.at + 1) c.loop-call-test.true _ _ _ c.loop-call.invariant.nodes first_is c.in_ok-inner.ensures.nodes;
      parts = c.in_ok-push.ensures.ok ∙ more_parts below c.as_slice-call-items.result.now c.loop-call.call-index (c.args.at + 1) c.loop-call-test.true _ _ _ c.loop-call.invariant.nodes first_is c.loop-call.invariant.parts;
      few = rw c.in_ok-extend.ensures (rw length-append (omega (arith, c.in_ok-inner.ensures.few, c.len.ensures)));
    }

pub returns-clause-nodes : goal.returns-clause-nodes
returns-clause-nodes t c =
    c.in_ok-with_parts.ensures ∙ whole_instance c.args.callables.now c.args.levels c.args.k c.args.at c.loop-call.call-index _ _ c.module_of-module.ensures c.as_slice-call-items.ensures
    c.if-levels-eq0.false c.loop-call-test.false _ _ c.loop-call.invariant.nodes c.loop-call.invariant.parts
