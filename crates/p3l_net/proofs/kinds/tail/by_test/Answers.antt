use Rattle.std.proofs.Common.{sym, ap, ◌∙◌}
use Rattle.std.proofs.lemmas.Bool.{cond-true, cond-false}
use Rattle.p3l_base.specs.declared.outcome.Outcome.TheVariants.{Trapped}
use Rattle.p3l_firing.specs.kinds.Tail.{by_test}
use Rattle.p3l_net.proofs.kinds.tail.by_test.Goals as goal

pub returns-in-Trapped : goal.returns-in-Trapped
unfolding by_test
returns-in-Trapped c = λ body. sym (ap (λ answer. by_test answer body (Trapped c.args.spent) c.args.more) c.in-Trapped.is)

pub returns-then-is_done : goal.returns-then-is_done
unfolding by_test
returns-then-is_done c = λ body.
    sym (ap (λ answer. by_test answer body (Trapped c.args.spent) c.args.more) c.in-Value.is ∙ cond-true _ _ _ (sym c.is_done.ensures ∙ c.if-is_done.true))

pub returns-then-more : goal.returns-then-more
unfolding by_test
returns-then-more c = λ body.
    sym (ap (λ answer. by_test answer body (Trapped c.args.spent) c.args.more) c.in-Value.is
    ∙ cond-false _ _ _ (sym c.is_done.ensures ∙ c.if-is_done.false) ∙ cond-true _ _ _ c.if-more.true)

pub returns-else-more : goal.returns-else-more
unfolding by_test
returns-else-more c = λ body.
    sym (ap (λ answer. by_test answer body (Trapped c.args.spent) c.args.more) c.in-Value.is
    ∙ cond-false _ _ _ (sym c.is_done.ensures ∙ c.if-is_done.false) ∙ cond-false _ _ _ c.if-more.false)
