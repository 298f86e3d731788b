use Rattle.std.proofs.Common.{sym, ap, ap₂, ◌∙◌}
use Rattle.p3l_base.specs.declared.outcome.Outcome.TheVariants.{Trapped}
use Rattle.p3l_firing.specs.Nodes.{outcome_of}
use Rattle.p3l_firing.specs.kinds.Tail.{Turn.Held, by_test, turn_of}
use Rattle.p3l_net.proofs.kinds.tail.turn_of.Goals as goal

pub returns-in-Trapped : goal.returns-in-Trapped
unfolding turn_of
returns-in-Trapped g c =
    ap Held c.in-Trapped.is
    ∙ sym (ap (λ body. turn_of (outcome_of (g.U.Units.tree c.args.units.now) (g.U.Units.leaf c.args.units.now) c.args.condition) (Trapped c.args.spent) c.args.more body) c.in-Trapped.is)

pub returns-in_ok-answer-in-Value : goal.returns-in_ok-answer-in-Value
unfolding turn_of
returns-in_ok-answer-in-Value g c =
    c.by_test.ensures c.args.body.now
    ∙ ap₂ (λ answer body. by_test answer body (Trapped c.args.spent) c.args.more) c.in_ok-answer-in-Value.ensures c.in-Value.is
    ∙ sym (ap (λ body. turn_of (outcome_of (g.U.Units.tree c.args.units.now) (g.U.Units.leaf c.args.units.now) c.args.condition) (Trapped c.args.spent) c.args.more body) c.in-Value.is)
