use Rattle.std.proofs.Common.{nat_eq, sym, ap, ◌∙◌}
use Rattle.p3l_firing.proofs.Rows.{length_when_first}
use Rattle.p3l_net.specs.Channel.{tokens_at}
use Rattle.p3l_net.proofs.step.Collect.{due_front, due_empty}
use Rattle.p3l_net.proofs.store.Store.is_due.Goals as goal

pub front_newest_tag-requires : goal.front_newest_tag-requires
front_newest_tag-requires c = record { there = c.requires; token = length_when_first _ (sym c.has_token.ensures ∙ c.if-has_token.true) }

pub returns-then-has_token : goal.returns-then-has_token
returns-then-has_token c =
    ap (λ n. nat_eq n c.args.number) c.front_newest_tag.ensures
    ∙ sym (due_front c.args.number (tokens_at c.args.self.now.queues c.args.channel) (sym c.has_token.ensures ∙ c.if-has_token.true))

pub returns-else-has_token : goal.returns-else-has_token
returns-else-has_token c = due_empty c.args.number (tokens_at c.args.self.now.queues c.args.channel) (sym c.has_token.ensures ∙ c.if-has_token.false)
