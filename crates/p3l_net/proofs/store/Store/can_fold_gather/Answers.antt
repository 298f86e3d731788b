use Rattle.std.proofs.Common.{◌<◌, length, sym, ap, ◌∙◌, subst}
use Rattle.std.proofs.lemmas.Bool.{cond-true, cond-false}
use Rattle.p3l_firing.specs.Lists.{has_first}
use Rattle.p3l_net.specs.Channel.{tokens_at}
use Rattle.p3l_net.specs.Steps.{room_at}
use Rattle.p3l_net.proofs.Standing.{one_long, own_there}
use Rattle.p3l_net.proofs.step.FoldGather.{fits_fold_gather, out_there, held_few, line_there, is_ready}
use Rattle.p3l_net.proofs.store.Store.can_fold_gather.Goals as goal

pub has_all_outcomes-requires : goal.has_all_outcomes-requires
has_all_outcomes-requires c = own_there c.requires.stands

pub output-output-requires : goal.output-output-requires
output-output-requires c = one_long _ _ (fits_fold_gather c.requires.stands c.requires.kind).outs

pub has_room-requires : goal.has_room-requires
has_room-requires c = subst (λ k. k < length c.args.self.now.queues) (sym c.output-output.ensures) (out_there c.requires.stands c.requires.kind)

pub outcome_line-line-requires-clause-more : goal.outcome_line-line-requires-clause-more
outcome_line-line-requires-clause-more c = held_few c.requires.stands c.requires.kind (sym c.has_all_outcomes.ensures ∙ c.if-has_all_outcomes.false)

pub has_token-requires : goal.has_token-requires
has_token-requires c =
    subst (λ k. k < length c.args.self.now.queues) (sym c.outcome_line-line.ensures)
    (line_there c.requires.stands c.requires.kind (sym c.has_all_outcomes.ensures ∙ c.if-has_all_outcomes.false))

pub returns-then-has_all_outcomes : goal.returns-then-has_all_outcomes
returns-then-has_all_outcomes c =
    c.has_room.ensures ∙ ap (room_at c.args.self.now) c.output-output.ensures
    ∙ sym (is_ready c.requires.stands c.requires.kind ∙ cond-true _ _ _ (sym c.has_all_outcomes.ensures ∙ c.if-has_all_outcomes.true))

pub returns-else-has_all_outcomes : goal.returns-else-has_all_outcomes
returns-else-has_all_outcomes c =
    c.has_token.ensures ∙ ap (λ k. has_first (tokens_at c.args.self.now.queues k)) c.outcome_line-line.ensures
    ∙ sym (is_ready c.requires.stands c.requires.kind ∙ cond-false _ _ _ (sym c.has_all_outcomes.ensures ∙ c.if-has_all_outcomes.false))
