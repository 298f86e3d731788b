use Rattle.std.proofs.Common.{◌<◌, length, sym, ap, ◌∙◌, subst}
use Rattle.std.proofs.lemmas.Bool.{cond-true, cond-false}
use Rattle.p3l_firing.specs.Lists.{has_first}
use Rattle.p3l_net.specs.Channel.{tokens_at}
use Rattle.p3l_net.specs.Steps.{room_at}
use Rattle.p3l_net.proofs.Standing.{one_long}
use Rattle.p3l_net.proofs.step.Scatter.{fits_scatter, in_there, line_there, some_outs, is_ready}
use Rattle.p3l_net.proofs.store.Store.can_scatter.Goals as goal

pub element_line-line-requires-clause-some : goal.element_line-line-requires-clause-some
element_line-line-requires-clause-some c = some_outs c.requires.stands c.requires.kind

pub has_room-requires : goal.has_room-requires
has_room-requires c = subst (λ k. k < length c.args.self.now.queues) (sym c.element_line-line.ensures) (line_there c.requires.stands c.requires.kind)

pub input-input-requires : goal.input-input-requires
input-input-requires c = one_long _ _ (fits_scatter c.requires.stands c.requires.kind).ins

pub has_token-requires : goal.has_token-requires
has_token-requires c = subst (λ k. k < length c.args.self.now.queues) (sym c.input-input.ensures) (in_there c.requires.stands c.requires.kind)

pub returns-then-is_holding : goal.returns-then-is_holding
returns-then-is_holding c =
    c.has_room.ensures ∙ ap (room_at c.args.self.now) c.element_line-line.ensures
    ∙ sym (is_ready c.requires.stands c.requires.kind ∙ cond-true _ _ _ (sym c.is_holding.ensures ∙ c.if-is_holding.true))

pub returns-else-is_holding : goal.returns-else-is_holding
returns-else-is_holding c =
    c.has_token.ensures ∙ ap (λ k. has_first (tokens_at c.args.self.now.queues k)) c.input-input.ensures
    ∙ sym (is_ready c.requires.stands c.requires.kind ∙ cond-false _ _ _ (sym c.is_holding.ensures ∙ c.if-is_holding.false))
