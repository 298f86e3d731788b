use Rattle.std.proofs.Common.{◌<◌, length, sym, ap, ◌∙◌, subst}
use Rattle.p3l_firing.specs.Lists.{has_first}
use Rattle.p3l_net.specs.Channel.{tokens_at}
use Rattle.p3l_net.specs.Steps.{room_at}
use Rattle.p3l_net.proofs.Standing.{one_long}
use Rattle.p3l_net.proofs.step.Split.{fits_split, in_there, line_there, segment_there, is_ready_held, is_ready_free}
use Rattle.p3l_net.proofs.store.Store.can_split.Goals as goal

pub segment_line-line-requires-clause-number : goal.segment_line-line-requires-clause-number
segment_line-line-requires-clause-number c = segment_there c.requires.stands c.requires.kind (sym c.is_holding.ensures ∙ c.if-is_holding.true)

pub has_room-requires : goal.has_room-requires
has_room-requires c =
    subst (λ k. k < length c.args.self.now.queues) (sym c.segment_line-line.ensures) (line_there c.requires.stands c.requires.kind (sym c.is_holding.ensures ∙ c.if-is_holding.true))

pub input-input-requires : goal.input-input-requires
input-input-requires c = one_long _ _ (fits_split c.requires.stands c.requires.kind).ins

pub has_token-requires : goal.has_token-requires
has_token-requires c = subst (λ k. k < length c.args.self.now.queues) (sym c.input-input.ensures) (in_there c.requires.stands c.requires.kind)

pub returns-then-is_holding : goal.returns-then-is_holding
returns-then-is_holding c =
    c.has_room.ensures ∙ ap (room_at c.args.self.now) c.segment_line-line.ensures
    ∙ sym (is_ready_held c.requires.stands c.requires.kind (sym c.is_holding.ensures ∙ c.if-is_holding.true))

pub returns-else-is_holding : goal.returns-else-is_holding
returns-else-is_holding c =
    c.has_token.ensures ∙ ap (λ k. has_first (tokens_at c.args.self.now.queues k)) c.input-input.ensures
    ∙ sym (is_ready_free c.requires.stands c.requires.kind (sym c.is_holding.ensures ∙ c.if-is_holding.false))
