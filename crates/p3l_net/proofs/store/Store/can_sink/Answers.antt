use Rattle.std.proofs.Common.{◌<◌, length, sym, ap, ◌∙◌, subst}
use Rattle.p3l_firing.specs.Lists.{has_first}
use Rattle.p3l_net.specs.Channel.{tokens_at}
use Rattle.p3l_net.proofs.Standing.{one_long}
use Rattle.p3l_net.proofs.step.Sink.{fits_sink, in_there, is_ready}
use Rattle.p3l_net.proofs.store.Store.can_sink.Goals as goal

pub input-input-requires : goal.input-input-requires
input-input-requires c = one_long _ _ (fits_sink c.requires.stands c.requires.kind).ins

pub has_token-requires : goal.has_token-requires
has_token-requires c = subst (λ k. k < length c.args.self.now.queues) (sym c.input-input.ensures) (in_there c.requires.stands c.requires.kind)

pub returns : goal.returns
returns c =
    c.has_token.ensures ∙ ap (λ k. has_first (tokens_at c.args.self.now.queues k)) c.input-input.ensures
    ∙ sym (is_ready c.requires.stands c.requires.kind)
