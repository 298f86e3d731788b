use Rattle.std.proofs.Common.{◌<◌, ◌&&◌, [], length, sym, ap, ap₂, ◌∙◌, subst}
use Rattle.std.specs.Option.{is_some}
use Rattle.std.specs.List.{AllByRecursion}
use Rattle.p3l_firing.specs.Lists.{has_first}
use Rattle.p3l_firing.specs.kinds.Emit.{emptiest}
use Rattle.p3l_net.specs.Channel.{tokens_at}
use Rattle.p3l_net.specs.Machine.{state_of}
use Rattle.p3l_net.proofs.Standing.{one_long, all_writes_there}
use Rattle.p3l_net.proofs.step.Emit.{fits_emit, in_there, is_ready}
use Rattle.p3l_net.proofs.store.Store.can_emit.Goals as goal

pub input-input-requires : goal.input-input-requires
input-input-requires c = one_long _ _ (fits_emit c.requires.stands c.requires.kind).ins

pub has_token-comes-requires : goal.has_token-comes-requires
has_token-comes-requires c = subst (λ k. k < length c.args.self.now.queues) (sym c.input-input.ensures) (in_there c.requires.stands c.requires.kind)

pub emptiest-chosen-requires-clause-sound : goal.emptiest-chosen-requires-clause-sound
emptiest-chosen-requires-clause-sound c = c.requires.stands.sound

pub emptiest-chosen-requires-clause-channels : goal.emptiest-chosen-requires-clause-channels
emptiest-chosen-requires-clause-channels c = subst (AllByRecursion (λ k. k < length c.args.self.now.queues)) (sym c.as_slice.ensures) (all_writes_there c.requires.stands)

pub returns : goal.returns
returns c =
    ap₂ (λ a b. a && b)
    (c.has_token-comes.ensures ∙ ap (λ k. has_first (tokens_at c.args.self.now.queues k)) c.input-input.ensures)
    (c.is_some.ensures ∙ ap is_some (c.emptiest-chosen.ensures ∙ ap (emptiest c.args.self.now.net (state_of c.args.self.now [])) c.as_slice.ensures))
    ∙ sym (is_ready c.requires.stands c.requires.kind)
