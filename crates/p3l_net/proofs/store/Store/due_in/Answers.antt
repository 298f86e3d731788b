use Rattle.std.proofs.Common.{◌<◌, [], length, sym, ◌∙◌}
use Rattle.p3l_firing.proofs.Places.{all-nth}
use Rattle.p3l_net.specs.Machine.{state_of}
use Rattle.p3l_net.proofs.step.Collect.{due_here, due_later, due_end, by_tokens}
use Rattle.p3l_net.proofs.store.Store.due_in.Goals as goal

pub is_due-requires : goal.is_due-requires
is_due-requires c = all-nth (λ k. k < length c.args.self.now.queues) c.args.channels.now c.requires c.loop-channel.channel-index c.loop-channel-test.true

pub returns-then-is_due : goal.returns-then-is_due
returns-then-is_due c =
    sym (due_here (state_of c.args.self.now []) c.args.number c.args.channels.now c.loop-channel.channel-index c.loop-channel-test.true (by_tokens c.args.self.now c.args.number _ ∙ (sym c.is_due.ensures ∙ c.if-is_due.true)))
    ∙ c.loop-channel.invariant

pub loop-channel-preserved : goal.loop-channel-preserved
loop-channel-preserved c =
    sym (due_later (state_of c.args.self.now []) c.args.number c.args.channels.now c.loop-channel.channel-index c.loop-channel-test.true (by_tokens c.args.self.now c.args.number _ ∙ (sym c.is_due.ensures ∙ c.if-is_due.false)))
    ∙ c.loop-channel.invariant

pub returns : goal.returns
returns c =
    sym (due_end (state_of c.args.self.now []) c.args.number c.args.channels.now c.loop-channel.channel-index c.loop-channel-test.false)
    ∙ c.loop-channel.invariant
