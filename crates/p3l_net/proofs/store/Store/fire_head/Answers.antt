use Rattle.std.proofs.Common.{◌≡◌, ◌<◌, true, false, length, sym, ap, ◌∙◌, subst, arith}
use Rattle.p3l_firing.specs.declared.process.Proc.{Proc}
use Rattle.p3l_firing.specs.Lists.{has_first}
use Rattle.p3l_firing.specs.Process.{in_of}
use Rattle.p3l_firing.proofs.Reading.{some_same}
use Rattle.p3l_net.specs.Channel.{tokens_at}
use Rattle.p3l_net.proofs.Standing.{here, is_kind}
use Rattle.p3l_net.proofs.step.Head.{in_long, in_there}
use Rattle.p3l_net.proofs.store.Store.fire_head.Goals as goal

pub process-process-requires : goal.process-process-requires
process-process-requires c = c.requires.there

pub nth_input-back-requires : goal.nth_input-back-requires
nth_input-back-requires c = let long = in_long (here c.requires c.process-process.ensures) (is_kind c.requires c.process-process.ensures) in omega (arith, long)

pub has_token-comes_back-requires : goal.has_token-comes_back-requires
has_token-comes_back-requires c =
    subst (λ k. k < length c.args.self.now.queues) (sym c.nth_input-back.ensures) (in_there (here c.requires c.process-process.ensures) (is_kind c.requires c.process-process.ensures) 1 (omega arith))

pub send_round-requires-clause-back : goal.send_round-requires-clause-back
send_round-requires-clause-back c = λ q stands.
    let same = some_same c.process-process.result.now q (sym c.process-process.ensures ∙ stands) in
    subst (λ (x : Proc). has_first (tokens_at c.args.self.now.queues (in_of x 1)) ≡ true) same
    (sym (c.has_token-comes_back.ensures ∙ ap (λ k. has_first (tokens_at c.args.self.now.queues k)) c.nth_input-back.ensures) ∙ c.if-comes_back.true)

pub let_in-requires-clause-none : goal.let_in-requires-clause-none
let_in-requires-clause-none c = λ q stands.
    let same = some_same c.process-process.result.now q (sym c.process-process.ensures ∙ stands) in
    subst (λ (x : Proc). has_first (tokens_at c.args.self.now.queues (in_of x 1)) ≡ false) same
    (sym (c.has_token-comes_back.ensures ∙ ap (λ k. has_first (tokens_at c.args.self.now.queues k)) c.nth_input-back.ensures) ∙ c.if-comes_back.false)
