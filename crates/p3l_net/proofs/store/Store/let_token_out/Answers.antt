use Rattle.std.proofs.Common.{[], ◌∷◌, sym, ap, ap₂, ◌∙◌, subst, arith}
use Rattle.p3l_firing.specs.declared.token.Token.{Token}
use Rattle.p3l_firing.specs.State.{own_at}
use Rattle.p3l_firing.specs.Token.{credit, untagged}
use Rattle.p3l_firing.specs.Process.{out_of}
use Rattle.p3l_firing.specs.kinds.Tail.{after_release}
use Rattle.p3l_net.specs.Machine.{Seen}
use Rattle.p3l_net.specs.Steps.{CanPut, with_last, with_own, ticked}
use Rattle.p3l_net.proofs.Standing.{put_after_own, put_after_put, here, is_kind, own_there, own_few}
use Rattle.p3l_net.proofs.step.Tail.{out_long, due, puts_out, puts_credit, apart, let_out, fired_out}
use Rattle.p3l_net.proofs.store.Store.let_token_out.Goals as goal

pub process-process-requires : goal.process-process-requires
process-process-requires c = c.requires.may.there

pub output-outside-requires : goal.output-outside-requires
output-outside-requires c = let long = out_long (here c.requires.may c.process-process.ensures) (is_kind c.requires.may c.process-process.ensures) in omega (arith, long)

pub nth_output-credits-requires : goal.nth_output-credits-requires
nth_output-credits-requires c = let long = out_long (here c.requires.may c.process-process.ensures) (is_kind c.requires.may c.process-process.ensures) in omega (arith, long)

pub pop_expected-token-requires-clause-there : goal.pop_expected-token-requires-clause-there
pop_expected-token-requires-clause-there c = own_there (here c.requires.may c.process-process.ensures)

pub pop_expected-token-requires-clause-due : goal.pop_expected-token-requires-clause-due
pop_expected-token-requires-clause-due c = due c.requires.may c.process-process.ensures (c.requires.leaves _ c.process-process.ensures)

pub pop_expected-token-requires-clause-few : goal.pop_expected-token-requires-clause-few
pop_expected-token-requires-clause-few c = own_few (here c.requires.may c.process-process.ensures) c.requires.may.count

pub put-requires : goal.put-requires
put-requires c =
    subst (λ (x : Seen). CanPut x c.output-outside.result) (sym c.pop_expected-token.ensures.after)
    (put_after_own _ _ (subst (CanPut c.args.self.now) (sym c.output-outside.ensures) (puts_out c.requires.may c.process-process.ensures (c.requires.leaves _ c.process-process.ensures))))

pub put-requires-2 : goal.put-requires-2
put-requires-2 c =
    let leaves = c.requires.leaves _ c.process-process.ensures in
    subst (λ (x : Seen). CanPut x c.nth_output-credits.result)
    (sym (c.put.ensures ∙ ap (λ (x : Seen). with_last x c.output-outside.result c.untagged-2.result) c.pop_expected-token.ensures.after))
    (put_after_put c.output-outside.result _
    (λ e. apart c.requires.may c.process-process.ensures leaves (sym c.nth_output-credits.ensures ∙ e ∙ c.output-outside.ensures))
    (put_after_own _ _ (subst (CanPut c.args.self.now) (sym c.nth_output-credits.ensures) (puts_credit c.requires.may c.process-process.ensures leaves))))

pub returns : goal.returns
returns c = λ leaf.
    let m : Seen = c.args.self.now in
    let p = c.args.p in
    let leaves = c.requires.leaves _ c.process-process.ensures in
    let sent : Token = let_out c.requires.may c.process-process.ensures leaves in
    let kept : Seen = with_own m p (after_release (own_at m.owns p)) in
    let token = c.untagged-2.ensures ∙ ap (λ (x : Token). untagged x) (c.untagged.ensures ∙ ap (λ (x : Token). untagged x) c.pop_expected-token.ensures.token) in
    let out = c.put.ensures
    ∙ ap₂ (λ (x : Seen) t. with_last x c.output-outside.result t) c.pop_expected-token.ensures.after token
    ∙ ap (λ k. with_last kept k sent) c.output-outside.ensures in
    fired_out c.requires.may c.process-process.ensures leaves leaf _
    (c.tick.ensures
    ∙ ap ticked (c.put-2.ensures
    ∙ ap₂ (λ (x : Seen) t. with_last x c.nth_output-credits.result t) out c.credit.ensures
    ∙ ap (λ k. with_last (with_last kept (out_of c.process-process.result.now 0) sent) k credit) c.nth_output-credits.ensures))
    _ (c.two.ensures ∙ ap₂ (λ i o. i ∷ (o ∷ [])) c.output-outside.ensures c.nth_output-credits.ensures)
