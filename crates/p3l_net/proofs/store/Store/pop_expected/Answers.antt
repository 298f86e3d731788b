use Rattle.std.proofs.Common.{ℕ, ◌+◌, ◌++◌, List, take, drop, ap, ap₂, sym, ◌∙◌, subst}
use Rattle.std.specs.Option.{IfSome}
use Rattle.p3l_firing.specs.declared.token.Token.{Token}
use Rattle.p3l_firing.specs.State.{LocalState}
use Rattle.p3l_firing.specs.kinds.Tail.{after_release}
use Rattle.p3l_net.specs.Turns.{IsDue}
use Rattle.p3l_net.proofs.Queues.{own_changed}
use Rattle.p3l_net.proofs.store.Store.pop_expected.Goals as goal

pub returns-clause-after : goal.returns-clause-after
unfolding after_release
returns-clause-after c =
    let o : LocalState = c.index_mut-local.result.now in
    let k = c.unwrap-place.result in
    let due : IsDue o.number o.held k = subst (λ x. IfSome x (λ j. IsDue o.number o.held j)) c.unwrap-place.ensures c.expected_place.ensures.due in
    let with : ℕ → List Token → LocalState = λ n held. record { number = n; held = held } in
    own_changed c.self.view_is c.args.p c.requires.there c.index_mut-local.ensures.value after_release
    (ap₂ with (ap (λ (x : LocalState). x.number + 1) c.local.view_is)
    (c.remove-token.ensures.by_index.2 ∙ ap (λ (x : LocalState). take k x.held ++ drop (k + 1) x.held) c.local.view_is ∙ sym due.rest))
