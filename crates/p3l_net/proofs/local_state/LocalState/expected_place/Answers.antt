use Rattle.std.proofs.Common.{◌<◌, length, get_or, eq-eqb, ne_eqb, arith, ap, sym, ◌∙◌}
use Rattle.std.proofs.lemmas.List.{get_or_read}
use Rattle.p3l_firing.specs.State.{LocalState}
use Rattle.p3l_firing.specs.Token.{credit, second_tag}
use Rattle.p3l_net.proofs.Held.{none_passed, one_passed, due_here, all_passed}
use Rattle.p3l_net.proofs.local_state.LocalState.expected_place.Goals as goal

pub loop-k-init : goal.loop-k-init
loop-k-init c = none_passed _ _

pub returns-then-second_tag-self-clause-due : goal.returns-then-second_tag-self-clause-due
returns-then-second_tag-self-clause-due c =
    let o : LocalState = c.args.self.now in
    let long = c.self.inside.held.ok.0 in
    let held = ap (λ (x : LocalState). x.held) c.self.view_is in
    let same = ap length held in
    let inside : c.loop-k.k < length o.held = omega (arith, long, same, c.len-k-end.ensures, c.loop-k-test.true) in
    let read = get_or_read c.self.inside.held.items c.loop-k.k _ (omega (arith, same, inside)) c.index.ensures credit ∙ ap (λ xs. get_or xs c.loop-k.k credit) held in
    due_here o.number o.held c.loop-k.k inside
    (eq-eqb _ _ (sym (c.second_tag.ensures ∙ ap (λ x. second_tag x) read) ∙ c.if-second_tag-self.true ∙ ap (λ (x : LocalState). x.number) c.self.view_is))
    c.loop-k.invariant

pub loop-k-preserved : goal.loop-k-preserved
loop-k-preserved c =
    let o : LocalState = c.args.self.now in
    let long = c.self.inside.held.ok.0 in
    let held = ap (λ (x : LocalState). x.held) c.self.view_is in
    let same = ap length held in
    let inside : c.loop-k.k < length o.held = omega (arith, long, same, c.len-k-end.ensures, c.loop-k-test.true) in
    let read = get_or_read c.self.inside.held.items c.loop-k.k _ (omega (arith, same, inside)) c.index.ensures credit ∙ ap (λ xs. get_or xs c.loop-k.k credit) held in
    one_passed o.number o.held c.loop-k.k inside
    (ne_eqb _ _ (λ e. c.if-second_tag-self.false (c.second_tag.ensures ∙ ap (λ x. second_tag x) read ∙ e ∙ sym (ap (λ (x : LocalState). x.number) c.self.view_is))))
    c.loop-k.invariant

pub returns-clause-none : goal.returns-clause-none
returns-clause-none c =
    let o : LocalState = c.args.self.now in
    let long = c.self.inside.held.ok.0 in
    let same = ap (λ (x : LocalState). length x.held) c.self.view_is in
    all_passed o.number o.held c.loop-k.k (omega (arith, long, same, c.len-k-end.ensures, c.loop-k-test.false)) c.loop-k.invariant
