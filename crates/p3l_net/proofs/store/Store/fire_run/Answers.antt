use Rattle.std.proofs.Common.{◌≡◌, length, refl, sym, ap, ◌∙◌, subst}
use Rattle.p3l_base.specs.declared.outcome.Outcome.{Outcome}
use Rattle.p3l_base.specs.declared.outcome.Outcome.TheVariants.{Value, Trapped}
use Rattle.p3l_skel.specs.Item.{item}
use Rattle.p3l_skel.specs.Tree.{HasFittingLength, IsUnit}
use Rattle.p3l_firing.specs.declared.token.Token.{Token}
use Rattle.p3l_firing.specs.Lists.{first_or}
use Rattle.p3l_firing.specs.Token.{credit, over}
use Rattle.p3l_firing.specs.Nodes.{outcome_of}
use Rattle.p3l_net.specs.Channel.{tokens_at}
use Rattle.p3l_net.specs.Machine.{Seen}
use Rattle.p3l_net.specs.Steps.{IfValue, without_first, with_last, ticked}
use Rattle.p3l_firing.specs.Fire.{row_wants_memory}
use Rattle.p3l_net.proofs.Standing.{put_after_take, wants_as}
use Rattle.p3l_net.proofs.step.Run.{in_there, is_kind, takes, puts, is_unit, fitting, stays, fired}
use Rattle.p3l_net.proofs.store.Store.fire_run.Goals as goal

pub is_plain-plain-requires : goal.is_plain-plain-requires
is_plain-plain-requires g c = takes c.requires.may.sound c.requires.run c.requires.may.ready

pub front_body-requires : goal.front_body-requires
front_body-requires g c = takes c.requires.may.sound c.requires.run c.requires.may.ready

pub pass-requires-clause-room : goal.pass-requires-clause-room
pass-requires-clause-room g c =
    put_after_take _ (in_there c.requires.may.sound c.requires.run) (puts c.requires.may.sound c.requires.run c.requires.may.ready)

pub returns-in_default-clause-done : goal.returns-in_default-clause-done
returns-in_default-clause-done g c =
    let m : Seen = c.args.self.now in
    let d = c.args.descriptor.now in
    let leaf = g.U.Units.leaf c.args.units.now in
    let first : Token = first_or credit (tokens_at m.queues d.input) in
    let trapped : first.body ≡ Trapped c.in_default.field-0 = sym c.front_body.ensures ∙ c.in_default.is in
    let same : first ≡ over (outcome_of m.tree leaf d.node) first = stays (outcome_of m.tree leaf d.node) first _ trapped refl in
    fired c.requires.may.sound c.requires.run c.requires.may.ready leaf _
    (c.tick.ensures ∙ ap ticked (c.pass.ensures ∙ ap (with_last (without_first m d.input) d.output) same))

pub run-requires-clause-sequential : goal.run-requires-clause-sequential
run-requires-clause-sequential g c =
    subst (λ t. IsUnit t c.args.descriptor.now.node) (sym c.requires.units) (is_unit c.requires.may.sound c.requires.run c.requires.may.ready)

pub run-requires-clause-fits : goal.run-requires-clause-fits
run-requires-clause-fits g c =
    let m : Seen = c.args.self.now in
    let d = c.args.descriptor.now in
    subst (λ t. HasFittingLength t d.node (length c.in-Value.words)) (sym c.requires.units)
    (subst (λ (x : Outcome). IfValue x (λ words. HasFittingLength m.tree d.node (length words))) (sym c.front_body.ensures ∙ c.in-Value.is)
    (fitting c.requires.may.sound c.requires.run c.requires.may.ready))

pub forward-requires-clause-token : goal.forward-requires-clause-token
forward-requires-clause-token g c = takes c.requires.may.sound c.requires.run c.requires.may.ready

pub forward-requires-clause-room : goal.forward-requires-clause-room
forward-requires-clause-room g c =
    put_after_take _ (in_there c.requires.may.sound c.requires.run) (puts c.requires.may.sound c.requires.run c.requires.may.ready)

pub returns-in-Ok-clause-done : goal.returns-in-Ok-clause-done
returns-in-Ok-clause-done g c =
    let m : Seen = c.args.self.now in
    let d = c.args.descriptor.now in
    let leaf = g.U.Units.leaf c.args.units.now in
    let first : Token = first_or credit (tokens_at m.queues d.input) in
    let value : first.body ≡ Value c.in-Value.words = sym c.front_body.ensures ∙ c.in-Value.is in
    let made : c.in-Ok.outcome ≡ outcome_of m.tree leaf d.node first.body =
    c.in-Ok.ensures ∙ ap (λ t. item t leaf d.node c.in-Value.words) c.requires.units ∙ ap (outcome_of m.tree leaf d.node) (sym value) in
    fired c.requires.may.sound c.requires.run c.requires.may.ready leaf _
    (c.tick-in-Ok.ensures
    ∙ ap ticked (c.forward.ensures ∙ ap (λ (b : Outcome). with_last (without_first m d.input) d.output (record first { body = b })) made))

pub returns-in-Err-clause-memory : goal.returns-in-Err-clause-memory
unfolding row_wants_memory
returns-in-Err-clause-memory g c =
    wants_as c.args.self.now c.args.p c.requires.run.described.stands (is_kind c.requires.may.sound c.requires.run) refl
