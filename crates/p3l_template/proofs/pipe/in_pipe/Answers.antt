use Rattle.std.proofs.Common.{◌≡◌, ◌+◌, ◌++◌, ◌-◌, ◌<◌, take, length, ap, ap₂, ◌∙◌, arith}
use Rattle.p3l_template.specs.PipeKind.{in_stages}
use Rattle.p3l_firing.specs.Shot.{state_of}
use Rattle.p3l_template.proofs.PipeSteps.{stage_first, stage_more, stage_end}
use Rattle.p3l_template.proofs.pipe.in_pipe.Goals as goal

pub loop-later-init : goal.loop-later-init
loop-later-init c =
    let s = state_of c.args.shot.now in
    ap (λ z. z ++ in_stages s c.args.chan (take (length c.args.inner.now - 0) c.args.inner.now)) c.new-list.ensures
    ∙ stage_first s c.args.chan c.args.inner.now

pub loop-later-preserved : goal.loop-later-preserved
loop-later-preserved c =
    let s = state_of c.args.shot.now in
    let inner = c.args.inner.now in
    let stage = (length inner - 1) - c.loop-later.later in
    let here : length inner - (c.loop-later.later + 1) ≡ stage = omega (arith, c.loop-later-test.true) in
    let more : stage + 1 ≡ length inner - c.loop-later.later = omega (arith, c.loop-later-test.true) in
    let below : stage < length inner = omega (arith, c.loop-later-test.true) in
    ap₂ (λ z n. z ++ in_stages s c.args.chan (take n inner)) c.in_ok-add_stage.ensures here
    ∙ stage_more s c.args.chan stage inner c.index-inner-stage.result c.loop-later.list below c.index-inner-stage.is
    ∙ ap (λ n. c.loop-later.list ++ in_stages s c.args.chan (take n inner)) more
    ∙ c.loop-later.invariant

pub returns : goal.returns
returns c =
    let s = state_of c.args.shot.now in
    let none : 0 ≡ length c.args.inner.now - c.loop-later.later = omega (arith, c.loop-later-test.false) in
    stage_end s c.args.chan c.args.inner.now c.loop-later.list
    ∙ ap (λ n. c.loop-later.list ++ in_stages s c.args.chan (take n c.args.inner.now)) none
    ∙ c.loop-later.invariant
