-- Each step of the walk over the workers, by the lemmas of NestedPlacing.
use Rattle.std.proofs.Common.{◌∙◌}
use Rattle.p3l_map.specs.MapShape.{map_shape}
use Rattle.p3l_map.specs.laws.MapLaw.{map_lawful}
use Rattle.p3l_template.specs.Run.{run_shape}
use Rattle.p3l_scan.specs.laws.NestedPlacing.{continued, ended, inner_room}
use Rattle.p3l_scan.specs.laws.ScanLaw.{steps_inner}
use Rattle.p3l_scan.proofs.stage.StageTemplateTemplate.place.Goals as goal

pub place-requires-in-loop-block-clause-room : goal.place-requires-in-loop-block-clause-room
place-requires-in-loop-block-clause-room c =
    let t = c.args.self.now in
    inner_room (map_shape t.stage t.blocks) (λ v. 0) (λ v. run_shape t.step) (map_lawful t.stage t.blocks c.requires.fit)
    (steps_inner t.stage t.step t.blocks) c.args.cap c.args.at.now c.args.builder.now c.as_slice-inner-items.result.now
    (c.as_slice-inner-items.ensures ∙ c.in_ok-ports.ensures.ports) c.loop-block.builder c.loop-block._block
    c.loop-block.invariant c.loop-block-test.true (record { input = 0; output = 0 }) c.requires.room

pub loop-block-preserved : goal.loop-block-preserved
loop-block-preserved c =
    let t = c.args.self.now in
    continued (map_shape t.stage t.blocks) (λ v. 0) (λ v. run_shape t.step) (map_lawful t.stage t.blocks c.requires.fit)
    (steps_inner t.stage t.step t.blocks) c.args.cap c.args.at.now c.args.builder.now c.as_slice-inner-items.result.now
    (c.as_slice-inner-items.ensures ∙ c.in_ok-ports.ensures.ports) c.loop-block.builder c.loop-block._block
    c.loop-block.invariant c.loop-block-test.true (record { input = 0; output = 0 }) c.place-in-loop-block.new.builder
    c.in_ok-_closed.ensures.placed

pub returns-clause-placed : goal.returns-clause-placed
returns-clause-placed c =
    let t = c.args.self.now in
    ended (map_shape t.stage t.blocks) (λ v. 0) (λ v. run_shape t.step) (map_lawful t.stage t.blocks c.requires.fit)
    (steps_inner t.stage t.step t.blocks) c.args.cap c.args.at.now c.args.builder.now c.as_slice-inner-items.result.now
    (c.as_slice-inner-items.ensures ∙ c.in_ok-ports.ensures.ports) c.loop-block.builder c.loop-block._block
    c.loop-block.invariant c.loop-block-test.false
