use Rattle.std.proofs.Common.{refl}
use Rattle.p3l_cert.proofs.Made.{made_step}
use Rattle.p3l_cert.proofs.fill.rows_of.Goals as goal

pub loop-key-preserved : goal.loop-key-preserved
loop-key-preserved c =
    made_step c.args.keys.now c.loop-key.key-index c.loop-key.rows.items _ _ _ c.loop-key-test.true refl c.loop-key.invariant (c.requires.small c.loop-key.key-index _ c.loop-key-test.true) c.requires.sorted c.in_ok-add.ensures
