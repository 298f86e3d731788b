use Rattle.std.proofs.Common.{refl}
use Rattle.p3l_skel.proofs.Parts.{is_unit}
use Rattle.p3l_reference.proofs.leaves.UnitLeavesLeaves.run.Goals as goal

pub run-requires-clause-sequential : goal.run-requires-clause-sequential
run-requires-clause-sequential g c =
    is_unit _ c.requires.lawful _ _ c.args.node refl refl c.requires.there c.requires.form
