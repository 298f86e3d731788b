use Rattle.p3l_program.proofs.UnbrokenSteps.{unbroken_always}
use Rattle.p3l_program.proofs.unbroken.every_resumed_run_is_unbroken.Goals as goal

pub returns : goal.returns
returns c =
    unbroken_always c.snapshot_begins_no_other.ensures c.image_begins_no_other.ensures c.laws.ensures c.every_linked_net_has_invariants.ensures
    c.a_restored_machine_goes_on_unbroken.ensures
