use Rattle.p3l_load.proofs.Runnable.{compiled_runs}
use Rattle.p3l_load.proofs.laws.every_compiled_image_can_be_run.Goals as goal

pub returns : goal.returns
returns c = compiled_runs c.every_body_has_its_module.ensures c.a_linked_net_is_typed.ensures
