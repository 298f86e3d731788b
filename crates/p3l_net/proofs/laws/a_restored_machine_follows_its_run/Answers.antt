use Rattle.std.proofs.Common.{refl}
use Rattle.p3l_net.proofs.laws.a_restored_machine_follows_its_run.Goals as goal

pub returns : goal.returns
returns c = λ m outcomes rest emitted none. record { state = refl; fired = none; emitted = emitted }
