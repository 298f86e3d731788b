use Rattle.p3l_spread_laws.proofs.WireLaw.{distributed_spread, idle_quiet, linked_distributed_means}
use Rattle.p3l_spread_laws.proofs.WireTaking.{every_wire_can_take}
use Rattle.p3l_spread_laws.proofs.distributed_runs_are_spread_runs.Goals as goal

pub returns-clause-spread : goal.returns-clause-spread
returns-clause-spread c = distributed_spread

pub returns-clause-taken : goal.returns-clause-taken
returns-clause-taken c = every_wire_can_take

pub returns-clause-idle : goal.returns-clause-idle
returns-clause-idle c = idle_quiet

pub returns-clause-linked : goal.returns-clause-linked
returns-clause-linked c = linked_distributed_means
