use Rattle.p3l_units.specs.laws.Leaf.{leaves_are_runs}
use Rattle.p3l_units.proofs.table.leaves_are_runs.Goals as goal

pub returns : goal.returns
returns c = leaves_are_runs
