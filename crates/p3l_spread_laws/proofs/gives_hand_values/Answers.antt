use Rattle.p3l_spread_laws.proofs.Hand.{farm_values, loop_values, wire_values}
use Rattle.p3l_spread_laws.proofs.gives_hand_values.Goals as goal

pub returns-clause-farm : goal.returns-clause-farm
returns-clause-farm c = farm_values

pub returns-clause-loops : goal.returns-clause-loops
returns-clause-loops c = loop_values

pub returns-clause-wires : goal.returns-clause-wires
returns-clause-wires c = wire_values
