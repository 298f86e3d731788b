use Rattle.p3l_reduce.specs.laws.ReduceTyping.{level_exact}
use Rattle.p3l_reduce.proofs.reduce.keeps_powers_of_two.Goals as goal

pub returns : goal.returns
returns c = level_exact 9
