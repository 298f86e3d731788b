use Rattle.p3l_body_laws.proofs.numbers_are_small.Goals as goal
use Rattle.p3l_body_laws.proofs.Numbers.{numbers_are_small}

pub returns : goal.returns
returns c = numbers_are_small
