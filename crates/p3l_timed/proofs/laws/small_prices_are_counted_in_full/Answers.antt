use Rattle.p3l_timed.proofs.Keeping.{exact_prices}
use Rattle.p3l_timed.proofs.laws.small_prices_are_counted_in_full.Goals as goal

pub returns : goal.returns
returns c = λ tree costs net small. exact_prices tree costs net.procs small
