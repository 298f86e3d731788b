use Rattle.std.specs.Io.KnownBytes.{Keeps}
use Rattle.p3l_host.proofs.retry.read_into.Given as goal

abbrev pub invariant-loop : goal.invariant-loop
invariant-loop g l = Keeps (g.R.Read.remaining l.fn.reader) (g.R.Read.remaining l.reader)
