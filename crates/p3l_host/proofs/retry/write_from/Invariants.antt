use Rattle.std.proofs.Common.{List, Option, ℕ}
use Rattle.std.specs.Io.KnownBytes.{Appends}
use Rattle.p3l_host.proofs.retry.write_from.Given as goal

-- appending the rest appends all
abbrev pub invariant-loop : goal.invariant-loop
invariant-loop g l =
    (after : Option (List ℕ)) → Appends (g.W.Write.contents l.writer) after l.rest → Appends (g.W.Write.contents l.fn.writer) after l.bytes
