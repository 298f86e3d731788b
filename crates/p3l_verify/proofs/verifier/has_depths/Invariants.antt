use Rattle.p3l_verify.specs.Known.{IsSound}
use Rattle.p3l_verify.proofs.verifier.has_depths.Given as goal

-- the known depths are sound for the places visited so far
abbrev pub invariant-loop-place : goal.invariant-loop-place
invariant-loop-place l = IsSound l.code l.known.items l.place
