use Rattle.std.proofs.Common.{◌≡◌, drop}
use Rattle.p3l_trace.specs.Kind.{first_said}
use Rattle.p3l_trace.proofs.kind.read_first.Given as goal

-- the rest of the kinds gives the same as all of them
abbrev pub invariant-loop-said : goal.invariant-loop-said
invariant-loop-said l = record { rest : first_said (drop l.said-index l.all) l.bytes ≡ first_said l.fn.all l.fn.bytes }
