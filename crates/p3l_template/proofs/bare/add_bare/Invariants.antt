use Rattle.std.proofs.Common.{◌≡◌, ◌++◌, take}
use Rattle.p3l_template.specs.Finding.{bares}
use Rattle.p3l_template.proofs.bare.add_bare.Given as goal

abbrev pub invariant-loop-token : goal.invariant-loop-token
invariant-loop-token l = l.to ≡ l.initial.to ++ bares (take l.token-index l.tokens)
