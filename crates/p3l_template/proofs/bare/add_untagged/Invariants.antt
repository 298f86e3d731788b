use Rattle.std.proofs.Common.{◌≡◌, ◌++◌, map, take}
use Rattle.p3l_firing.specs.Token.{untagged}
use Rattle.p3l_template.specs.Finding.{bares}
use Rattle.p3l_template.proofs.bare.add_untagged.Given as goal

abbrev pub invariant-loop-token : goal.invariant-loop-token
invariant-loop-token l = l.to ≡ l.initial.to ++ map untagged (bares (take l.token-index l.tokens))
