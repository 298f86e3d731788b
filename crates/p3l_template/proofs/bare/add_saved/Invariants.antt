use Rattle.std.proofs.Common.{◌≡◌, ◌++◌, map, take}
use Rattle.p3l_firing.specs.Shot.{token_of}
use Rattle.p3l_template.specs.Finding.{bares}
use Rattle.p3l_template.proofs.bare.add_saved.Given as goal

abbrev pub invariant-loop-token : goal.invariant-loop-token
invariant-loop-token l = l.to ≡ l.initial.to ++ bares (map token_of (take l.token-index l.saved))
