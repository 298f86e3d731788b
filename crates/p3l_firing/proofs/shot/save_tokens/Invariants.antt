use Rattle.std.proofs.Common.{◌≡◌, ◌++◌, map, take}
use Rattle.p3l_firing.specs.Shot.{saved_token}
use Rattle.p3l_firing.proofs.shot.save_tokens.Given as goal

abbrev pub invariant-loop-token : goal.invariant-loop-token
invariant-loop-token l = l.saved ≡ l.fn.saved ++ map saved_token (take l.token-index l.tokens)
