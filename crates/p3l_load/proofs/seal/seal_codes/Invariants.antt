use Rattle.std.proofs.Common.{◌≡◌, take}
use Rattle.std.specs.List.{All}
use Rattle.p3l_code.specs.Safe.{IsSafe}
use Rattle.p3l_load.proofs.seal.seal_codes.Given as goal

-- the codes so far are sealed
abbrev pub invariant-loop-code : goal.invariant-loop-code
invariant-loop-code l = record {
  same : l.safe ≡ take l.code-index l.codes;
  safe : All IsSafe l.safe;
  counted : l.number ≡ l.code-index;
}
