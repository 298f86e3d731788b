use Rattle.std.proofs.Common.{◌≡◌, take}
use Rattle.std.specs.List.{All}
use Rattle.p3l_code.specs.Safe.{IsSafe}
use Rattle.p3l_load.proofs.compiled.copies.Given as goal

-- the codes so far
abbrev pub invariant-loop-code : goal.invariant-loop-code
invariant-loop-code l = record {
  same : l.copies ≡ take l.code-index l.codes;
  safe : All IsSafe l.copies;
}
