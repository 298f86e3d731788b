use Rattle.std.proofs.Common.{◌≡◌, take}
use Rattle.p3l_grammar.specs.Symbol.{symbols}
use Rattle.p3l_grammar.specs.Limits.{at_rest, nest_after, IsKept, IsWithin}
use Rattle.p3l_grammar.proofs.nest.first_past.Given as goal

abbrev pub invariant-loop-i : goal.invariant-loop-i
invariant-loop-i l = record {
  counted : l.nest ≡ nest_after at_rest (symbols (take l.i l.tokens));
  kept : IsKept l.nest;
  within : IsWithin at_rest (symbols (take l.i l.tokens));
}
