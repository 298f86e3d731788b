use Rattle.std.proofs.Common.{◌≡◌, ℕ, ◌+◌, ◌≤◌, List, ◌++◌, take}
use Rattle.p3l_lexer.specs.Position.{position_after}
use Rattle.p3l_lexer.proofs.position.advance.Given as goal

abbrev pub invariant-loop-byte : goal.invariant-loop-byte
invariant-loop-byte l = record {
  line : l.at.line ≤ l.initial.at.line + l.byte-index;
  col : l.at.col ≤ l.initial.at.col + l.byte-index;
  reached : (before : List ℕ) → l.initial.at ≡ position_after before → l.at ≡ position_after (before ++ take l.byte-index l.more);
}
