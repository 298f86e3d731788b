use Rattle.std.proofs.Common.{◌≡◌, ◌<◌, ◌^◌, take}
use Rattle.p3l_lexer.specs.Piece.{value_of}
use Rattle.p3l_lexer.proofs.piece.value.Given as goal

abbrev pub invariant-loop-byte : goal.invariant-loop-byte
invariant-loop-byte l = record { small : l.value < 2 ^ 63; is : l.value ≡ value_of (take l.byte-index l.digits) }
