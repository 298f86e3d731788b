use Rattle.std.proofs.Common.{◌≡◌, ◌+◌, ◌≤◌, ℤ, List, Result, length}
use Rattle.p3l_stream.specs.declared.word.WordFault.{WordFault}
use Rattle.p3l_stream.specs.Part.{line_after, put_all}
use Rattle.p3l_stream.specs.Words.{numbers_of, words_of}
use Rattle.p3l_stream.proofs.part.Part.read.Given as goal

abbrev pub invariant-loop-number : goal.invariant-loop-number
invariant-loop-number l = record {
  stands : (others : Result (List ℤ) WordFault) → line_after l.fn.self (put_all (numbers_of (words_of l.bytes)) others) ≡ line_after l.self (put_all (numbers_of (words_of l.rest)) others);
  count : l.self.count + length l.rest ≤ l.fn.self.count + length l.bytes;
  width : l.self.width ≡ l.fn.self.width;
  begun : l.self.begun ≡ l.fn.self.begun;
}

abbrev pub decreases-loop-number : goal.decreases-loop-number
decreases-loop-number l = length l.rest
