use Rattle.std.proofs.Common.{◌≡◌, length}
use Rattle.p3l_stream.specs.Words.{numbers_of, words_of}
use Rattle.p3l_stream.proofs.Numbers.{put_numbers}
use Rattle.p3l_stream.proofs.word.read_numbers.Given as goal

abbrev pub invariant-loop-number : goal.invariant-loop-number
invariant-loop-number l = put_numbers l.numbers (numbers_of (words_of l.rest)) ≡ numbers_of (words_of l.line)

abbrev pub decreases-loop-number : goal.decreases-loop-number
decreases-loop-number l = length l.rest
