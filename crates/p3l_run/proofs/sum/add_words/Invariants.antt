use Rattle.std.proofs.Common.{◌≡◌, take}
use Rattle.p3l_run.specs.Sum.{add_words}
use Rattle.p3l_run.proofs.sum.add_words.Given as goal

abbrev pub invariant-loop-word : goal.invariant-loop-word
invariant-loop-word l = l.total ≡ add_words l.sum (take l.word-index l.word-items)
