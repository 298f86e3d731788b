use Rattle.std.proofs.Common.{◌≡◌, ◌++◌, drop}
use Rattle.p3l_stream.proofs.Spacing.{words_from}
use Rattle.p3l_stream.proofs.text.write_words.Given as goal

abbrev pub invariant-loop-index : goal.invariant-loop-index
invariant-loop-index l = l.text ++ words_from l.index (drop l.index l.words) ≡ l.initial.text ++ words_from 0 l.words
