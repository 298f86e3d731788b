use Rattle.std.proofs.Common.{take}
use Rattle.std.specs.List.{All}
use Rattle.p3l_resume.specs.Ranges.{IsWord}
use Rattle.p3l_resume.proofs.ranges.look_at_words.Given as goal

-- those so far
abbrev pub invariant-loop-word : goal.invariant-loop-word
invariant-loop-word l = All IsWord (take l.word-index l.words)
