use Rattle.std.proofs.Common.{FitsSigned, get_or, pos, rules, subst, w64, arith}
use Rattle.std.proofs.lemmas.Int.{to_z-of_z}
use Rattle.p3l_resume.specs.Ranges.{IsWord}
use Rattle.p3l_resume.proofs.Seen.{all_seen, one_more}
use Rattle.p3l_resume.proofs.ranges.look_at_words.Goals as goal

pub loop-word-preserved : goal.loop-word-preserved
loop-word-preserved c =
    let fits : FitsSigned w64 (get_or c.args.words.now c.loop-word.word-index (pos 0)) = search rules in
    one_more IsWord c.args.words.now c.loop-word.word-index (pos 0) c.loop-word-test.true c.loop-word.invariant
    (subst IsWord (to_z-of_z w64 (get_or c.args.words.now c.loop-word.word-index (pos 0)) fits) c.look_at_word.ensures)

pub returns : goal.returns
returns c = all_seen IsWord c.args.words.now c.loop-word.word-index (omega (arith, c.loop-word-test.false)) c.loop-word.invariant
