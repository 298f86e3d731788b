use Rattle.std.proofs.Common.{rules, ◌≡◌, [], ◌∷◌, ◌++◌, FitsSigned, ap, ◌∙◌}
use Rattle.std.specs.Int.{w64}
use Rattle.std.proofs.lemmas.Int.{to_z-of_z}
use Rattle.p3l_format.specs.Format.{read_many}
use Rattle.p3l_format.specs.Numbers.{i64_format}
use Rattle.p3l_format.proofs.Loop.{goes_on}
use Rattle.p3l_resume.proofs.words.read_so_many_words.Goals as goal

pub loop-preserved : goal.loop-preserved
loop-preserved c =
    let fits : FitsSigned w64 c.in_ok-word.word = search rules in
    let pushed : c.push.new.self ≡ c.loop.words ++ c.in_ok-word.word ∷ [] =
    c.in_ok-push.ensures.ok ∙ ap (λ w. c.loop.words ++ w ∷ []) (to_z-of_z w64 c.in_ok-word.word fits) in
    rw pushed (goes_on i64_format.read c.loop.words c.args.count c.loop.counter c.loop.rest.now c.in_ok-word.word c.in_ok-word.after.now (read_many i64_format.read c.args.count c.args.bytes.now) c.loop-test.true c.in_ok-word.ensures c.loop.invariant)
