use Rattle.std.proofs.Common.{◌++◌, ap, append-nil, sym, ◌∙◌}
use Rattle.std.proofs.lemmas.List.{drop_all}
use Rattle.p3l_stream.proofs.Spacing.{words_from, words_from-zero}
use Rattle.p3l_stream.proofs.text.write_words.Goals as goal

pub returns : goal.returns
returns c =
    sym (append-nil (c.loop-index.text))
    ∙ ap (λ rest. c.loop-index.text ++ words_from c.loop-index.index rest) (sym (drop_all c.loop-index.index c.args.words.now c.loop-index-test.false))
    ∙ c.loop-index.invariant
    ∙ ap (λ rest. c.args.text.now ++ rest) (words_from-zero c.args.words.now)
