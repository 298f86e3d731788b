use Rattle.std.proofs.Common.{◌∙◌, ap₂, sym}
use Rattle.std.proofs.lemmas.List.Sums.{fold_more}
use Rattle.clap.specs.Words.{new_app, with_rule}
use Rattle.p3l_opts.specs.App.{with_word}
use Rattle.p3l_opts.proofs.app.clap_command.Goals as goal

pub words-preserved : goal.words-preserved
words-preserved c =
    let shape = c.in_ok-command.ensures.shape c.arg_for.ensures.local in
    shape ∙ ap₂ with_rule c.words.invariant c.arg_for.ensures.rule
    ∙ sym (fold_more with_word (new_app c.args.listed.1.now) c.args.listed.2.now c.words.word-index _ c.words-test.true)
