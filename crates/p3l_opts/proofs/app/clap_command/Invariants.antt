use Rattle.std.proofs.Common.{◌≡◌, fold, take}
use Rattle.clap.specs.Words.{app_of, new_app}
use Rattle.p3l_opts.specs.App.{with_word}
use Rattle.p3l_opts.proofs.app.clap_command.Given as goal

abbrev pub invariant-words : goal.invariant-words
invariant-words l = app_of l.command ≡ fold with_word (new_app l.listed.1.now) (take l.word-index l.words)
