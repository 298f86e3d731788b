-- Laws that hold for all words.
use Rattle.std.specs.Prelude.{◌≡◌, List}
use Rattle.clap.specs.Words.{Text}
use Rattle.p3l_opts.specs.declared.command.Command.{Command}
use Rattle.p3l_opts.specs.Command.{Spells}

-- two commands that words spell are the same
abbrev pub SpellsOneAtMost : Type 0
SpellsOneAtMost = (words : List Text) (one another : Command) → Spells words one → Spells words another → one ≡ another
