-- The rules by which `clap` reads the words of a command.
use Rattle.std.specs.Prelude.{List, Some, fold, true}
use Rattle.clap.specs.Words.{App, Kinds, Row, Rule, Text, fault_of, matches_of, new_app, new_rule, with_rule}
use Rattle.clap.specs.declared.builder.action.ArgAction.TheVariants.{SetTrue}
use Rattle.p3l_opts.specs.declared.word.Word.{Word}
use Rattle.p3l_opts.specs.declared.word.Word.TheVariants.{Positional, Mandatory, Optional, Flag}
use Rattle.p3l_opts.specs.Table.{Entry}
use Rattle.p3l_opts.specs.Word.{name_of}

-- the rule declared to `clap` for a word
abbrev pub rule_for : Word → Rule
rule_for (Positional value) = record (new_rule (name_of value)) { required = true }
rule_for (Mandatory value) = record (new_rule (name_of value)) { long = Some (name_of value); required = true }
rule_for (Optional value) = record (new_rule (name_of value)) { long = Some (name_of value) }
rule_for (Flag value) = record (new_rule (name_of value)) { long = Some (name_of value); action = Some SetTrue }

-- the command with one word more
abbrev pub with_word : App → Word → App
with_word app word = with_rule app (rule_for word)

-- a command as it is declared to `clap`
abbrev pub app_for : Entry → App
app_for entry = fold with_word (new_app entry.1) entry.2

-- why `clap` doesn't take the words, nothing where it takes them
unfoldable pub faults : Entry → List Text → Kinds
faults entry words = fault_of (app_for entry) words

-- the rows that `clap` finds in the words that it takes
unfoldable pub rows : Entry → List Text → List Row
rows entry words = matches_of (app_for entry) words
