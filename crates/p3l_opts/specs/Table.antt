-- The command that a first word names.
use Rattle.std.specs.Prelude.{List, Option, bytes_eq, find, map}
use Rattle.std.specs.Borrow.{Bor}
use Rattle.clap.specs.Words.{Text}
use Rattle.p3l_opts.specs.declared.table.TheConstants.{COMMANDS}
use Rattle.p3l_opts.specs.declared.table.Verb.{Verb}
use Rattle.p3l_opts.specs.declared.word.Word.{Word}

-- a command: its action, its first word and the words that may come after it
abbrev pub Entry : Type 0
Entry = Verb × Text × List Word

-- the same, of an entry in memory
abbrev pub shown : Verb × Bor Text × Bor (List Word) → Entry
shown entry = (entry.0, entry.1.now, entry.2.now)

-- all commands, as the table has them
unfoldable pub entries : List Entry
entries = map (λ entry. (entry.0, entry.1.now, entry.2.now)) COMMANDS

-- the command whose first word this is
unfoldable pub entry_named : Text → Option Entry
entry_named word = find (λ entry. bytes_eq entry.1 word) entries
