use Rattle.std.proofs.Common.{◌∙◌, ap, bytes_eq}
use Rattle.std.specs.Option.{option_map}
use Rattle.clap.proofs.WalkLemmas.{find-map}
use Rattle.p3l_opts.specs.Table.{shown}
use Rattle.p3l_opts.proofs.table.entry_in.Goals as goal

pub returns-in-Some : goal.returns-in-Some
returns-in-Some c = ap (option_map shown) (rw c.in-Some.is at c.entry_among.ensures) ∙ find-map (λ entry. bytes_eq entry.1 c.args.word.now) shown c.args.entries.now

pub returns-in-None : goal.returns-in-None
returns-in-None c = ap (option_map shown) (rw c.in-None.is at c.entry_among.ensures) ∙ find-map (λ entry. bytes_eq entry.1 c.args.word.now) shown c.args.entries.now
