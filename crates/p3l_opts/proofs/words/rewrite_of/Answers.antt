use Rattle.std.proofs.lemmas.Result.{err_from_is_err_and}
use Rattle.std.specs.declared.result.Result.TheVariants.{Err}
use Rattle.std.specs.Prelude.{List}
use Rattle.clap.specs.Words.{Row, found_of, rows_of}
use Rattle.p3l_opts.specs.declared.command.Command.{Command}
use Rattle.p3l_opts.specs.declared.command.Command.TheVariants as command
use Rattle.p3l_opts.specs.declared.command.OptsRefusal.{OptsRefusal}
use Rattle.p3l_opts.specs.declared.command.OptsRefusal.TheVariants.{NoMemory, Usage}
use Rattle.p3l_opts.specs.declared.table.Verb.TheVariants as verb
use Rattle.p3l_opts.specs.declared.word.TheConstants.{PROCESSORS}
use Rattle.p3l_opts.specs.declared.words.Priced.{Priced}
use Rattle.p3l_opts.specs.Command.{HasPriced, IsCommand, Parses}
use Rattle.p3l_opts.proofs.words.rewrite_of.Goals as goal

-- without such a program there is no such command
none_rewrites : (found : List Row) → ((priced : Priced) → HasPriced PROCESSORS found priced.program priced.processors priced.costs → ⊥) → (c : Command) → IsCommand verb.Rewrite found c → ⊥
none_rewrites found none (command.Rewrite program processors costs) is = none (record { program = program; processors = processors; costs = costs }) is.values
none_rewrites found none c is = (let other = is.verb_is in absurd cc)

refused : (found : List Row) (e : OptsRefusal) → Parses (λ (priced : Priced). HasPriced PROCESSORS found priced.program priced.processors priced.costs) (Err e) → Parses (IsCommand verb.Rewrite found) (Err e)
refused found Usage none = none_rewrites found none
refused found NoMemory no_memory = no_memory

pub returns-in_err-priced : goal.returns-in_err-priced
returns-in_err-priced c =
    let p = err_from_is_err_and c.from_residual.result c.from_residual.ensures.1 in
    rw (p.1, p.2) (refused (rows_of (found_of c.args.matches.now)) _ c.in_err-priced.ensures)
