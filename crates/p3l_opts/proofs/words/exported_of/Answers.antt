use Rattle.std.proofs.lemmas.Result.{err_from_is_err_and}
use Rattle.clap.specs.Words.{found_of, rows_of}
use Rattle.p3l_opts.specs.declared.words.Priced.{Priced}
use Rattle.p3l_opts.specs.declared.word.TheConstants.{PROCESSORS}
use Rattle.p3l_opts.specs.declared.word.Value.TheVariants.{Capacity}
use Rattle.p3l_opts.specs.Command.{HasChoice, HasExported, HasPriced, text_of}
use Rattle.p3l_opts.proofs.Parsing.{part_refused}
use Rattle.p3l_opts.proofs.words.exported_of.Goals as goal

pub returns-in_err-capacity : goal.returns-in_err-capacity
returns-in_err-capacity c =
    let p = err_from_is_err_and c.from_residual.result c.from_residual.ensures.1 in
    rw (p.1, p.2) (part_refused (HasExported (rows_of (found_of c.args.matches.now))) (HasChoice (text_of Capacity (rows_of (found_of c.args.matches.now)))) (λ exported. exported.capacity) (λ exported has. has.capacity_is) _ c.in_err-capacity.ensures)

pub returns-in_err-priced : goal.returns-in_err-priced
returns-in_err-priced c =
    let p = err_from_is_err_and c.from_residual-in_err-priced.result c.from_residual-in_err-priced.ensures.1 in
    rw (p.1, p.2)
    (part_refused (HasExported (rows_of (found_of c.args.matches.now))) (λ (priced : Priced). HasPriced PROCESSORS (rows_of (found_of c.args.matches.now)) priced.program priced.processors priced.costs)
    (λ exported. record { program = exported.program; processors = exported.processors; costs = exported.costs }) (λ exported has. has.priced) _ c.in_err-priced.ensures)
