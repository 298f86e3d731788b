use Rattle.std.proofs.lemmas.Result.{err_from_is_err_and}
use Rattle.std.specs.Option.{option_map}
use Rattle.clap.specs.Words.{found_of, rows_of}
use Rattle.p3l_opts.specs.declared.words.Priced.{Priced}
use Rattle.p3l_opts.specs.declared.word.TheConstants.{CAPACITY}
use Rattle.p3l_opts.specs.Command.{HasBuild, HasCount, HasPriced}
use Rattle.p3l_opts.proofs.Parsing.{part_refused}
use Rattle.p3l_opts.proofs.words.build_with.Goals as goal

pub returns-in_err-capacity : goal.returns-in_err-capacity
returns-in_err-capacity c =
    let p = err_from_is_err_and c.from_residual.result c.from_residual.ensures.1 in
    rw (p.1, p.2) (part_refused (HasBuild c.args.range (rows_of (found_of c.args.matches.now)) (option_map (λ text. text.now) c.args.capacity)) (HasCount CAPACITY (option_map (λ text. text.now) c.args.capacity)) (λ build. build.capacity) (λ build has. has.capacity_is) _ c.in_err-capacity.ensures)

pub returns-in_err-priced : goal.returns-in_err-priced
returns-in_err-priced c =
    let p = err_from_is_err_and c.from_residual-in_err-priced.result c.from_residual-in_err-priced.ensures.1 in
    rw (p.1, p.2)
    (part_refused (HasBuild c.args.range (rows_of (found_of c.args.matches.now)) (option_map (λ text. text.now) c.args.capacity)) (λ (priced : Priced). HasPriced c.args.range (rows_of (found_of c.args.matches.now)) priced.program priced.processors priced.costs)
    (λ build. record { program = build.program; processors = build.processors; costs = build.costs }) (λ build has. has.priced) _ c.in_err-priced.ensures)
