use Rattle.std.proofs.Common.{◌∙◌, false}
use Rattle.p3l_reader.proofs.Rescues.{plain_fails, plain_rescue}
use Rattle.p3l_reader.proofs.Tokens.{on_residual}
use Rattle.p3l_grammar.specs.Parser.{any_rescue}
use Rattle.p3l_reader.specs.Reading.{Fails}
use Rattle.p3l_reader.proofs.module.rescue_number.Goals as goal

pub returns-in_err-num-in-None-clause-err : goal.returns-in_err-num-in-None-clause-err
returns-in_err-num-in-None-clause-err c =
    let tokens = c.args.tokens.now in
    on_residual c.from_residual-in_err-num-in-None.result c.in_err-num-in-None.field-0.0 (λ e. Fails any_rescue tokens e) c.from_residual-in_err-num-in-None.ensures.1
    (plain_fails tokens c.in_err-num-in-None.field-0.0 c.in-None.ensures.none c.in_err-num-in-None.ensures.err)

pub returns-in_ok-num-in-None-clause-ok : goal.returns-in_ok-num-in-None-clause-ok
returns-in_ok-num-in-None-clause-ok c = record {
  goes = λ go. plain_rescue c.args.tokens.now c.in-None.ensures.none go ∙ c.in_ok-num-in-None.ensures.ok.goes (λ n. go (record { minus = false; num = n }));
}
