use Rattle.p3l_grammar.specs.Parser.{any_word, call_from}
use Rattle.p3l_reader.proofs.Tokens.{on_error, then_fails}
use Rattle.p3l_reader.proofs.call.call.Goals as goal

pub returns-clause-err : goal.returns-clause-err
returns-clause-err c =
    on_error c.call_of.result _ _ (λ e h. then_fails any_word call_from c.args.tokens.now c.in_ok-at.rest.now c.in_ok-at.at e c.in_ok-at.ensures.ok h) c.call_of.ensures.err
