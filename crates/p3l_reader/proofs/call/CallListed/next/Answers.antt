use Rattle.p3l_grammar.specs.Parser.{another_call}
use Rattle.p3l_reader.specs.Reading.{Misses}
use Rattle.p3l_reader.proofs.Tokens.{on_residual}
use Rattle.p3l_reader.proofs.Bodies.{call_adds, call_misses}
use Rattle.p3l_reader.proofs.call.CallListed.next.Goals as goal

pub returns-in_ok-call_of-in-Some-clause-some : goal.returns-in_ok-call_of-in-Some-clause-some
returns-in_ok-call_of-in-Some-clause-some c =
    let b = rw c.in-Some.is at c.in_ok-at.ensures.some in
    call_adds _ _ _ c.in-Some.at _ b c.in_ok-call_of-in-Some.ensures.ok

pub returns-in_err-call_of-in-Some-clause-err : goal.returns-in_err-call_of-in-Some-clause-err
returns-in_err-call_of-in-Some-clause-err c =
    let b = rw c.in-Some.is at c.in_ok-at.ensures.some in
    on_residual _ c.in_err-call_of-in-Some.field-0.0 (Misses another_call c.args.tokens.now) c.from_residual-in_err-call_of-in-Some.ensures.1
    (call_misses c.args.tokens.now c.in-Some.rest.now c.in-Some.at _ b c.in_err-call_of-in-Some.ensures.err)
