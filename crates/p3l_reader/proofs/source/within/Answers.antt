use Rattle.p3l_grammar.proofs.Exact.{all_of_derives, derives_of_all}
use Rattle.p3l_reader.proofs.FirstFault.{stop_fault, left_small}
use Rattle.p3l_reader.proofs.source.within.Goals as goal

pub returns-in-Ok-clause-found : goal.returns-in-Ok-clause-found
returns-in-Ok-clause-found c = derives_of_all c.args.tokens.now _ c.in-Ok.ensures.ok

pub returns-in-Ok-clause-only : goal.returns-in-Ok-clause-only
returns-in-Ok-clause-only c = λ es d.
    let a = all_of_derives c.args.tokens.now es d in let b = c.in-Ok.ensures.ok in cc

pub returns-in-Err-Expected-clause-only : goal.returns-in-Err-Expected-clause-only
returns-in-Err-Expected-clause-only c = λ es d.
    absurd (let a = all_of_derives c.args.tokens.now es d in let b = rw c.in-Err-Expected.field-0-is at c.in-Err-Expected.ensures.err in cc)

pub returns-in-Err-Expected-clause-first : goal.returns-in-Err-Expected-clause-first
returns-in-Err-Expected-clause-first c =
    let h = rw c.in-Err-Expected.field-0-is at c.in-Err-Expected.ensures.err in
    rw (c.wrong_at.ensures, c.last_tokens.ensures) (stop_fault c.args.tokens.now c.in-Err-Expected.left c.args.end h c.requires)

pub last_tokens-requires : goal.last_tokens-requires
last_tokens-requires c =
    left_small c.args.tokens.now c.in-Err-Expected.left (rw c.in-Err-Expected.field-0-is at c.in-Err-Expected.ensures.err)
