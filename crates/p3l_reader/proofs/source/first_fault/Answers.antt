use Rattle.std.proofs.Common.{arith}
use Rattle.p3l_reader.proofs.FirstFault.{last_is, early_is, stop_viable, left_small}
use Rattle.p3l_reader.proofs.source.first_fault.Goals as goal

pub returns-then-left-eq0 : goal.returns-then-left-eq0
returns-then-left-eq0 c =
    let h = rw c.in-Expected.is at c.requires.fault in
    rw c.too_nested.ensures
    (last_is c.args.tokens.now c.args.before.now c.args.last.now c.args.end c.requires.whole c.requires.within c.requires.past
    (stop_viable c.args.tokens.now c.in-Expected.left h c.if-left-eq0.true))

pub returns-else-left-eq0 : goal.returns-else-left-eq0
returns-else-left-eq0 c =
    let h = rw c.in-Expected.is at c.requires.fault in
    rw (c.wrong_at.ensures, c.last_tokens.ensures)
    (early_is c.args.tokens.now c.args.before.now c.args.last.now c.in-Expected.left c.args.end c.requires.whole c.requires.within h (omega (arith, c.if-left-eq0.false)))

pub last_tokens-requires : goal.last_tokens-requires
last_tokens-requires c =
    left_small c.args.tokens.now c.in-Expected.left (rw c.in-Expected.is at c.requires.fault)
