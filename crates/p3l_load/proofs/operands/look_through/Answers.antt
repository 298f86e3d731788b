use Rattle.std.proofs.Common.{pos, subst, arith}
use Rattle.std.specs.List.{All}
use Rattle.p3l_code.specs.declared.instr.Instr.TheVariants.{Push}
use Rattle.p3l_load.specs.Written.{HasOperands}
use Rattle.p3l_load.proofs.Seen.{all_seen, one_more}
use Rattle.p3l_load.proofs.operands.look_through.Goals as goal

pub loop-instr-preserved : goal.loop-instr-preserved
loop-instr-preserved c =
    let inv = c.loop-instr.invariant in
    record {
      same = inv.same;
      seen = one_more HasOperands c.as_slice-instr-items.result.now c.loop-instr.instr-index (Push (pos 0)) c.loop-instr-test.true inv.seen c.look_at.ensures;
    }

pub returns : goal.returns
returns c =
    let inv = c.loop-instr.invariant in
    subst (All HasOperands) inv.same (all_seen HasOperands c.as_slice-instr-items.result.now c.loop-instr.instr-index (omega (arith, c.loop-instr-test.false)) inv.seen)
