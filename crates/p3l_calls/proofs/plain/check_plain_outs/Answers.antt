use Rattle.std.proofs.Common.{sym, ◌∙◌, arith}
use Rattle.p3l_calls.specs.Plain.{plain_out_rule}
use Rattle.p3l_calls.proofs.Orders.{in_order-kept}
use Rattle.p3l_calls.proofs.plain.check_plain_outs.Goals as goal

pub loop-k-preserved : goal.loop-k-preserved
loop-k-preserved c =
    sym (in_order-kept plain_out_rule c.args.call.now.at.pos c.args.vars.now c.as_slice-ports.result.now c.as_slice-outs.result.now
    c.loop-k.k c.index-outs-k.result c.in_ok-check_plain_out.field-0 (omega arith) c.index-outs-k.is (sym c.in_ok-check_plain_out.ensures))
    ∙ c.loop-k.invariant
