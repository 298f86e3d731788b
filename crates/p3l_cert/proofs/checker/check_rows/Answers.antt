use Rattle.std.proofs.Common.{arith}
use Rattle.std.proofs.lemmas.Result.{err_from_is_err_and}
use Rattle.p3l_cert.proofs.Faults.{rows_stop, rows_more, rows_done}
use Rattle.p3l_cert.proofs.checker.check_rows.Goals as goal

pub returns-in_err-check_row : goal.returns-in_err-check_row
returns-in_err-check_row c =
    let p = err_from_is_err_and c.from_residual.result c.from_residual.ensures.1 in
    rw (p.1, p.2) (rows_stop c.args.tree.now c.args.costs.now c.args.rows.now c.in_err-check_row.field-0.0 c.loop-number.number _ (omega arith) c.in_err-check_row.ensures c.loop-number.invariant)

pub loop-number-preserved : goal.loop-number-preserved
loop-number-preserved c = rows_more c.args.tree.now c.args.costs.now c.args.rows.now c.loop-number.number _ (omega arith) c.in_ok-check_row.ensures c.loop-number.invariant

pub returns : goal.returns
returns c = rows_done c.args.tree.now c.args.costs.now c.args.rows.now c.loop-number.number (omega arith) c.loop-number.invariant
