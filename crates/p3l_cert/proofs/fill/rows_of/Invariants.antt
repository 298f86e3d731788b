use Rattle.p3l_cert.proofs.Made.{IsMade}
use Rattle.p3l_cert.proofs.fill.rows_of.Given as goal

abbrev pub invariant-loop-key : goal.invariant-loop-key
invariant-loop-key l = IsMade l.keys l.key-index l.rows.items
