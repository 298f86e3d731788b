use Rattle.std.proofs.Common.{arith, ap, length}
use Rattle.p3l_ast.specs.Tree.{statements}
use Rattle.p3l_compile.proofs.Bounds.{statement_bound}
use Rattle.p3l_compile.proofs.body.instrs_of.Goals as goal

pub emit_stmts-requires : goal.emit_stmts-requires
emit_stmts-requires c =
    omega (arith, ap length c.new-instrs.ensures.items, statement_bound (statements c.args.seq.now.body.now), c.requires.few)
