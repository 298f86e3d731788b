use Rattle.p3l_ast.proofs.Turns.{loop_unrolls}
use Rattle.p3l_ast.proofs.meaning.statement.loops_unroll.Goals as goal

pub returns : goal.returns
returns c = loop_unrolls
