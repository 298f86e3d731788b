use Rattle.std.proofs.Common.{map, sym, subst}
use Rattle.p3l_ast.specs.Tree.{program_tree}
use Rattle.p3l_body.specs.Seq.{seq_tree}
use Rattle.p3l_compile.specs.Leaves.{AreBodies}
use Rattle.p3l_code_tests.proofs.units.program_outcome.Goals as goal

pub units_of-requires-clause-bodies : goal.units_of-requires-clause-bodies
units_of-requires-clause-bodies c =
    let resolved = c.in-Ok.resolved in
    subst (λ seqs. AreBodies resolved.tree (map seq_tree seqs)) (sym c.as_slice.ensures)
    (c.resolved_serve.ensures c.args.text.now (program_tree c.args.program.now) (record { tree = resolved.tree; seqs = map seq_tree resolved.seqs }) c.requires c.in-Ok.ensures.resolved c.in-Ok.ensures.lawful)
