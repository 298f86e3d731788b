use Rattle.std.proofs.lemmas.Result.{err_from_is_err_and}
use Rattle.p3l_program.proofs.AcceptSteps.{not_read, not_resolved}
use Rattle.p3l_program.proofs.SourceSteps.{source_kept}
use Rattle.p3l_program.proofs.source.source_of.Goals as goal

pub returns-in_err-program-clause-refused : goal.returns-in_err-program-clause-refused
returns-in_err-program-clause-refused c =
    let p = err_from_is_err_and c.from_residual.result c.from_residual.ensures.1 in
    rw (p.1, p.2) (not_read c.args.text.now _ c.requires (c.in_err-program.ensures.only c.requires) c.in_err-program.ensures.first)

pub returns-in_err-tree-clause-refused : goal.returns-in_err-tree-clause-refused
returns-in_err-tree-clause-refused c =
    let p = err_from_is_err_and c.from_residual-in_err-tree.result c.from_residual-in_err-tree.ensures.1 in
    rw (p.1, p.2) (not_resolved c.args.text.now _ c.in_ok-program.ensures.found (c.in_ok-program.ensures.only c.requires) _ c.requires c.in_err-tree.ensures.broken)

pub returns-clause-kept : goal.returns-clause-kept
returns-clause-kept c = source_kept c.args.text.now (record { program = c.in_ok-program.program; tree = c.in_ok-tree.tree }) c.in_ok-program.ensures.found (c.in_ok-program.ensures.only c.requires) c.in_ok-tree.ensures.kept
