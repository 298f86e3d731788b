use Rattle.std.proofs.Common.{map, sym, subst}
use Rattle.std.specs.List.{AllByRecursion}
use Rattle.p3l_ast.specs.Tree.{program_tree}
use Rattle.p3l_body.specs.Seq.{seq_tree}
use Rattle.p3l_compile.specs.Condition.{IsCompilable}
use Rattle.p3l_compile.specs.Leaves.{AreCodes}
use Rattle.p3l_compile.proofs.Leaves.{have_codes}
use Rattle.p3l_code_tests.proofs.profiles.program_profile.Goals as goal

pub codes_of-requires : goal.codes_of-requires
codes_of-requires c =
    let resolved = c.in-Ok.resolved in
    let bodies = c.resolved_serve.ensures c.args.text.now (program_tree c.args.program.now) (record { tree = resolved.tree; seqs = map seq_tree resolved.seqs }) c.requires c.in-Ok.ensures.resolved c.in-Ok.ensures.lawful in
    subst (λ seqs. AllByRecursion IsCompilable (map seq_tree seqs)) (sym c.as_slice.ensures) bodies.compilable

pub tree_profile-requires-clause-codes : goal.tree_profile-requires-clause-codes
tree_profile-requires-clause-codes c =
    let resolved = c.in-Ok.resolved in
    let bodies = c.resolved_serve.ensures c.args.text.now (program_tree c.args.program.now) (record { tree = resolved.tree; seqs = map seq_tree resolved.seqs }) c.requires c.in-Ok.ensures.resolved c.in-Ok.ensures.lawful in
    have_codes resolved.tree (map seq_tree resolved.seqs) c.in_ok-codes.codes bodies
    (subst (λ seqs. AreCodes (map seq_tree seqs) c.in_ok-codes.codes) c.as_slice.ensures c.in_ok-codes.ensures)
