use Rattle.std.proofs.Common.{◌≡◌, ◌≤◌, length, refl, subst, arith}
use Rattle.p3l_ast.specs.Tree.{program_tree}
use Rattle.p3l_print.specs.Program.{canonical}
use Rattle.p3l_language_tests.proofs.printing.is_read_again.Goals as goal

pub read_printed-requires-clause-spelled : goal.read_printed-requires-clause-spelled
read_printed-requires-clause-spelled c = record {
  text = c.args.text.now;
  is_text = record { placed = program_tree c.in_ok-program.program; spells = c.in_ok-program.ensures.found; same = refl };
}

pub read_printed-requires-clause-short : goal.read_printed-requires-clause-short
read_printed-requires-clause-short c =
    subst (λ t. length t ≤ 1048576) c.in_ok-canonical.ensures.canonical (omega arith)
