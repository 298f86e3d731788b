use Rattle.p3l_ast.specs.Tree.{program_tree}
use Rattle.p3l_text_laws.proofs.Rereading.{rereads}
use Rattle.p3l_text_laws.proofs.read_printed.Goals as goal

pub returns-clause-same : goal.returns-clause-same
returns-clause-same c =
    (rereads (program_tree c.args.program.now) c.requires.spelled.text c.in_ok-text.text c.as_slice.result.now c.read.result c.requires.spelled.is_text c.requires.short
    c.in_ok-text.ensures.canonical c.in_ok-text.ensures.spells c.as_slice.ensures c.read.ensures.only).0

pub returns-clause-refused : goal.returns-clause-refused
returns-clause-refused c =
    (rereads (program_tree c.args.program.now) c.requires.spelled.text c.in_ok-text.text c.as_slice.result.now c.read.result c.requires.spelled.is_text c.requires.short
    c.in_ok-text.ensures.canonical c.in_ok-text.ensures.spells c.as_slice.ensures c.read.ensures.only).1
