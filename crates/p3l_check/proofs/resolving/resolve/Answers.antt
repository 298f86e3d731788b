use Rattle.std.proofs.Common.{map}
use Rattle.p3l_ast.specs.Tree.{entry_tree}
use Rattle.p3l_check.specs.Entry.{checked_of}
use Rattle.p3l_check.proofs.Sound.{program-callables}
use Rattle.p3l_check.proofs.resolving.resolve.Goals as goal

pub whole-requires : goal.whole-requires
whole-requires c = program-callables (map entry_tree c.as_slice.result.now) (checked_of c.in-Ok.progress) c.in-Ok.ensures
