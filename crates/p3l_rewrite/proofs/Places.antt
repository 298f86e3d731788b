-- The entries around `main`, with other entries put before them.
use Rattle.std.specs.Prelude.{List, ◌++◌}
use Rattle.p3l_ast.specs.Tree.{EntryTree}
use Rattle.p3l_rewrite.specs.Candidates.{Around}

abbrev pub after_all : List EntryTree → Around → Around
after_all front s = record { front = front ++ s.front; main = s.main; back = s.back }
