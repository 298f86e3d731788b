-- The ways to write a program, in their order.
use Rattle.std.specs.Prelude.{List, ◌++◌, option_map}
use Rattle.p3l_ast.specs.Tree.{ProgramTree, program_tree}
use Rattle.p3l_rewrite.specs.declared.candidate.Ways.{Ways}
use Rattle.p3l_rewrite.specs.Rewriting.{listed}

abbrev pub ways_list : Ways → List ProgramTree
ways_list ways = listed (option_map program_tree ways.farmed) ++ listed (option_map program_tree ways.fused)
