use Rattle.std.proofs.Common.{◌≡◌, [], length, map}
use Rattle.p3l_ast.specs.Tree.{entry_tree}
use Rattle.p3l_grammar.specs.Parser.{entries, all}
use Rattle.p3l_reader.proofs.program.text.Given as goal

abbrev pub invariant-loop-rest : goal.invariant-loop-rest
invariant-loop-rest l = all (entries []) l.tokens ≡ all (entries (map entry_tree l.list)) l.rest

abbrev pub decreases-loop-rest : goal.decreases-loop-rest
decreases-loop-rest l = length l.rest
