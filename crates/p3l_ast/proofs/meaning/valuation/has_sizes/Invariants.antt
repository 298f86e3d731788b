use Rattle.std.proofs.Common.{take}
use Rattle.std.specs.List.{All}
use Rattle.p3l_ast.specs.Meaning.Valuation.{sizes_of}
use Rattle.p3l_ast.proofs.Sizes.{AreSizes}
use Rattle.p3l_ast.proofs.meaning.valuation.has_sizes.Given as goal

-- the names so far have such sizes
abbrev pub invariant-loop-binding : goal.invariant-loop-binding
invariant-loop-binding l = All (λ binding. AreSizes (sizes_of l.valuation binding.name)) (take l.binding-index l.binding-items)
