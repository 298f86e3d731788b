use Rattle.std.proofs.Common.{◌≡◌, map, take}
use Rattle.p3l_ast.specs.Meaning.Valuation.{rebound}
use Rattle.p3l_ast.proofs.meaning.valuation.with_word.Given as goal

-- the bindings so far
abbrev pub invariant-loop-binding : goal.invariant-loop-binding
invariant-loop-binding l = l.bindings ≡ map (rebound l.name l.place l.word) (take l.binding-index l.binding-items)
