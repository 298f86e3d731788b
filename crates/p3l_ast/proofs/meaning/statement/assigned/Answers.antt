use Rattle.std.proofs.Common.{subst, sym}
use Rattle.p3l_ast.specs.declared.meaning.valuation.Valuation.{Valuation}
use Rattle.p3l_ast.specs.Meaning.Valuation.{HasSizes}
use Rattle.p3l_ast.proofs.Sizes.{with_word-sizes}
use Rattle.p3l_ast.proofs.meaning.statement.assigned.Goals as goal

pub returns-clause-sizes : goal.returns-clause-sizes
returns-clause-sizes c =
    subst (λ (s : Valuation). HasSizes s) (sym c.in_ok-with_word.ensures) (with_word-sizes _ _ _ _ c.requires)
