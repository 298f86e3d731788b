use Rattle.std.proofs.Common.{Result, Ok, Err, IfOk}
use Rattle.std.proofs.lemmas.Result.{IfOk-weaker}
use Rattle.p3l_ast.specs.Tree.{program_tree}
use Rattle.p3l_base.specs.Memory.{IfGiven}
use Rattle.p3l_program.specs.Rewrite.{IsBestText}
use Rattle.p3l_program.proofs.rewrite.best_text.Goals as goal

both : {T E : Type 0} (r : Result T E) (P Q : T → Type 0) → IfGiven r P → IfOk r Q → IfOk r (λ x. P x × Q x)
both (Ok x) P Q p q = (p, q)
both (Err e) P Q p q = tt

pub returns-clause-best : goal.returns-clause-best
returns-clause-best c =
    let best = c.in_ok-best.best in
    IfOk-weaker c.print.result _ (IsBestText (program_tree c.args.priced.now.program) c.args.priced.now.costs c.args.processors)
    (λ text is. record { other = program_tree best.program; time = best.service; is = c.in_ok-best.ensures; text_is = is.0; spells = is.1 })
    (both c.print.result _ _ c.print.ensures.canonical c.print.ensures.spells)
