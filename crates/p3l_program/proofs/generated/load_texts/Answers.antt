use Rattle.std.proofs.Common.{subst, sym}
use Rattle.p3l_alloc.specs.Chosen.{IsRefused}
use Rattle.p3l_program.specs.Generated.{AreNotLoaded}
use Rattle.p3l_program.proofs.GenSteps.{costs_refused, texts_too_few}
use Rattle.p3l_program.proofs.generated.load_texts.Goals as goal

pub returns-in-Err-clause-refused : goal.returns-in-Err-clause-refused
returns-in-Err-clause-refused c =
    let accepted = c.in-Ok.ensures.accepted in
    let text = c.args.program.now in
    let said = c.args.costs.now in
    subst (λ v. AreNotLoaded text said c.args.processors v) (sym c.from.ensures)
    (costs_refused text said c.args.processors accepted.r c.in-Ok.program accepted.comes c.in-Err.refusal c.in-Err.ensures.read)

pub returns-in-Err-TooFew-clause-refused : goal.returns-in-Err-TooFew-clause-refused
returns-in-Err-TooFew-clause-refused c =
    let accepted = c.in-Ok.ensures.accepted in
    let few = c.in-Err-TooFew in
    let short = subst (λ refusal. IsRefused c.in-Ok.program.tree c.args.processors refusal) few.field-0-is few.ensures.refused in
    texts_too_few c.args.program.now c.args.costs.now c.args.processors accepted.r c.in-Ok.program accepted.comes c.in-Ok-read_costs.costs c.in-Ok-read_costs.ensures.read few.need short
