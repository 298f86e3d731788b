use Rattle.p3l_reader.proofs.Tokens.{on_error, end_missing}
use Rattle.p3l_reader.proofs.module.module_end.Goals as goal

pub returns-clause-err : goal.returns-clause-err
returns-clause-err c =
    let missing = rw c.mark_of_kind.ensures at c.expect-2.ensures.err in
    on_error c.expect-2.result _ _ (λ e h. end_missing c.args.kind c.args.tokens.now c.in_ok-rest.rest.now e c.in_ok-rest.ensures.ok h) missing
