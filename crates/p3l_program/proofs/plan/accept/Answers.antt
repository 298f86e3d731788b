use Rattle.std.proofs.Common.{refl, subst, sym}
use Rattle.std.proofs.lemmas.Result.{err_from_is_err_and}
use Rattle.std.specs.List.{AllByRecursion}
use Rattle.std.specs.Prelude.{map}
use Rattle.p3l_body.specs.Seq.{seq_tree}
use Rattle.p3l_compile.specs.Condition.{IsCompilable}
use Rattle.p3l_compile.specs.Leaves.{AreCodes}
use Rattle.p3l_program.proofs.AcceptSteps.{bodies, kept, not_read, not_resolved}
use Rattle.p3l_program.proofs.plan.accept.Goals as goal

pub returns-in_err-program-clause-refused : goal.returns-in_err-program-clause-refused
returns-in_err-program-clause-refused c =
    let p = err_from_is_err_and c.from_residual.result c.from_residual.ensures.1 in
    rw (p.1, p.2) (not_read c.args.text.now _ c.requires (c.in_err-program.ensures.only c.requires) c.in_err-program.ensures.first)

pub returns-in_err-resolved-clause-refused : goal.returns-in_err-resolved-clause-refused
returns-in_err-resolved-clause-refused c =
    let p = err_from_is_err_and c.from_residual-in_err-resolved.result c.from_residual-in_err-resolved.ensures.1 in
    rw (p.1, p.2) (not_resolved c.args.text.now _ c.in_ok-program.ensures.found (c.in_ok-program.ensures.only c.requires) _ c.requires c.in_err-resolved.ensures.resolved)

pub codes_of-requires : goal.codes_of-requires
codes_of-requires c =
    let served = bodies c.args.text.now _ c.in_ok-program.ensures.found (c.in_ok-program.ensures.only c.requires) c.resolved_serve.ensures _ c.requires c.in_ok-resolved.ensures.resolved c.in_ok-resolved.ensures.lawful in
    subst (λ seqs. AllByRecursion IsCompilable (map seq_tree seqs)) (sym c.as_slice.ensures) served.compilable

pub returns-clause-accepted : goal.returns-clause-accepted
returns-clause-accepted c =
    let served = bodies c.args.text.now _ c.in_ok-program.ensures.found (c.in_ok-program.ensures.only c.requires) c.resolved_serve.ensures _ c.requires c.in_ok-resolved.ensures.resolved c.in_ok-resolved.ensures.lawful in
    kept c.args.text.now _ c.in_ok-program.ensures.found (c.in_ok-program.ensures.only c.requires) _ _ c.in_ok-resolved.ensures.resolved refl c.in_ok-resolved.ensures.lawful served
    (subst (λ seqs. AreCodes (map seq_tree seqs) c.in_ok-codes.codes) c.as_slice.ensures c.in_ok-codes.ensures)
