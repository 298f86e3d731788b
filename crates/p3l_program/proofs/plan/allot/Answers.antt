use Rattle.std.proofs.Common.{subst, ap}
use Rattle.std.proofs.lemmas.Result.{err_from_is_err_and}
use Rattle.p3l_io.specs.Change.{change}
use Rattle.p3l_program.specs.Load.{IsUnchosen}
use Rattle.p3l_program.proofs.LoadSteps.{unchosen}
use Rattle.p3l_program.proofs.plan.allot.Goals as goal

pub returns-in_err-chosen-clause-refused : goal.returns-in_err-chosen-clause-refused
returns-in_err-chosen-clause-refused g c =
    let p = err_from_is_err_and c.from_residual-in_err-chosen.result c.from_residual-in_err-chosen.ensures.1 in
    let v = c.in_err-chosen.field-0.0 in
    let loaded = c.in_ok-program.ensures.loaded in
    let observed = g.F.Files.observed in
    let end = observed c.choose_counts.new.files in
    let same = ap (λ o. change o end) c.in_ok-program.ensures.unchanged in
    rw (p.1, p.2)
    (unchosen (change (observed c.args.files.now) end) c.args.build loaded.r c.in_ok-program.program loaded.is.text loaded.is.has loaded.is.comes v
    (subst (λ files. IsUnchosen files c.args.build.costs c.in_ok-program.program.tree c.args.build.processors v) same c.in_err-chosen.ensures.refused))
