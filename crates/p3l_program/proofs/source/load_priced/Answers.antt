use Rattle.std.proofs.Common.{subst, ap}
use Rattle.std.proofs.lemmas.Result.{err_from_is_err_and}
use Rattle.p3l_io.specs.Change.{change}
use Rattle.p3l_program.specs.Load.{IsUnchosen, LoadsCosts}
use Rattle.p3l_program.proofs.SourceSteps.{source_priced}
use Rattle.p3l_program.proofs.TreeSteps.{unchosen}
use Rattle.p3l_program.proofs.source.load_priced.Goals as goal

pub returns-in_err-chosen-clause-refused : goal.returns-in_err-chosen-clause-refused
returns-in_err-chosen-clause-refused g c =
    let p = err_from_is_err_and c.from_residual-in_err-chosen.result c.from_residual-in_err-chosen.ensures.1 in
    let v = c.in_err-chosen.field-0.0 in
    let loaded = c.in_ok-source.ensures.loaded in
    let observed = g.F.Files.observed in
    let end = observed c.choose_counts.new.files in
    let same = ap (λ o. change o end) c.in_ok-source.ensures.unchanged in
    rw (p.1, p.2)
    (unchosen (change (observed c.args.files.now) end) c.args.build loaded.is.r c.in_ok-source.source.tree loaded.text loaded.has loaded.is.comes v
    (subst (λ files. IsUnchosen files c.args.build.costs c.in_ok-source.source.tree c.args.build.processors v) same c.in_err-chosen.ensures.refused))

pub returns-clause-loaded : goal.returns-clause-loaded
returns-clause-loaded g c =
    let loaded = c.in_ok-source.ensures.loaded in
    let chosen = c.in_ok-chosen.chosen in
    let costs = subst (λ files. LoadsCosts files c.args.build.costs c.in_ok-source.source.tree chosen.costs) c.load_source.ensures.same_files c.in_ok-chosen.ensures.costs in
    source_priced (g.F.Files.observed c.args.files.now).content c.args.build c.in_ok-source.source chosen.costs chosen.choice.counts loaded costs c.in_ok-chosen.ensures.chosen
