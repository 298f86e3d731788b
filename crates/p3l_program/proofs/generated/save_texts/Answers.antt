use Rattle.std.proofs.Common.{[], ◌∷◌, ◌++◌, codes, subst}
use Rattle.std.proofs.lemmas.Result.{err_from_is_err_and}
use Rattle.std.specs.declared.result.Result.TheVariants.{Ok, Err}
use Rattle.p3l_io.specs.Change.{change}
use Rattle.p3l_program.specs.Saved.{HasSave}
use Rattle.p3l_program.proofs.SeriesSteps.{costs_separated, program_separated, saves_failed, saves_last, saves_then}
use Rattle.p3l_program.proofs.generated.save_texts.Goals as goal

pub returns-in_err-save_as-clause-saved : goal.returns-in_err-save_as-clause-saved
returns-in_err-save_as-clause-saved g c =
    let p = err_from_is_err_and c.from_residual.result c.from_residual.ensures.1 in
    let prefix = c.args.prefix.now in
    let texts = c.args.texts.now in
    let files = change (g.F.Files.observed c.args.files.now) (g.F.Files.observed c.save_as.new.files) in
    let v = c.in_err-save_as.field-0.0 in
    let unsaved = subst (λ b. HasSave files (prefix ++ codes ".p3l") b (Err v)) c.as_slice.ensures c.in_err-save_as.ensures.saved in
    rw (p.1, p.2) (saves_failed files (prefix ++ codes ".p3l") texts.program ((prefix ++ codes ".toml", texts.costs) ∷ ((prefix ++ codes ".txt", texts.stream) ∷ [])) v unsaved)

pub returns-in_err-save_as-2-clause-saved : goal.returns-in_err-save_as-2-clause-saved
returns-in_err-save_as-2-clause-saved g c =
    let p = err_from_is_err_and c.from_residual-in_err-save_as-2.result c.from_residual-in_err-save_as-2.ensures.1 in
    let prefix = c.args.prefix.now in
    let texts = c.args.texts.now in
    let observed = g.F.Files.observed in
    let old = observed c.args.files.now in
    let mid = observed c.save_as.new.files in
    let end = observed c.save_as-2.new.files in
    let v = c.in_err-save_as-2.field-0.0 in
    let first = subst (λ b. HasSave (change old mid) (prefix ++ codes ".p3l") b (Ok tt)) c.as_slice.ensures c.in_ok-save_as.ensures.saved in
    let unsaved = subst (λ b. HasSave (change mid end) (prefix ++ codes ".toml") b (Err v)) c.as_slice-2.ensures c.in_err-save_as-2.ensures.saved in
    let more = saves_failed (change mid end) (prefix ++ codes ".toml") texts.costs ((prefix ++ codes ".txt", texts.stream) ∷ []) v unsaved in
    rw (p.1, p.2) (saves_then old mid end (prefix ++ codes ".p3l") texts.program
    ((prefix ++ codes ".toml", texts.costs) ∷ ((prefix ++ codes ".txt", texts.stream) ∷ [])) (program_separated prefix) first (Err v) more)

pub returns-clause-saved : goal.returns-clause-saved
returns-clause-saved g c =
    let prefix = c.args.prefix.now in
    let texts = c.args.texts.now in
    let observed = g.F.Files.observed in
    let old = observed c.args.files.now in
    let mid = observed c.save_as.new.files in
    let late = observed c.save_as-2.new.files in
    let end = observed c.save_as-3.new.files in
    let result = c.save_as-3.result in
    let first = subst (λ b. HasSave (change old mid) (prefix ++ codes ".p3l") b (Ok tt)) c.as_slice.ensures c.in_ok-save_as.ensures.saved in
    let second = subst (λ b. HasSave (change mid late) (prefix ++ codes ".toml") b (Ok tt)) c.as_slice-2.ensures c.in_ok-save_as-2.ensures.saved in
    let third = subst (λ b. HasSave (change late end) (prefix ++ codes ".txt") b result) c.as_slice-3.ensures c.save_as-3.ensures.saved in
    let last = saves_last (change late end) (prefix ++ codes ".txt") texts.stream result third in
    let more = saves_then mid late end (prefix ++ codes ".toml") texts.costs ((prefix ++ codes ".txt", texts.stream) ∷ []) (costs_separated prefix) second result last in
    saves_then old mid end (prefix ++ codes ".p3l") texts.program
    ((prefix ++ codes ".toml", texts.costs) ∷ ((prefix ++ codes ".txt", texts.stream) ∷ [])) (program_separated prefix) first result more
