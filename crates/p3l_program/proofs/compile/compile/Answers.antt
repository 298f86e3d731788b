use Rattle.std.proofs.Common.{subst, ap}
use Rattle.std.specs.declared.result.Result.TheVariants.{Ok, Err}
use Rattle.p3l_io.specs.Change.{change}
use Rattle.p3l_load.specs.Compiled.{IsImageText, image_of}
use Rattle.p3l_program.specs.Compile.{IsImageOf}
use Rattle.p3l_program.specs.Saved.{SaveCause}
use Rattle.p3l_program.specs.Stage.{build_stages}
use Rattle.p3l_program.proofs.CompileSteps.{file_expected, file_failed, imaged}
use Rattle.p3l_program.proofs.LoadSteps.{loaded_passes}
use Rattle.p3l_program.proofs.compile.compile.Goals as goal

pub returns-in-Ok-save-clause-expected : goal.returns-in-Ok-save-clause-expected
returns-in-Ok-save-clause-expected g c =
    let loads = c.in-Ok.ensures.loaded in
    let loaded = c.in-Ok.loaded in
    let observed = g.F.Files.observed in
    let end = observed c.save.new.files in
    let files = change (observed c.args.files.now) end in
    let bytes = c.in-Ok-image_text.image in
    let same = ap (λ o. change o end) c.in-Ok.ensures.unchanged in
    let text = subst (λ codes. IsImageText (image_of loaded.program.tree loaded.choice.counts.list codes c.args.build.capacity) bytes) c.as_slice.ensures c.in-Ok-image_text.ensures in
    let written = subst (λ b. SaveCause (change (observed c.allot.new.files) end) c.args.name b (Ok tt)) c.as_slice-2.ensures c.in-Ok-save.ensures.saved.by in
    file_expected files (build_stages c.args.build) c.args.name (IsImageOf (observed c.args.files.now).content c.args.build) bytes (loaded_passes c.args.build loads.r loaded files loads.is)
    (imaged (observed c.args.files.now).content c.args.build loads.r loaded loads.is bytes text) (subst (λ f. SaveCause f c.args.name bytes (Ok tt)) same written)

pub returns-clause-expected : goal.returns-clause-expected
returns-clause-expected g c =
    let loads = c.in-Ok.ensures.loaded in
    let loaded = c.in-Ok.loaded in
    let observed = g.F.Files.observed in
    let end = observed c.save.new.files in
    let files = change (observed c.args.files.now) end in
    let bytes = c.in-Ok-image_text.image in
    let v = c.in-Err-save.verdict in
    let same = ap (λ o. change o end) c.in-Ok.ensures.unchanged in
    let text = subst (λ codes. IsImageText (image_of loaded.program.tree loaded.choice.counts.list codes c.args.build.capacity) bytes) c.as_slice.ensures c.in-Ok-image_text.ensures in
    let written = subst (λ b. SaveCause (change (observed c.allot.new.files) end) c.args.name b (Err v)) c.as_slice-2.ensures c.in-Err-save.ensures.saved.by in
    file_failed files (build_stages c.args.build) c.args.name (IsImageOf (observed c.args.files.now).content c.args.build) bytes (loaded_passes c.args.build loads.r loaded files loads.is)
    (imaged (observed c.args.files.now).content c.args.build loads.r loaded loads.is bytes text) v (subst (λ f. SaveCause f c.args.name bytes (Err v)) same written)
