use Rattle.std.proofs.Common.{subst, sym, ap}
use Rattle.std.specs.declared.result.Result.TheVariants.{Ok, Err}
use Rattle.p3l_image.specs.declared.image.Image.{Image}
use Rattle.p3l_image.specs.Image.{CanBeWritten}
use Rattle.p3l_io.specs.Change.{change}
use Rattle.p3l_load.specs.Load.{IsRunnable}
use Rattle.p3l_program.specs.Migrate.{IsMigrated}
use Rattle.p3l_program.specs.Saved.{SaveCause}
use Rattle.p3l_program.specs.Stage.{migrate_stages}
use Rattle.p3l_program.proofs.CompileSteps.{file_expected, file_failed}
use Rattle.p3l_program.proofs.ImageSteps.{migrate_passes}
use Rattle.p3l_program.proofs.migrate.migrate.Goals as goal

pub encode-requires : goal.encode-requires
encode-requires g c =
    let m = c.in-Ok.ensures.migrated in
    subst (λ (image : Image). CanBeWritten image) (sym m.migrated_is)
    (c.every_migrated_image_can_be_written.ensures m.i m.bytes m.is (subst (λ (image : Image). IsRunnable image) m.migrated_is m.runs))

pub returns-in-Ok-save-clause-expected : goal.returns-in-Ok-save-clause-expected
returns-in-Ok-save-clause-expected g c =
    let m = c.in-Ok.ensures.migrated in
    let image = c.in-Ok.image in
    let observed = g.F.Files.observed in
    let end = observed c.save.new.files in
    let files = change (observed c.args.files.now) end in
    let bytes = c.in-Ok-encode.bytes in
    let same = ap (λ o. change o end) c.in-Ok.ensures.unchanged in
    let written = subst (λ b. SaveCause (change (observed c.migrate_image.new.files) end) c.args.output b (Ok tt)) c.as_slice.ensures c.in-Ok-save.ensures.saved.by in
    file_expected files (migrate_stages c.args.name) c.args.output (IsMigrated (observed c.args.files.now).content c.args.name) bytes (migrate_passes files c.args.name image m)
    (record { image = image; migrates = m; bytes_are = c.in-Ok-encode.ensures }) (subst (λ f. SaveCause f c.args.output bytes (Ok tt)) same written)

pub returns-clause-expected : goal.returns-clause-expected
returns-clause-expected g c =
    let m = c.in-Ok.ensures.migrated in
    let image = c.in-Ok.image in
    let observed = g.F.Files.observed in
    let end = observed c.save.new.files in
    let files = change (observed c.args.files.now) end in
    let bytes = c.in-Ok-encode.bytes in
    let v = c.in-Err-save.verdict in
    let same = ap (λ o. change o end) c.in-Ok.ensures.unchanged in
    let written = subst (λ b. SaveCause (change (observed c.migrate_image.new.files) end) c.args.output b (Err v)) c.as_slice.ensures c.in-Err-save.ensures.saved.by in
    file_failed files (migrate_stages c.args.name) c.args.output (IsMigrated (observed c.args.files.now).content c.args.name) bytes (migrate_passes files c.args.name image m)
    (record { image = image; migrates = m; bytes_are = c.in-Ok-encode.ensures }) v (subst (λ f. SaveCause f c.args.output bytes (Err v)) same written)
