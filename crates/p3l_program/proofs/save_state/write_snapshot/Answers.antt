use Rattle.std.proofs.Common.{refl, subst, ◌∙◌}
use Rattle.std.specs.declared.result.Result.TheVariants.{Ok}
use Rattle.p3l_io.specs.Change.{change}
use Rattle.p3l_program.specs.Saved.{HasSave}
use Rattle.p3l_program.specs.SaveState.{snapshot}
use Rattle.p3l_program.proofs.save_state.write_snapshot.Goals as goal

pub shot_text-requires : goal.shot_text-requires
shot_text-requires g c =
    let f = c.requires.fits in
    c.what_fits_can_be_written.ensures f.tree f.counts f.capacity (snapshot c.args.checkpoint.shot c.args.image) f.typed f.fit f.small f.fits c.have_ranges.ensures c.requires.few

pub returns-in-Ok-save-clause-written : goal.returns-in-Ok-save-clause-written
returns-in-Ok-save-clause-written g c =
    let f = c.requires.fits in
    let files = change (g.F.Files.observed c.args.files.now) (g.F.Files.observed c.save.new.files) in
    let fits = c.what_fits_can_be_written.ensures f.tree f.counts f.capacity (snapshot c.args.checkpoint.shot c.args.image) f.typed f.fit f.small f.fits c.have_ranges.ensures c.requires.few in
    let written = subst (λ b. HasSave files c.args.name.now b (Ok tt)) (c.as_slice.ensures ∙ c.in-Ok.ensures) c.in-Ok-save.ensures.saved in
    (refl, refl, fits, written)
