use Rattle.std.proofs.Common.{sym, ap, ◌∙◌, subst}
use Rattle.p3l_image.specs.declared.image.Image.{Image}
use Rattle.p3l_image.specs.Image.{CanBeWritten, image_text}
use Rattle.p3l_program.proofs.ImagedSteps.{made_so}
use Rattle.p3l_program.proofs.imaged.write_image.Goals as goal

pub encode-requires : goal.encode-requires
encode-requires c =
    let same = c.in_ok-image.ensures.image in
    let whole =
    made_so c.every_module_has_a_name.ensures c.every_compiled_image_can_be_run.ensures c.every_runnable_image_can_be_written.ensures
    c.args.tree c.args.codes.now c.args.counts.list c.args.capacity c.requires.program c.in_ok-image.image same c.in_ok-image.ensures.safe
    c.as_slice.result.now c.as_slice.ensures c.have_rescues.ensures c.as_slice-2.result.now c.as_slice-2.ensures c.have_operands.ensures
    c.requires.counted c.requires.procs c.requires.some c.requires.few in
    subst CanBeWritten (sym same) whole.fits

pub returns-clause-text : goal.returns-clause-text
returns-clause-text c =
    let same = c.in_ok-image.ensures.image in
    let whole =
    made_so c.every_module_has_a_name.ensures c.every_compiled_image_can_be_run.ensures c.every_runnable_image_can_be_written.ensures
    c.args.tree c.args.codes.now c.args.counts.list c.args.capacity c.requires.program c.in_ok-image.image same c.in_ok-image.ensures.safe
    c.as_slice.result.now c.as_slice.ensures c.have_rescues.ensures c.as_slice-2.result.now c.as_slice-2.ensures c.have_operands.ensures
    c.requires.counted c.requires.procs c.requires.some c.requires.few in
    record {
      runs = whole.runs;
      fits = whole.fits;
      bytes_are = c.in_ok-bytes.ensures ∙ ap (λ (i : Image). image_text i) same;
    }
