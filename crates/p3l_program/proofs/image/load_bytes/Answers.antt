use Rattle.std.proofs.Common.{subst, sym}
use Rattle.p3l_program.specs.LoadImage.{IsUnloadable}
use Rattle.p3l_program.proofs.ImageSteps.{same_image, undecoded, unloadable, unrunnable}
use Rattle.p3l_program.proofs.image.load_bytes.Goals as goal

pub returns-in-Err-clause-refused : goal.returns-in-Err-clause-refused
returns-in-Err-clause-refused c =
    subst (IsUnloadable c.args.bytes.now) (sym c.from.ensures) (unloadable c.args.bytes.now _ (undecoded c.args.bytes.now c.in-Err.refusal c.in-Err.ensures.only c.in-Err.ensures.exact))

pub returns-in-Err-load-clause-refused : goal.returns-in-Err-load-clause-refused
returns-in-Err-load-clause-refused c =
    let i = c.in-Ok.image in
    subst (IsUnloadable c.args.bytes.now) (sym c.from-in-Err-load.ensures)
    (unrunnable c.args.bytes.now i c.in-Ok.ensures.found (same_image c.args.bytes.now i c.in-Ok.ensures.only) c.in-Err-load.refusal c.in-Err-load.ensures.refused)

pub returns-in-Ok-load-clause-loaded : goal.returns-in-Ok-load-clause-loaded
returns-in-Ok-load-clause-loaded c =
    let i = c.in-Ok.image in record {
      i = i;
      loaded_is = c.in-Ok-load.ensures.loaded;
      runs = record { is = c.in-Ok.ensures.found; runs = c.in-Ok-load.ensures.runs };
      only = same_image c.args.bytes.now i c.in-Ok.ensures.only;
      room = c.in-Ok.ensures.some;
      few = c.in-Ok.ensures.few;
    }
