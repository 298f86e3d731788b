use Rattle.std.proofs.Common.{List, ℕ, ◌++◌, sym, ap, ◌∙◌}
use Rattle.p3l_format.specs.laws.Formats.{one_spelling}
use Rattle.p3l_image.specs.Image.{image_format, ImageBeginsNoOther}
use Rattle.p3l_image.specs.laws.Image.{lawful_image}
use Rattle.p3l_image.proofs.coding.image_begins_no_other.Goals as goal

no_other : ImageBeginsNoOther
no_other v w s t more is other e =
    let spelled = ap (λ (r : List ℕ). r ++ more) (sym is.spelled) ∙ e ∙ other.spelled in
    let one = one_spelling image_format lawful_image (is.version, v) (other.version, w) more is.fits other.fits spelled in
    (ap (λ x. x.1) one.0, one.1)

pub returns : goal.returns
returns c = no_other
