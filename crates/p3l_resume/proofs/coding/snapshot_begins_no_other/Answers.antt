use Rattle.std.proofs.Common.{List, ℕ, ◌++◌, sym, ap, ◌∙◌}
use Rattle.p3l_format.specs.laws.Formats.{one_spelling}
use Rattle.p3l_resume.specs.Saved.{SnapshotBeginsNoOther, saved_format}
use Rattle.p3l_resume.specs.laws.Saved.{lawful_saved}
use Rattle.p3l_resume.proofs.coding.snapshot_begins_no_other.Goals as goal

no_other : SnapshotBeginsNoOther
no_other v w s t more is other e =
    one_spelling saved_format lawful_saved v w more is.fits other.fits
    (ap (λ (r : List ℕ). r ++ more) (sym is.spelled) ∙ e ∙ other.spelled)

pub returns : goal.returns
returns c = no_other
