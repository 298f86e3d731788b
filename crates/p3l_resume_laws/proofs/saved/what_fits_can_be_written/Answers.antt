use Rattle.p3l_resume_laws.proofs.SavedLaw.{fitting_written}
use Rattle.p3l_resume_laws.proofs.saved.what_fits_can_be_written.Goals as goal

pub returns : goal.returns
returns c = fitting_written c.every_linked_net_carries_its_widths.ensures c.what_has_few_items_can_be_written.ensures
