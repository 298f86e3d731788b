use Rattle.p3l_resume_laws.proofs.SavedLaw.{balanced_stays, fitting_restores, orderly_resumes}
use Rattle.p3l_resume_laws.proofs.saved.what_fits_can_be_resumed.Goals as goal

pub returns-clause-restored : goal.returns-clause-restored
returns-clause-restored c = fitting_restores c.every_linked_net_carries_its_widths.ensures

pub returns-clause-resumes : goal.returns-clause-resumes
returns-clause-resumes c = orderly_resumes c.every_linked_net_carries_its_widths.ensures

pub returns-clause-balanced : goal.returns-clause-balanced
returns-clause-balanced c = balanced_stays c.every_linked_net_carries_its_widths.ensures
