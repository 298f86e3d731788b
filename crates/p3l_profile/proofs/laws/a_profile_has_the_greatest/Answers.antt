use Rattle.p3l_profile.proofs.Highest.{has_the_greatest}
use Rattle.p3l_profile.proofs.laws.a_profile_has_the_greatest.Goals as goal

pub returns : goal.returns
returns c = has_the_greatest
