use Rattle.p3l_skel.proofs.Folds.{length-segments, flat_map-segments}
use Rattle.p3l_skel.proofs.laws.cuts_into_segments.Goals as goal

pub returns : goal.returns
returns c = λ level outcomes. record { count = length-segments level outcomes; whole = flat_map-segments level outcomes }
