use Rattle.p3l_scan.proofs.Last.{ends_with_the_fold}
use Rattle.p3l_scan.proofs.laws.a_scan_ends_with_the_fold.Goals as goal

pub returns : goal.returns
returns c = ends_with_the_fold
