-- The greatest numbers after several notes.
use Rattle.std.proofs.Common.{◌≡◌, List, [], ◌++◌}
use Rattle.p3l_walk.specs.Notes.{Note}
use Rattle.p3l_walk.proofs.Noting.{noted_by-append, noted_by-none}
use Rattle.p3l_profile.specs.Greatest.{Greatest, noted, noted_all}

-- one after the other
pub noted_all-append : (g : Greatest) (xs ys : List Note) → noted_all g (xs ++ ys) ≡ noted_all (noted_all g xs) ys
noted_all-append = noted_by-append noted

pub noted_all-none : (g : Greatest) → noted_all g [] ≡ g
noted_all-none = noted_by-none noted
