use Rattle.std.proofs.Common.{◌≡◌, ◌<◌, ◌^◌, ◌↔◌, take, drop}
use Rattle.p3l_base.specs.Cut.{token_size, FollowOneAnother}
use Rattle.p3l_skel.proofs.cut.arrays_end.Given as goal

-- the arrays so far end at `end`, and the others have to follow there
abbrev pub invariant-loop-slice : goal.invariant-loop-slice
invariant-loop-slice l =
    (l.end ≡ token_size (take l.slice-index l.slices)) × (l.end < 2 ^ 50) × (FollowOneAnother 0 l.slices ↔ FollowOneAnother l.end (drop l.slice-index l.slices))
