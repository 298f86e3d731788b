use Rattle.std.proofs.Common.{◌≡◌, ◌++◌, drop}
use Rattle.p3l_export.specs.Capacity.{placed, row_of}
use Rattle.p3l_export.proofs.capacity.rows.Given as goal

-- the rows so far, with those of the channels that are left
abbrev pub invariant-loop-c : goal.invariant-loop-c
invariant-loop-c l =
    l.rows.items ++ placed (row_of l.tree l.costs l.net l.ends l.widths l.chosen) l.c (drop l.c l.net.chans)
    ≡ placed (row_of l.tree l.costs l.net l.ends l.widths l.chosen) 0 l.net.chans
