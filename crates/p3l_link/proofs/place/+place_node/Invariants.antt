use Rattle.std.proofs.Common.{◌≡◌, ◌-◌, length, drop}
use Rattle.p3l_skel.specs.Counts.{count_of}
use Rattle.p3l_template.specs.Shape.{base_of}
use Rattle.p3l_link.specs.Net.{inner_pieces, part_piece, piece_of, with_piece}
use Rattle.p3l_link.specs.Shape.{shape_at}
use Rattle.p3l_link.proofs.place.+place_node.Given as goal

abbrev pub decreases-place_node : goal.decreases-place_node
decreases-place_node l = l.levels

-- the net built so far, with the parts at the slots that are left, is the whole
abbrev pub invariant-loop-slot : goal.invariant-loop-slot
invariant-loop-slot l =
    with_piece l.builder
    (inner_pieces (part_piece l.tree (count_of l.tree l.counts.list) l.cap (l.levels - 1) l.number)
    (drop l.slot-index ((shape_at l.tree (count_of l.tree l.counts.list) l.number).slots (base_of l.at l.fn.builder)))
    (length l.builder.procs) (length l.builder.chans))
    ≡ with_piece l.fn.builder
    (piece_of l.tree (count_of l.tree l.counts.list) l.cap l.levels l.number (base_of l.at l.fn.builder))
