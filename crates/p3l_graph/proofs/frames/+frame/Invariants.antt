use Rattle.std.proofs.Common.{◌≡◌, ◌++◌, ◌*◌, ◌+◌, drop}
use Rattle.std.specs.Prelude.{string_bytes}
use Rattle.std.specs.List.{flat_map}
use Rattle.p3l_graph.specs.Frames.{frame_to, members}
use Rattle.p3l_graph.proofs.frames.+frame.Given as goal

abbrev pub decreases-put_frame : goal.decreases-put_frame
decreases-put_frame l = l.levels * 2

abbrev pub decreases-put_inner : goal.decreases-put_inner
decreases-put_inner l = l.levels * 2 + 1

-- the text so far, with the frames of the parts that are left
abbrev pub invariant-put_inner-loop-part : goal.invariant-put_inner-loop-part
invariant-put_inner-loop-part l =
    string_bytes l.text ++ flat_map (frame_to l.tree l.net l.levels) (drop l.part-index l.parts)
    ≡ string_bytes l.fn.text ++ (members l.net l.number ++ flat_map (frame_to l.tree l.net l.levels) l.parts)
