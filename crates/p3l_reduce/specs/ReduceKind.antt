-- The kind of a reduce: the widths of its channels, and what is found in it by the tags alone, which is what its template says of the
-- tokens without their outcomes.
use Rattle.std.specs.Prelude.{ℕ, zero, suc, ◌+◌, ◌-◌, ◌*◌, ◌^◌, false, List, [], ◌++◌, map, replicate}
use Rattle.p3l_base.specs.declared.outcome.Outcome.TheVariants.{Value}
use Rattle.p3l_skel.specs.Tree.{node_at}
use Rattle.p3l_firing.specs.Nodes.{elem_of}
use Rattle.p3l_firing.specs.Segments.{segment_lengths}
use Rattle.p3l_firing.specs.State.{State}
use Rattle.p3l_template.specs.Finding.{Finding, Finds, bares}
use Rattle.p3l_template.specs.Kind.{Kind}
use Rattle.p3l_template.specs.RunKind.{run_finds}
use Rattle.p3l_template.specs.Shape.{Base}
use Rattle.p3l_template.specs.Width.{outs_width}
use Rattle.p3l_template.specs.declared.width.Width.{Width}
use Rattle.p3l_reduce.specs.JoinTree.{Folding, View, after_node, even, well_kept}
use Rattle.p3l_reduce.specs.Reduce.{reduce_shape, seg, tee}

-- the channel of a segment of l elements
abbrev pub segment_width : (elem t l : ℕ) → Width
segment_width elem t l = record { words = l * elem; tags = t }

-- the channels of a reduce of 2 to the power level segments: of the segments, and between the joins
unfoldable pub reduce_widths : (elem len t : ℕ) → Width → (level : ℕ) → List Width
reduce_widths elem len t joined zero = []
reduce_widths elem len t joined (suc d) =
    map (segment_width elem t) (segment_lengths (suc d) len) ++ replicate (2 ^ suc d + 2 ^ suc d - 2) joined

-- a reduce in m segments that makes no outcomes
abbrev pub bare_folding : ℕ → Folding
bare_folding m = record { count = m; segment = λ s o. Value []; fold = λ o. Value []; operator = λ o p. Value [] }

-- the view of a reduce of m segments, without the outcomes
abbrev pub seen_of : Base → ℕ → State → View
seen_of base m s =
    record {
      tees = λ q. bares (s.tokens (tee base m q));
      segs = λ u. bares (s.tokens (seg base u));
      sending = bares (s.own base.proc).held;
      sent = (s.own base.proc).number;
    }

-- the finding at place q of m segments, with d levels of joins down from it: true if the flows of these joins match, and the
-- tokens still to come to its channel
unfoldable pub found_from : (m d q : ℕ) → View → Finding
found_from m d q v = record { orderly = even (bare_folding m) v d q; pending = after_node (bare_folding m) v d q }

-- the finding in a reduce of m segments, where m is 2 to the power d
unfoldable pub found_by : (m d : ℕ) → View → Finding
found_by m d v =
    record { orderly = well_kept (bare_folding m) d v; pending = after_node (bare_folding m) v d 1 }

-- of 2 to the power level segments
unfoldable pub reduce_finds : ℕ → Finds
reduce_finds zero = run_finds
reduce_finds (suc d) = λ tree base s inner. found_by (2 ^ suc d) (suc d) (seen_of base (2 ^ suc d) s)

-- of 2 to the power level segments, over an in token of len elements
abbrev pub reduce_kind : (node len level : ℕ) → Kind
reduce_kind node len level =
    record {
      shape = reduce_shape node len level;
      widths = λ tree k t. reduce_widths (elem_of (node_at tree k).form) len t (outs_width tree k t) level;
      deeper = 0;
      is_loop = false;
      finds = reduce_finds level;
    }
