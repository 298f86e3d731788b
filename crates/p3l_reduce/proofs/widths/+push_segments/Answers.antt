use Rattle.std.proofs.Common.{◌++◌, ◌-◌, ◌/◌, map, sym, ap, ◌∙◌, append_assoc}
use Rattle.p3l_firing.specs.Segments.{segment_lengths}
use Rattle.p3l_reduce.specs.ReduceKind.{segment_width}
use Rattle.p3l_reduce.proofs.Segmenting.{segments_halved}
use Rattle.p3l_reduce.proofs.widths.+push_segments.Goals as goal

pub returns : goal.returns
returns t c =
    c.in_ok-push_segments-2.ensures
    ∙ ap (λ z. z
    ++ map (segment_width c.args.elem c.args.tags) (segment_lengths (c.args.level - 1) (c.args.len - c.args.len / 2)))
    c.in_ok-push_segments.ensures
    ∙ append_assoc c.args.row.now
    (map (segment_width c.args.elem c.args.tags) (segment_lengths (c.args.level - 1) (c.args.len / 2)))
    (map (segment_width c.args.elem c.args.tags) (segment_lengths (c.args.level - 1) (c.args.len - c.args.len / 2)))
    ∙ ap (λ z. c.args.row.now ++ z) (sym (segments_halved c.args.elem c.args.tags c.args.level c.args.len c.if-level-eq0.false))
