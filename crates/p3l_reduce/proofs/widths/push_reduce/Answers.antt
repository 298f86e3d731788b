use Rattle.std.proofs.Common.{◌+◌, ◌-◌, ◌^◌, ◌++◌, map, replicate, sym, ap, ◌∙◌, append_assoc, append-nil}
use Rattle.p3l_firing.specs.Segments.{segment_lengths}
use Rattle.p3l_reduce.specs.ReduceKind.{segment_width}
use Rattle.p3l_reduce.proofs.Segmenting.{reduce_none, reduce_some}
use Rattle.p3l_reduce.proofs.widths.push_reduce.Goals as goal

pub returns-then-level-eq0 : goal.returns-then-level-eq0
returns-then-level-eq0 c =
    sym (append-nil c.args.row.now)
    ∙ ap (λ z. c.args.row.now ++ z) (sym (reduce_none c.args.elem c.args.len c.args.joined.tags c.args.level c.args.joined c.if-level-eq0.true))

pub returns : goal.returns
returns c =
    c.in_ok-push_same.ensures
    ∙ ap (λ m. c.push_segments.new.row ++ replicate (m + m - 2) c.args.joined) c.segment_count-segments.ensures.value
    ∙ ap (λ z. z ++ replicate (2 ^ c.args.level + 2 ^ c.args.level - 2) c.args.joined) c.in_ok-push_segments.ensures
    ∙ append_assoc c.args.row.now
    (map (segment_width c.args.elem c.args.joined.tags) (segment_lengths c.args.level c.args.len))
    (replicate (2 ^ c.args.level + 2 ^ c.args.level - 2) c.args.joined)
    ∙ ap (λ z. c.args.row.now ++ z)
    (sym (reduce_some c.args.elem c.args.len c.args.joined.tags c.args.level c.args.joined c.if-level-eq0.false))
