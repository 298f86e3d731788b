use Rattle.std.proofs.Common.{sym, ap, ◌∙◌}
use Rattle.p3l_reduce.proofs.Placing.{lengths_more}
use Rattle.p3l_firing.specs.Segments.{halved, segment_lengths}
use Rattle.p3l_reduce.proofs.segments.segment_lengths.Goals as goal

pub loop-done-preserved : goal.loop-done-preserved
loop-done-preserved c =
    c.in_ok-lengths-2.ensures ∙ ap halved (c.deref.ensures.value ∙ c.loop-done.invariant)
    ∙ sym (lengths_more c.loop-done._done c.args.len)

pub loop-done-init : goal.loop-done-init
unfolding segment_lengths
loop-done-init c = c.in_ok-lengths.ensures.items
