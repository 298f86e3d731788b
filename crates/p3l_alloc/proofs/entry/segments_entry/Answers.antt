use Rattle.std.proofs.Common.{◌≡◌, ◌^◌, ◌≤◌, ◌∙◌, subst, sym, arith}
use Rattle.std.proofs.lemmas.Nat.{pow_pos}
use Rattle.p3l_alloc.proofs.Soonest.{IsBestBelow, segments_more, segments_same, segments_end}
use Rattle.p3l_alloc.proofs.entry.segments_entry.Goals as goal
use Rattle.p3l_alloc.proofs.entry.segments_entry.Goals.{then-can_segment, else-can_segment}

pub loop-level-preserved : goal.loop-level-preserved
loop-level-preserved c =
    let span = c.args.span in
    let fold = c.args.fold.now in
    let p = c.args.processes in
    let m = c.power_of_two-segments.result in
    let power : 1 ≤ 2 ^ c.loop-level.level = pow_pos c.loop-level.level in
    let some : 1 ≤ m = omega (arith, c.power_of_two-segments.ensures) in
    elim c.if-can_segment.branch [
      | then-can_segment w ↦
          let may = c.can_segment.ensures.0 w.if-can_segment.true in
          segments_more span fold p c.loop-level.level m c.loop-level.best _ c.power_of_two-segments.ensures some may.0 may.1 may.2 (w.best-is ∙ omega (arith, w.min-best.ensures, w.service.ensures)) c.loop-level.invariant
      | else-can_segment w ↦
          subst (IsBestBelow span fold p _) (sym w.best-is)
          (segments_same span fold p c.loop-level.level m c.loop-level.best c.power_of_two-segments.ensures (λ may. let yes = c.can_segment.ensures.1 may in cc (yes, w.if-can_segment.false)) c.loop-level.invariant)
    ]

pub returns : goal.returns
returns c =
    let all : c.loop-level.level ≡ 10 = omega arith in
    segments_end c.args.span c.args.fold.now c.args.processes c.loop-level.best c.requires
    (subst (λ k. IsBestBelow c.args.span c.args.fold.now c.args.processes k c.loop-level.best) all c.loop-level.invariant)
