use Rattle.std.proofs.Common.{refl}
use Rattle.std.proofs.lemmas.List.{take_all}
use Rattle.std.proofs.lemmas.List.Elements.{All-more}
use Rattle.p3l_base.specs.declared.slice.Slice.{Slice}
use Rattle.p3l_base.specs.Slice.{LiesWithin}
use Rattle.p3l_skel.proofs.cut.lie_within.Goals as goal

pub loop-slice-preserved : goal.loop-slice-preserved
loop-slice-preserved c =
    All-more (λ (s : Slice). LiesWithin s c.args.words) c.args.slices.now c.loop-slice.slice-index c.slice-item.result c.loop-slice-test.true c.loop-slice.invariant
    (rw (← c.slice-item.is) (c.lies_within.ensures.0 c.if-not-lies_within.false))

pub returns : goal.returns
returns c = (λ yes. rw (take_all c.loop-slice.slice-index c.args.slices.now c.loop-slice-test.false) at c.loop-slice.invariant, λ all. refl)
