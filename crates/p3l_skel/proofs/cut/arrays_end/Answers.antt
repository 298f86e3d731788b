use Rattle.std.proofs.Common.{◌≡◌, refl, arith, add-one}
use Rattle.p3l_base.specs.declared.slice.Slice.{Slice}
use Rattle.p3l_base.specs.Slice.{array_size}
use Rattle.p3l_base.specs.Cut.{token_size}
use Rattle.p3l_skel.proofs.Sizes.{sum_more, FollowOneAnother-more}
use Rattle.p3l_skel.proofs.cut.arrays_end.Goals as goal

pub loop-slice-preserved : goal.loop-slice-preserved
loop-slice-preserved c =
    let item : Slice = c.slice-item.result in
    let sum = sum_more token_size (λ (s : Slice). array_size s.dims) refl (λ _ _. refl) c.args.slices.now c.loop-slice.slice-index item c.loop-slice-test.true in
    let next = FollowOneAnother-more c.args.slices.now c.loop-slice.slice-index c.loop-slice.end c.loop-slice.end item c.loop-slice-test.true refl (rw (← c.slice-item.is) c.if-slice-end.false) in
    let size : c.slice_len-end.result ≡ array_size item.dims = c.slice_len-end.ensures.size in
    rw size (
      rw (add-one, sum, ← c.slice-item.is, ← c.loop-slice.invariant.0) refl,
      omega (arith, size, c.slice_len-end.ensures.bound, c.if-slice-end.false),
      (λ all. rw (← c.slice-item.is) at (next.0 (c.loop-slice.invariant.2.0 all)), λ rest. c.loop-slice.invariant.2.1 (next.1 (rw (← c.slice-item.is) rest))),
    )
