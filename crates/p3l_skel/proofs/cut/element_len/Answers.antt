use Rattle.std.proofs.Common.{◌≡◌, refl, arith, add-one}
use Rattle.p3l_base.specs.declared.slice.Slice.{Slice}
use Rattle.p3l_base.specs.Slice.{cut_size}
use Rattle.p3l_base.specs.Cut.{element_size}
use Rattle.p3l_skel.proofs.Sizes.{sum_more}
use Rattle.p3l_skel.proofs.cut.element_len.Goals as goal

pub loop-slice-preserved : goal.loop-slice-preserved
loop-slice-preserved c =
    let sum = sum_more element_size (λ (s : Slice). cut_size s.dims) refl (λ _ _. refl) c.args.slices.now c.loop-slice.slice-index c.slice-item.result c.loop-slice-test.true in
    let size : c.slice_cut_len.result ≡ cut_size c.slice-item.result.dims = c.slice_cut_len.ensures.size in
    rw (add-one, sum, ← c.slice-item.is, c.min-len.ensures, size, c.loop-slice.invariant) (omega arith)
