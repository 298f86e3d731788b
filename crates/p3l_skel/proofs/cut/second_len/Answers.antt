use Rattle.std.proofs.Common.{refl, arith, add-one}
use Rattle.p3l_base.specs.declared.slice.Dim.{Dim}
use Rattle.p3l_base.specs.Cut.{second_count, one_at_second}
use Rattle.p3l_skel.proofs.Sizes.{no_dim, sum_more}
use Rattle.p3l_skel.proofs.cut.second_len.Goals as goal

pub loop-dim-preserved : goal.loop-dim-preserved
loop-dim-preserved c =
    let more = sum_more second_count (λ (d : Dim). one_at_second d.place) refl (λ _ _. refl) c.args.dims.now c.loop-dim.dim-index no_dim c.loop-dim-test.true in
    (rw (add-one, more, c.one_at_second-len.ensures.value) (omega arith), omega (arith, c.one_at_second-len.ensures.bound))
