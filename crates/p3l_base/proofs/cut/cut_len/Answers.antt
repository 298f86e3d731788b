use Rattle.std.proofs.Common.{◌^◌, refl, ◌∙◌, arith}
use Rattle.p3l_base.specs.declared.slice.Dim.{Dim}
use Rattle.p3l_base.specs.Slice.{cut_size, taken_size}
use Rattle.p3l_base.proofs.Product.{product_more}
use Rattle.p3l_base.proofs.cut.cut_len.Goals as goal

pub loop-dim-preserved : goal.loop-dim-preserved
loop-dim-preserved c =
    rw c.taken_len-product.ensures (product_more cut_size (λ (d : Dim). taken_size d.place d.size) (λ _ _. refl) (2 ^ 64) c.loop-dim.product c.loop-dim.dim-index c.args.dims.now _ (omega arith) ∙ c.loop-dim.invariant)
