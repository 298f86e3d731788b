use Rattle.std.proofs.Common.{◌^◌, refl, ◌∙◌, arith}
use Rattle.p3l_base.specs.declared.slice.Dim.{Dim}
use Rattle.p3l_base.specs.Slice.{array_size}
use Rattle.p3l_base.proofs.Product.{product_more}
use Rattle.p3l_base.proofs.slice.array_len.Goals as goal

pub loop-dim-preserved : goal.loop-dim-preserved
loop-dim-preserved c =
    product_more array_size (λ (d : Dim). d.size) (λ _ _. refl) (2 ^ 64) c.loop-dim.product c.loop-dim.dim-index c.args.dims.now _ (omega arith) ∙ c.loop-dim.invariant
