use Rattle.std.proofs.Common.{◌≡◌, ap, ◌∙◌, arith}
use Rattle.p3l_base.specs.Slice.{array_size}
use Rattle.p3l_base.specs.declared.slice.Slice.{Slice}
use Rattle.p3l_types.specs.Shape.{product}
use Rattle.p3l_calls.proofs.Slices.{array_size-dims}
use Rattle.p3l_calls.proofs.Tables.{total-more}
use Rattle.p3l_calls.proofs.map.map_out.Goals as goal

pub returns-clause-few : goal.returns-clause-few
returns-clause-few c =
    let size : array_size c.in_ok-slice_of.field-0.dims ≡ product c.in-Some.var.now.shape.sizes =
    ap (λ (s : Slice). array_size s.dims) c.in_ok-slice_of.ensures ∙ array_size-dims c.args.indices.now c.in-Old.arg.subs c.in-Some.var.now.shape.sizes in
    omega (arith, size, total-more c.args.vars.now c.args.k c.in-Some.var.now c.in-Some.ensures.lookup.3.0 c.in-Some.ensures.lookup.1)
