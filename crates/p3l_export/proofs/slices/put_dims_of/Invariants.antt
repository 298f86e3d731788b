use Rattle.std.proofs.Common.{◌≡◌, ◌++◌, drop}
use Rattle.std.specs.List.{flat_map}
use Rattle.p3l_export.specs.Slices.{dim_line}
use Rattle.p3l_export.proofs.slices.put_dims_of.Given as goal

-- the text so far, with what is left
abbrev pub invariant-loop-dim : goal.invariant-loop-dim
invariant-loop-dim l =
    l.text.items ++ flat_map dim_line (drop l.dim-index l.slice.dims) ≡ l.fn.text.items ++ flat_map dim_line l.slice.dims
