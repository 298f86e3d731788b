use Rattle.std.proofs.Common.{◌≡◌, ◌++◌, drop}
use Rattle.std.specs.List.{flat_map}
use Rattle.p3l_export.specs.Slices.{dims_lines}
use Rattle.p3l_export.proofs.slices.put_each_dims.Given as goal

-- the text so far, with what is left
abbrev pub invariant-loop-slice : goal.invariant-loop-slice
invariant-loop-slice l =
    l.text.items ++ flat_map dims_lines (drop l.slice-index l.slices) ≡ l.fn.text.items ++ flat_map dims_lines l.slices
