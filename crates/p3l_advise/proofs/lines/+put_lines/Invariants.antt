use Rattle.std.proofs.Common.{◌≡◌, ◌-◌, ◌++◌, drop}
use Rattle.std.specs.Prelude.{string_bytes}
use Rattle.std.specs.List.{flat_map}
use Rattle.p3l_advise.specs.Lines.{lines_from}
use Rattle.p3l_advise.proofs.lines.+put_lines.Given as goal

abbrev pub decreases-put_lines : goal.decreases-put_lines
decreases-put_lines l = l.levels

-- the text so far, with the lines of the parts that are left
abbrev pub invariant-loop-part : goal.invariant-loop-part
invariant-loop-part l =
    string_bytes l.text ++ flat_map (lines_from l.tree l.costs l.counts.list (l.levels - 1)) (drop l.part-index l.part-items)
    ≡ string_bytes l.fn.text ++ lines_from l.tree l.costs l.counts.list l.levels l.number
