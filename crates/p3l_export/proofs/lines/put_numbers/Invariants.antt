use Rattle.std.proofs.Common.{◌≡◌, ◌++◌, drop}
use Rattle.std.specs.List.{flat_map}
use Rattle.p3l_export.specs.Lines.{number_item}
use Rattle.p3l_export.proofs.lines.put_numbers.Given as goal

-- the text so far, with what is left
abbrev pub invariant-loop-number : goal.invariant-loop-number
invariant-loop-number l =
    l.text.items ++ flat_map number_item (drop l.number-index l.numbers) ≡ l.fn.text.items ++ flat_map number_item l.numbers
