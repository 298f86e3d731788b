use Rattle.std.proofs.Common.{◌≡◌, ◌++◌, drop}
use Rattle.std.specs.List.{flat_map}
use Rattle.p3l_export.specs.Channels.{channel_line}
use Rattle.p3l_export.proofs.channels.put_rows.Given as goal

-- the text so far, with what is left
abbrev pub invariant-loop-row : goal.invariant-loop-row
invariant-loop-row l =
    l.text.items ++ flat_map channel_line (drop l.row-index l.rows) ≡ l.fn.text.items ++ flat_map channel_line l.rows
