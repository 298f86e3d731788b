-- The table of the channels.
use Rattle.std.specs.Prelude.{ℕ, List, ◌++◌, codes}
use Rattle.std.specs.Fmt.{decimal}
use Rattle.std.specs.List.{flat_map}
use Rattle.p3l_export.specs.Lines.{table}
use Rattle.p3l_export.specs.declared.channels.ChannelRow.{ChannelRow}

-- the row of a channel
abbrev pub channel_line : ChannelRow → List ℕ
channel_line row =
    codes "    { " ++ (decimal row.capacity ++ (codes ", " ++ (decimal row.credits ++ (codes ", " ++ (decimal row.words
    ++ (codes ", " ++ (decimal row.tags ++ codes " },\n")))))))

-- the table of the channels
unfoldable pub channels_text : List ChannelRow → List ℕ
channels_text rows = table (codes "capacity, credits, words, tags") (codes "struct channel_row CHANNEL") (flat_map channel_line rows)
