use Rattle.std.proofs.Common.{◌≡◌, ◌++◌, drop}
use Rattle.std.specs.Prelude.{string_bytes}
use Rattle.p3l_graph.specs.Boxes.{channel_line}
use Rattle.p3l_graph.specs.Numbered.{numbered}
use Rattle.p3l_graph.proofs.graph.put_channels.Given as goal

-- the text so far, with the arrows that are left
abbrev pub invariant-loop-number : goal.invariant-loop-number
invariant-loop-number l =
    string_bytes l.text ++ numbered (channel_line l.ends) l.number (drop l.number l.net.chans)
    ≡ string_bytes l.fn.text ++ numbered (channel_line l.ends) 0 l.net.chans
