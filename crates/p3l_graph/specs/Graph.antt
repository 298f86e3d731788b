-- The text of a network.
use Rattle.std.specs.Prelude.{◌≡◌, ℕ, List, ◌++◌, codes}
use Rattle.p3l_skel.specs.declared.tree.Tree.{Tree}
use Rattle.p3l_firing.specs.declared.net.Net.{Net}
use Rattle.p3l_net.specs.Steps.{Ends, HasEnds}
use Rattle.p3l_graph.specs.Boxes.{channel_line, process_line}
use Rattle.p3l_graph.specs.Frames.{frames}
use Rattle.p3l_graph.specs.Numbered.{numbered}

-- the text before the boxes
abbrev pub head : List ℕ
head = codes "digraph network {\n  rankdir=LR;\n  node [shape=box];\n"

-- the text of a network whose channels have these ends: a box for each process in order, an arrow for
-- each channel in order, and the frames
abbrev pub text_of : Tree → Net → Ends → List ℕ
text_of tree net ends =
    head ++ (numbered (process_line tree) 0 net.procs
    ++ (numbered (channel_line ends) 0 net.chans ++ (frames tree net ++ codes "}\n")))

-- a text is that of a network: each arrow goes from the process that writes its channel to the one
-- that reads it
pub record IsGraph (tree : Tree) (net : Net) (text : List ℕ) : Type 0 where
  pub ends : Ends
  pub are_ends : HasEnds net ends
  pub text_is : text ≡ text_of tree net ends
