-- All tables of a program.
use Rattle.std.specs.Prelude.{ℕ, List, ◌++◌, codes, length}
use Rattle.std.specs.Fmt.{decimal}
use Rattle.p3l_skel.specs.declared.tree.Tree.{Tree}
use Rattle.p3l_firing.specs.declared.process.Proc.{Proc}
use Rattle.p3l_export.specs.declared.channels.ChannelRow.{ChannelRow}
use Rattle.p3l_export.specs.Channels.{channels_text}
use Rattle.p3l_export.specs.Modules.{modules_text}
use Rattle.p3l_export.specs.Nodes.{nodes_text, parts_text}
use Rattle.p3l_export.specs.Processes.{ends_text, processes_text}
use Rattle.p3l_export.specs.Slices.{dims_text, slices_text}

-- the text of the numbers of rows in the tables
unfoldable pub counts_text : (modules nodes processes channels : ℕ) → List ℕ
counts_text modules nodes processes channels =
    codes "enum { MODULES = " ++ (decimal modules ++ (codes ", NODES = " ++ (decimal nodes ++ (codes ", PROCESSES = "
    ++ (decimal processes ++ (codes ", CHANNELS = " ++ (decimal channels ++ codes " };\n\n")))))))

-- the tables of a tree
unfoldable pub tree_text : Tree → List ℕ
tree_text tree =
    modules_text tree.modules ++ (nodes_text tree.nodes ++ (parts_text tree.nodes ++ (slices_text tree.nodes ++ dims_text tree.nodes)))

-- the tables of a net: its processes with their loads, its channels by their rows
unfoldable pub net_text : List Proc → List ℕ → List ChannelRow → List ℕ
net_text procs loads rows = processes_text loads procs ++ (ends_text procs ++ channels_text rows)

-- THE TABLES of a program
unfoldable pub tables_text : Tree → List Proc → List ℕ → List ChannelRow → List ℕ
tables_text tree procs loads rows =
    counts_text (length tree.modules) (length tree.nodes) (length procs) (length rows) ++ (tree_text tree ++ net_text procs loads rows)
