-- The boxes of processes and the arrows of channels.
use Rattle.std.specs.Prelude.{ℕ, Bool, true, false, cond, List, [], ◌++◌, codes, slice_get, slice_index, Option, None, Some}
use Rattle.std.specs.Fmt.{decimal}
use Rattle.p3l_skel.specs.declared.tree.ModuleInfo.{ModuleInfo}
use Rattle.p3l_skel.specs.declared.tree.Tree.{Tree}
use Rattle.p3l_skel.specs.Tree.{node_at}
use Rattle.p3l_firing.specs.declared.net.Chan.{Chan}
use Rattle.p3l_firing.specs.declared.process.Proc.{Proc}
use Rattle.p3l_firing.specs.declared.process.ProcKind.{ProcKind}
use Rattle.p3l_firing.specs.declared.process.ProcKind.TheVariants.{Source, Sink, Run, Emit, Collect, Scatter, Gather, Split, FoldGather, Join, Head, Tail}
use Rattle.p3l_net.specs.Steps.{Ends}

-- the name of a process in the picture, by its kind
abbrev pub kind_name : ProcKind → List ℕ
kind_name Source = codes "source"
kind_name Sink = codes "sink"
kind_name Run = codes "run"
kind_name Emit = codes "emit"
kind_name Collect = codes "collect"
kind_name Scatter = codes "scatter"
kind_name Gather = codes "gather"
kind_name Split = codes "split"
kind_name FoldGather = codes "fold-gather"
kind_name Join = codes "join"
kind_name Head = codes "head"
kind_name Tail = codes "tail"

-- a process belongs to a node of the tree: all but the source and the sink do
abbrev pub is_placed : ProcKind → Bool
is_placed Source = false
is_placed Sink = false
is_placed _ = true

-- the name of a module, and none where it is not there
abbrev pub name_in : Option ModuleInfo → List ℕ
name_in None = []
name_in (Some info) = info.name

-- the name of the module of a node
abbrev pub name_at : Tree → ℕ → List ℕ
name_at tree node = name_in (slice_get tree.modules (node_at tree node).module)

-- the label in the box of a process: its number, its kind's name, and its module
abbrev pub label_of : Tree → ℕ → Proc → List ℕ
label_of tree number process =
    decimal number ++ (codes " " ++ (kind_name process.kind
    ++ cond (is_placed process.kind) (codes " " ++ name_at tree process.node) []))

-- the box of a process
abbrev pub process_line : Tree → ℕ → Proc → List ℕ
process_line tree number process =
    codes "  p" ++ (decimal number ++ (codes " [label=\"" ++ (label_of tree number process ++ codes "\"];\n")))

-- the arrow of a channel, from the process that writes it to the one that reads it, with its capacity
abbrev pub channel_line : Ends → ℕ → Chan → List ℕ
channel_line ends number channel =
    codes "  p" ++ (decimal (slice_index ends.writers number) ++ (codes " -> p" ++ (decimal (slice_index ends.readers number)
    ++ (codes " [label=\"" ++ (decimal channel.cap ++ codes "\"];\n")))))
