-- The frames round the processes of skeletons.
use Rattle.std.specs.Prelude.{ℕ, ◌==◌, cond, ◌&&◌, List, [], ◌++◌, codes, slice_get, Option, None, Some}
use Rattle.std.specs.Fmt.{decimal}
use Rattle.std.specs.List.{flat_map}
use Rattle.p3l_skel.specs.declared.tree.Form.{Form}
use Rattle.p3l_skel.specs.declared.tree.Form.TheVariants.{Seq, Comp, Pipe, Farm, Map, Reduce, Loop}
use Rattle.p3l_skel.specs.declared.tree.Node.{Node}
use Rattle.p3l_skel.specs.declared.tree.Tree.{Tree}
use Rattle.p3l_skel.specs.Counts.{outside_parts}
use Rattle.p3l_skel.specs.Tree.{by_parts, nesting}
use Rattle.p3l_firing.specs.declared.net.Net.{Net}
use Rattle.p3l_firing.specs.declared.process.Proc.{Proc}
use Rattle.p3l_graph.specs.Boxes.{is_placed, name_at}
use Rattle.p3l_graph.specs.Numbered.{numbered}

-- the name of the frame of a node of this form; a node that one process runs has no frame
abbrev pub frame_name : Form → Option (List ℕ)
frame_name Seq = None
frame_name Comp = None
frame_name Pipe = Some (codes "pipe")
frame_name (Farm w) = Some (codes "farm")
frame_name (Map w cut) = Some (codes "map")
frame_name (Reduce w len elem) = Some (codes "reduce")
frame_name (Loop turns tokens) = Some (codes "loop")

-- a process is in the frame of its node
abbrev pub member_line : ℕ → ℕ → Proc → List ℕ
member_line node number process =
    cond (is_placed process.kind && process.node == node)
    (codes "    p" ++ (decimal number ++ codes ";\n")) []

-- the processes of a node
abbrev pub members : Net → ℕ → List ℕ
members net node = numbered (member_line node) 0 net.procs

-- the beginning of the frame of a node: the node's number, its skeleton, and its module
abbrev pub frame_head : Tree → ℕ → List ℕ → List ℕ
frame_head tree node kind =
    codes "  subgraph cluster_" ++ (decimal node ++ (codes " {\n    label=\"" ++ (decimal node ++ (codes " " ++ (kind
    ++ (codes " " ++ (name_at tree node ++ codes "\";\n")))))))

-- the inner text in its frame, if there is one
abbrev pub framed : Tree → ℕ → Option (List ℕ) → List ℕ → List ℕ
framed tree node None inner = inner
framed tree node (Some kind) inner = frame_head tree node kind ++ (inner ++ codes "  }\n")

-- a node with its own processes and those of the nodes below it that are outside units; a number past
-- the nodes has none
abbrev pub frame_row : Tree → Net → (ℕ → List ℕ) → ℕ → Option Node → List ℕ
frame_row tree net below number None = []
frame_row tree net below number (Some node) =
    framed tree number (frame_name node.form) (members net number ++ flat_map below (outside_parts node.form node.parts))

-- the same down to a depth
unfoldable pub frame_to : Tree → Net → ℕ → ℕ → List ℕ
frame_to tree net = by_parts (λ below k. frame_row tree net below k (slice_get tree.nodes k)) (λ k. [])

-- the frames of a network
abbrev pub frames : Tree → Net → List ℕ
frames tree net = frame_to tree net nesting 0
