-- The rows of the kinds, each in its own module, as one table: when a process can fire and what it then does, what it reads, whether it
-- may need memory, how it fits its channels, and what it keeps.
pub mod Source
pub mod Sink
pub mod Run
pub mod Emit
pub mod Collect
pub mod Scatter
pub mod Gather
pub mod Split
pub mod FoldGather
pub mod Join
pub mod Head
pub mod Tail
use Rattle.std.specs.Prelude.{◌≡◌, ℕ, List, [], Bool, true, false, not}
use Rattle.p3l_skel.specs.declared.tree.Tree.{Tree}
use Rattle.p3l_firing.specs.declared.process.Proc.{Proc}
use Rattle.p3l_firing.specs.declared.process.ProcKind.{ProcKind}
use Rattle.p3l_firing.specs.declared.process.ProcKind.TheVariants as kinds
use Rattle.p3l_firing.specs.declared.net.Net.{Net}
use Rattle.p3l_firing.specs.Nodes.{Leaf}
use Rattle.p3l_firing.specs.State.{LocalState, State}
use Rattle.p3l_firing.specs.Widths.{Widths}
use Rattle.p3l_firing.specs.kinds.Source as source
use Rattle.p3l_firing.specs.kinds.Sink as sink
use Rattle.p3l_firing.specs.kinds.Run as run
use Rattle.p3l_firing.specs.kinds.Emit as emit
use Rattle.p3l_firing.specs.kinds.Collect as collect
use Rattle.p3l_firing.specs.kinds.Scatter as scatter
use Rattle.p3l_firing.specs.kinds.Gather as gather
use Rattle.p3l_firing.specs.kinds.Split as split
use Rattle.p3l_firing.specs.kinds.FoldGather as fold_gather
use Rattle.p3l_firing.specs.kinds.Join as join
use Rattle.p3l_firing.specs.kinds.Head as head
use Rattle.p3l_firing.specs.kinds.Tail as tail

-- true exactly if a process of this kind can fire, as long as no trap was emitted
unfoldable pub row_can : ProcKind → Tree → Net → State → LocalState → Proc → Bool
row_can kinds.Source tree net s o q = source.can net s q
row_can kinds.Sink tree net s o q = sink.can s q
row_can kinds.Run tree net s o q = run.can net s q
row_can kinds.Emit tree net s o q = emit.can net s q
row_can kinds.Collect tree net s o q = collect.can net s o q
row_can kinds.Scatter tree net s o q = scatter.can net s o q
row_can kinds.Gather tree net s o q = gather.can tree net s o q
row_can kinds.Split tree net s o q = split.can net s o q
row_can kinds.FoldGather tree net s o q = fold_gather.can net s o q
row_can kinds.Join tree net s o q = join.can net s q
row_can kinds.Head tree net s o q = head.can net s q
row_can kinds.Tail tree net s o q = tail.can net s o q

-- the state after a process of each kind fired
unfoldable pub row_fire : ProcKind → Tree → Leaf → Net → State → ℕ → LocalState → Proc → State
row_fire kinds.Source tree leaf net s p o q = source.fire s q
row_fire kinds.Sink tree leaf net s p o q = sink.fire s q
row_fire kinds.Run tree leaf net s p o q = run.fire tree leaf s q
row_fire kinds.Emit tree leaf net s p o q = emit.fire net s p o q
row_fire kinds.Collect tree leaf net s p o q = collect.fire s p o q
row_fire kinds.Scatter tree leaf net s p o q = scatter.fire tree s p o q
row_fire kinds.Gather tree leaf net s p o q = gather.fire tree s p o q
row_fire kinds.Split tree leaf net s p o q = split.fire tree s p o q
row_fire kinds.FoldGather tree leaf net s p o q = fold_gather.fire tree leaf s p o q
row_fire kinds.Join tree leaf net s p o q = join.fire tree leaf s q
row_fire kinds.Head tree leaf net s p o q = head.fire s p o q
row_fire kinds.Tail tree leaf net s p o q = tail.fire tree leaf net s p o q

-- the channels whose tokens the condition of a process of each kind reads
unfoldable pub row_reads : ProcKind → LocalState → Proc → List ℕ
row_reads kinds.Source o q = source.reads q
row_reads kinds.Sink o q = sink.reads q
row_reads kinds.Run o q = run.reads q
row_reads kinds.Emit o q = emit.reads q
row_reads kinds.Collect o q = collect.reads q
row_reads kinds.Scatter o q = scatter.reads o q
row_reads kinds.Gather o q = gather.reads o q
row_reads kinds.Split o q = split.reads q
row_reads kinds.FoldGather o q = fold_gather.reads q
row_reads kinds.Join o q = join.reads q
row_reads kinds.Head o q = head.reads q
row_reads kinds.Tail o q = tail.reads q

-- a firing of a process of each kind may need memory
unfoldable pub row_wants_memory : ProcKind → Net → State → LocalState → Proc → Bool
row_wants_memory kinds.Source net s o q = false
row_wants_memory kinds.Sink net s o q = false
row_wants_memory kinds.Run net s o q = true
row_wants_memory kinds.Emit net s o q = false
row_wants_memory kinds.Collect net s o q = false
row_wants_memory kinds.Scatter net s o q = true
row_wants_memory kinds.Gather net s o q = true
row_wants_memory kinds.Split net s o q = true
row_wants_memory kinds.FoldGather net s o q = true
row_wants_memory kinds.Join net s o q = true
row_wants_memory kinds.Head net s o q = false
row_wants_memory kinds.Tail net s o q = not (tail.can_release net s o q)

-- a process fits as its kind requires
abbrev pub FitsKind : ProcKind → Tree → Widths → Proc → Type 0
FitsKind kinds.Source tree widths q = source.Fits tree widths q
FitsKind kinds.Sink tree widths q = sink.Fits tree widths q
FitsKind kinds.Run tree widths q = run.Fits tree widths q
FitsKind kinds.Emit tree widths q = emit.Fits tree widths q
FitsKind kinds.Collect tree widths q = collect.Fits tree widths q
FitsKind kinds.Scatter tree widths q = scatter.Fits tree widths q
FitsKind kinds.Gather tree widths q = gather.Fits tree widths q
FitsKind kinds.Split tree widths q = split.Fits tree widths q
FitsKind kinds.FoldGather tree widths q = fold_gather.Fits tree widths q
FitsKind kinds.Join tree widths q = join.Fits tree widths q
FitsKind kinds.Head tree widths q = head.Fits tree widths q
FitsKind kinds.Tail tree widths q = tail.Fits tree widths q

-- the local state of a process fits its kind: those that are none of the five that hold tokens hold none
abbrev pub FitsOwn : ProcKind → Tree → Widths → Proc → LocalState → Type 0
FitsOwn kinds.Source tree widths q o = o.held ≡ []
FitsOwn kinds.Sink tree widths q o = o.held ≡ []
FitsOwn kinds.Run tree widths q o = o.held ≡ []
FitsOwn kinds.Emit tree widths q o = o.held ≡ []
FitsOwn kinds.Collect tree widths q o = o.held ≡ []
FitsOwn kinds.Scatter tree widths q o = scatter.Keeps tree widths q o
FitsOwn kinds.Gather tree widths q o = gather.Keeps tree widths q o
FitsOwn kinds.Split tree widths q o = split.Keeps widths q o
FitsOwn kinds.FoldGather tree widths q o = fold_gather.Keeps tree widths q o
FitsOwn kinds.Join tree widths q o = o.held ≡ []
FitsOwn kinds.Head tree widths q o = o.held ≡ []
FitsOwn kinds.Tail tree widths q o = tail.Keeps widths q o
