-- The ticks of work that each process has for one item of the stream, by the model's prices.
use Rattle.std.specs.Prelude.{ℕ, ◌+◌, ◌*◌, ◌/◌, List, length, map, slice_index}
use Rattle.p3l_skel.specs.declared.tree.Tree.{Tree}
use Rattle.p3l_skel.specs.Tree.{node_at}
use Rattle.p3l_cost.specs.declared.costs.Costs.{Costs}
use Rattle.p3l_firing.specs.declared.net.Net.{Net}
use Rattle.p3l_firing.specs.declared.process.Proc.{Proc}
use Rattle.p3l_firing.specs.declared.process.ProcKind.{ProcKind}
use Rattle.p3l_firing.specs.declared.process.ProcKind.TheVariants.{Source, Sink, Run, Emit, Collect, Scatter, Gather, Split, FoldGather, Join, Head, Tail}
use Rattle.p3l_model.specs.Service.{expected_turns, transfer}
use Rattle.p3l_timed.specs.Price.{price_of}
use Rattle.p3l_export.specs.Rates.{capped, elements_of, rates, whole_rate}

-- the price of a process, as far as it counts
abbrev pub firing_price : Tree → Costs → Proc → ℕ
firing_price tree costs process = capped (price_of tree costs process)

-- the ticks of a firing of each kind: its price. The source and the sink, which have none, hand a token of the root on or take it
abbrev pub ticks_row : ProcKind → Tree → Costs → Proc → ℕ
ticks_row Source tree costs q = capped (transfer costs (node_at tree 0).ins)
ticks_row Sink tree costs q = capped (transfer costs (node_at tree 0).outs)
ticks_row Run tree costs q = firing_price tree costs q
ticks_row Emit tree costs q = firing_price tree costs q
ticks_row Collect tree costs q = firing_price tree costs q
ticks_row Scatter tree costs q = firing_price tree costs q
ticks_row Gather tree costs q = firing_price tree costs q
ticks_row Split tree costs q = firing_price tree costs q
ticks_row FoldGather tree costs q = firing_price tree costs q
ticks_row Join tree costs q = firing_price tree costs q
ticks_row Head tree costs q = firing_price tree costs q
ticks_row Tail tree costs q = firing_price tree costs q

-- the number of firings of a process of each kind for one token of its node
abbrev pub firings_row : ProcKind → Tree → Costs → Proc → ℕ
firings_row Source tree costs q = 1
firings_row Sink tree costs q = 1
firings_row Run tree costs q = 1
firings_row Emit tree costs q = 1
firings_row Collect tree costs q = 1
firings_row Scatter tree costs q = 1 + elements_of (node_at tree q.node).form
firings_row Gather tree costs q = 1 + elements_of (node_at tree q.node).form
firings_row Split tree costs q = 1 + length q.outs
firings_row FoldGather tree costs q = 1 + length q.ins
firings_row Join tree costs q = 1
firings_row Head tree costs q = expected_turns tree costs q.node
firings_row Tail tree costs q = 1 + expected_turns tree costs q.node

-- the ticks of a process for one token of its node
abbrev pub token_ticks : Tree → Costs → Proc → ℕ
token_ticks tree costs q = capped (ticks_row q.kind tree costs q * firings_row q.kind tree costs q)

-- THE LOAD of a process, where the rates of the nodes are known
abbrev pub load_of : Tree → Costs → List ℕ → Proc → ℕ
load_of tree costs rates q = capped (token_ticks tree costs q * slice_index rates q.node / whole_rate)

-- the loads of the processes, by their numbers
abbrev pub loads_of : Tree → List ℕ → Costs → Net → List ℕ
loads_of tree counts costs net = map (load_of tree costs (rates tree counts costs)) net.procs
