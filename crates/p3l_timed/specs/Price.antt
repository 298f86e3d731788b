-- The price of a firing of each process, in ticks: the same at every firing.
use Rattle.std.specs.Prelude.{◌≡◌, ℕ, ◌+◌, ◌-◌, ◌*◌, ◌==◌, ◌<◌, ◌^◌, if◌then◌else◌, List, Some, length, map, max, min, slice_get, slice_index}
use Rattle.std.specs.Int.{div_ceil}
use Rattle.p3l_skel.specs.declared.tree.Form.{Form}
use Rattle.p3l_skel.specs.declared.tree.Form.TheVariants.{Seq, Comp, Pipe, Farm, Map, Reduce, Loop}
use Rattle.p3l_skel.specs.declared.tree.Tree.{Tree}
use Rattle.p3l_skel.specs.Tree.{node_at, part_at}
use Rattle.p3l_cost.specs.declared.costs.Costs.{Costs}
use Rattle.p3l_model.specs.Service.{transfer, ticks, unit_service, fold_service, join_service}
use Rattle.p3l_firing.specs.declared.net.Net.{Net}
use Rattle.p3l_firing.specs.declared.process.Proc.{Proc}
use Rattle.p3l_firing.specs.declared.process.ProcKind.{ProcKind}
use Rattle.p3l_firing.specs.declared.process.ProcKind.TheVariants as kinds
use Rattle.p3l_firing.specs.Nodes.{elem_of}

-- the number of elements of a reduce; 0 for other forms
abbrev pub len_of : Form → ℕ
len_of Seq = 0
len_of Comp = 0
len_of Pipe = 0
len_of (Farm workers) = 0
len_of (Map workers cut) = 0
len_of (Reduce workers len elem) = len
len_of (Loop turns tokens) = 0

-- the ticks of part v of a node
abbrev pub part_ticks : Tree → Costs → ℕ → ℕ → ℕ
part_ticks tree costs node v = ticks tree costs (part_at tree node v)

-- a process that runs its node whole, or folds `arg` elements of it where `arg` isn't 0
abbrev pub run_price : Tree → Costs → ℕ → ℕ → ℕ
run_price tree costs node arg =
    if arg == 0 then unit_service tree costs node
    else fold_service (transfer costs) arg (elem_of (node_at tree node).form) (part_ticks tree costs node 0)

-- a process of each kind: tokens are taken or handed on, a body, an operator or a condition is run
abbrev pub price_row : ProcKind → Tree → Costs → Proc → ℕ
price_row kinds.Source tree costs q = 0
price_row kinds.Sink tree costs q = 0
price_row kinds.Run tree costs q = run_price tree costs q.node q.arg
price_row kinds.Emit tree costs q = 2 * transfer costs (node_at tree q.node).ins
price_row kinds.Collect tree costs q = 2 * transfer costs (node_at tree q.node).outs
price_row kinds.Scatter tree costs q = transfer costs (node_at tree (part_at tree q.node 0)).ins
price_row kinds.Gather tree costs q = transfer costs (node_at tree (part_at tree q.node 0)).outs
price_row kinds.Split tree costs q =
    transfer costs (div_ceil (len_of (node_at tree q.node).form) (max 1 (length q.outs)) * elem_of (node_at tree q.node).form)
price_row kinds.FoldGather tree costs q = 0
price_row kinds.Join tree costs q = join_service (transfer costs) (elem_of (node_at tree q.node).form) (part_ticks tree costs q.node 0)
price_row kinds.Head tree costs q = 2 * transfer costs (node_at tree q.node).ins
price_row kinds.Tail tree costs q = part_ticks tree costs q.node 1 + 2 * transfer costs (node_at tree q.node).ins

-- THE PRICE of a process
abbrev pub price_of : Tree → Costs → Proc → ℕ
price_of tree costs q = price_row q.kind tree costs q

-- every price of a net is below 2 ^ 48
abbrev pub HasSmallPrices : Tree → Costs → Net → Type 0
HasSmallPrices tree costs net = (p : ℕ) (q : Proc) → slice_get net.procs p ≡ Some q → price_of tree costs q < 2 ^ 48

-- the prices of the processes of a net, by their numbers
abbrev pub prices_of : Tree → Costs → Net → List ℕ
prices_of tree costs net = map (price_of tree costs) net.procs

-- a price as far as a timer counts it: the greatest that it counts stands for every greater one
abbrev pub counted : ℕ → ℕ
counted price = min price (2 ^ 48 - 1)

-- the prices of the processes of a net, as far as a timer counts them
abbrev pub counted_prices : Tree → Costs → Net → List ℕ
counted_prices tree costs net = map (λ (q : Proc). counted (price_of tree costs q)) net.procs

-- small prices are counted in full
abbrev pub EverySmallPriceCounts : Type 0
EverySmallPriceCounts =
    (tree : Tree) (costs : Costs) (net : Net) → HasSmallPrices tree costs net → counted_prices tree costs net ≡ prices_of tree costs net

-- the price of process p
abbrev pub price_at : List ℕ → ℕ → ℕ
price_at prices p = slice_index prices p
