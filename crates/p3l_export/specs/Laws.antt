-- Laws of every exported program.
use Rattle.std.specs.Prelude.{ℕ, ◌≤◌, Bool, List, map}
use Rattle.std.specs.List.{AllByRecursion}
use Rattle.p3l_base.specs.Limits.{most_tokens}
use Rattle.p3l_skel.specs.declared.tree.Tree.{Tree}
use Rattle.p3l_cost.specs.declared.costs.Costs.{Costs}
use Rattle.p3l_firing.specs.declared.net.Chan.{Chan}
use Rattle.p3l_firing.specs.declared.net.Net.{Net}
use Rattle.p3l_firing.specs.Typed.{IsTyped}
use Rattle.p3l_template.specs.declared.width.Width.{Width}
use Rattle.p3l_net.specs.Steps.{Ends}
use Rattle.p3l_export.specs.declared.channels.ChannelRow.{ChannelRow}
use Rattle.p3l_export.specs.Capacity.{rows_of}

-- a number of tokens that a channel may hold
abbrev pub IsRoom : ℕ → Type 0
IsRoom n = (1 ≤ n) × (n ≤ most_tokens)

-- the program's channels hold at least a token and no more than the machine's limit, chosen or not, if those of the net do
abbrev pub EveryCapacityIsInRange : Type 0
EveryCapacityIsInRange =
    (tree : Tree) (costs : Costs) (net : Net) (ends : Ends) (widths : List Width) (chosen : Bool)
    → AllByRecursion (λ (chan : Chan). IsRoom chan.cap) net.chans
    → AllByRecursion (λ (row : ChannelRow). IsRoom row.capacity) (rows_of tree costs net ends widths chosen)

-- a net whose channels are those of these rows
abbrev pub with_rows : Net → List ChannelRow → Net
with_rows net rows =
    record { procs = net.procs; chans = map (λ (row : ChannelRow). record { cap = row.capacity; credits = row.credits }) rows }

-- the program's net, whose channels may hold more, is typed for a tree if the net is
abbrev pub EveryExportedNetIsTyped : Type 0
EveryExportedNetIsTyped =
    (tree : Tree) (costs : Costs) (net : Net) (ends : Ends) (widths : List Width) (chosen : Bool)
    → IsTyped tree net → IsTyped tree (with_rows net (rows_of tree costs net ends widths chosen))
