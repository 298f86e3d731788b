-- The capacities of exported programs, and their range.
use Rattle.std.proofs.Common.{ℕ, ◌+◌, Bool, true, false, List, [], ◌∷◌, max, min, arith}
use Rattle.std.specs.List.{AllByRecursion}
use Rattle.p3l_skel.specs.declared.tree.Tree.{Tree}
use Rattle.p3l_cost.specs.declared.costs.Costs.{Costs}
use Rattle.p3l_firing.specs.declared.net.Chan.{Chan}
use Rattle.p3l_firing.specs.declared.net.Net.{Net}
use Rattle.p3l_template.specs.declared.width.Width.{Width}
use Rattle.p3l_template.specs.Width.{width_at}
use Rattle.p3l_net.specs.Steps.{Ends}
use Rattle.p3l_export.specs.declared.channels.ChannelRow.{ChannelRow}
use Rattle.p3l_export.specs.Capacity.{by_size, by_work, capacity_of, end_price, placed, row_of, rows_of}
use Rattle.p3l_export.specs.Laws.{IsRoom}

-- the greater of a number in the range and of 2 to 64 is in it
wide : (cap n : ℕ) → IsRoom cap → IsRoom (max cap (max 2 (min 64 n)))
wide cap n room = (grind (arith, room.0), grind (arith, room.1))

capacity_in_range : (chosen : Bool) (cap words price : ℕ) → IsRoom cap → IsRoom (capacity_of chosen cap words price)
capacity_in_range true cap words price room = wide cap (min (by_work price) (by_size words)) room
capacity_in_range false cap words price room = room

placed_each : {A B : Type 0} (P : A → Type 0) (Q : B → Type 0) (make : ℕ → A → B) → ((i : ℕ) (x : A) → P x → Q (make i x)) →
    (i : ℕ) (items : List A) → AllByRecursion P items → AllByRecursion Q (placed make i items)
unfolding placed
placed_each P Q make keeps i [] each = each
placed_each P Q make keeps i (x ∷ xs) each = (keeps i x each.0, placed_each P Q make keeps (i + 1) xs each.1)

pub rows_in_range : (tree : Tree) (costs : Costs) (net : Net) (ends : Ends) (widths : List Width) (chosen : Bool) →
    AllByRecursion (λ (chan : Chan). IsRoom chan.cap) net.chans →
    AllByRecursion (λ (row : ChannelRow). IsRoom row.capacity) (rows_of tree costs net ends widths chosen)
rows_in_range tree costs net ends widths chosen each =
    placed_each (λ (chan : Chan). IsRoom chan.cap) (λ (row : ChannelRow). IsRoom row.capacity)
    (row_of tree costs net ends widths chosen)
    (λ c chan room. capacity_in_range chosen chan.cap (width_at widths c).words (end_price tree costs net ends c) room)
    0 net.chans each
