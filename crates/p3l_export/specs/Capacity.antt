-- The capacity of a channel of an exported program, in tokens.
use Rattle.std.specs.Prelude.{ℕ, ◌/◌, ◌+◌, if◌then◌else◌, Bool, List, [], ◌∷◌, max, min, Option, None, Some, slice_get, slice_index}
use Rattle.p3l_skel.specs.declared.tree.Tree.{Tree}
use Rattle.p3l_cost.specs.declared.costs.Costs.{Costs}
use Rattle.p3l_firing.specs.declared.net.Chan.{Chan}
use Rattle.p3l_firing.specs.declared.net.Net.{Net}
use Rattle.p3l_firing.specs.declared.process.Proc.{Proc}
use Rattle.p3l_template.specs.declared.width.Width.{Width}
use Rattle.p3l_template.specs.Width.{width_at}
use Rattle.p3l_net.specs.Steps.{Ends}
use Rattle.p3l_export.specs.declared.channels.ChannelRow.{ChannelRow}
use Rattle.p3l_export.specs.Loads.{firing_price}

-- the number of tokens that make 10,000,000 ticks of work, if one takes these
abbrev pub by_work : ℕ → ℕ
by_work price = 10000000 / max 1 price

-- the number of tokens of n words in a mebibyte
abbrev pub by_size : ℕ → ℕ
by_size n = 131072 / max 1 n

-- the capacity for tokens of n words between processes of this price: from 2 to 64
abbrev pub tokens_for : (n price : ℕ) → ℕ
tokens_for n price = max 2 (min 64 (min (by_work price) (by_size n)))

-- the price of a process, and 0 where it is not there
abbrev pub price_in : Tree → Costs → Option Proc → ℕ
price_in tree costs None = 0
price_in tree costs (Some q) = firing_price tree costs q

-- the price of process p of a net
abbrev pub price_at : Tree → Costs → Net → ℕ → ℕ
price_at tree costs net p = price_in tree costs (slice_get net.procs p)

-- the greater price of the two processes at the ends of channel c
abbrev pub end_price : Tree → Costs → Net → Ends → ℕ → ℕ
end_price tree costs net ends c =
    max (price_at tree costs net (slice_index ends.writers c)) (price_at tree costs net (slice_index ends.readers c))

-- the tokens that a channel with these widths holds: as many as in the net, or, where they are chosen, the greater of these and of
-- those that suit its work
abbrev pub capacity_of : (chosen : Bool) → (cap words price : ℕ) → ℕ
capacity_of chosen cap words price = if chosen then max cap (tokens_for words price) else cap

-- the row of channel c
abbrev pub row_of : Tree → Costs → Net → Ends → List Width → (chosen : Bool) → ℕ → Chan → ChannelRow
row_of tree costs net ends widths chosen c chan = record {
  capacity = capacity_of chosen chan.cap (width_at widths c).words (end_price tree costs net ends c);
  credits = chan.credits;
  words = (width_at widths c).words;
  tags = (width_at widths c).tags;
}

-- items of a list made one by one, each by its place, where the first has this place
unfoldable pub placed : {A B : Type 0} → (ℕ → A → B) → ℕ → List A → List B
placed f place [] = []
placed f place (item ∷ items) = f place item ∷ placed f (place + 1) items

-- THE ROWS of the channels of a net
abbrev pub rows_of : Tree → Costs → Net → Ends → List Width → (chosen : Bool) → List ChannelRow
rows_of tree costs net ends widths chosen = placed (row_of tree costs net ends widths chosen) 0 net.chans
