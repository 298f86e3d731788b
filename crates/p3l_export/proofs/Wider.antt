-- A net whose channels hold more is typed as before.
use Rattle.std.proofs.Common.{◌≡◌, ℕ, zero, suc, ◌+◌, ◌<◌, ◌≤◌, Bool, true, false, List, [], ◌∷◌, length, map, get_or, refl, sym, ap, subst, arith}
use Rattle.std.specs.List.{AllByRecursion}
use Rattle.p3l_skel.specs.declared.tree.Tree.{Tree}
use Rattle.p3l_cost.specs.declared.costs.Costs.{Costs}
use Rattle.p3l_firing.specs.declared.net.Chan.{Chan}
use Rattle.p3l_firing.specs.declared.net.Net.{Net}
use Rattle.p3l_firing.specs.Process.{all_ins, all_outs}
use Rattle.p3l_firing.specs.State.{chan_at, no_chan}
use Rattle.p3l_firing.specs.Typed.{FitsChannel, IsTyped}
use Rattle.p3l_firing.specs.Widths.{Widths}
use Rattle.p3l_template.specs.declared.width.Width.{Width}
use Rattle.p3l_template.specs.Width.{width_at}
use Rattle.p3l_net.specs.Steps.{Ends}
use Rattle.p3l_export.specs.declared.channels.ChannelRow.{ChannelRow}
use Rattle.p3l_export.specs.Capacity.{capacity_of, end_price, placed, row_of, rows_of}
use Rattle.p3l_export.specs.Laws.{with_rows}

-- a channel that holds at least as many tokens, and begins with as many credits
record IsWider (old new : Chan) : Type 0 where
  cap : old.cap ≤ new.cap
  credits : new.credits ≡ old.credits

-- the channel of a row
abbrev chan_of : ChannelRow → Chan
chan_of row = record { cap = row.capacity; credits = row.credits }

no_less : (chosen : Bool) (cap words price : ℕ) → cap ≤ capacity_of chosen cap words price
no_less true cap words price = grind arith
no_less false cap words price = omega arith

placed_length : {A : Type 0} (make : ℕ → A → ChannelRow) (i : ℕ) (items : List A) →
    length (map chan_of (placed make i items)) ≡ length items
unfolding placed
placed_length make i [] = refl
placed_length make i (x ∷ xs) = ap suc (placed_length make (i + 1) xs)

placed_wider : (make : ℕ → Chan → ChannelRow) → ((i : ℕ) (x : Chan) → IsWider x (chan_of (make i x))) →
    (i : ℕ) (items : List Chan) (c : ℕ) → c < length items →
    IsWider (get_or items c no_chan) (get_or (map chan_of (placed make i items)) c no_chan)
unfolding placed
placed_wider make wider i [] c inside = absurd (omega (arith, inside))
placed_wider make wider i (x ∷ xs) zero inside = wider i x
placed_wider make wider i (x ∷ xs) (suc c) inside = placed_wider make wider (i + 1) xs c (omega (arith, inside))

channel_fits : (old new : Net) (widths : Widths) (c : ℕ) → new.procs ≡ old.procs → IsWider (chan_at old c) (chan_at new c) →
    FitsChannel old widths c → FitsChannel new widths c
channel_fits old new widths c same wider fits =
    let least = fits.room in
    let most = fits.credits in
    let more = wider.cap in
    let alike = wider.credits in
    record {
      room = omega (arith, least, more);
      credits = omega (arith, most, more, alike);
      written = rw same fits.written;
      read = rw same fits.read;
      bare = λ some. fits.bare (subst (λ n. 0 < n) alike some);
    }

pub exported_typed : (tree : Tree) (costs : Costs) (net : Net) (ends : Ends) (widths : List Width) (chosen : Bool) →
    IsTyped tree net → IsTyped tree (with_rows net (rows_of tree costs net ends widths chosen))
exported_typed tree costs net ends widths chosen typed =
    let make = row_of tree costs net ends widths chosen in
    let new : Net = with_rows net (rows_of tree costs net ends widths chosen) in
    let size : length new.chans ≡ length net.chans = placed_length make 0 net.chans in
    record {
      lawful = typed.lawful;
      few_procs = typed.few_procs;
      few_chans = subst (λ n. n ≤ 1048576) (sym size) typed.few_chans;
      source = typed.source;
      sink = typed.sink;
      one_source = typed.one_source;
      one_sink = typed.one_sink;
      reads = subst (λ n. AllByRecursion (λ c. c < n) (all_ins net.procs)) (sym size) typed.reads;
      writes = subst (λ n. AllByRecursion (λ c. c < n) (all_outs net.procs)) (sym size) typed.writes;
      widths = typed.widths;
      few_tags = typed.few_tags;
      channels = λ c inside.
          let there : c < length net.chans = subst (λ n. c < n) size inside in
          channel_fits net new typed.widths c refl
          (placed_wider make
          (λ i x. record { cap = no_less chosen x.cap (width_at widths i).words (end_price tree costs net ends i); credits = refl })
          0 net.chans c there)
          (typed.channels c there);
      processes = typed.processes;
    }
