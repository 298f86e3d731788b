-- The net of a tree: what each node places, by one recursion on the depth.
use Rattle.std.specs.Prelude.{ℕ, zero, suc, ◌+◌, List, [], ◌∷◌, ◌++◌, length}
use Rattle.p3l_skel.specs.declared.tree.Tree.{Tree}
use Rattle.p3l_skel.specs.Counts.{count_of}
use Rattle.p3l_skel.specs.Tree.{part_at, nesting}
use Rattle.p3l_firing.specs.declared.net.Chan.{Chan}
use Rattle.p3l_firing.specs.declared.net.Net.{Net}
use Rattle.p3l_firing.specs.declared.process.Proc.{Proc}
use Rattle.p3l_firing.specs.Single.{the_source, the_sink}
use Rattle.p3l_template.specs.Shape.{Base, Slot, Blueprint, HasRoomFor, added, empty_chan}
use Rattle.p3l_template.specs.Run.{run_shape}
use Rattle.p3l_link.specs.Shape.{shape_at}

-- processes and channels that are one after the other in a net
pub record Piece : Type 0 where
  pub procs : List Proc
  pub chans : List Chan

abbrev pub no_piece : Piece
no_piece = record { procs = []; chans = [] }

-- a piece with another one after it
abbrev pub followed : Piece → Piece → Piece
followed one other = record { procs = one.procs ++ other.procs; chans = one.chans ++ other.chans }

-- the base of the inner part at a slot, with its first process p and its first channel c
abbrev pub base_at : Slot → (p c : ℕ) → Base
base_at slot p c = record { input = slot.input; output = slot.output; proc = p; chan = c }

-- the net built so far, with a piece after it
abbrev pub with_piece : Net → Piece → Net
with_piece built piece = added built piece.procs piece.chans

-- a piece more keeps within the limits of a net
abbrev pub HasRoom : Net → Piece → Type 0
HasRoom built piece = HasRoomFor built (length piece.procs) (length piece.chans)

-- the inner parts at these slots, one after the other, from process p and channel c on
unfoldable pub inner_pieces : (ℕ → Base → Piece) → List Slot → (p c : ℕ) → Piece
inner_pieces piece [] p c = no_piece
inner_pieces piece (slot ∷ slots) p c =
    let here : Piece = piece slot.part (base_at slot p c) in
    followed here (inner_pieces piece slots (p + length here.procs) (c + length here.chans))

-- a template's own processes and channels
abbrev pub own_piece : Blueprint → (cap : ℕ) → Base → Piece
own_piece shape cap base = record { procs = shape.procs base; chans = shape.laid cap base }

-- its own ones first, then its inner parts in order, where it is known what each part of its node
-- places
abbrev pub whole_piece : Blueprint → (cap : ℕ) → (ℕ → Base → Piece) → Base → Piece
whole_piece shape cap piece base =
    followed (own_piece shape cap base)
    (inner_pieces piece (shape.slots base) (base.proc + length (shape.procs base)) (base.chan + shape.chans base))

-- the piece of node k, with all that is below it down to depth d, in a net whose channels have this
-- capacity; at depth 0 a node is one process
unfoldable pub piece_of : Tree → (ℕ → ℕ) → (cap d k : ℕ) → Base → Piece
piece_of tree count cap zero k base = own_piece (run_shape k) cap base
piece_of tree count cap (suc d) k base =
    whole_piece (shape_at tree count k) cap (λ v. piece_of tree count cap d (part_at tree k v)) base

-- the same under the counts of a tree
abbrev pub node_piece : Tree → List ℕ → (cap d k : ℕ) → Base → Piece
node_piece tree counts cap d k = piece_of tree (count_of tree counts) cap d k

-- the piece of part v of node k
abbrev pub part_piece : Tree → (ℕ → ℕ) → (cap d k : ℕ) → ℕ → Base → Piece
part_piece tree count cap d k v = piece_of tree count cap d (part_at tree k v)

-- the source, which sends into channel 0, and the sink, which takes from channel 1
abbrev pub end_net : ℕ → Net
end_net cap = record { procs = the_source ∷ (the_sink ∷ []); chans = empty_chan cap ∷ (empty_chan cap ∷ []) }

-- the root is between them
abbrev pub root_base : Base
root_base = record { input = 0; output = 1; proc = 2; chan = 2 }

unfoldable pub root_piece : Tree → List ℕ → (cap : ℕ) → Piece
root_piece tree counts cap = node_piece tree counts cap nesting 0 root_base

-- THE NET OF A TREE under these counts, with channels of this capacity
unfoldable pub linked_net : Tree → List ℕ → (cap : ℕ) → Net
linked_net tree counts cap = with_piece (end_net cap) (root_piece tree counts cap)
