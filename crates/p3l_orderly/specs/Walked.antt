-- Results of the walk over a tree in code.
use Rattle.std.specs.Prelude.{ℕ, ◌+◌, ◌≤◌, length, Option, Some, None, cond}
use Rattle.p3l_skel.specs.declared.tree.Tree.{Tree}
use Rattle.p3l_firing.specs.State.{State}
use Rattle.p3l_template.specs.Shape.{Base}
use Rattle.p3l_link.specs.Net.{Piece, piece_of}
use Rattle.p3l_orderly.specs.declared.walk.Found.{Found}
use Rattle.p3l_template.specs.Finding.{Finding}
use Rattle.p3l_orderly.specs.Walk.{node_found}

-- the finding in a node, and its piece: of channels of capacity 1, since neither the finding nor the number of
-- processes and channels depends on the capacity
abbrev pub walk_found : Tree → (ℕ → ℕ) → (d k : ℕ) → Base → State → Finding
walk_found tree count d k base s = node_found tree count 1 d k base s

abbrev pub walk_piece : Tree → (ℕ → ℕ) → (d k : ℕ) → Base → Piece
walk_piece tree count d k base = piece_of tree count 1 d k base

-- the tokens pending in an orderly part, with the first process and channel after it
unfoldable pub found_to : Finding → (p c : ℕ) → Option Found
found_to f p c = cond f.orderly (Some (record { pending = f.pending; proc = p; chan = c })) None

-- the same of a part that places these processes and channels
abbrev pub found_at : Finding → Piece → Base → Option Found
found_at f piece base = found_to f (base.proc + length piece.procs) (base.chan + length piece.chans)

-- a part's processes and channels keep within the limits of a net
abbrev pub HasRoomAt : Piece → Base → Type 0
HasRoomAt piece base = (base.proc + length piece.procs ≤ 1048576) × (base.chan + length piece.chans ≤ 1048576)
