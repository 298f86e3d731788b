-- Findings for a node and all nodes below it, in the order of the linker.
use Rattle.std.specs.Prelude.{ℕ, zero, suc, ◌+◌, Bool, ◌&&◌, true, List, [], ◌∷◌, length, map}
use Rattle.p3l_skel.specs.declared.tree.Tree.{Tree}
use Rattle.p3l_skel.specs.Tree.{part_at}
use Rattle.p3l_firing.specs.State.{State}
use Rattle.p3l_firing.specs.declared.token.Token.{Token}
use Rattle.p3l_template.specs.Finding.{Finding}
use Rattle.p3l_template.specs.Shape.{Base, Slot}
use Rattle.p3l_link.specs.Net.{Piece, base_at, piece_of}
use Rattle.p3l_link.specs.Shape.{kind_at, shape_at}

-- all inner parts are orderly
unfoldable pub all_found : List Finding → Bool
all_found [] = true
all_found (f ∷ fs) = f.orderly && all_found fs

-- the tokens pending in each of them
abbrev pub all_pending : List Finding → List (List Token)
all_pending = map (λ f. f.pending)

-- the finding in a part, by those in its inner parts and the template's own finding from the tokens pending there
abbrev pub with_inner : List Finding → (List (List Token) → Finding) → Finding
with_inner inner own =
    record { orderly = all_found inner && (own (all_pending inner)).orderly; pending = (own (all_pending inner)).pending }

-- the findings in the inner parts at these slots, one after the other, from process p and channel c on
unfoldable pub inner_found : (ℕ → Base → Finding) → (ℕ → Base → Piece) → List Slot → (p c : ℕ) → List Finding
inner_found found piece [] p c = []
inner_found found piece (slot ∷ slots) p c =
    let here : Piece = piece slot.part (base_at slot p c) in
    found slot.part (base_at slot p c) ∷ inner_found found piece slots (p + length here.procs) (c + length here.chans)

-- the finding in node k, with all that is below it down to depth d
unfoldable pub node_found : Tree → (ℕ → ℕ) → (cap d k : ℕ) → Base → State → Finding
node_found tree count cap zero k base s = record { orderly = true; pending = [] }
node_found tree count cap (suc d) k base s =
    with_inner
    (inner_found (λ v b. node_found tree count cap d (part_at tree k v) b s) (λ v. piece_of tree count cap d (part_at tree k v))
    ((shape_at tree count k).slots base) (base.proc + length ((shape_at tree count k).procs base))
    (base.chan + (shape_at tree count k).chans base))
    ((kind_at tree count k).finds tree base s)
