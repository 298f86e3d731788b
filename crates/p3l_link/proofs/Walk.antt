-- The walk over the slots of a node that can be placed, by the lemmas of Placing.
use Rattle.std.proofs.Common.{◌≡◌, ℕ, suc, ◌+◌, ◌-◌, ◌<◌, ◌≤◌, List, length, get_or, drop, sym, ap, ap₂, ◌∙◌, subst, arith, length-append}
use Rattle.std.proofs.lemmas.List.{get_or_default}
use Rattle.p3l_skel.specs.declared.tree.Tree.{Tree}
use Rattle.p3l_skel.specs.Lawful.{IsLawfulTree}
use Rattle.p3l_skel.specs.Tree.{part_at}
use Rattle.p3l_firing.specs.declared.net.Net.{Net}
use Rattle.p3l_template.specs.declared.template.Ports.{Ports}
use Rattle.p3l_template.specs.Placed.{IsLawfulShape}
use Rattle.p3l_template.specs.Shape.{Base, HasRoomFor, Slot, base_of, no_slot, ports_of}
use Rattle.p3l_link.specs.Counts.{IsCounted}
use Rattle.p3l_link.specs.Net.{Piece, HasRoom, base_at, inner_pieces, own_piece, part_piece, piece_of, whole_piece, with_piece}
use Rattle.p3l_link.specs.Shape.{shape_at}
use Rattle.p3l_link.proofs.Counted.{counted_deep, counted_own, counted_there, slot_counted, shape_lawful}
use Rattle.p3l_link.proofs.Placing.{end_built, init_built, next_built, piece_step, room_built}

module _ (tree : Tree) (count : ℕ → ℕ) (cap levels k : ℕ) (lawful : IsLawfulTree tree)
    (counted : IsCounted tree count levels k) (at : Ports) (b0 : Net) where
  abbrev slots : List Slot
  slots = (shape_at tree count k).slots (base_of at b0)

  abbrev whole : Piece
  whole = piece_of tree count cap levels k (base_of at b0)

  abbrev own : Piece
  own = own_piece (shape_at tree count k) cap (base_of at b0)

  abbrev parts : ℕ → Base → Piece
  parts = part_piece tree count cap (levels - 1) k

  there : k < length tree.nodes
  there = counted_there tree count levels k counted

  law : IsLawfulShape (shape_at tree count k)
  law = shape_lawful tree count k lawful there (counted_own tree count levels k counted)

  whole_is : whole ≡ whole_piece (shape_at tree count k) cap parts (base_of at b0)
  whole_is = piece_step tree count cap levels k (base_of at b0) (counted_deep tree count levels k counted)

  -- there is room for the node's own processes and channels
  pub own_room : HasRoom b0 whole → HasRoomFor b0 (length ((shape_at tree count k).procs (base_of at b0)))
      ((shape_at tree count k).chans (base_of at b0))
  own_room room =
      let rest : Piece = inner_pieces parts slots (length b0.procs + length own.procs)
      (length b0.chans + (shape_at tree count k).chans (base_of at b0)) in
      let procs = ap (λ (z : Piece). length z.procs) whole_is in
      let chans = ap (λ (z : Piece). length z.chans) whole_is in
      let lw = law in
      let laid = lw.laid cap (base_of at b0) in (
        omega (arith, room.0, procs, length-append own.procs rest.procs),
        omega (arith, room.1, chans, laid, length-append own.chans rest.chans),
      )

  pub begun : (b : Net) → b ≡ with_piece b0 own →
      with_piece b (inner_pieces parts slots (length b.procs) (length b.chans)) ≡ with_piece b0 whole
  begun b e =
      let chans = law in
      init_built parts (shape_at tree count k) cap at b0 b (chans.laid cap (base_of at b0)) e ∙ ap (with_piece b0) (sym whole_is)

  -- with the parts at the slots from i on, b is the whole
  abbrev pub IsBuilt : Net → ℕ → Type 0
  IsBuilt b i =
      with_piece b (inner_pieces parts (drop i slots) (length b.procs) (length b.chans)) ≡ with_piece b0 whole

  module _ (items : List Slot) (items_are : items ≡ slots) (b : Net) (i : ℕ) (built : IsBuilt b i) where
    slots_length : length items ≡ length slots
    slots_length = ap length items_are

    pub ended : length items ≤ i → b ≡ with_piece b0 whole
    ended l = end_built parts slots b (with_piece b0 whole) i built (omega (arith, l, slots_length))

    -- the part that was found at the next slot
    module _ (l : i < length items) (x y : Slot) (same : x ≡ y) (found : y ≡ get_or items i y) (part : ℕ)
        (part_is : part ≡ part_at tree k x.part) where
      abbrev slot : Slot
      slot = get_or slots i no_slot

      below : i < length slots
      below = omega (arith, l, slots_length)

      slot_is : x ≡ slot
      slot_is = same ∙ found ∙ ap (λ xs. get_or xs i y) items_are ∙ get_or_default slots i y no_slot below

      part_there : part ≡ part_at tree k slot.part
      part_there = part_is ∙ ap (λ (z : Slot). part_at tree k z.part) slot_is

      pub part_counted : IsCounted tree count (levels - 1) part
      part_counted =
          let some = counted_deep tree count levels k counted in
          let e : levels ≡ suc (levels - 1) = omega (arith, some) in
          subst (IsCounted tree count (levels - 1)) (sym part_there)
          (slot_counted tree count k lawful there (base_of at b0) i below (levels - 1)
          (subst (λ d. IsCounted tree count d k) e counted))

      abbrev here : Piece
      here = piece_of tree count cap (levels - 1) part (base_of (ports_of x) b)

      here_is : here ≡ parts slot.part (base_at slot (length b.procs) (length b.chans))
      here_is = ap₂ (λ n (z : Slot). piece_of tree count cap (levels - 1) n (base_of (ports_of z) b)) part_there slot_is

      -- there is room for the part
      pub part_room : HasRoom b0 whole → HasRoom b here
      part_room room =
          subst (HasRoom b) (sym here_is)
          (room_built parts slots b (with_piece b0 whole) i built below
          (omega (arith, room.0, length-append b0.procs whole.procs), omega (arith, room.1, length-append b0.chans whole.chans)))

      pub continued : (b' : Net) → b' ≡ with_piece b here → IsBuilt b' (i + 1)
      continued b' e =
          next_built parts slots b (with_piece b0 whole) i built b' below (e ∙ ap (with_piece b) here_is)
