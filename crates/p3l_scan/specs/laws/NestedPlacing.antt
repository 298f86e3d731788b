-- The walk over the slots of a template with a template at each slot, by the lemmas of Placing: so it begins (`begun`), each inner
-- template keeps it (`continued`), and at its end the nested template is placed (`ended`). There is room for each (`outer_room`,
-- `inner_room`) where there is for all.
use Rattle.std.proofs.Common.{◌≡◌, ℕ, ◌+◌, ◌<◌, ◌≤◌, List, length, get_or, sym, ap, ap₂, ◌∙◌, subst, arith, length-append}
use Rattle.std.proofs.lemmas.List.{get_or-map, length-map}
use Rattle.p3l_firing.specs.declared.net.Net.{Net}
use Rattle.p3l_template.specs.declared.template.Ports.{Ports}
use Rattle.p3l_template.specs.Built.{all_ports}
use Rattle.p3l_link.specs.Net.{HasRoom, Piece, base_at, inner_pieces, own_piece, with_piece}
use Rattle.p3l_scan.specs.Nested.{AreInner, IsBuilt, nested, nested_piece}
use Rattle.p3l_template.specs.Placed.{IsLawfulShape}
use Rattle.p3l_template.specs.Shape.{Base, HasRoomFor, Slot, Blueprint, added, base_of, no_slot, ports_of}
use Rattle.p3l_scan.specs.laws.NestedLaw.{nested_count, nested_procs}
use Rattle.p3l_link.proofs.Placing.{end_built, init_built, next_built, room_built}

module _ (outer : Blueprint) (which : ℕ → ℕ) (inner : ℕ → Blueprint) (law : IsLawfulShape outer) (are : AreInner outer which inner)
    (cap : ℕ) (at : Ports) (b0 : Net) where
  abbrev base : Base
  base = base_of at b0

  abbrev slots : List Slot
  slots = outer.slots (base_of at b0)

  abbrev whole : Piece
  whole = nested_piece outer inner cap (base_of at b0)

  abbrev HasRoomForAll : Type 0
  HasRoomForAll = HasRoomFor b0 (length ((nested outer inner).procs base)) ((nested outer inner).chans base)

  room_for : HasRoomForAll → HasRoom b0 whole
  room_for room = (
    omega (arith, room.0, ap (λ xs. length xs) (nested_procs outer which inner law are 1 cap base)),
    omega (arith, room.1, nested_count outer which inner law are 1 cap base),
  )

  pub outer_room : HasRoomForAll → HasRoomFor b0 (length (outer.procs base)) (outer.chans base)
  outer_room all =
      let room = room_for all in
      let rest : Piece = inner_pieces (λ v. own_piece (inner v) cap) slots (base.proc + length (outer.procs base))
      (base.chan + outer.chans base) in (
        omega (arith, room.0, length-append (outer.procs base) rest.procs),
        omega (arith, room.1, law.laid cap base, length-append (outer.laid cap base) rest.chans),
      )

  pub begun : (b : Net) → b ≡ added b0 (outer.procs base) (outer.laid cap base) → IsBuilt outer inner cap at b0 b 0
  begun b e = init_built (λ v. own_piece (inner v) cap) outer cap at b0 b (law.laid cap base) e

  module _ (items : List Ports) (items_are : items ≡ all_ports slots) (b : Net) (i : ℕ)
      (built : IsBuilt outer inner cap at b0 b i) where
    slots_length : length items ≡ length slots
    slots_length = ap length items_are ∙ length-map slots ports_of

    pub ended : length items ≤ i → b ≡ added b0 ((nested outer inner).procs base) ((nested outer inner).laid cap base)
    ended l =
        end_built (λ v. own_piece (inner v) cap) slots b (with_piece b0 whole) i built (omega (arith, l, slots_length))
        ∙ ap (λ xs. added b0 xs whole.chans) (nested_procs outer which inner law are cap 1 base)

    module _ (l : i < length items) (none : Ports) where
      abbrev slot : Slot
      slot = get_or slots i no_slot

      below : i < length slots
      below = omega (arith, l, slots_length)

      port_is : get_or items i none ≡ ports_of slot
      port_is = ap (λ xs. get_or xs i none) items_are ∙ get_or-map ports_of slots i no_slot none below

      part_is : slot.part ≡ which i
      part_is = are.part base i (omega (arith, below, law.count base))

      abbrev here : Base
      here = base_of (get_or items i none) b

      here_is : own_piece (inner (which i)) cap here
          ≡ own_piece (inner slot.part) cap (base_at slot (length b.procs) (length b.chans))
      here_is = ap₂ (λ n (x : Ports). own_piece (inner n) cap (base_of x b)) (sym part_is) port_is

      pub inner_room : HasRoomForAll → HasRoomFor b (length ((inner (which i)).procs here)) ((inner (which i)).chans here)
      inner_room all =
          let room = room_for all in
          let lawful = are.lawful i (omega (arith, below, law.count base)) in
          let h = subst (HasRoom b) (sym here_is)
          (room_built (λ v. own_piece (inner v) cap) slots b (with_piece b0 whole) i built below
          (omega (arith, room.0, length-append b0.procs whole.procs), omega (arith, room.1, length-append b0.chans whole.chans))) in
          (h.0, omega (arith, h.1, lawful.laid cap here))

      pub continued : (b' : Net) → b' ≡ added b ((inner (which i)).procs here) ((inner (which i)).laid cap here) →
          IsBuilt outer inner cap at b0 b' (i + 1)
      continued b' e =
          next_built (λ v. own_piece (inner v) cap) slots b (with_piece b0 whole) i built b' below (e ∙ ap (with_piece b) here_is)
