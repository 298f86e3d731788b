-- The pieces already built and those still to build make the whole. This holds at the start of the walk
-- over the slots (`init_built`), and each placed part keeps it (`next_built`); with no slot
-- left the whole is built (`end_built`). If there is room for all parts, there is room for each
-- (`room_built`).
use Rattle.std.proofs.Common.{◌≡◌, ℕ, zero, suc, ◌+◌, ◌-◌, ◌<◌, ◌≤◌, List, ◌∷◌, ◌++◌, length, get_or, drop, drop-cons, sym, ap, ap₂, ◌∙◌, arith, append_assoc, append-nil, length-append}
use Rattle.std.proofs.lemmas.List.{drop_all}
use Rattle.p3l_skel.specs.declared.tree.Tree.{Tree}
use Rattle.p3l_skel.specs.Tree.{part_at}
use Rattle.p3l_firing.specs.declared.net.Net.{Net}
use Rattle.p3l_template.specs.declared.template.Ports.{Ports}
use Rattle.p3l_template.specs.Shape.{Base, Slot, Blueprint, base_of, no_slot}
use Rattle.p3l_link.specs.Net.{Piece, HasRoom, base_at, followed, inner_pieces, no_piece, own_piece, piece_of, whole_piece, with_piece}
use Rattle.p3l_link.specs.Shape.{shape_at}

pub piece_step : (tree : Tree) (count : ℕ → ℕ) (cap d k : ℕ) (base : Base) → 0 < d →
    piece_of tree count cap d k base
    ≡ whole_piece (shape_at tree count k) cap (λ v. piece_of tree count cap (d - 1) (part_at tree k v)) base
unfolding piece_of
piece_step tree count cap zero k base some = absurd (omega arith)
piece_step tree count cap (suc d) k base some =
    let e : d ≡ suc d - 1 = omega arith in
    ap (λ z. whole_piece (shape_at tree count k) cap (λ v. piece_of tree count cap z (part_at tree k v)) base) e

-- a piece after another
with_followed : (b : Net) (F G : Piece) → with_piece b (followed F G) ≡ with_piece (with_piece b F) G
with_followed b F G =
    ap₂ (λ x y. record { procs = x; chans = y }) (sym (append_assoc b.procs F.procs G.procs))
    (sym (append_assoc b.chans F.chans G.chans))

with_none : (b : Net) → with_piece b no_piece ≡ b
with_none b = ap₂ (λ x y. record { procs = x; chans = y }) (append-nil b.procs) (append-nil b.chans)

-- inner parts that come after a piece begin where it ends
after : (f : ℕ → Base → Piece) (slots : List Slot) (b b' : Net) (F : Piece) → b' ≡ with_piece b F →
    with_piece b' (inner_pieces f slots (length b'.procs) (length b'.chans))
    ≡ with_piece b
    (followed F (inner_pieces f slots (length b.procs + length F.procs) (length b.chans + length F.chans)))
after f slots b b' F e =
    ap (λ z. with_piece z (inner_pieces f slots (length z.procs) (length z.chans))) e
    ∙ ap₂ (λ p c. with_piece (with_piece b F) (inner_pieces f slots p c)) (length-append b.procs F.procs)
    (length-append b.chans F.chans) ∙ sym (with_followed b F _)

pub init_built : (f : ℕ → Base → Piece) (shape : Blueprint) (cap : ℕ) (at : Ports) (b b' : Net) →
    length (shape.laid cap (base_of at b)) ≡ shape.chans (base_of at b) →
    b' ≡ with_piece b (own_piece shape cap (base_of at b)) →
    with_piece b' (inner_pieces f (shape.slots (base_of at b)) (length b'.procs) (length b'.chans))
    ≡ with_piece b (whole_piece shape cap f (base_of at b))
init_built f shape cap at b b' laid e =
    after f (shape.slots (base_of at b)) b b' (own_piece shape cap (base_of at b)) e
    ∙ ap (λ n. with_piece b
    (followed (own_piece shape cap (base_of at b))
    (inner_pieces f (shape.slots (base_of at b)) (length b.procs + length (shape.procs (base_of at b)))
    (length b.chans + n)))) laid

-- the piece of the first slot that is left, and those after it
slot_step : (f : ℕ → Base → Piece) (slots : List Slot) (i p c : ℕ) → i < length slots →
    inner_pieces f (drop i slots) p c
    ≡ (let here : Piece = f (get_or slots i no_slot).part (base_at (get_or slots i no_slot) p c) in
    followed here (inner_pieces f (drop (i + 1) slots) (p + length here.procs) (c + length here.chans)))
unfolding inner_pieces
slot_step f slots i p c l =
    let more : suc i ≡ i + 1 = omega arith in
    ap (λ z. inner_pieces f z p c)
    (drop-cons slots i no_slot l ∙ ap (λ j. get_or slots i no_slot ∷ drop j slots) more)

module _ (f : ℕ → Base → Piece) (slots : List Slot) (b : Net) (whole : Net) (i : ℕ)
    (built : with_piece b (inner_pieces f (drop i slots) (length b.procs) (length b.chans)) ≡ whole) where
  here : Piece
  here = f (get_or slots i no_slot).part (base_at (get_or slots i no_slot) (length b.procs) (length b.chans))

  split : i < length slots →
      with_piece b
      (followed here
      (inner_pieces f (drop (i + 1) slots) (length b.procs + length here.procs) (length b.chans + length here.chans)))
      ≡ whole
  unfolding here
  split l = ap (with_piece b) (sym (slot_step f slots i (length b.procs) (length b.chans) l)) ∙ built

  pub next_built : (b' : Net) → i < length slots →
      b' ≡ with_piece b (f (get_or slots i no_slot).part (base_at (get_or slots i no_slot) (length b.procs) (length b.chans))) →
      with_piece b' (inner_pieces f (drop (i + 1) slots) (length b'.procs) (length b'.chans)) ≡ whole
  unfolding here
  next_built b' l e = after f (drop (i + 1) slots) b b' here e ∙ split l

  pub end_built : length slots ≤ i → b ≡ whole
  unfolding inner_pieces
  end_built l =
      sym (with_none b) ∙ ap (λ z. with_piece b (inner_pieces f z (length b.procs) (length b.chans))) (sym (drop_all i slots l))
      ∙ built

  pub room_built : i < length slots → (length whole.procs ≤ 1048576) × (length whole.chans ≤ 1048576) →
      HasRoom b (f (get_or slots i no_slot).part (base_at (get_or slots i no_slot) (length b.procs) (length b.chans)))
  unfolding here
  room_built l room =
      let more : Piece = inner_pieces f (drop (i + 1) slots) (length b.procs + length here.procs)
      (length b.chans + length here.chans) in
      let procs = ap (λ z. length z.procs) (split l) in
      let chans = ap (λ z. length z.chans) (split l) in (
        omega (arith, room.0, procs, length-append b.procs (here.procs ++ more.procs), length-append here.procs more.procs),
        omega (arith, room.1, chans, length-append b.chans (here.chans ++ more.chans), length-append here.chans more.chans),
      )
