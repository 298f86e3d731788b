-- The typing law of templates of templates (`nested_typed`): a typed template whose inner parts have tokens of no more tags, with
-- typed ones at its slots, is typed. Before it, that any typed template is round typed pieces (`whole_typed`), which is the step of
-- the linker's recursion too.
use Rattle.std.proofs.Common.{◌≡◌, ℕ, zero, suc, ◌+◌, ◌<◌, ◌≤◌, List, [], ◌∷◌, ◌++◌, length, get_or, inl, inr, ◌⊎◌, refl, sym, ap, ◌∙◌, subst, arith, length-append}
use Rattle.std.specs.List.{AllByRecursion}
use Rattle.std.proofs.lemmas.Bool.{cases_lt}
use Rattle.p3l_skel.specs.declared.tree.Tree.{Tree}
use Rattle.p3l_skel.specs.Tree.{node_at, part_at}
use Rattle.p3l_firing.specs.declared.net.Chan.{Chan}
use Rattle.p3l_firing.specs.declared.process.Proc.{Proc}
use Rattle.p3l_firing.specs.Process.{all_ins, all_outs, times}
use Rattle.p3l_firing.specs.Typed.{FitsKind}
use Rattle.p3l_firing.specs.Widths.{Widths, Carries}
use Rattle.p3l_link.specs.Net.{Piece, base_at, inner_pieces, own_piece, whole_piece}
use Rattle.p3l_link.proofs.Once.{HasOnce, HaveOnce, inner_once, whole_once}
use Rattle.p3l_link.proofs.Widths.{AllRows, all_append, carry_left, carry_right, rows_append, rows_at, rows_few, rows_from}
use Rattle.p3l_scan.specs.Nested.{AreInner, AreTypedInner, nested, nested_piece}
use Rattle.p3l_template.specs.Placed.{IsLawfulShape}
use Rattle.p3l_template.specs.Shape.{Base, Slot, Blueprint, no_slot, numbers_from}
use Rattle.p3l_template.specs.Typing.{Carry, IsInner, IsTypedShape, SlotFits, StandsTyped, slot_ins, slot_outs}
use Rattle.p3l_template.specs.Width.{no_width}
use Rattle.p3l_template.specs.declared.width.Width.{Width}
use Rattle.p3l_scan.specs.laws.NestedLaw.{no_slots}
use Rattle.p3l_template.specs.laws.TimesLaw.{times_append, times_none}

-- a channel that carries this width: no more credits than room, what has credits carries no words and no tags, and others at most
-- `most` tags
pub record FitsRow (most : ℕ) (chan : Chan) (row : Width) : Type 0 where
  pub credits : chan.credits ≤ chan.cap
  pub bare : 0 < chan.credits → row ≡ no_width
  pub tags : row.tags ≤ most

-- PIECES

-- the piece of a node at a base, where tokens outside have t tags, and its channels carry these widths: none has more than `most`
-- tags; it reads and writes each of them and its ports once, and it fits there
pub record IsTypedPiece (tree : Tree) (node : ℕ) (base : Base) (t most : ℕ) (rows : List Width) (F : Piece) : Type 0 where
  pub count : length rows ≡ length F.chans
  pub fit : AllRows (FitsRow most) F.chans rows
  pub once : HasOnce base F
  pub inner : AllByRecursion (λ (q : Proc). IsInner q.kind) F.procs
  pub fits : (w : Widths) → Carries w base.input (node_at tree node).ins t → Carries w base.output (node_at tree node).outs t →
      Carry w base.chan rows → AllByRecursion (λ (q : Proc). FitsKind q.kind tree w q) F.procs

-- the same of the inner parts of a node at these slots, whose channels are those from c on
record IsTypedRow (tree : Tree) (node : ℕ) (slots : List Slot) (c t most : ℕ) (rows : List Width) (F : Piece) : Type 0 where
  count : length rows ≡ length F.chans
  fit : AllRows (FitsRow most) F.chans rows
  once : HaveOnce slots c F
  inner : AllByRecursion (λ (q : Proc). IsInner q.kind) F.procs
  fits : (w : Widths) → ((v : ℕ) → v < length slots → SlotFits tree node w t (get_or slots v no_slot)) → Carry w c rows →
      AllByRecursion (λ (q : Proc). FitsKind q.kind tree w q) F.procs

-- the widths of n pieces, one after the other
unfoldable pub rows_of : ℕ → (ℕ → List Width) → List Width
rows_of zero rows = []
rows_of (suc n) rows = rows 0 ++ rows_of n (λ v. rows (suc v))

row_typed : (tree : Tree) (node t most : ℕ) (f : ℕ → Base → Piece) (slots : List Slot) (rows : ℕ → List Width) (p c : ℕ) →
    ((v : ℕ) → v < length slots → (b : Base) →
    IsTypedPiece tree (part_at tree node (get_or slots v no_slot).part) b t most (rows v) (f (get_or slots v no_slot).part b)) →
    IsTypedRow tree node slots c t most (rows_of (length slots) rows) (inner_pieces f slots p c)
unfolding inner_pieces AllRows rows_of
row_typed tree node t most f [] rows p c each = record {
  count = refl;
  fit = tt;
  once = inner_once f [] p c (λ v l b. let it = each v l b in it.once);
  inner = tt;
  fits = λ w s h. tt;
}
row_typed tree node t most f (x ∷ xs) rows p c each =
    let b : Base = base_at x p c in
    let F : Piece = f x.part b in
    let here : IsTypedPiece tree (part_at tree node x.part) b t most (rows 0) F = each 0 (omega arith) b in
    let G : Piece = inner_pieces f xs (p + length F.procs) (c + length F.chans) in
    let more : List Width = rows_of (length xs) (λ v. rows (suc v)) in
    let rest : IsTypedRow tree node xs (c + length F.chans) t most more G =
    row_typed tree node t most f xs (λ v. rows (suc v)) (p + length F.procs) (c + length F.chans)
    (λ v l b. each (suc v) (omega arith) b) in
    let many : length (F.chans ++ G.chans) ≡ length F.chans + length G.chans = length-append F.chans G.chans in
    record {
      count = omega (arith, many, length-append (rows 0) more, here.count, rest.count);
      fit = rows_append (FitsRow most) F.chans G.chans (rows 0) more here.fit rest.fit;
      once = inner_once f (x ∷ xs) p c (λ v l b. let it = each v l b in it.once);
      inner = all_append (λ (q : Proc). IsInner q.kind) F.procs G.procs here.inner rest.inner;
      fits = λ w s h.
          let first : SlotFits tree node w t x = s 0 (omega arith) in
          all_append (λ (q : Proc). FitsKind q.kind tree w q) F.procs G.procs
          (here.fits w first.input first.output (carry_left w c (rows 0) more h))
          (rest.fits w (λ v l. s (suc v) (omega arith))
          (subst (λ n. Carry w (c + n) more) here.count (carry_right w c (rows 0) more h)));
    }

-- a typed template, round pieces that are typed
pub whole_typed : (tree : Tree) (node t most : ℕ) (cap : ℕ) (shape : Blueprint) (law : IsLawfulShape shape)
    (typed : IsTypedShape tree node shape) (f : ℕ → Base → Piece) (rows : ℕ → List Width) (base : Base) → t + 2 ≤ most →
    ((v : ℕ) → v < length (shape.slots base) → (b : Base) →
    IsTypedPiece tree (part_at tree node (get_or (shape.slots base) v no_slot).part) b (t + typed.deeper) most (rows v)
    (f (get_or (shape.slots base) v no_slot).part b)) →
    IsTypedPiece tree node base t most (typed.widths t ++ rows_of (length (shape.slots base)) rows) (whole_piece shape cap f base)
whole_typed tree node t most cap shape law typed f rows base above each =
    let slots : List Slot = shape.slots base in
    let own : List Chan = shape.laid cap base in
    let G : Piece = inner_pieces f slots (base.proc + length (shape.procs base)) (base.chan + shape.chans base) in
    let more : List Width = rows_of (length slots) rows in
    let rest : IsTypedRow tree node slots (base.chan + shape.chans base) (t + typed.deeper) most more G =
    row_typed tree node (t + typed.deeper) most f slots rows (base.proc + length (shape.procs base))
    (base.chan + shape.chans base) each in
    let long : length own ≡ shape.chans base = law.laid cap base in
    let wide : length (typed.widths t) ≡ shape.chans base = typed.count t base in
    let many : length (own ++ G.chans) ≡ shape.chans base + length G.chans = omega (arith, length-append own G.chans, long) in
    let stands : (w : Widths) → Carries w base.input (node_at tree node).ins t → Carries w base.output (node_at tree node).outs t →
    Carry w base.chan (typed.widths t ++ more) → StandsTyped tree node w base t (typed.widths t) =
    (λ w i o h. record { input = i; output = o; own = carry_left w base.chan (typed.widths t) more h }) in
    record {
      count = omega (arith, many, length-append (typed.widths t) more, wide, rest.count);
      fit = rows_append (FitsRow most) own G.chans (typed.widths t) more
          (rows_from (FitsRow most) own (typed.widths t) (omega (arith, long, wide))
          (λ i j. let c = typed.credits cap base t i j in
          record { credits = c.0; bare = c.1; tags = let few = typed.tags t i in omega (arith, few, above) }))
          rest.fit;
      once = whole_once tree node cap shape law typed f base (λ v l b. let it = each v l b in it.once);
      inner = all_append (λ (q : Proc). IsInner q.kind) (shape.procs base) G.procs (typed.inner base) rest.inner;
      fits = λ w i o h.
          let s = stands w i o h in
          all_append (λ (q : Proc). FitsKind q.kind tree w q) (shape.procs base) G.procs (typed.procs w base t s)
          (rest.fits w (λ v l. typed.slots w base t s v l)
          (subst (λ n. Carry w (base.chan + n) more) wide (carry_right w base.chan (typed.widths t) more h)));
    }

-- a typed template without inner parts is a typed piece
closed_typed : (tree : Tree) (node t most cap : ℕ) (shape : Blueprint) (law : IsLawfulShape shape) → shape.inner ≡ 0 →
    (typed : IsTypedShape tree node shape) → ((k : ℕ) → (get_or (typed.widths t) k no_width).tags ≤ most) → (base : Base) →
    IsTypedPiece tree node base t most (typed.widths t) (own_piece shape cap base)
closed_typed tree node t most cap shape law closed typed tags base =
    let long : length (shape.laid cap base) ≡ shape.chans base = law.laid cap base in
    let wide : length (typed.widths t) ≡ shape.chans base = typed.count t base in
    let empty = no_slots shape law closed base in
    record {
      count = omega (arith, long, wide);
      fit = rows_from (FitsRow most) (shape.laid cap base) (typed.widths t) (omega (arith, long, wide))
          (λ i j. let c = typed.credits cap base t i j in
          record { credits = c.0; bare = c.1; tags = tags i });
      once = record {
        reads = λ y. omega (
          arith,
          typed.reads base y,
          times_append y (all_ins (shape.procs base)) (slot_ins (shape.slots base)),
          ap (λ xs. times y (slot_ins xs)) empty,
          times_none y,
          ap (λ n. times y (base.input ∷ numbers_from base.chan n)) long,
        );
        writes = λ y. omega (
          arith,
          typed.writes base y,
          times_append y (all_outs (shape.procs base)) (slot_outs (shape.slots base)),
          ap (λ xs. times y (slot_outs xs)) empty,
          times_none y,
          ap (λ n. times y (base.output ∷ numbers_from base.chan n)) long,
        );
      };
      inner = typed.inner base;
      fits = λ w i o h. typed.procs w base t (record { input = i; output = o; own = h });
    }

-- tokens in the channels of the inner templates have at most two tags more than the t of tokens outside
pub record AreShallow (tree : Tree) (node : ℕ) (outer : Blueprint) (which : ℕ → ℕ) (inner : ℕ → Blueprint)
    (typed : IsTypedShape tree node outer) (inners : AreTypedInner tree node outer which inner) : Type 0 where
  pub low : (t v k : ℕ) (l : v < outer.inner) →
      (get_or ((inners.each v l).widths (t + typed.deeper)) k no_width).tags ≤ t + 2

module _ (tree : Tree) (node : ℕ) (outer : Blueprint) (which : ℕ → ℕ) (inner : ℕ → Blueprint) (law : IsLawfulShape outer)
    (are : AreInner outer which inner) (typed : IsTypedShape tree node outer) (inners : AreTypedInner tree node outer which inner)
    (shallow : AreShallow tree node outer which inner typed inners) where
  -- the widths of the template at slot v, where there is one
  widths_at : (t v : ℕ) → (v < outer.inner) ⊎ (outer.inner ≤ v) → List Width
  widths_at t v (inl l) = let i = inners.each v l in i.widths t
  widths_at t v (inr h) = []

  slot_rows : (t v : ℕ) → List Width
  slot_rows t v = widths_at t v (cases_lt v outer.inner)

  piece_at : (t cap : ℕ) (base : Base) (v : ℕ) (l : v < outer.inner) (d : (v < outer.inner) ⊎ (outer.inner ≤ v)) →
      IsTypedPiece tree (part_at tree node (which v)) base (t + typed.deeper) (t + 2) (widths_at (t + typed.deeper) v d)
      (own_piece (inner (which v)) cap base)
  unfolding widths_at
  piece_at t cap base v l (inl i) =
      closed_typed tree (part_at tree node (which v)) (t + typed.deeper) (t + 2) cap (inner (which v)) (are.lawful v i)
      (are.closed v i) (inners.each v i) (λ k. shallow.low t v k i) base
  piece_at t cap base v l (inr h) = absurd (omega arith)

  nested_rows : ℕ → List Width
  nested_rows t = typed.widths t ++ rows_of outer.inner (slot_rows (t + typed.deeper))

  piece_typed : (t cap : ℕ) (base : Base) →
      IsTypedPiece tree node base t (t + 2) (nested_rows t) (nested_piece outer inner cap base)
  unfolding slot_rows nested_rows
  piece_typed t cap base =
      let u : ℕ = t + typed.deeper in
      subst (λ n. IsTypedPiece tree node base t (t + 2) (typed.widths t ++ rows_of n (slot_rows u))
      (nested_piece outer inner cap base)) (law.count base)
      (whole_typed tree node t (t + 2) cap outer law typed (λ v. own_piece (inner v) cap) (slot_rows u) base (omega arith)
      (λ v l b.
      let i : v < outer.inner = omega (arith, l, law.count base) in
      subst (λ z. IsTypedPiece tree (part_at tree node z) b u (t + 2) (slot_rows u v) (own_piece (inner z) cap b))
      (sym (are.part base v i)) (piece_at t cap b v i (cases_lt v outer.inner))))

  pub nested_typed : IsTypedShape tree node (nested outer inner)
  nested_typed = record {
    widths = nested_rows;
    deeper = 0;
    shallow = omega arith;
    count = λ t base. let p = piece_typed t 1 base in p.count;
    tags = λ t k.
        let base : Base = record { input = 0; output = 0; proc = 0; chan = 0 } in
        let p = piece_typed t 1 base in
        rows_few (FitsRow (t + 2)) (t + 2) (λ x w h. h.tags) (nested_piece outer inner 1 base).chans (nested_rows t) k p.fit;
    credits = λ cap base t k l.
        let p = piece_typed t cap base in
        let r = rows_at (FitsRow (t + 2)) (nested_piece outer inner cap base).chans (nested_rows t) k p.fit l in
        (r.credits, r.bare);
    reads = λ base c.
        let p = piece_typed 0 1 base in
        omega (
          arith,
          p.once.reads c,
          times_append c (all_ins (nested_piece outer inner 1 base).procs) [],
          times_none c,
        );
    writes = λ base c.
        let p = piece_typed 0 1 base in
        omega (
          arith,
          p.once.writes c,
          times_append c (all_outs (nested_piece outer inner 1 base).procs) [],
          times_none c,
        );
    inner = λ base. let p = piece_typed 0 1 base in p.inner;
    procs = λ w base t s. let p = piece_typed t 1 base in p.fits w s.input s.output s.own;
    slots = λ w base t s v l. absurd (omega arith);
  }
