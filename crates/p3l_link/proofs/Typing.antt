-- The net of a lawful tree is typed (`net_typed`). By one recursion on the depth, the processes of a
-- node and of all below it read and write each of its channels once and fit there
-- (`piece_typed`). For each form this follows from the templates' own law (`row_typed`).
use Rattle.std.proofs.Common.{◌≡◌, ℕ, zero, suc, ◌+◌, ◌*◌, ◌≢◌, ◌<◌, ◌≤◌, true, false, Option, Some, None, List, [], ◌∷◌, ◌++◌, length, get_or, slice_get, slice_index, refl, sym, ap, ◌∙◌, subst, arith, inl, inr, length-append}
use Rattle.std.specs.Prelude.{◌==◌}
use Rattle.std.specs.List.{AllByRecursion}
use Rattle.std.specs.Option.{option_map}
use Rattle.std.proofs.lemmas.Bool.{cases_lt}
use Rattle.std.proofs.lemmas.Bool.Decides.{nat_tests}
use Rattle.p3l_skel.specs.declared.tree.Form.{Form}
use Rattle.p3l_skel.specs.declared.tree.Form.TheVariants.{Seq, Comp, Pipe, Farm, Map, Reduce, Loop}
use Rattle.p3l_skel.specs.declared.tree.Tree.{Tree}
use Rattle.p3l_skel.specs.Counts.{HasLawfulCounts, IsLawfulCount, count_of}
use Rattle.p3l_skel.specs.Lawful.{HasOnePart, HasTwoParts, IsLawfulForm, IsLawfulTree}
use Rattle.p3l_skel.specs.Numbers.{procs}
use Rattle.p3l_skel.specs.Tree.{node_at, part_at, nesting}
use Rattle.p3l_skel.proofs.Depth.{lawful_at}
use Rattle.p3l_firing.specs.declared.net.Chan.{Chan}
use Rattle.p3l_firing.specs.declared.net.Net.{Net}
use Rattle.p3l_firing.specs.declared.process.Proc.{Proc}
use Rattle.p3l_firing.specs.declared.process.ProcKind.{ProcKind}
use Rattle.p3l_firing.specs.declared.process.ProcKind.TheVariants.{Source, Sink}
use Rattle.p3l_firing.specs.Process.{all_ins, all_outs, kind_at, times}
use Rattle.p3l_firing.specs.Single.{the_source, the_sink}
use Rattle.p3l_firing.specs.Token.{most_tags}
use Rattle.p3l_firing.specs.Typed.{FitsChannel, FitsKind, IsTyped}
use Rattle.p3l_firing.specs.Widths.{Widths, Carries}
use Rattle.p3l_firing.specs.kinds.Run.{Takes}
use Rattle.p3l_template.specs.Placed.{IsLawfulShape}
use Rattle.p3l_template.specs.Shape.{Base, Slot, Blueprint, no_slot, numbers_from}
use Rattle.p3l_template.specs.Typing.{Carry, IsInner, IsTypedShape, SlotFits, StandsTyped}
use Rattle.p3l_template.specs.Width.{no_width}
use Rattle.p3l_template.specs.declared.width.Width.{Width}
use Rattle.p3l_template.specs.laws.TimesLaw.{times_cons}
use Rattle.p3l_link.specs.Counts.{HasOwnCount, IsCounted}
use Rattle.p3l_link.specs.Net.{Piece, base_at, end_net, inner_pieces, linked_net, piece_of, root_base, root_piece, whole_piece, with_piece}
use Rattle.p3l_link.specs.Node.{Serves}
use Rattle.p3l_link.specs.Shape.{kind_at as node_kind, kind_row, shape_at, template_at, template_row}
use Rattle.p3l_link.specs.NodeLaw.{kind_counted, kind_typed}
use Rattle.p3l_link.proofs.Counted.{root_counted, slot_counted, shape_lawful}
use Rattle.p3l_link.proofs.Once.{HasOnce, HaveOnce, inner_once, whole_once}
use Rattle.p3l_link.proofs.Size.{root_sized}
use Rattle.p3l_link.proofs.Widths.{AllRows, all_append, carry_left, carry_right, rows_append, rows_at, rows_few, rows_from}

-- THE TEMPLATES

one_part : (P : ℕ → Type 0) (ps : List ℕ) → HasOnePart P ps → P (slice_index ps 0)
one_part P [] h = absurd h
one_part P (p ∷ []) h = h
one_part P (p ∷ (q ∷ ps)) h = absurd h

two_parts : (P : ℕ → ℕ → Type 0) (ps : List ℕ) → HasTwoParts P ps → P (slice_index ps 0) (slice_index ps 1)
two_parts P [] h = absurd h
two_parts P (p ∷ []) h = absurd h
two_parts P (p ∷ (q ∷ [])) h = h
two_parts P (p ∷ (q ∷ (r ∷ ps))) h = absurd h

-- each row of the table is made for the nodes of its form
row_serves : (tree : Tree) (k n : ℕ) (f : Form) → k < length tree.nodes → (node_at tree k).form ≡ f →
    IsLawfulForm tree f (node_at tree k).ins (node_at tree k).outs (node_at tree k).parts → HasOwnCount f n →
    Serves (template_row f k (length (node_at tree k).parts) n) tree k
row_serves tree k n Seq there is lawful own = (
  refl,
  record {
    there = there;
    takes = subst (λ f. Takes f (node_at tree k).ins 0 (node_at tree k).ins) (sym is) (refl, refl);
  },
)
row_serves tree k n Comp there is lawful own = (
  refl,
  record {
    there = there;
    takes = subst (λ f. Takes f (node_at tree k).ins 0 (node_at tree k).ins) (sym is) (refl, refl);
  },
)
row_serves tree k n Pipe there is lawful own = record { some = lawful.0; parts = refl; chain = lawful.1 }
row_serves tree k n (Farm w) there is lawful own = (
  refl,
  record {
    there = there;
    clause = w;
    form = is;
    count = subst (λ f. IsLawfulCount f n) (sym is) own;
    part = one_part _ (node_at tree k).parts lawful;
  },
)
row_serves tree k n (Map w cut) there is lawful own = (
  refl,
  record {
    there = there;
    clause = w;
    cut = cut;
    form = is;
    count = subst (λ f. IsLawfulCount f n) (sym is) own;
  },
)
row_serves tree k n (Reduce w len elem) there is lawful own =
    let part = one_part _ (node_at tree k).parts lawful in (
      refl,
      record {
        there = there;
        clause = w;
        elem = elem;
        form = is;
        count = subst (λ f. IsLawfulCount f n) (sym is) own;
        result = part.result;
      },
    )
row_serves tree k n (Loop turns tokens) there is lawful own =
    let parts = two_parts _ (node_at tree k).parts lawful in (
      refl,
      record {
        there = there;
        most = turns;
        tokens = tokens;
        form = is;
        same = parts.parts.same_words;
        body = parts.parts.turned;
      },
    )

module _ (tree : Tree) (count : ℕ → ℕ) (k : ℕ) (lawful : IsLawfulTree tree) (there : k < length tree.nodes)
    (own : HasOwnCount (node_at tree k).form (count k)) where
  pub template_serves : Serves (template_at tree count k) tree k
  template_serves = row_serves tree k (count k) (node_at tree k).form there refl (lawful_at tree lawful k there).form own

  -- so each is typed
  pub shape_typed : IsTypedShape tree k (shape_at tree count k)
  unfolding node_kind kind_row
  shape_typed = kind_typed (template_at tree count k) tree k template_serves

  -- and has a width for each of its own channels
  pub widths_counted : (t : ℕ) (base : Base) → length ((node_kind tree count k).widths tree k t) ≡ (shape_at tree count k).chans base
  unfolding node_kind kind_row
  widths_counted t base = kind_counted (template_at tree count k) tree k t base template_serves

-- ROWS OF WIDTHS

-- a channel that carries this width: room for a token, no more credits than room, what has credits
-- carries no words and no tags, and others at most `most` tags
record FitsRow (most : ℕ) (chan : Chan) (row : Width) : Type 0 where
  room : 0 < chan.cap
  credits : chan.credits ≤ chan.cap
  bare : 0 < chan.credits → row ≡ no_width
  tags : row.tags ≤ most

-- PIECES

-- the piece of node k to depth d at a base, if tokens outside have t tags: it has a row of widths
-- for its channels, it reads and writes each of them and its ports once, and it fits there
record IsTypedPiece (tree : Tree) (k d : ℕ) (base : Base) (t : ℕ) (F : Piece) : Type 0 where
  rows : List Width
  count : length rows ≡ length F.chans
  fit : (most : ℕ) → t + 2 * d ≤ most → AllRows (FitsRow most) F.chans rows
  once : HasOnce base F
  inner : AllByRecursion (λ (q : Proc). IsInner q.kind) F.procs
  fits : (w : Widths) → Carries w base.input (node_at tree k).ins t → Carries w base.output (node_at tree k).outs t →
      Carry w base.chan rows → AllByRecursion (λ (q : Proc). FitsKind q.kind tree w q) F.procs

-- the same of the inner parts of node k at these slots, whose channels are those from c on
record IsTypedInner (tree : Tree) (k d : ℕ) (slots : List Slot) (c t : ℕ) (F : Piece) : Type 0 where
  rows : List Width
  count : length rows ≡ length F.chans
  fit : (most : ℕ) → t + 2 * d ≤ most → AllRows (FitsRow most) F.chans rows
  once : HaveOnce slots c F
  inner : AllByRecursion (λ (q : Proc). IsInner q.kind) F.procs
  fits : (w : Widths) → ((v : ℕ) → v < length slots → SlotFits tree k w t (get_or slots v no_slot)) → Carry w c rows →
      AllByRecursion (λ (q : Proc). FitsKind q.kind tree w q) F.procs

inner_typed : (tree : Tree) (k d t : ℕ) (f : ℕ → Base → Piece) (slots : List Slot) (p c : ℕ) →
    ((v : ℕ) → v < length slots → (b : Base) →
    IsTypedPiece tree (part_at tree k (get_or slots v no_slot).part) d b t (f (get_or slots v no_slot).part b)) →
    IsTypedInner tree k d slots c t (inner_pieces f slots p c)
unfolding inner_pieces AllRows
inner_typed tree k d t f [] p c each = record {
  rows = [];
  count = refl;
  fit = λ most l. tt;
  once = inner_once f [] p c (λ v l b. let it = each v l b in it.once);
  inner = tt;
  fits = λ w s h. tt;
}
inner_typed tree k d t f (x ∷ xs) p c each =
    let b : Base = base_at x p c in
    let F : Piece = f x.part b in
    let here : IsTypedPiece tree (part_at tree k x.part) d b t F = each 0 (omega arith) b in
    let G : Piece = inner_pieces f xs (p + length F.procs) (c + length F.chans) in
    let rest : IsTypedInner tree k d xs (c + length F.chans) t G =
    inner_typed tree k d t f xs (p + length F.procs) (c + length F.chans) (λ v l b. each (suc v) (omega arith) b) in
    let many : length (F.chans ++ G.chans) ≡ length F.chans + length G.chans = length-append F.chans G.chans in
    record {
      rows = here.rows ++ rest.rows;
      count = omega (arith, many, length-append here.rows rest.rows, here.count, rest.count);
      fit = λ most l. rows_append (FitsRow most) F.chans G.chans here.rows rest.rows (here.fit most l) (rest.fit most l);
      once = inner_once f (x ∷ xs) p c (λ v l b. let it = each v l b in it.once);
      inner = all_append (λ (q : Proc). IsInner q.kind) F.procs G.procs here.inner rest.inner;
      fits = λ w s h.
          let first : SlotFits tree k w t x = s 0 (omega arith) in
          all_append (λ (q : Proc). FitsKind q.kind tree w q) F.procs G.procs
          (here.fits w first.input first.output (carry_left w c here.rows rest.rows h))
          (rest.fits w (λ v l. s (suc v) (omega arith))
          (subst (λ n. Carry w (c + n) rest.rows) here.count (carry_right w c here.rows rest.rows h)));
    }

-- a template that is typed, round inner parts that are
whole_typed : (tree : Tree) (k d t : ℕ) (cap : ℕ) (pos : 0 < cap) (shape : Blueprint) (law : IsLawfulShape shape)
    (typed : IsTypedShape tree k shape) (f : ℕ → Base → Piece) (base : Base) →
    ((v : ℕ) → v < length (shape.slots base) → (b : Base) →
    IsTypedPiece tree (part_at tree k (get_or (shape.slots base) v no_slot).part) d b (t + typed.deeper)
    (f (get_or (shape.slots base) v no_slot).part b)) →
    IsTypedPiece tree k (suc d) base t (whole_piece shape cap f base)
whole_typed tree k d t cap pos shape law typed f base each =
    let slots : List Slot = shape.slots base in
    let own : List Chan = shape.laid cap base in
    let G : Piece = inner_pieces f slots (base.proc + length (shape.procs base)) (base.chan + shape.chans base) in
    let rest : IsTypedInner tree k d slots (base.chan + shape.chans base) (t + typed.deeper) G =
    inner_typed tree k d (t + typed.deeper) f slots (base.proc + length (shape.procs base)) (base.chan + shape.chans base) each in
    let long : length own ≡ shape.chans base = law.laid cap base in
    let wide : length (typed.widths t) ≡ shape.chans base = typed.count t base in
    let many : length (own ++ G.chans) ≡ shape.chans base + length G.chans = omega (arith, length-append own G.chans, long) in
    let shallow = typed.shallow in
    let stands : (w : Widths) → Carries w base.input (node_at tree k).ins t → Carries w base.output (node_at tree k).outs t →
    Carry w base.chan (typed.widths t ++ rest.rows) → StandsTyped tree k w base t (typed.widths t) =
    (λ w i o h. record { input = i; output = o; own = carry_left w base.chan (typed.widths t) rest.rows h }) in
    record {
      rows = typed.widths t ++ rest.rows;
      count = omega (arith, many, length-append (typed.widths t) rest.rows, wide, rest.count);
      fit = λ most l.
          rows_append (FitsRow most) own G.chans (typed.widths t) rest.rows
          (rows_from (FitsRow most) own (typed.widths t) (omega (arith, long, wide))
          (λ i j. let c = typed.credits cap base t i j in
          record {
            room = law.rooms cap base i pos j;
            credits = c.0;
            bare = c.1;
            tags = let few = typed.tags t i in omega (arith, few, l);
          }))
          (rest.fit most (omega (arith, l, shallow)));
      once = whole_once tree k cap shape law typed f base (λ v l b. let it = each v l b in it.once);
      inner = all_append (λ (q : Proc). IsInner q.kind) (shape.procs base) G.procs (typed.inner base) rest.inner;
      fits = λ w i o h.
          let s = stands w i o h in
          all_append (λ (q : Proc). FitsKind q.kind tree w q) (shape.procs base) G.procs (typed.procs w base t s)
          (rest.fits w (λ v l. typed.slots w base t s v l)
          (subst (λ n. Carry w (base.chan + n) rest.rows) wide (carry_right w base.chan (typed.widths t) rest.rows h)));
    }

piece_typed : (tree : Tree) (count : ℕ → ℕ) (cap : ℕ) → 0 < cap → IsLawfulTree tree → (d k : ℕ) (base : Base) (t : ℕ) →
    IsCounted tree count d k → IsTypedPiece tree k d base t (piece_of tree count cap d k base)
unfolding piece_of IsCounted
piece_typed tree count cap pos lawful zero k base t h = absurd h
piece_typed tree count cap pos lawful (suc d) k base t h =
    whole_typed tree k d t cap pos (shape_at tree count k) (shape_lawful tree count k lawful h.0 h.1)
    (shape_typed tree count k lawful h.0 h.1) (λ v. piece_of tree count cap d (part_at tree k v)) base
    (λ v l b. piece_typed tree count cap pos lawful d _ b _ (slot_counted tree count k lawful h.0 base v l d h))

-- THE WHOLE NET

one_same : (x : ℕ) → times x (x ∷ []) ≡ 1
one_same x = let test : (x == x) ≡ true = search (arith, nat_tests) in rw test refl

one_other : (x c : ℕ) → c ≢ x → times x (c ∷ []) ≡ 0
one_other x c apart = let test : (c == x) ≡ false = search (arith, nat_tests) in rw test refl

numbers_outside : (n c x : ℕ) → (c ≤ x → c + n ≤ x) → times x (numbers_from c n) ≡ 0
unfolding numbers_from
numbers_outside zero c x h = refl
numbers_outside (suc n) c x h =
    let apart : c ≢ x = (λ e. let l = h (omega arith) in omega arith) in
    let rest = numbers_outside n (suc c) x (λ l. omega (arith, h (omega arith))) in
    omega (arith, times_cons x c (numbers_from (suc c) n), one_other x c apart, rest)

numbers_once : (n c x : ℕ) → c ≤ x → x < c + n → times x (numbers_from c n) ≡ 1
unfolding numbers_from
numbers_once zero c x a b = absurd (omega arith)
numbers_once (suc n) c x a b = elim (cases_lt c x) [
  | inl below ↦
      let apart : c ≢ x = (λ e. omega arith) in
      omega (
        arith,
        times_cons x c (numbers_from (suc c) n),
        one_other x c apart,
        numbers_once n (suc c) x (omega arith) (omega arith),
      )
  | inr same ↦
      let e : x ≡ c = omega arith in
      omega (
        arith,
        times_cons x c (numbers_from (suc c) n),
        subst (λ z. times x (z ∷ []) ≡ 1) e (one_same x),
        numbers_outside n (suc c) x (λ l. absurd (omega arith)),
      )
]

-- a property of each number in a list holds of all
all_standing : (P : ℕ → Type 0) (xs : List ℕ) → ((x : ℕ) → 0 < times x xs → P x) → AllByRecursion P xs
all_standing P [] h = tt
all_standing P (x ∷ xs) h = (
  h x (omega (arith, times_cons x x xs, one_same x)),
  all_standing P xs (λ y l. h y (omega (arith, times_cons y x xs, l))),
)

all_get : {A : Type 0} (P : A → Type 0) (xs : List A) (i : ℕ) (x : A) → AllByRecursion P xs → slice_get xs i ≡ Some x → P x
all_get P [] i x h e = cc
all_get P (y ∷ ys) zero x h e = let same : y ≡ x = cc in subst P same h.0
all_get P (y ∷ ys) (suc i) x h e = all_get P ys i x h.1 e

-- no process inside is a source or a sink
never : (P : ProcKind → Type 0) (o : Option Proc) (k : ProcKind) → ((q : Proc) → o ≡ Some q → P q.kind) → (P k → ⊥) →
    option_map (λ (q : Proc). q.kind) o ≡ Some k → ⊥
never P None k h not_so e = cc
never P (Some q) k h not_so e = let same : q.kind ≡ k = cc in not_so (subst P same (h q refl))

module _ (tree : Tree) (counts : List ℕ) (cap : ℕ) (pos : 0 < cap) (lawful : IsLawfulTree tree)
    (lawfully : HasLawfulCounts tree counts) (few : procs tree counts 0 ≤ 4096) where
  abbrev F : Piece
  F = root_piece tree counts cap

  abbrev net : Net
  net = with_piece (end_net cap) (root_piece tree counts cap)

  root : IsTypedPiece tree 0 nesting root_base 0 (root_piece tree counts cap)
  unfolding root_piece
  root = piece_typed tree (count_of tree counts) cap pos lawful nesting 0 root_base 0 (root_counted tree counts lawful lawfully)

  -- the root's in words, its out words, and what its own channels carry
  all : List Width
  all = record { words = (node_at tree 0).ins; tags = 0 } ∷ (record { words = (node_at tree 0).outs; tags = 0 } ∷ root.rows)

  widths : Widths
  widths = record { words = λ c. (get_or all c no_width).words; tags = λ c. (get_or all c no_width).tags }

  fit : AllRows (FitsRow most_tags) net.chans all
  unfolding AllRows all
  fit = (
    record { room = pos; credits = omega arith; bare = λ h. absurd (omega (arith, h)); tags = omega arith },
    (
      record { room = pos; credits = omega arith; bare = λ h. absurd (omega (arith, h)); tags = omega arith },
      root.fit most_tags (omega arith),
    ),
  )

  carried : Carry widths 2 root.rows
  unfolding Carry widths all
  carried = λ i l.
      let e : 2 + i ≡ suc (suc i) = omega arith in
      record {
        words = ap (λ c. (get_or all c no_width).words) e;
        tags = ap (λ c. (get_or all c no_width).tags) e;
      }

  fitting : AllByRecursion (λ (q : Proc). FitsKind q.kind tree widths q) F.procs
  unfolding widths all
  fitting = root.fits widths (record { words = refl; tags = refl }) (record { words = refl; tags = refl }) carried

  reads-are : (c : ℕ) → times c (all_ins net.procs) ≡ times c (numbers_from 0 (length net.chans))
  unfolding numbers_from
  reads-are c = omega (
    arith,
    times_cons c 1 (all_ins F.procs),
    root.once.reads c,
    times_cons c 0 (numbers_from 2 (length F.chans)),
    times_cons c 0 (1 ∷ numbers_from 2 (length F.chans)),
    times_cons c 1 (numbers_from 2 (length F.chans)),
  )

  writes-are : (c : ℕ) → times c (all_outs net.procs) ≡ times c (numbers_from 0 (length net.chans))
  unfolding numbers_from
  writes-are c = omega (
    arith,
    times_cons c 0 (all_outs F.procs),
    root.once.writes c,
    times_cons c 1 (numbers_from 2 (length F.chans)),
    times_cons c 0 (1 ∷ numbers_from 2 (length F.chans)),
    times_cons c 1 (numbers_from 2 (length F.chans)),
  )

  within : (x n : ℕ) → 0 < times x (numbers_from 0 n) → x < n
  within x n l = elim (cases_lt x n) [
    | inl below ↦ below
    | inr past ↦ absurd (omega (arith, l, numbers_outside n 0 x (λ z. omega (arith, past))))
  ]

  channel : (c : ℕ) → c < length net.chans → FitsChannel net widths c
  unfolding widths
  channel c l =
      let row = rows_at (FitsRow most_tags) net.chans all c fit l in
      let once = numbers_once (length net.chans) 0 c (omega arith) (omega arith) in
      record {
        room = row.room;
        credits = row.credits;
        written = writes-are c ∙ once;
        read = reads-are c ∙ once;
        bare = λ h. record { words = ap (λ z. z.words) (row.bare h); tags = ap (λ z. z.tags) (row.bare h) };
      }

  process : (p : ℕ) (q : Proc) → slice_get net.procs p ≡ Some q → FitsKind q.kind tree widths q
  unfolding widths all
  process zero q h =
      let e : the_source ≡ q = cc in
      subst (λ (x : Proc). FitsKind x.kind tree widths x) e
      (record { node = refl; arg = refl; ins = refl; outs = refl; gives = record { words = refl; tags = refl } })
  process (suc zero) q h =
      let e : the_sink ≡ q = cc in
      subst (λ (x : Proc). FitsKind x.kind tree widths x) e
      (record { node = refl; arg = refl; ins = refl; outs = refl; takes = record { words = refl; tags = refl } })
  process (suc (suc p)) q h = all_get (λ (x : Proc). FitsKind x.kind tree widths x) F.procs p q fitting h

  one_source : (p : ℕ) → kind_at net p ≡ Some Source → p ≡ 0
  one_source zero h = refl
  one_source (suc zero) h = cc
  one_source (suc (suc p)) h =
      absurd (never IsInner (slice_get F.procs p) Source
      (λ q e. all_get (λ (x : Proc). IsInner x.kind) F.procs p q root.inner e) (λ z. z) h)

  one_sink : (p : ℕ) → kind_at net p ≡ Some Sink → p ≡ 1
  one_sink zero h = cc
  one_sink (suc zero) h = refl
  one_sink (suc (suc p)) h =
      absurd (never IsInner (slice_get F.procs p) Sink
      (λ q e. all_get (λ (x : Proc). IsInner x.kind) F.procs p q root.inner e) (λ z. z) h)

  pub net_typed : IsTyped tree (linked_net tree counts cap)
  unfolding linked_net widths
  net_typed =
      let size = root_sized tree counts cap lawful lawfully in
      record {
        lawful = lawful;
        few_procs = omega (arith, size.procs, few);
        few_chans = omega (arith, size.chans, few);
        source = refl;
        sink = refl;
        one_source = one_source;
        one_sink = one_sink;
        reads = all_standing (λ c. c < length net.chans) (all_ins net.procs)
            (λ x l. within x (length net.chans) (omega (arith, l, reads-are x)));
        writes = all_standing (λ c. c < length net.chans) (all_outs net.procs)
            (λ x l. within x (length net.chans) (omega (arith, l, writes-are x)));
        widths = widths;
        few_tags = λ c. rows_few (FitsRow most_tags) most_tags (λ x w h. h.tags) net.chans all c fit;
        channels = channel;
        processes = process;
      }
