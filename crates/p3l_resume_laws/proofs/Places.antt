-- THE WALK over what a linked net is surveyed to have: at each place that is surveyed there is a loop, and each tail is that of one. By one
-- recursion on the depth.
use Rattle.std.proofs.Common.{◌≡◌, ◌≢◌, ℕ, zero, suc, ◌+◌, ◌-◌, ◌^◌, ◌<◌, ◌≤◌, true, List, [], ◌∷◌, ◌++◌, length, get_or, refl, sym, ap, ◌∙◌, subst, subst₂, arith, length-append}
use Rattle.std.specs.List.{AllByRecursion}
use Rattle.std.proofs.lemmas.Bool.{and_from, and_parts}
use Rattle.std.proofs.lemmas.List.{get_or-append-add, get_or_append_left}
use Rattle.p3l_skel.specs.declared.tree.Form.{Form}
use Rattle.p3l_skel.specs.declared.tree.Form.TheVariants.{Seq, Comp, Pipe, Farm, Map, Reduce, Loop}
use Rattle.p3l_skel.specs.declared.tree.Tree.{Tree}
use Rattle.p3l_skel.specs.Tree.{node_at, part_at}
use Rattle.p3l_firing.specs.declared.net.Chan.{Chan}
use Rattle.p3l_firing.specs.declared.net.Net.{Net}
use Rattle.p3l_firing.specs.declared.process.Proc.{Proc}
use Rattle.p3l_firing.specs.declared.process.ProcKind.TheVariants as kinds
use Rattle.p3l_firing.specs.Segments.{level_of, segment_lengths}
use Rattle.p3l_firing.specs.State.{State, chan_at, no_chan}
use Rattle.p3l_firing.specs.Typed.{IsTyped}
use Rattle.p3l_firing.specs.Widths.{Widths}
use Rattle.p3l_template.specs.Part.{Part, all_orderly}
use Rattle.p3l_template.specs.Placed.{AreLaid, AreStanding, IsGoodBase, IsLawfulShape}
use Rattle.p3l_template.specs.Kind.{Kind}
use Rattle.p3l_template.specs.Shape.{Base, Role, Slot, Blueprint, no_slot}
use Rattle.p3l_template.specs.Units.{Units}
use Rattle.p3l_template.specs.Width.{width_at}
use Rattle.p3l_template.specs.declared.width.Width.{Width}
use Rattle.p3l_template.specs.laws.Row.{stands_split}
use Rattle.p3l_loop.specs.LoopKind.{loop_kind, loop_widths}
use Rattle.p3l_reduce.specs.Reduce.{fold_procs, join_procs, reduce_shape}
use Rattle.p3l_link.specs.Counts.{IsCounted}
use Rattle.p3l_link.specs.Laws.{IsPartAt}
use Rattle.p3l_link.specs.Net.{Piece, base_at, inner_pieces, piece_of, whole_piece}
use Rattle.p3l_link.specs.Part.{inner_parts, part_of, role_of, whole_part}
use Rattle.p3l_link.specs.Shape.{kind_at, kind_row, shape_at, shape_row}
use Rattle.p3l_link.proofs.Counted.{counted_own, counted_there, slot_counted, shape_lawful}
use Rattle.p3l_link.proofs.Sound.{sound}
use Rattle.p3l_link.proofs.Typing.{widths_counted}
use Rattle.p3l_net.specs.Fitting.{LoopPlace}
use Rattle.p3l_fitting.specs.Survey.{inner_survey, loop_place, node_survey, own_loops, survey_inside}
use Rattle.p3l_fitting.specs.declared.survey.Survey.{Survey}
use Rattle.p3l_fitting.proofs.Sized.{IsSized, node_sized}
use Rattle.p3l_resume_laws.proofs.Lists.{all_append}
use Rattle.p3l_resume_laws.proofs.LoopAt.{AreRowsOfLoop, IsAt, IsFewAt, IsLoopAt, loop_at, tail_few}
use Rattle.p3l_resume_laws.proofs.Rows.{CarryRow}
use Rattle.p3l_resume_laws.proofs.Surveyed.{IsDeep, inner_deep, loop_deep, survey_deep}

-- LISTS

laid_split : (net : Net) (c : ℕ) (xs ys : List Chan) → AreLaid net c (xs ++ ys) → AreLaid net c xs × AreLaid net (c + length xs) ys
laid_split net c xs ys all = (
  record { at = λ k low. all.at k (omega (arith, low, length-append xs ys)) ∙ get_or_append_left xs ys no_chan k low },
  record {
    at = λ k low.
        let e : (c + length xs) + k ≡ c + (length xs + k) = omega arith in
        ap (chan_at net) e ∙ all.at (length xs + k) (omega (arith, low, length-append xs ys)) ∙ get_or-append-add xs ys k no_chan;
  },
)

row_split : (w : Widths) (c : ℕ) (xs ys : List Width) → CarryRow w c (xs ++ ys) → CarryRow w c xs × CarryRow w (c + length xs) ys
row_split w c [] ys all = let e : c ≡ c + 0 = omega arith in (tt, subst (λ z. CarryRow w z ys) e all)
row_split w c (x ∷ xs) ys all =
    let rest = row_split w (suc c) xs ys all.1 in
    let e : suc c + length xs ≡ c + suc (length xs) = omega arith in
    ((all.0, rest.0), subst (λ z. CarryRow w z ys) e rest.1)

-- a property of the processes from number p on, by their numbers
abbrev pub AllFrom : (P : ℕ → Proc → Type 0) → ℕ → List Proc → Type 0
AllFrom P p [] = Unit {0}
AllFrom P p (q ∷ qs) = P p q × AllFrom P (suc p) qs

from_append : (P : ℕ → Proc → Type 0) (p : ℕ) (xs ys : List Proc) → AllFrom P p xs → AllFrom P (p + length xs) ys → AllFrom P p (xs ++ ys)
from_append P p [] ys left right = let e : p + 0 ≡ p = omega arith in subst (λ z. AllFrom P z ys) e right
from_append P p (x ∷ xs) ys left right =
    let e : p + suc (length xs) ≡ suc p + length xs = omega arith in
    (left.0, from_append P (suc p) xs ys left.1 (subst (λ z. AllFrom P z ys) e right))

-- no process is a tail
NoTail : Proc → Type 0
NoTail q = q.kind ≡ kinds.Tail → ⊥

from_none : (P : ℕ → Proc → Type 0) (p : ℕ) (xs : List Proc) → ((r : ℕ) (q : Proc) → NoTail q → P r q) → AllByRecursion NoTail xs →
    AllFrom P p xs
from_none P p [] each all = tt
from_none P p (x ∷ xs) each all = (each p x all.0, from_none P (suc p) xs each all.1)

-- TEMPLATES

joins_none : (node output t q n : ℕ) → AllByRecursion NoTail (join_procs node output t q n)
unfolding join_procs NoTail
joins_none node output t q zero = tt
joins_none node output t q (suc n) = (λ e. cc, joins_none node output t (suc q) n)

folds_none : (node m output first t s : ℕ) (ls : List ℕ) → AllByRecursion NoTail (fold_procs node m output first t s ls)
unfolding fold_procs NoTail
folds_none node m output first t s [] = tt
folds_none node m output first t s (l ∷ ls) = (λ e. cc, folds_none node m output first t (suc s) ls)

reduce_none : (k len level : ℕ) (base : Base) → AllByRecursion NoTail ((reduce_shape k len level).procs base)
unfolding reduce_shape NoTail
reduce_none k len zero base = (λ e. cc, tt)
reduce_none k len (suc d) base =
    let m : ℕ = 2 ^ suc d in (
      λ e. cc,
      all_append NoTail (join_procs k base.output (base.chan + m) 1 (m - 1)) _ (joins_none k base.output (base.chan + m) 1 (m - 1))
          (folds_none k m base.output base.chan (base.chan + m) 0 (segment_lengths (suc d) len)),
    )

-- the inner parts of a template are orderly if its part is
reduce_orderly : (part : ℕ → Base → Part) (k len level : ℕ) (base : Base) (p c : ℕ) (s : State) →
    all_orderly (inner_parts part ((reduce_shape k len level).slots base) p c) s ≡ true
unfolding reduce_shape inner_parts all_orderly
reduce_orderly part k len zero base p c s = refl
reduce_orderly part k len (suc d) base p c s = refl

row_orderly : (units : Units) (roles : ℕ → Role) (part : ℕ → Base → Part) (k n : ℕ) (parts : List ℕ) (base : Base) (s : State)
    (form : Form) → (whole_part (shape_row form k (length parts) n) units roles part base).orderly s ≡ true →
    all_orderly (inner_parts part ((shape_row form k (length parts) n).slots base) (base.proc + length ((shape_row form k (length parts) n).procs base)) (base.chan + (shape_row form k (length parts) n).chans base)) s ≡ true
unfolding kind_row inner_parts all_orderly
row_orderly units roles part k n parts base s Seq h = refl
row_orderly units roles part k n parts base s Comp h = refl
row_orderly units roles part k n parts base s Pipe h = h
row_orderly units roles part k n parts base s (Farm workers) h = (and_parts _ _ h).0
row_orderly units roles part k n parts base s (Map workers cut) h = (and_parts _ _ h).1
row_orderly units roles part k n parts base s (Reduce workers len elem) h = reduce_orderly part k len (level_of n) base _ _ s
row_orderly units roles part k n parts base s (Loop turns tokens) h = and_from _ _ (and_parts _ _ h).0 refl

module _ (net : Net) (units : Units) (count : ℕ → ℕ) (cap : ℕ) (pos : 0 < cap) (typed : IsTyped units.tree net)
    (Above : State → Type 0) where
  abbrev tree : Tree
  tree = units.tree

  abbrev w : Widths
  w = typed.widths

  abbrev piece : (d k : ℕ) → Base → Piece
  piece d k base = piece_of units.tree count cap d k base

  abbrev part : (d k : ℕ) → Base → Part
  part d k base = part_of units count d k base

  abbrev At : (d k t : ℕ) → Base → Type 0
  At d k t base = IsAt net units count cap typed Above d k t base

  abbrev Loops : List LoopPlace → Type 0
  Loops = AllByRecursion (IsLoopAt net units count cap typed Above)

  abbrev Tails : ℕ → List Proc → Type 0
  Tails = AllFrom (IsFewAt net units count cap typed Above)

  -- the loops that are surveyed are there, and each tail holds few tokens
  pub record HasPlaces (places : List LoopPlace) (p : ℕ) (procs : List Proc) : Type 0 where
    pub loops : Loops places
    pub tails : Tails p procs

  -- a survey has as many channels, and as many processes, as are placed
  piece_size : (d k t : ℕ) (base : Base) → IsCounted units.tree count d k →
      IsSized (piece d k base) (node_survey units.tree count d k t base)
  piece_size d k t base h = node_sized units.tree count cap typed.lawful d k t base h

  -- a slot between channels below `low`, of which the second has room for a token
  record IsUsable (low : ℕ) (x : Slot) : Type 0 where
    input : x.input < low
    output : x.output < low
    apart : x.input ≢ x.output
    room : 0 < (chan_at net x.output).cap

  -- INNER PARTS of node k, where outside them tokens have t tags
  module _ (d k t : ℕ) (each : (j : ℕ) (b : Base) → At d j t b → HasPlaces (node_survey units.tree count d j t b).loops b.proc (piece d j b).procs) (low : ℕ) where
    abbrev f : ℕ → Base → Piece
    f v = piece d (part_at units.tree k v)

    abbrev parts : ℕ → Base → Part
    parts v = part d (part_at units.tree k v)

    abbrev g : ℕ → Base → Survey
    g v b = node_survey units.tree count d (part_at units.tree k v) t b

    record AreAt (xs : List Slot) (p c : ℕ) : Type 0 where
      counted : (v : ℕ) → v < length xs → IsCounted units.tree count d (part_at units.tree k (get_or xs v no_slot).part)
      usable : (v : ℕ) → v < length xs → IsUsable low (get_or xs v no_slot)
      after : low ≤ c
      procs : AreStanding net p (inner_pieces f xs p c).procs
      chans : AreLaid net c (inner_pieces f xs p c).chans
      inside : c + length (inner_pieces f xs p c).chans ≤ length net.chans
      row : CarryRow w c (inner_survey g xs p c).widths
      orderly : (s : State) → Above s → all_orderly (inner_parts parts xs p c) s ≡ true

    inner_places : (xs : List Slot) (p c : ℕ) → AreAt xs p c →
        HasPlaces (inner_survey g xs p c).loops p (inner_pieces f xs p c).procs
    unfolding inner_pieces inner_survey inner_parts all_orderly
    inner_places [] p c at = record { loops = tt; tails = tt }
    inner_places (x ∷ xs) p c at =
        let b : Base = base_at x p c in
        let j : ℕ = part_at units.tree k x.part in
        let F : Piece = f x.part b in
        let S : Survey = g x.part b in
        let G : Piece = inner_pieces f xs (p + length F.procs) (c + length F.chans) in
        let counted = at.counted 0 (omega arith) in
        let sized = piece_size d j t b counted in
        let long : length S.widths ≡ length F.chans = sized.chans in
        let many : S.procs ≡ length F.procs = sized.procs in
        let usable = at.usable 0 (omega arith) in
        let after = at.after in
        let input = usable.input in
        let output = usable.output in
        let inside = at.inside in
        let all = length-append F.chans G.chans in
        let good : IsGoodBase net b = record { input = omega (arith, input, after); output = omega (arith, output, after); apart = usable.apart; room = usable.room } in
        let ss = stands_split net p F.procs G.procs at.procs in
        let oo = laid_split net c F.chans G.chans at.chans in
        let more : Survey = inner_survey g xs (p + S.procs) (c + length S.widths) in
        let rr = row_split w c S.widths more.widths at.row in
        let is : IsPartAt net units (role_of units count d j) b F (parts x.part b) = sound net units typed.lawful count cap pos d j b counted good ss.0 oo.0 in
        let here : At d j t b = record {
          counted = counted;
          good = good;
          procs = ss.0;
          chans = oo.0;
          inside = omega (arith, inside, all);
          row = rr.0;
          orderly = λ s above. (and_parts _ _ (at.orderly s above)).0;
        } in
        let rest : AreAt xs (p + length F.procs) (c + length F.chans) = record {
          counted = λ v l. at.counted (suc v) (omega (arith, l));
          usable = λ v l. at.usable (suc v) (omega (arith, l));
          after = omega (arith, after);
          procs = ss.1;
          chans = oo.1;
          inside = omega (arith, inside, all);
          row = subst₂ (λ m n. CarryRow w (c + n) (inner_survey g xs (p + m) (c + n)).widths) many long rr.1;
          orderly = λ s above.
              subst₂ (λ y z. all_orderly (inner_parts parts xs y z) s ≡ true) is.proc_to is.chan_to (and_parts _ _ (at.orderly s above)).1;
        } in
        let one = each j b here in
        let others = inner_places xs (p + length F.procs) (c + length F.chans) rest in
        record {
          loops = all_append _ S.loops more.loops one.loops
              (subst₂ (λ m n. Loops (inner_survey g xs (p + m) (c + n)).loops) (sym many) (sym long) others.loops);
          tails = from_append _ p F.procs G.procs one.tails others.tails;
        }

  -- A LOOP'S ROWS
  loop_is : (k turns tokens : ℕ) → (node_at units.tree k).form ≡ Loop turns tokens → kind_at units.tree count k ≡ loop_kind k tokens
  unfolding kind_at kind_row
  loop_is k turns tokens is = ap (λ f. kind_row f k (length (node_at units.tree k).parts) (count k)) is

  -- the surveyed widths of node k, if it is of this kind
  abbrev rows_of : Kind → (d k t : ℕ) → Base → List Width
  rows_of kind d k t base =
      kind.widths units.tree k t
      ++ (survey_inside kind (kind.widths units.tree k t) base (λ v. node_survey units.tree count d (part_at units.tree k v) (t + kind.deeper))).widths

  loop_rows : (d k t tokens : ℕ) (base : Base) → AllByRecursion (IsDeep (t + 2)) (rows_of (loop_kind k tokens) d k t base)
  loop_rows d k t tokens base =
      all_append (IsDeep (t + 2)) (loop_widths units.tree k t) _ (loop_deep units.tree k t)
      (inner_deep (t + 2) (λ v. node_survey units.tree count d (part_at units.tree k v) (t + 2))
      (λ v b. survey_deep units.tree count d (part_at units.tree k v) (t + 2) b) _ _ _)

  -- NODES
  module _ (d k t : ℕ) (base : Base) (at : At (suc d) k t base) where
    abbrev n : ℕ
    n = count k

    abbrev form : Form
    form = (node_at units.tree k).form

    abbrev ps : List ℕ
    ps = (node_at units.tree k).parts

    abbrev kind : Kind
    kind = kind_at units.tree count k

    rows_at : (turns tokens : ℕ) (is : form ≡ Loop turns tokens) →
        AreRowsOfLoop net units count cap typed Above d k t base at turns tokens is
    unfolding node_survey
    rows_at turns tokens is = record {
      long = (piece_size (suc d) k t base at.counted).chans;
      deep = subst (λ (z : Kind). AllByRecursion (IsDeep (t + 2)) (rows_of z d k t base)) (sym (loop_is k turns tokens is)) (loop_rows d k t tokens base);
      first = subst (λ (z : Kind). (width_at (rows_of z d k t base) 0).tags ≡ t + 2) (sym (loop_is k turns tokens is)) refl;
    }

    -- its own loop, if it is one
    own_places : (f : Form) → form ≡ f → (r e : ℕ) → r ≡ base.proc + length (piece (suc d) k base).procs →
        e ≡ base.chan + length (piece (suc d) k base).chans → Loops (own_loops (kind_row f k (length ps) n).is_loop base.proc base.chan r e)
    unfolding kind_row
    own_places Seq is r e p c = tt
    own_places Comp is r e p c = tt
    own_places Pipe is r e p c = tt
    own_places (Farm workers) is r e p c = tt
    own_places (Map workers cut) is r e p c = tt
    own_places (Reduce workers len elem) is r e p c = tt
    own_places (Loop turns tokens) is r e p c = (
      subst₂ (λ y z. IsLoopAt net units count cap typed Above (loop_place base.proc base.chan y z)) (sym p) (sym c)
          (loop_at net units count cap typed Above d k t base at turns tokens is (rows_at turns tokens is)),
      tt,
    )

    own_placed : (r e : ℕ) → r ≡ base.proc + length (piece (suc d) k base).procs → e ≡ base.chan + length (piece (suc d) k base).chans →
        Loops (own_loops kind.is_loop base.proc base.chan r e)
    unfolding kind_at
    own_placed r e p c = own_places form refl r e p c

    none : (r : ℕ) (q : Proc) → NoTail q → IsFewAt net units count cap typed Above r q
    unfolding NoTail
    none r q not e = absurd (not e)

    own_tails : (f : Form) → form ≡ f → Tails base.proc ((shape_row f k (length ps) n).procs base)
    unfolding kind_row NoTail
    own_tails Seq is = (λ e. cc, tt)
    own_tails Comp is = (λ e. cc, tt)
    own_tails Pipe is = tt
    own_tails (Farm workers) is = (λ e. cc, (λ e. cc, tt))
    own_tails (Map workers cut) is = (λ e. cc, (λ e. cc, tt))
    own_tails (Reduce workers len elem) is = from_none _ base.proc _ none (reduce_none k len (level_of n) base)
    own_tails (Loop turns tokens) is =
        let second : base.proc + 1 ≡ suc base.proc = omega arith in (
          λ e. cc,
          (
            λ e s above. subst (λ p. length (s.own p).held ≤ (chan_at net (base.chan + 3)).cap) second
                (tail_few net units count cap typed Above d k t base at turns tokens is s above),
            tt,
          ),
        )

    -- the shape and the widths of the node itself, and the pieces inside it
    abbrev shape : Blueprint
    shape = shape_at units.tree count k

    abbrev own : List Width
    own = kind.widths units.tree k t

    abbrev inside_of : ℕ → Base → Piece
    inside_of v = piece d (part_at units.tree k v)

    abbrev inner : Piece
    inner = inner_pieces inside_of (shape.slots base) (base.proc + length (shape.procs base)) (base.chan + shape.chans base)

    -- the survey inside it, from a channel on
    abbrev inner_at : (l : ℕ) → Survey
    inner_at l =
        inner_survey (λ v. node_survey units.tree count d (part_at units.tree k v) (t + kind.deeper)) (shape.slots base)
        (base.proc + length (shape.procs base)) (base.chan + l)

    there : k < length units.tree.nodes
    there = counted_there units.tree count (suc d) k at.counted

    law : IsLawfulShape shape
    law = shape_lawful units.tree count k typed.lawful there (counted_own units.tree count (suc d) k at.counted)

    each_counted : (v : ℕ) → v < length (shape.slots base) →
        IsCounted units.tree count d (part_at units.tree k (get_or (shape.slots base) v no_slot).part)
    each_counted v low = slot_counted units.tree count k typed.lawful there base v low d at.counted

    chans_are : length own ≡ shape.chans base
    chans_are = widths_counted units.tree count k typed.lawful there (counted_own units.tree count (suc d) k at.counted) t base

    whole_is : piece (suc d) k base ≡ whole_piece shape cap inside_of base
    unfolding piece_of
    whole_is = refl

    stands : AreStanding net base.proc (shape.procs base ++ inner.procs)
    stands = subst (λ (z : Piece). AreStanding net base.proc z.procs) whole_is at.procs

    laid : AreLaid net base.chan (shape.laid cap base ++ inner.chans)
    laid = subst (λ (z : Piece). AreLaid net base.chan z.chans) whole_is at.chans

    ends : base.chan + length (shape.laid cap base ++ inner.chans) ≤ length net.chans
    ends = subst (λ (z : Piece). base.chan + length z.chans ≤ length net.chans) whole_is at.inside

    many : length (shape.laid cap base ++ inner.chans) ≡ shape.chans base + length inner.chans
    many = let laid_long = law.laid cap base in omega (arith, length-append (shape.laid cap base) inner.chans, laid_long)

    inner_orderly : (s : State) → Above s →
        all_orderly (inner_parts (λ v. part d (part_at units.tree k v)) (shape.slots base) (base.proc + length (shape.procs base)) (base.chan + shape.chans base)) s ≡ true
    unfolding part_of kind_at
    inner_orderly s above =
        row_orderly units (λ v. role_of units count d (part_at units.tree k v)) (λ v. part d (part_at units.tree k v)) k n ps base s form (at.orderly s above)

    slot_usable : (v : ℕ) → v < length (shape.slots base) → IsUsable (base.chan + shape.chans base) (get_or (shape.slots base) v no_slot)
    slot_usable v low =
        let slots = law.count base in
        let slot = law.slots net base at.good v (omega (arith, low, slots)) in
        let output = slot.output in
        let inside = ends in
        let all = many in
        record {
          input = slot.input;
          output = slot.output;
          apart = slot.apart;
          room = (typed.channels (get_or (shape.slots base) v no_slot).output (omega (arith, output, inside, all))).room;
        }

    -- the node's row is its own widths, then those inside it
    rows_split : CarryRow w base.chan own × CarryRow w (base.chan + length own) (inner_at (length own)).widths
    unfolding node_survey
    rows_split = row_split w base.chan own (inner_at (length own)).widths at.row

    procs_split : length (shape.procs base) + (inner_at (length own)).procs ≡ length (piece (suc d) k base).procs
    unfolding node_survey
    procs_split = (piece_size (suc d) k t base at.counted).procs

    chans_split : length own + length (inner_at (length own)).widths ≡ length (piece (suc d) k base).chans
    unfolding node_survey
    chans_split = sym (length-append own (inner_at (length own)).widths) ∙ (piece_size (suc d) k t base at.counted).chans

    tails_own : Tails base.proc (shape.procs base)
    unfolding kind_at
    tails_own = own_tails form refl

    module _ (each : (j u : ℕ) (b : Base) → At d j u b → HasPlaces (node_survey units.tree count d j u b).loops b.proc (piece d j b).procs) where
      inner_is : AreAt d k (t + kind.deeper) (λ j b. each j (t + kind.deeper) b) (base.chan + shape.chans base) (shape.slots base)
          (base.proc + length (shape.procs base)) (base.chan + shape.chans base)
      inner_is =
          let ss = stands_split net base.proc (shape.procs base) inner.procs stands in
          let oo = laid_split net base.chan (shape.laid cap base) inner.chans laid in
          let inside = ends in
          let all = many in
          record {
            counted = each_counted;
            usable = slot_usable;
            after = omega arith;
            procs = ss.1;
            chans = subst (λ z. AreLaid net (base.chan + z) inner.chans) (law.laid cap base) oo.1;
            inside = omega (arith, inside, all);
            row = subst (λ z. CarryRow w (base.chan + z) (inner_at z).widths) chans_are rows_split.1;
            orderly = inner_orderly;
          }

      node_places : HasPlaces (node_survey units.tree count (suc d) k t base).loops base.proc (piece (suc d) k base).procs
      unfolding node_survey
      node_places =
          let within : Survey = inner_at (length own) in
          let has = inner_places d k (t + kind.deeper) (λ j b. each j (t + kind.deeper) b) (base.chan + shape.chans base) (shape.slots base)
          (base.proc + length (shape.procs base)) (base.chan + shape.chans base) inner_is in
          let procs = procs_split in
          let chans = chans_split in
          record {
            loops = all_append _ within.loops _ (subst (λ z. Loops (inner_at z).loops) (sym chans_are) has.loops)
                (own_placed (base.proc + length (shape.procs base) + within.procs) (base.chan + length own + length within.widths)
                (omega (arith, procs)) (omega (arith, chans)));
            tails = subst (λ (z : Piece). Tails base.proc z.procs) (sym whole_is)
                (from_append _ base.proc (shape.procs base) inner.procs tails_own has.tails);
          }

  -- at each place that is surveyed of a node there is a loop, and each tail is that of one
  pub places : (d k t : ℕ) (base : Base) → At d k t base →
      HasPlaces (node_survey units.tree count d k t base).loops base.proc (piece d k base).procs
  unfolding IsCounted
  places zero k t base at = none at.counted
    where
      none : IsCounted units.tree count zero k →
          HasPlaces (node_survey units.tree count zero k t base).loops base.proc (piece zero k base).procs
      none h = absurd h
  places (suc d) k t base at = node_places d k t base at (λ j u b here. places d j u b here)
