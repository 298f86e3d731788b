-- A loop as it is placed in a linked net: it is closed there, and where its part is orderly its credits and its numbers agree.
use Rattle.std.proofs.Common.{◌≡◌, ◌≢◌, ◌⊎◌, ℕ, zero, suc, ◌+◌, ◌-◌, ◌<◌, ◌≤◌, ◌&&◌, true, List, [], ◌∷◌, ◌++◌, length, get_or, map, Some, slice_get, refl, sym, ap, ◌∙◌, subst, arith, inl, inr, length-append}
use Rattle.std.specs.List.{AllByRecursion, flat_map}
use Rattle.std.proofs.lemmas.Bool.{and_parts, cases_eq}
use Rattle.std.proofs.lemmas.List.{length-map}
use Rattle.p3l_skel.specs.declared.tree.Form.TheVariants.{Loop}
use Rattle.p3l_skel.specs.declared.tree.Tree.{Tree}
use Rattle.p3l_skel.specs.Tree.{node_at, part_at}
use Rattle.p3l_firing.specs.declared.net.Net.{Net}
use Rattle.p3l_firing.specs.declared.process.Proc.{Proc}
use Rattle.p3l_firing.specs.declared.process.ProcKind.TheVariants as kinds
use Rattle.p3l_firing.specs.Process.{Has, all_ins, all_outs, in_of, out_of, times}
use Rattle.p3l_firing.specs.State.{State, chan_at}
use Rattle.p3l_firing.specs.Token.{untagged}
use Rattle.p3l_firing.specs.Typed.{IsTyped}
use Rattle.p3l_firing.specs.Widths.{Carries, Widths}
use Rattle.p3l_firing.specs.kinds.Head as head
use Rattle.p3l_firing.specs.kinds.Tail as tail
use Rattle.p3l_firing.proofs.Places.{all-has, has-nth, has_counted, part_counted}
use Rattle.p3l_template.specs.Part.{Part, no_part}
use Rattle.p3l_template.specs.Placed.{AreLaid, AreStanding, IsGoodBase}
use Rattle.p3l_template.specs.Shape.{Base, Role, Blueprint, no_slot, numbers_from}
use Rattle.p3l_template.specs.Units.{Units}
use Rattle.p3l_template.specs.Width.{width_at}
use Rattle.p3l_template.specs.declared.width.Width.{Width}
use Rattle.p3l_template.specs.laws.Row.{numbers_at, numbers_length}
use Rattle.p3l_template.specs.laws.TimesLaw.{all_numbers}
use Rattle.p3l_loop.specs.Loop.{Laps, View, bag, head_proc, laps_of, loop_shape, settled, tail_proc, view_of, well_kept}
use Rattle.p3l_loop.specs.laws.ViewLaw.{Kept, kept_to}
use Rattle.p3l_link.specs.Counts.{IsCounted}
use Rattle.p3l_link.specs.Net.{Piece, inner_pieces, piece_of, whole_piece}
use Rattle.p3l_link.specs.Part.{inner_parts, part_of, role_of, whole_part}
use Rattle.p3l_link.specs.Shape.{kind_at, kind_row, shape_at, shape_row}
use Rattle.p3l_link.proofs.Counted.{counted_there, slot_counted}
use Rattle.p3l_net.specs.Fitting.{LoopPlace, most_tokens}
use Rattle.p3l_net.proofs.Sides.{one_has}
use Rattle.p3l_fitting.specs.Survey.{loop_place, node_survey}
use Rattle.p3l_link.proofs.Once.{HasOnce, HaveOnce, inner_once}
use Rattle.p3l_resume_laws.proofs.Ends.{piece_once}
use Rattle.p3l_resume_laws.proofs.Rows.{CarryRow, row_at}
use Rattle.p3l_resume_laws.proofs.Surveyed.{IsDeep}
use Rattle.p3l_resume_laws.proofs.Turning.{IsClosed, IsIn, IsInside, IsWithin}
use Rattle.p3l_resume_laws.proofs.WidthsLaw.{counted_has}

-- numbers in a row
has_number : (a n c : ℕ) → IsIn a (a + n) c → Has (numbers_from a n) c
has_number a n c h =
    let above = h.above in
    let below = h.below in
    let low : c - a < n = omega (arith, above, below) in
    let e : get_or (numbers_from a n) (c - a) 0 ≡ c = numbers_at a n (c - a) low ∙ omega (arith, above) in
    subst (Has (numbers_from a n)) e (has-nth (numbers_from a n) (c - a) (omega (arith, low, numbers_length a n)))

number_in : (a n c : ℕ) → Has (numbers_from a n) c → IsIn a (a + n) c
number_in a n c h = all-has (IsIn a (a + n)) (numbers_from a n) (all_numbers (IsIn a (a + n)) a n (λ k low. record { above = omega arith; below = omega (arith, low) })) c h

has_either : (xs ys : List ℕ) (c : ℕ) → Has (xs ++ ys) c → Has xs c ⊎ Has ys c
has_either [] ys c h = inr h
has_either (x ∷ xs) ys c (inl e) = inl (inl e)
has_either (x ∷ xs) ys c (inr h) = elim (has_either xs ys c h) [ inl a ↦ inl (inr a) | inr b ↦ inr b ]

-- one of these processes has a channel that they all together have
pub record IsOf (f : Proc → List ℕ) (xs : List Proc) (c : ℕ) : Type 0 where
  place : ℕ
  process : Proc
  there : slice_get xs place ≡ Some process
  has : Has (f process) c

which_has : (f : Proc → List ℕ) (xs : List Proc) (c : ℕ) → Has (flat_map f xs) c → IsOf f xs c
which_has f [] c h = elim h [ ]
which_has f (x ∷ xs) c h =
    elim (has_either (f x) (flat_map f xs) c h) [
      | inl here ↦ record { place = 0; process = x; there = refl; has = here }
      | inr later ↦
          let r = which_has f xs c later in
          record { place = suc r.place; process = r.process; there = r.there; has = r.has }
    ]

get_inside : (xs : List Proc) (i : ℕ) (q : Proc) → slice_get xs i ≡ Some q → i < length xs
get_inside [] i q e = cc
get_inside (x ∷ xs) zero q e = omega arith
get_inside (x ∷ xs) (suc i) q e = let rest = get_inside xs i q e in omega (arith, rest)

-- processes that are in a net from number p on
stands_at : (net : Net) (p : ℕ) (xs : List Proc) → AreStanding net p xs → (i : ℕ) (q : Proc) → slice_get xs i ≡ Some q →
    slice_get net.procs (p + i) ≡ Some q
unfolding AreStanding
stands_at net p [] all i q e = cc
stands_at net p (x ∷ xs) all zero q e = let here : p + 0 ≡ p = omega arith in ap (slice_get net.procs) here ∙ all.0 ∙ e
stands_at net p (x ∷ xs) all (suc i) q e =
    let here : p + suc i ≡ suc p + i = omega arith in
    ap (slice_get net.procs) here ∙ stands_at net (suc p) xs all.1 i q e

at_stands : (net : Net) (p : ℕ) (xs : List Proc) → AreStanding net p xs → (i : ℕ) (q : Proc) → i < length xs →
    slice_get net.procs (p + i) ≡ Some q → slice_get xs i ≡ Some q
unfolding AreStanding
at_stands net p [] all i q low e = absurd (omega (arith, low))
at_stands net p (x ∷ xs) all zero q low e = let here : p ≡ p + 0 = omega arith in sym all.0 ∙ (ap (slice_get net.procs) here ∙ e)
at_stands net p (x ∷ xs) all (suc i) q low e =
    let here : suc p + i ≡ p + suc i = omega arith in
    at_stands net (suc p) xs all.1 i q (omega (arith, low)) (ap (slice_get net.procs) here ∙ e)

all_at : (P : Width → Type 0) (xs : List Width) (i : ℕ) → AllByRecursion P xs → i < length xs → P (width_at xs i)
all_at P [] i all low = absurd (omega (arith, low))
all_at P (x ∷ xs) zero all low = all.0
all_at P (x ∷ xs) (suc i) all low = all_at P xs i all.1 (omega (arith, low))

same_proc : (x y : Proc) → Some x ≡ Some y → x ≡ y
same_proc x y e = cc

module _ (net : Net) (units : Units) (count : ℕ → ℕ) (cap : ℕ) (typed : IsTyped units.tree net) (Above : State → Type 0) where
  abbrev tree : Tree
  tree = units.tree

  abbrev w : Widths
  w = typed.widths

  -- node k is placed at a base, with all that is below it down to depth d: its processes and channels are in the net, these carry what is
  -- surveyed where tokens outside have t tags, and its part is orderly in each state of those that are meant
  pub record IsAt (d k t : ℕ) (base : Base) : Type 0 where
    pub counted : IsCounted units.tree count d k
    pub good : IsGoodBase net base
    pub procs : AreStanding net base.proc (piece_of units.tree count cap d k base).procs
    pub chans : AreLaid net base.chan (piece_of units.tree count cap d k base).chans
    pub inside : base.chan + length (piece_of units.tree count cap d k base).chans ≤ length net.chans
    pub row : CarryRow typed.widths base.chan (node_survey units.tree count d k t base).widths
    pub orderly : (s : State) → Above s → (part_of units count d k base).orderly s ≡ true

  -- in a state a loop's credits and the numbers of its head and its tail agree, and no more tokens are held than there are credits
  pub record IsLoopKept (place : LoopPlace) (h : Proc) (most : ℕ) (s : State) : Type 0 where
    pub ordered : (s.own place.tail).number ≤ (s.own place.head).number
    pub credits : length (s.tokens (in_of h 2)) + (s.own place.head).number ≡ most + (s.own place.tail).number
    pub few : length (s.own place.tail).held ≤ most

  -- a loop is at a place
  pub record IsLoopAt (place : LoopPlace) : Type 0 where
    pub h : Proc
    pub t : Proc
    pub closed : IsClosed net typed.widths place h t
    pub kept : (s : State) → Above s → IsLoopKept place h (most_tokens (node_at units.tree h.node).form) s

  -- a tail holds no more tokens than there may be credits
  abbrev pub IsFewAt : ℕ → Proc → Type 0
  IsFewAt p q = q.kind ≡ kinds.Tail → (s : State) → Above s → length (s.own p).held ≤ (chan_at net (out_of q 2)).cap

  module _ (d k t : ℕ) (base : Base) (at : IsAt (suc d) k t base) (turns tokens : ℕ)
      (is : (node_at units.tree k).form ≡ Loop turns tokens) where
    abbrev shape : Blueprint
    shape = loop_shape k tokens

    abbrev f : ℕ → Base → Piece
    f v = piece_of units.tree count cap d (part_at units.tree k v)

    -- the piece inside it, and its whole piece
    abbrev inner : Piece
    inner = inner_pieces f (shape.slots base) (base.proc + 2) (base.chan + 4)

    abbrev whole : Piece
    whole = whole_piece shape cap f base

    abbrev h : Proc
    h = head_proc k base

    abbrev tl : Proc
    tl = tail_proc k base

    -- the place of what lies from the base to the end of a piece
    abbrev placed : Piece → LoopPlace
    placed F = loop_place base.proc base.chan (base.proc + length F.procs) (base.chan + length F.chans)

    abbrev place : LoopPlace
    place = placed whole

    shape_is : shape_at units.tree count k ≡ shape
    unfolding kind_at kind_row
    shape_is = ap (λ form. shape_row form k (length (node_at units.tree k).parts) (count k)) is

    whole_is : piece_of units.tree count cap (suc d) k base ≡ whole
    unfolding piece_of
    whole_is = ap (λ (z : Blueprint). whole_piece z cap f base) shape_is

    there : k < length units.tree.nodes
    there = counted_there units.tree count (suc d) k at.counted

    each_counted : (v : ℕ) → v < length (shape.slots base) →
        IsCounted units.tree count d (part_at units.tree k (get_or (shape.slots base) v no_slot).part)
    each_counted v low =
        subst (λ (z : Blueprint). IsCounted units.tree count d (part_at units.tree k (get_or (z.slots base) v no_slot).part)) shape_is
        (slot_counted units.tree count k typed.lawful there base v (subst (λ (z : Blueprint). v < length (z.slots base)) (sym shape_is) low) d at.counted)

    once : HasOnce base whole
    once = subst (HasOnce base) whole_is (piece_once units.tree count cap typed.lawful (suc d) k base at.counted)

    inner_has : HaveOnce (shape.slots base) (base.chan + 4) inner
    inner_has = inner_once f (shape.slots base) (base.proc + 2) (base.chan + 4) (λ v low b. piece_once units.tree count cap typed.lawful d _ b (each_counted v low))

    stands : AreStanding net base.proc whole.procs
    stands = subst (λ (z : Piece). AreStanding net base.proc z.procs) whole_is at.procs

    laid : AreLaid net base.chan whole.chans
    laid = subst (λ (z : Piece). AreLaid net base.chan z.chans) whole_is at.chans

    ends : base.chan + length whole.chans ≤ length net.chans
    ends = subst (λ (z : Piece). base.chan + length z.chans ≤ length net.chans) whole_is at.inside

    many : length whole.chans ≡ 4 + length inner.chans
    many = omega arith

    head_at : slice_get net.procs base.proc ≡ Some h
    head_at = let e : base.proc ≡ base.proc + 0 = omega arith in ap (slice_get net.procs) e ∙ stands_at net base.proc whole.procs stands 0 h refl

    tail_at : slice_get net.procs (base.proc + 1) ≡ Some tl
    tail_at = stands_at net base.proc whole.procs stands 1 tl refl

    head_fits : head.Fits units.tree w h
    head_fits = typed.processes base.proc h head_at

    tail_fits : tail.Fits units.tree w tl
    tail_fits = typed.processes (base.proc + 1) tl tail_at

    -- a process inside is the head, the tail or one of the body
    inner_at : (p : ℕ) (q : Proc) → slice_get net.procs p ≡ Some q → IsInside place p → p ≢ base.proc → p ≢ base.proc + 1 →
        slice_get inner.procs (p - (base.proc + 2)) ≡ Some q
    inner_at p q e inside not_head not_tail =
        let above = inside.above in
        let below = inside.below in
        let i : ℕ = p - (base.proc + 2) in
        let after : base.proc + suc (suc i) ≡ p = omega (arith, above, not_head, not_tail) in
        at_stands net base.proc whole.procs stands (suc (suc i)) q (omega (arith, after, below)) (ap (slice_get net.procs) after ∙ e)

    one_is : (x c : ℕ) → 1 ≤ times c (x ∷ []) → x ≡ c
    one_is x c some = elim (counted_has (x ∷ []) c some) [ inl e ↦ e | inr none ↦ elim none [ ] ]

    -- a process of the body reads and writes channels within the loop
    among : (x c : ℕ) → IsWithin place x → 1 ≤ times c (x ∷ []) + times c (numbers_from (base.chan + 4) (length inner.chans)) →
        IsWithin place c
    among x c within some =
        elim (cases_le (times c (x ∷ []))) [
          | inl here ↦ subst (IsWithin place) (one_is x c here) within
          | inr none ↦
              let found = number_in (base.chan + 4) (length inner.chans) c (counted_has (numbers_from (base.chan + 4) (length inner.chans)) c (omega (arith, some, none))) in
              let above = found.above in
              let below = found.below in
              record { above = omega (arith, above); below = omega (arith, below, many) }
        ]
      where
        cases_le : (m : ℕ) → (1 ≤ m) ⊎ (m ≡ 0)
        cases_le zero = inr refl
        cases_le (suc m) = inl (omega arith)

    inner_reads : (p : ℕ) (q : Proc) → slice_get inner.procs p ≡ Some q → (c : ℕ) → Has q.ins c → IsWithin place c
    inner_reads p q e c has =
        let here = has_counted q.ins c has in
        let all : times c q.ins ≤ times c (all_ins inner.procs) = part_counted (λ (x : Proc). x.ins) inner.procs c p q e in
        let reads : times c (all_ins inner.procs) ≡ times c (base.chan ∷ []) + times c (numbers_from (base.chan + 4) (length inner.chans)) = inner_has.reads c in
        among base.chan c (record { above = omega arith; below = omega (arith, many) }) (omega (arith, here, all, reads))

    inner_writes : (p : ℕ) (q : Proc) → slice_get inner.procs p ≡ Some q → (c : ℕ) → Has q.outs c → IsWithin place c
    inner_writes p q e c has =
        let here = has_counted q.outs c has in
        let all : times c q.outs ≤ times c (all_outs inner.procs) = part_counted (λ (x : Proc). x.outs) inner.procs c p q e in
        let writes : times c (all_outs inner.procs) ≡ times c ((base.chan + 1) ∷ []) + times c (numbers_from (base.chan + 4) (length inner.chans)) = inner_has.writes c in
        among (base.chan + 1) c (record { above = omega arith; below = omega (arith, many) }) (omega (arith, here, all, writes))

    own_within : (i : ℕ) → i < 4 → IsWithin place (base.chan + i)
    own_within i low = record { above = omega arith; below = omega (arith, many, low) }

    tail_reads : (q : Proc) → q ≡ tl → (c : ℕ) → Has q.ins c → IsWithin place c
    tail_reads q same c has = elim (subst (λ (x : Proc). Has x.ins c) same has) [ inl e ↦ subst (IsWithin place) e (own_within 1 (omega arith)) | inr none ↦ elim none [ ] ]

    head_writes : (q : Proc) → q ≡ h → (c : ℕ) → Has q.outs c → IsWithin place c
    head_writes q same c has =
        let first : base.chan + 0 ≡ base.chan = omega arith in
        elim (subst (λ (x : Proc). Has x.outs c) same has) [ inl e ↦ subst (IsWithin place) (first ∙ e) (own_within 0 (omega arith)) | inr none ↦ elim none [ ] ]

    reads_within : (p : ℕ) (q : Proc) → slice_get net.procs p ≡ Some q → IsInside place p → p ≢ base.proc → (c : ℕ) → Has q.ins c →
        IsWithin place c
    reads_within p q e inside not_head c has =
        elim (cases_eq p (base.proc + 1)) [
          | inl is_tail ↦ tail_reads q (same_proc q tl (sym e ∙ ap (slice_get net.procs) is_tail ∙ tail_at)) c has
          | inr not_tail ↦ inner_reads (p - (base.proc + 2)) q (inner_at p q e inside not_head not_tail) c has
        ]

    writes_within : (p : ℕ) (q : Proc) → slice_get net.procs p ≡ Some q → IsInside place p → p ≢ base.proc + 1 → (c : ℕ) → Has q.outs c →
        IsWithin place c
    writes_within p q e inside not_tail c has =
        elim (cases_eq p base.proc) [
          | inl is_head ↦ head_writes q (same_proc q h (sym e ∙ ap (slice_get net.procs) is_head ∙ head_at)) c has
          | inr not_head ↦ inner_writes (p - (base.proc + 2)) q (inner_at p q e inside not_head not_tail) c has
        ]

    -- no other process writes within
    others : (p : ℕ) (q : Proc) → slice_get net.procs p ≡ Some q → (IsInside place p → ⊥) → (c : ℕ) → Has q.outs c → IsWithin place c → ⊥
    others p q e outside c has within =
        let numbers = has_number base.chan (length whole.chans) c within in
        let counted : 1 ≤ times c (base.output ∷ numbers_from base.chan (length whole.chans)) = has_counted (base.output ∷ numbers_from base.chan (length whole.chans)) c (inr numbers) in
        let writes = once.writes c in
        let writer = which_has (λ (x : Proc). x.outs) whole.procs c (counted_has (all_outs whole.procs) c (omega (arith, counted, writes))) in
        let below = within.below in
        let in_net : c < length net.chans = omega (arith, below, ends) in
        let low = get_inside whole.procs writer.place writer.process writer.there in
        let same : p ≡ base.proc + writer.place =
        one_has (λ (x : Proc). x.outs) net.procs c (typed.channels c in_net).written p (base.proc + writer.place) q writer.process e
        (stands_at net base.proc whole.procs stands writer.place writer.process writer.there) has writer.has in
        outside (record { above = omega (arith, same); below = omega (arith, same, low) })

    -- the tags of what is within
    abbrev rows : List Width
    rows = (node_survey units.tree count (suc d) k t base).widths

    -- one for each channel, each of them two tags deeper than outside
    pub record AreRowsOfLoop : Type 0 where
      pub long : length rows ≡ length (piece_of units.tree count cap (suc d) k base).chans
      pub deep : AllByRecursion (IsDeep (t + 2)) rows
      pub first : (width_at rows 0).tags ≡ t + 2

    closed_at : AreRowsOfLoop → IsClosed net w place h tl
    closed_at known =
        let long : length rows ≡ length whole.chans = known.long ∙ ap (λ (z : Piece). length z.chans) whole_is in
        let before = at.good.output in
        let outside : IsWithin place base.output → ⊥ = λ within. (let above = within.above in omega (arith, before, above)) in
        let back = head_fits.back in
        let again = tail_fits.back in
        let takes = tail_fits.takes in
        let gives = head_fits.gives in
        let back_tags = back.tags in
        let again_tags = again.tags in
        let takes_tags = takes.tags in
        let gives_tags = gives.tags in
        let zeroth : base.chan + 0 ≡ base.chan = omega arith in
        let first = row_at w base.chan rows 0 at.row (omega (arith, long, many)) in
        let first_tags : w.tags base.chan ≡ (width_at rows 0).tags = subst (λ c. w.tags c ≡ (width_at rows 0).tags) zeroth first.tags in
        let first_is = known.first in
        let depth : w.tags base.input ≡ t = omega (arith, gives_tags, first_tags, first_is) in
        record {
          head = head_at;
          tail = tail_at;
          enters = refl;
          leaves = refl;
          node = refl;
          back = own_within 2 (omega arith);
          body = own_within 1 (omega arith);
          outside = outside;
          deep = omega (arith, back_tags, again_tags, takes_tags);
          reads = reads_within;
          writes = writes_within;
          others = others;
          tags = λ c within some.
              let above = within.above in
              let below = within.below in
              let i : ℕ = c - base.chan in
              let e : base.chan + i ≡ c = omega (arith, above) in
              let low : i < length rows = omega (arith, long, below, above) in
              let carries = subst (λ z. Carries w z (width_at rows i).words (width_at rows i).tags) e (row_at w base.chan rows i at.row low) in
              let words = carries.words in
              let tags = carries.tags in
              elim (all_at (IsDeep (t + 2)) rows i known.deep low) [
                | inl none ↦ absurd (omega (arith, words, none, some))
                | inr deep ↦ omega (arith, tags, deep, depth)
              ];
        }

    -- the roles and the parts inside it; the loop is kept if its part is orderly
    abbrev roles : ℕ → Role
    roles v = role_of units count d (part_at units.tree k v)

    abbrev part : ℕ → Base → Part
    part v = part_of units count d (part_at units.tree k v)

    part_is : part_of units count (suc d) k base ≡ whole_part shape units roles part base
    unfolding part_of
    part_is = ap (λ (z : Blueprint). whole_part z units roles part base) shape_is

    abbrev Q : Part
    Q = get_or (inner_parts part (shape.slots base) (base.proc + 2) (base.chan + 4)) 0 no_part

    kept_at : (s : State) → Above s → IsLoopKept place h tokens s
    unfolding bag
    kept_at s above =
        let orderly : (Q.orderly s && well_kept (laps_of units k Q) tokens (view_of base Q s)) ≡ true = subst (λ (P : Part). P.orderly s ≡ true) part_is (at.orderly s above) in
        let l : Laps = laps_of units k Q in
        let v : View = view_of base Q s in
        let kept : Kept l tokens v = kept_to l tokens v (and_parts (Q.orderly s) (well_kept l tokens v) orderly).1 in
        let counted : v.least + length (bag l v) ≡ v.next = kept.count in
        let credits : v.credits + length (bag l v) ≡ tokens = kept.credits in
        let held = length-append (map untagged v.held) (map (settled l) v.ring) in
        let same = length-map v.held untagged in
        record {
          ordered = omega (arith, counted);
          credits = omega (arith, counted, credits);
          few = omega (arith, credits, held, same);
        }

    pub loop_at : AreRowsOfLoop → IsLoopAt (placed (piece_of units.tree count cap (suc d) k base))
    loop_at known =
        subst (λ (z : Piece). IsLoopAt (placed z)) (sym whole_is)
        (record { h = h; t = tl; closed = closed_at known; kept = λ s above. subst (λ n. IsLoopKept place h n s) (sym (ap most_tokens is)) (kept_at s above) })

    -- the channel of the credits has room for as many as there are
    credits_cap : (chan_at net (base.chan + 3)).cap ≡ tokens
    credits_cap = ap (λ c. c.cap) (laid.at 3 (omega (arith, many)))

    pub tail_few : (s : State) → Above s → length (s.own (base.proc + 1)).held ≤ (chan_at net (base.chan + 3)).cap
    tail_few s above = let few = (kept_at s above).few in omega (arith, few, credits_cap)
