-- The walk over the inner parts of a node: what is surveyed, followed by what is left, is the whole. It begins so (`surveyed_first`), each
-- part keeps it (`surveyed_next`), and with none left the whole is surveyed (`surveyed_last`). There is room for each part where there is
-- for the node (`surveyed_room`).
use Rattle.std.proofs.Common.{◌≡◌, ℕ, zero, suc, ◌+◌, ◌-◌, ◌<◌, ◌≤◌, Bool, List, ◌∷◌, ◌++◌, length, get_or, drop, drop-cons, sym, ap, ap₂, ◌∙◌, subst, arith, append_assoc, append-nil, length-append}
use Rattle.std.proofs.lemmas.List.{drop_all, get_or_default}
use Rattle.p3l_skel.specs.declared.tree.Tree.{Tree}
use Rattle.p3l_skel.specs.Lawful.{IsLawfulTree}
use Rattle.p3l_skel.specs.Tree.{part_at}
use Rattle.p3l_net.specs.Fitting.{LoopPlace}
use Rattle.p3l_template.specs.Kind.{Kind}
use Rattle.p3l_template.specs.Shape.{Base, Slot, no_slot, ports_of}
use Rattle.p3l_template.specs.declared.template.Ports.{Ports}
use Rattle.p3l_template.specs.declared.width.Width.{Width}
use Rattle.p3l_link.specs.Counts.{IsCounted}
use Rattle.p3l_link.specs.Net.{base_at}
use Rattle.p3l_link.specs.Shape.{kind_at}
use Rattle.p3l_link.proofs.Counted.{counted_deep, counted_own, counted_there, slot_counted}
use Rattle.p3l_link.proofs.Typing.{widths_counted}
use Rattle.p3l_fitting.specs.Survey.{HasRoomAfter, base_after, followed, inner_survey, no_survey, node_survey, own_loops, survey_inside, survey_round}
use Rattle.p3l_fitting.specs.declared.survey.Survey.{Survey}

three : (p q : ℕ) (v w : List Width) (l m : List LoopPlace) → p ≡ q → v ≡ w → l ≡ m →
    ◌≡◌ {A = Survey} (record { procs = p; widths = v; loops = l }) (record { procs = q; widths = w; loops = m })
three p q v w l m a b c = cc

abbrev with_own : Survey → ℕ → List Width → Survey
with_own a procs widths = record { procs = procs; widths = widths; loops = a.loops }

abbrev with_loops : Survey → List LoopPlace → Survey
with_loops a loops = record { procs = a.procs; widths = a.widths; loops = loops }

followed_followed : (a b c : Survey) → followed (followed a b) c ≡ followed a (followed b c)
followed_followed a b c =
    three _ _ _ _ _ _ (omega arith) (append_assoc a.widths b.widths c.widths) (append_assoc a.loops b.loops c.loops)

followed_none : (a : Survey) → followed a no_survey ≡ a
followed_none a = three _ _ _ _ _ _ (omega arith) (append-nil a.widths) (append-nil a.loops)

module _ (f : ℕ → Base → Survey) (slots : List Slot) (s : Survey) (whole : Survey) (i : ℕ)
    (left : followed s (inner_survey f (drop i slots) s.procs (length s.widths)) ≡ whole) where
  -- with no part left
  all_surveyed : length slots ≤ i → s ≡ whole
  unfolding inner_survey
  all_surveyed none =
      sym (followed_none s) ∙ ap (λ z. followed s (inner_survey f z s.procs (length s.widths))) (sym (drop_all i slots none)) ∙ left

  abbrev slot : Slot
  slot = get_or slots i no_slot

  here : Survey
  here = f (get_or slots i no_slot).part (base_at (get_or slots i no_slot) s.procs (length s.widths))

  more : Survey
  more = inner_survey f (drop (i + 1) slots) (s.procs + here.procs) (length s.widths + length here.widths)

  split : i < length slots → followed s (followed here more) ≡ whole
  unfolding inner_survey here more
  split there =
      let e : suc i ≡ i + 1 = omega arith in
      ap (λ z. followed s (inner_survey f z s.procs (length s.widths)))
      (sym (drop-cons slots i no_slot there ∙ ap (λ j. get_or slots i no_slot ∷ drop j slots) e)) ∙ left

  -- there is room for the next part where there is for all
  next_room : i < length slots →
      (s.procs + (f slot.part (base_at slot s.procs (length s.widths))).procs ≤ whole.procs)
      × (length s.widths + length (f slot.part (base_at slot s.procs (length s.widths))).widths ≤ length whole.widths)
  unfolding here
  next_room there =
      let e = ap (λ (z : Survey). z.procs) (split there) in
      let w = ap (λ (z : Survey). length z.widths) (split there) in (
        omega (arith, e),
        omega (arith, w, length-append s.widths (here.widths ++ more.widths), length-append here.widths more.widths),
      )

  next_surveyed : i < length slots → (s' : Survey) → s' ≡ followed s (f slot.part (base_at slot s.procs (length s.widths))) →
      followed s' (inner_survey f (drop (i + 1) slots) s'.procs (length s'.widths)) ≡ whole
  unfolding here more
  next_surveyed there s' e =
      ap (λ (z : Survey). followed z (inner_survey f (drop (i + 1) slots) z.procs (length z.widths))) e
      ∙ ap (λ n. followed (followed s here) (inner_survey f (drop (i + 1) slots) (s.procs + here.procs) n))
      (length-append s.widths here.widths)
      ∙ followed_followed s here more ∙ split there

-- node k of a tree between two channels, after what was surveyed before it
module _ (tree : Tree) (count : ℕ → ℕ) (d k t : ℕ) (at : Ports) (before : Survey) where
  abbrev base : Base
  base = base_after at before

  abbrev kind : Kind
  kind = kind_at tree count k

  abbrev row : List Width
  row = (kind_at tree count k).widths tree k t

  abbrev slots : List Slot
  slots = (kind_at tree count k).shape.slots (base_after at before)

  -- the survey of each inner part
  abbrev inside : ℕ → Base → Survey
  inside v = node_survey tree count (d - 1) (part_at tree k v) (t + (kind_at tree count k).deeper)

  -- with the node's own processes and channels
  abbrev pub begun : Survey
  begun = record {
    procs = before.procs + length ((kind_at tree count k).shape.procs (base_after at before));
    widths = before.widths ++ (kind_at tree count k).widths tree k t;
    loops = before.loops;
  }

  -- and all that is inside it
  abbrev filled : Survey
  filled = followed begun (inner_survey inside slots begun.procs (length begun.widths))

  -- the survey s, followed by that of the inner parts from the i-th on, is the whole
  abbrev pub IsSurveyed : Survey → ℕ → Type 0
  IsSurveyed s i = followed s (inner_survey inside (drop i slots) s.procs (length s.widths)) ≡ filled

  abbrev node : Survey
  node = node_survey tree count d k t base

  module _ (lawful : IsLawfulTree tree) (counted : IsCounted tree count d k) where
    there : k < length tree.nodes
    there = counted_there tree count d k counted

    some : 0 < d
    some = counted_deep tree count d k counted

    node_is : node ≡ survey_round kind row base (survey_inside kind row base inside)
    unfolding node_survey
    node_is = go d some
      where
        go : (n : ℕ) → 0 < n → node_survey tree count n k t base
            ≡ survey_round kind row base
            (survey_inside kind row base (λ v. node_survey tree count (n - 1) (part_at tree k v) (t + kind.deeper)))
        go zero none = absurd (omega arith)
        go (suc n) more =
            let e : n ≡ suc n - 1 = omega arith in
            ap (λ z. survey_round kind row base
            (survey_inside kind row base (λ v. node_survey tree count z (part_at tree k v) (t + kind.deeper)))) e

    abbrev inner : Survey
    inner = survey_inside kind row base inside

    filled_is : filled ≡ followed begun inner
    filled_is =
        ap (λ n. followed begun (inner_survey inside slots (before.procs + length (kind.shape.procs base)) n))
        (length-append before.widths row)

    node_procs : node.procs ≡ length (kind.shape.procs base) + inner.procs
    node_procs = ap (λ (z : Survey). z.procs) node_is

    node_widths : length node.widths ≡ length row + length inner.widths
    node_widths = ap (λ (z : Survey). length z.widths) node_is ∙ length-append row inner.widths

    -- there is room for the node's own processes and channels
    pub own_room : HasRoomAfter before node.procs (length node.widths) →
        HasRoomAfter before (length (kind.shape.procs base)) (kind.shape.chans base)
    own_room room =
        let p = node_procs in
        let w = node_widths in
        let long = widths_counted tree count k lawful there (counted_own tree count d k counted) t base in
        (omega (arith, room.0, p), omega (arith, room.1, w, long))

    filled_procs : filled.procs ≡ before.procs + node.procs
    filled_procs = let e = ap (λ (z : Survey). z.procs) filled_is in let p = node_procs in omega (arith, e, p)

    filled_widths : length filled.widths ≡ length before.widths + length node.widths
    filled_widths =
        let e = ap (λ (z : Survey). length z.widths) filled_is in
        let w = node_widths in
        omega (arith, e, w, length-append (before.widths ++ row) inner.widths, length-append before.widths row)

    -- the node's own loop, and the whole is surveyed
    pub closed : (items : List Slot) → items ≡ slots → (s : Survey) (i : ℕ) → IsSurveyed s i → length items ≤ i → (is : Bool) → is ≡ kind.is_loop →
        (b : Base) → b ≡ base → (s' : Survey) →
        s' ≡ record s { loops = s.loops ++ own_loops is b.proc b.chan s.procs (length s.widths) } → s' ≡ followed before node
    closed items items_are s i left past is loops_is b same s' last =
        let none : length slots ≤ i = omega (arith, past, ap length items_are) in
        let e = all_surveyed inside slots s filled i left none ∙ filled_is in
        let ps : s.procs ≡ (before.procs + length (kind.shape.procs base)) + inner.procs = ap (λ (z : Survey). z.procs) e in
        let ws : s.widths ≡ (before.widths ++ row) ++ inner.widths = ap (λ (z : Survey). z.widths) e in
        let ls : s.loops ≡ before.loops ++ inner.loops = ap (λ (z : Survey). z.loops) e in
        let many : length s.widths ≡ length before.widths + length row + length inner.widths =
        omega (arith, ap length ws, length-append (before.widths ++ row) inner.widths, length-append before.widths row) in
        last ∙ ap (λ (x : Base). with_loops s (s.loops ++ own_loops is x.proc x.chan s.procs (length s.widths))) same
        ∙ three s.procs (before.procs + (length (kind.shape.procs base) + inner.procs)) s.widths (before.widths ++ (row ++ inner.widths)) _
        (before.loops
        ++ (inner.loops
        ++ own_loops kind.is_loop before.procs (length before.widths) (before.procs + length (kind.shape.procs base) + inner.procs)
        (length before.widths + length row + length inner.widths)))
        (omega (arith, ps)) (ws ∙ append_assoc before.widths row inner.widths)
        (ap (λ b. s.loops ++ own_loops b before.procs (length before.widths) s.procs (length s.widths)) loops_is
        ∙ ap₂ (λ l m. l ++ m) ls (ap₂ (λ r e. own_loops kind.is_loop before.procs (length before.widths) r e) ps many)
        ∙ append_assoc before.loops inner.loops _)
        ∙ ap (followed before) (sym node_is)

    -- the node's own processes and channels, by a template of its kind at its place
    pub surveyed_first : (one : Kind) → one ≡ kind → (b : Base) → b ≡ base → (s : Survey) →
        s ≡ record before { procs = before.procs + length (one.shape.procs b); widths = before.widths ++ one.widths tree k t } → IsSurveyed s 0
    surveyed_first one is b same s e =
        ap (λ (z : Survey). followed z (inner_survey inside slots z.procs (length z.widths)))
        (e ∙ ap₂ (λ (z : Kind) (x : Base). with_own before (before.procs + length (z.shape.procs x)) (before.widths ++ z.widths tree k t)) is same)

    module _ (items : List Slot) (items_are : items ≡ slots) (s : Survey) (i : ℕ) (left : IsSurveyed s i) (l : i < length items) (x y : Slot)
        (same : x ≡ y) (found : y ≡ get_or items i y) (part : ℕ) (part_is : part ≡ part_at tree k x.part) where
      below : i < length slots
      below = let e = ap length items_are in omega (arith, l, e)

      slot_is : x ≡ get_or slots i no_slot
      slot_is = same ∙ found ∙ ap (λ xs. get_or xs i y) items_are ∙ get_or_default slots i y no_slot below

      part_there : part ≡ part_at tree k (get_or slots i no_slot).part
      part_there = part_is ∙ ap (λ (z : Slot). part_at tree k z.part) slot_is

      pub part_counted : IsCounted tree count (d - 1) part
      part_counted =
          let more = some in
          let e : d ≡ suc (d - 1) = omega (arith, more) in
          subst (IsCounted tree count (d - 1)) (sym part_there)
          (slot_counted tree count k lawful there base i below (d - 1) (subst (λ n. IsCounted tree count n k) e counted))

      module _ (u : ℕ) (u_is : u ≡ t + kind.deeper) where
        abbrev surveyed : Survey
        surveyed = node_survey tree count (d - 1) part u (base_after (ports_of x) s)

        surveyed_is : surveyed ≡ inside (get_or slots i no_slot).part (base_at (get_or slots i no_slot) s.procs (length s.widths))
        surveyed_is =
            ap₂ (λ m n. node_survey tree count (d - 1) m n (base_after (ports_of x) s)) part_there u_is
            ∙ ap (λ (z : Slot). node_survey tree count (d - 1) (part_at tree k (get_or slots i no_slot).part) (t + kind.deeper) (base_after (ports_of z) s))
            slot_is

        pub part_room : HasRoomAfter before node.procs (length node.widths) → HasRoomAfter s surveyed.procs (length surveyed.widths)
        part_room room =
            let next = next_room inside slots s filled i left below in
            let p = filled_procs in
            let w = filled_widths in
            subst (λ (z : Survey). HasRoomAfter s z.procs (length z.widths)) (sym surveyed_is)
            (omega (arith, next.0, p, room.0), omega (arith, next.1, w, room.1))

        pub surveyed_next : (s' : Survey) → s' ≡ followed s surveyed → IsSurveyed s' (i + 1)
        surveyed_next s' e = next_surveyed inside slots s filled i left below s' (e ∙ ap (followed s) surveyed_is)
