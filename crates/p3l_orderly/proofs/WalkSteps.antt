-- The steps of the walk over a tree in code: what was found so far, with what is found at the slots that are left, is all.
use Rattle.std.proofs.Common.{◌≡◌, ℕ, zero, suc, ◌+◌, ◌-◌, ◌<◌, ◌≤◌, ◌&&◌, Bool, true, false, Option, Some, None, cond, List, [], ◌∷◌, ◌++◌, length, get_or, drop, drop-cons, refl, sym, ap, ap₂, ◌∙◌, subst, subst₂, arith, append_assoc, append-nil, length-append}
use Rattle.std.proofs.lemmas.Bool.{cond-false}
use Rattle.std.proofs.lemmas.List.{drop_all, get_or_default, length-map}
use Rattle.p3l_skel.specs.declared.tree.Tree.{Tree}
use Rattle.p3l_skel.specs.Tree.{part_at}
use Rattle.p3l_skel.specs.Lawful.{IsLawfulTree}
use Rattle.p3l_firing.specs.State.{State}
use Rattle.p3l_firing.specs.declared.token.Token.{Token}
use Rattle.p3l_template.specs.Finding.{Finding, if_orderly}
use Rattle.p3l_template.specs.Placed.{IsLawfulShape}
use Rattle.p3l_template.specs.Shape.{Base, Slot, no_slot}
use Rattle.p3l_link.specs.Counts.{IsCounted}
use Rattle.p3l_link.specs.Net.{Piece, base_at, followed, inner_pieces, piece_of, whole_piece}
use Rattle.p3l_link.specs.Shape.{kind_at, shape_at}
use Rattle.p3l_link.proofs.Counted.{counted_deep, counted_own, counted_there, slot_counted, shape_lawful}
use Rattle.p3l_link.proofs.Placing.{piece_step}
use Rattle.p3l_orderly.specs.declared.walk.Found.{Found}
use Rattle.p3l_orderly.specs.Walk.{all_found, all_pending, inner_found, node_found, with_inner}
use Rattle.p3l_orderly.specs.Walked.{HasRoomAt, found_at, found_to, walk_found, walk_piece}

-- the first of the slots that are left
found_more : (f : ℕ → Base → Finding) (g : ℕ → Base → Piece) (slots : List Slot) (i p c : ℕ) → i < length slots →
    inner_found f g (drop i slots) p c
    ≡ f (get_or slots i no_slot).part (base_at (get_or slots i no_slot) p c)
    ∷ inner_found f g (drop (i + 1) slots) (p + length (g (get_or slots i no_slot).part (base_at (get_or slots i no_slot) p c)).procs)
    (c + length (g (get_or slots i no_slot).part (base_at (get_or slots i no_slot) p c)).chans)
unfolding inner_found
found_more f g slots i p c l =
    let more : suc i ≡ i + 1 = omega arith in
    ap (λ z. inner_found f g z p c) (drop-cons slots i no_slot l ∙ ap (λ j. get_or slots i no_slot ∷ drop j slots) more)

piece_more : (g : ℕ → Base → Piece) (slots : List Slot) (i p c : ℕ) → i < length slots →
    inner_pieces g (drop i slots) p c
    ≡ followed (g (get_or slots i no_slot).part (base_at (get_or slots i no_slot) p c))
    (inner_pieces g (drop (i + 1) slots) (p + length (g (get_or slots i no_slot).part (base_at (get_or slots i no_slot) p c)).procs)
    (c + length (g (get_or slots i no_slot).part (base_at (get_or slots i no_slot) p c)).chans))
unfolding inner_pieces
piece_more g slots i p c l =
    let more : suc i ≡ i + 1 = omega arith in
    ap (λ z. inner_pieces g z p c) (drop-cons slots i no_slot l ∙ ap (λ j. get_or slots i no_slot ∷ drop j slots) more)

inner_length : (f : ℕ → Base → Finding) (g : ℕ → Base → Piece) (slots : List Slot) (p c : ℕ) → length (inner_found f g slots p c) ≡ length slots
unfolding inner_found
inner_length f g [] p c = refl
inner_length f g (x ∷ xs) p c = ap suc (inner_length f g xs _ _)

abbrev pub found_of : List Token → (p c : ℕ) → Found
found_of pending p c = record { pending = pending; proc = p; chan = c }

-- the finding for an inner part that is orderly, and for one that is not
pub found_some : (f : Finding) (p c : ℕ) (x : Found) → Some x ≡ found_to f p c →
    (f.orderly ≡ true) × (x ≡ found_of f.pending p c)
unfolding found_to
found_some f p c x e = go f.orderly e
  where
    there : Option Found → Found → Found
    there None d = d
    there (Some y) d = y

    go : (b : Bool) → Some x ≡ cond b (Some (found_of f.pending p c)) None →
        (b ≡ true) × (x ≡ found_of f.pending p c)
    go true h = (refl, ap (λ o. there o x) h)
    go false h = absurd (cc h)

pub found_none : (f : Finding) (p c : ℕ) → None ≡ found_to f p c → f.orderly ≡ false
unfolding found_to
found_none f p c e = go f.orderly e
  where
    go : (b : Bool) → None ≡ cond b (Some (found_of f.pending p c)) None → b ≡ false
    go true h = absurd (cc h)
    go false h = refl

pub not_some : (o : Option Found) → ((x : Found) → o ≡ Some x → ⊥) → o ≡ None
not_some None h = refl
not_some (Some x) h = absurd (h x refl)

pub none_found : (f : Finding) (p c : ℕ) → f.orderly ≡ false → None ≡ found_to f p c
unfolding found_to
none_found f p c h = sym (cond-false _ _ _ h)

-- the tokens pending in an orderly part, with its end
pub ending_some : (pending : List Token) (f : Finding) (p c : ℕ) → Some pending ≡ if_orderly f →
    Some (found_of pending p c) ≡ found_to f p c
unfolding if_orderly found_to
ending_some pending f p c e = go f.orderly e
  where
    ending : Option (List Token) → Option Found
    ending None = None
    ending (Some list) = Some (found_of list p c)

    go : (b : Bool) → Some pending ≡ cond b (Some f.pending) None →
        Some (found_of pending p c) ≡ cond b (Some (found_of f.pending p c)) None
    go true h = ap ending h
    go false h = ap ending h

pub ending_none : (f : Finding) (p c : ℕ) → None ≡ if_orderly f → None ≡ found_to f p c
unfolding if_orderly found_to
ending_none f p c e = go f.orderly e
  where
    go : (b : Bool) → None ≡ cond b (Some f.pending) None → None ≡ cond b (Some (found_of f.pending p c)) None
    go true h = absurd (cc h)
    go false h = refl

module _ (tree : Tree) (count : ℕ → ℕ) (levels k : ℕ) (base : Base) (s : State) where
  abbrev pub slots : List Slot
  slots = (shape_at tree count k).slots base

  abbrev pub pieces : ℕ → Base → Piece
  pieces = λ v. piece_of tree count 1 (levels - 1) (part_at tree k v)

  abbrev pub founds : ℕ → Base → Finding
  founds = λ v b. node_found tree count 1 (levels - 1) (part_at tree k v) b s

  abbrev pub first_proc : ℕ
  first_proc = base.proc + length ((shape_at tree count k).procs base)

  abbrev pub first_chan : ℕ
  first_chan = base.chan + (shape_at tree count k).chans base

  -- the findings in all inner parts, and their pieces
  abbrev pub all_inner : List Finding
  all_inner = inner_found founds pieces slots first_proc first_chan

  abbrev pub all_pieces : Piece
  all_pieces = inner_pieces pieces slots first_proc first_chan

  -- with what is found at the slots from i on, which lie from process p and channel c on, what was found so far is all
  pub record IsLeft (i p c : ℕ) (inner : List (List Token)) : Type 0 where
    pub pending : inner ++ all_pending (inner_found founds pieces (drop i slots) p c) ≡ all_pending all_inner
    pub orderly : all_found (inner_found founds pieces (drop i slots) p c) ≡ all_found all_inner
    pub procs : p + length (inner_pieces pieces (drop i slots) p c).procs ≡ first_proc + length all_pieces.procs
    pub chans : c + length (inner_pieces pieces (drop i slots) p c).chans ≡ first_chan + length all_pieces.chans

  pub left_first : (p c : ℕ) (inner : List (List Token)) → p ≡ first_proc → c ≡ first_chan → inner ≡ [] → IsLeft 0 p c inner
  left_first p c inner ep ec ei =
      subst (λ z. IsLeft 0 z c inner) (sym ep)
      (subst (λ z. IsLeft 0 first_proc z inner) (sym ec)
      (subst (IsLeft 0 first_proc first_chan) (sym ei) (record { pending = refl; orderly = refl; procs = refl; chans = refl })))

  -- all inner parts were found orderly, and they end before process p and channel c
  pub record IsAll (p c : ℕ) (inner : List (List Token)) : Type 0 where
    pub pending : inner ≡ all_pending all_inner
    pub orderly : all_found all_inner ≡ true
    pub procs : p ≡ first_proc + length all_pieces.procs
    pub chans : c ≡ first_chan + length all_pieces.chans

  module _ (i p c : ℕ) (inner : List (List Token)) (left : IsLeft i p c inner) where
    module _ (l : i < length slots) where
      abbrev slot : Slot
      slot = get_or slots i no_slot

      abbrev here : Piece
      here = pieces slot.part (base_at slot p c)

      abbrev found : Finding
      found = founds slot.part (base_at slot p c)

      pub left_next : found.orderly ≡ true →
          IsLeft (i + 1) (p + length here.procs) (c + length here.chans) (inner ++ found.pending ∷ [])
      unfolding all_found
      left_next h =
          let more = found_more founds pieces slots i p c l in
          let piece = piece_more pieces slots i p c l in
          let next : Piece = inner_pieces pieces (drop (i + 1) slots) (p + length here.procs) (c + length here.chans) in
          let np = length-append here.procs next.procs in
          let nc = length-append here.chans next.chans in
          let tp = ap (λ (z : Piece). length z.procs) piece in
          let tc = ap (λ (z : Piece). length z.chans) piece in
          let lp = left.procs in
          let lc = left.chans in
          record {
            pending = append_assoc inner (found.pending ∷ []) _ ∙ ap (λ z. inner ++ all_pending z) (sym more) ∙ left.pending;
            orderly =
                ap (λ b. b && all_found (inner_found founds pieces (drop (i + 1) slots) (p + length here.procs) (c + length here.chans))) (sym h)
                ∙ ap all_found (sym more) ∙ left.orderly;
            procs = omega (arith, np, tp, lp);
            chans = omega (arith, nc, tc, lc);
          }

      -- with what the walk found of the next inner part
      pub left_on : (x : Found) (p' c' : ℕ) (inner' : List (List Token)) → Some x ≡ found_at found here (base_at slot p c) →
          p' ≡ x.proc → c' ≡ x.chan → inner' ≡ inner ++ x.pending ∷ [] → IsLeft (i + 1) p' c' inner'
      left_on x p' c' inner' e ep ec ei =
          let f = found_some found (p + length here.procs) (c + length here.chans) x e in
          subst (λ z. IsLeft (i + 1) z c' inner') (sym (ep ∙ ap (λ (y : Found). y.proc) f.1))
          (subst (λ z. IsLeft (i + 1) (p + length here.procs) z inner') (sym (ec ∙ ap (λ (y : Found). y.chan) f.1))
          (subst (IsLeft (i + 1) (p + length here.procs) (c + length here.chans))
          (sym (ei ∙ ap (λ (y : Found). inner ++ y.pending ∷ []) f.1)) (left_next f.0)))

      pub left_none : found.orderly ≡ false → all_found all_inner ≡ false
      unfolding all_found
      left_none h =
          sym left.orderly ∙ ap all_found (found_more founds pieces slots i p c l)
          ∙ ap (λ b. b && all_found (inner_found founds pieces (drop (i + 1) slots) (p + length here.procs) (c + length here.chans))) h

      -- there is room for the next inner part where there is for all
      pub left_room : (first_proc + length all_pieces.procs ≤ 1048576) × (first_chan + length all_pieces.chans ≤ 1048576) →
          HasRoomAt here (base_at slot p c)
      left_room room =
          let piece = piece_more pieces slots i p c l in
          let next : Piece = inner_pieces pieces (drop (i + 1) slots) (p + length here.procs) (c + length here.chans) in
          let np = length-append here.procs next.procs in
          let nc = length-append here.chans next.chans in
          let tp = ap (λ (z : Piece). length z.procs) piece in
          let tc = ap (λ (z : Piece). length z.chans) piece in
          let lp = left.procs in
          let lc = left.chans in
          (omega (arith, np, tp, lp, room.0), omega (arith, nc, tc, lc, room.1))

    pub left_all : length slots ≤ i → IsAll p c inner
    unfolding inner_found inner_pieces all_found
    left_all l =
        let none = drop_all i slots l in
        let lp = left.procs in
        let lc = left.chans in
        let tp = ap (λ z. length (inner_pieces pieces z p c).procs) none in
        let tc = ap (λ z. length (inner_pieces pieces z p c).chans) none in
        record {
          pending =
              sym (append-nil inner) ∙ ap (λ z. inner ++ all_pending (inner_found founds pieces z p c)) (sym none) ∙ left.pending;
          orderly = sym left.orderly ∙ ap (λ z. all_found (inner_found founds pieces z p c)) none;
          procs = omega (arith, lp, tp);
          chans = omega (arith, lc, tc);
        }

  module _ (lawful : IsLawfulTree tree) (counted : IsCounted tree count levels k) where
    law : IsLawfulShape (shape_at tree count k)
    law = shape_lawful tree count k lawful (counted_there tree count levels k counted) (counted_own tree count levels k counted)

    -- the node by its own template and its inner parts
    node_step : walk_found tree count levels k base s ≡ with_inner all_inner ((kind_at tree count k).finds tree base s)
    unfolding node_found
    node_step = go levels (counted_deep tree count levels k counted)
      where
        go : (n : ℕ) → 0 < n → node_found tree count 1 n k base s
            ≡ with_inner (inner_found (λ v b. node_found tree count 1 (n - 1) (part_at tree k v) b s)
            (λ v. piece_of tree count 1 (n - 1) (part_at tree k v)) slots first_proc first_chan) ((kind_at tree count k).finds tree base s)
        go zero l = absurd (omega arith)
        go (suc d) l =
            let e : d ≡ suc d - 1 = omega arith in
            ap (λ n. with_inner (inner_found (λ v b. node_found tree count 1 n (part_at tree k v) b s)
            (λ v. piece_of tree count 1 n (part_at tree k v)) slots first_proc first_chan) ((kind_at tree count k).finds tree base s)) e

    piece_is : walk_piece tree count levels k base ≡ whole_piece (shape_at tree count k) 1 pieces base
    piece_is = piece_step tree count 1 levels k base (counted_deep tree count levels k counted)

    pub whole_procs : base.proc + length (walk_piece tree count levels k base).procs ≡ first_proc + length all_pieces.procs
    whole_procs =
        let e = ap (λ (z : Piece). length z.procs) piece_is in
        let n = length-append ((shape_at tree count k).procs base) all_pieces.procs in
        omega (arith, e, n)

    pub whole_chans : base.chan + length (walk_piece tree count levels k base).chans ≡ first_chan + length all_pieces.chans
    whole_chans =
        let e = ap (λ (z : Piece). length z.chans) piece_is in
        let n = length-append ((shape_at tree count k).laid 1 base) all_pieces.chans in
        let lw = law in
        let laid = lw.laid 1 base in
        omega (arith, e, n, laid)

    pub whole_room : HasRoomAt (walk_piece tree count levels k base) base →
        (first_proc + length all_pieces.procs ≤ 1048576) × (first_chan + length all_pieces.chans ≤ 1048576)
    whole_room room =
        let wp = whole_procs in
        let wc = whole_chans in
        (omega (arith, wp, room.0), omega (arith, wc, room.1))

    pub own_room : HasRoomAt (walk_piece tree count levels k base) base →
        (base.proc + length ((shape_at tree count k).procs base) ≤ 1048576) × (base.chan + (shape_at tree count k).chans base ≤ 1048576)
    own_room room =
        let r = whole_room room in
        (omega (arith, r.0), omega (arith, r.1))

    pub own_count : (p c : ℕ) (inner : List (List Token)) → IsAll p c inner → length inner ≡ (shape_at tree count k).inner
    own_count p c inner all =
        let lw = law in
        ap length all.pending ∙ length-map all_inner (λ (f : Finding). f.pending)
        ∙ inner_length founds pieces slots first_proc first_chan ∙ lw.count base

    -- nothing is found if one inner part is not orderly
    pub nothing_found : all_found all_inner ≡ false →
        None ≡ found_at (walk_found tree count levels k base s) (walk_piece tree count levels k base) base
    nothing_found h =
        none_found (walk_found tree count levels k base s) _ _
        (ap (λ (f : Finding). f.orderly) node_step ∙ ap (λ b. b && ((kind_at tree count k).finds tree base s (all_pending all_inner)).orderly) h)

    -- the template's own finding decides if all are orderly
    pub own_found : (p c : ℕ) (inner : List (List Token)) → IsAll p c inner →
        found_to ((kind_at tree count k).finds tree base s inner) p c
        ≡ found_at (walk_found tree count levels k base s) (walk_piece tree count levels k base) base
    own_found p c inner all =
        ap₂ (found_to ((kind_at tree count k).finds tree base s inner)) (all.procs ∙ sym whole_procs) (all.chans ∙ sym whole_chans)
        ∙ ap (λ z. found_at ((kind_at tree count k).finds tree base s z) (walk_piece tree count levels k base) base) all.pending
        ∙ ap (λ b. found_at (record {
          orderly = b && ((kind_at tree count k).finds tree base s (all_pending all_inner)).orderly;
          pending = ((kind_at tree count k).finds tree base s (all_pending all_inner)).pending;
        }) (walk_piece tree count levels k base) base) (sym all.orderly)
        ∙ ap (λ z. found_at z (walk_piece tree count levels k base) base) (sym node_step)

    module _ (items : List Slot) (items_are : items ≡ slots) (i : ℕ) where
      slots_length : length items ≡ length slots
      slots_length = ap length items_are

      pub items_end : (p c : ℕ) (inner : List (List Token)) → IsLeft i p c inner → length items ≤ i → IsAll p c inner
      items_end p c inner left l = left_all i p c inner left (let e = slots_length in omega (arith, l, e))

      -- the part that was found at the next slot
      module _ (l : i < length items) (x y : Slot) (same : x ≡ y) (at_i : y ≡ get_or items i y) (part : ℕ)
          (part_is : part ≡ part_at tree k x.part) where
        below : i < length slots
        below = let e = slots_length in omega (arith, l, e)

        slot_is : x ≡ get_or slots i no_slot
        slot_is = same ∙ at_i ∙ ap (λ xs. get_or xs i y) items_are ∙ get_or_default slots i y no_slot below

        part_there : part ≡ part_at tree k (get_or slots i no_slot).part
        part_there = part_is ∙ ap (λ (z : Slot). part_at tree k z.part) slot_is

        pub part_counted : IsCounted tree count (levels - 1) part
        part_counted =
            let some = counted_deep tree count levels k counted in
            let e : levels ≡ suc (levels - 1) = omega (arith, some) in
            subst (IsCounted tree count (levels - 1)) (sym part_there)
            (slot_counted tree count k lawful (counted_there tree count levels k counted) base i below (levels - 1)
            (subst (λ d. IsCounted tree count d k) e counted))

        module _ (p c : ℕ) (b : Base) (place : b ≡ base_at x p c) where
          abbrev placed : Piece
          placed = walk_piece tree count (levels - 1) part b

          abbrev there_found : Option Found
          there_found = found_at (walk_found tree count (levels - 1) part b s) placed b

          base_is : b ≡ base_at (get_or slots i no_slot) p c
          base_is = place ∙ ap (λ (z : Slot). base_at z p c) slot_is

          pub part_room : (inner : List (List Token)) → IsLeft i p c inner → HasRoomAt (walk_piece tree count levels k base) base → HasRoomAt placed b
          part_room inner left room =
              subst₂ (λ n (z : Base). HasRoomAt (walk_piece tree count (levels - 1) n z) z) (sym part_there) (sym base_is)
              (left_room i p c inner left below (whole_room room))

          found_is : there_found
              ≡ found_at (founds (get_or slots i no_slot).part (base_at (get_or slots i no_slot) p c))
              (pieces (get_or slots i no_slot).part (base_at (get_or slots i no_slot) p c)) (base_at (get_or slots i no_slot) p c)
          found_is =
              ap₂ (λ n (z : Base). found_at (walk_found tree count (levels - 1) n z s) (walk_piece tree count (levels - 1) n z) z) part_there base_is

          -- the next step of the walk
          pub part_on : (inner : List (List Token)) → IsLeft i p c inner → (f : Found) (p' c' : ℕ) (inner' : List (List Token)) →
              Some f ≡ there_found → p' ≡ f.proc → c' ≡ f.chan → inner' ≡ inner ++ f.pending ∷ [] → IsLeft (i + 1) p' c' inner'
          part_on inner left f p' c' inner' e = left_on i p c inner left below f p' c' inner' (e ∙ found_is)

          pub part_none : (inner : List (List Token)) → IsLeft i p c inner → None ≡ there_found →
              None ≡ found_at (walk_found tree count levels k base s) (walk_piece tree count levels k base) base
          part_none inner left e =
              nothing_found (left_none i p c inner left below (found_none (founds (get_or slots i no_slot).part
              (base_at (get_or slots i no_slot) p c)) _ _ (e ∙ found_is)))
