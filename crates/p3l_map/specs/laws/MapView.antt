-- Effects of the rows of Scatter and Gather on the view of a map: taking a token, collecting a piece, emitting a
-- group and sending a piece keep the list and the turns (`take_goes`, `collect_goes`, `emit_goes`, `send_goes`).
-- The list consists of the out channel, the groups of all pieces joined, and the meanings of the waiting tokens.
use Rattle.std.proofs.Common.{◌≡◌, ℕ, zero, suc, ◌+◌, ◌-◌, ◌%◌, ◌≤◌, ◌<◌, true, List, [], ◌∷◌, ◌++◌, map, length, refl, sym, ap, ap₂, ◌∙◌, subst, arith, append_assoc, append-nil, length-append, eqb-true, eq-eqb, lt-ltb, le-leb, leb-true, mod-lt}
use Rattle.std.proofs.Math.Nat.{suc-mod, mod_self, add-mod_left, mod-eq_of_lt}
use Rattle.std.proofs.lemmas.Bool.{and_parts, and_from}
use Rattle.std.proofs.lemmas.List.{map-append}
use Rattle.p3l_firing.specs.Lists.{first_or, rest_of, has_first}
use Rattle.p3l_firing.specs.At.{at}
use Rattle.p3l_firing.proofs.TagLaw.{same_tags-refl}
use Rattle.p3l_firing.specs.Token.{over, bodies, credit}
use Rattle.p3l_firing.specs.declared.token.Token.{Token}
use Rattle.p3l_map.specs.Map.{Pieces, spot, piece, pieces, outcomes, joined, mapped, View, unsent, under_way, whole, to_come, next_piece, scatter_ok, well_kept, all_tagged, alike, all_alike}
use Rattle.p3l_map.specs.Places.{read_by, in_by, total, groups, left}
use Rattle.p3l_map.specs.laws.GroupLaw.{groups_append, one_group, left_append}
use Rattle.p3l_map.specs.laws.Turns.{turns_more, read_moved, total_at}
use Rattle.p3l_template.specs.laws.Lists.{none_left}
use Rattle.p3l_template.specs.laws.Rows.{front}

unfoldable pub view_line : Pieces → View → List Token
view_line q v = v.output ++ (to_come q v ++ map (over (mapped q)) v.input)

pub record Kept (q : Pieces) (v : View) : Type 0 where
  pub full : length v.held ≤ q.number
  pub place : (length v.held + under_way q v) % q.number ≡ next_piece v.sending v.sent
  pub in_turn : in_by v.lines (spot q) q.lines (length v.held) (under_way q v) ≡ true
  pub even : left q.number [] (whole q v) ≡ []
  pub alike : all_alike (groups q.number [] (whole q v)) ≡ true
  pub scatter : scatter_ok q v.sending v.sent ≡ true

pub kept_to : (q : Pieces) (v : View) → well_kept q v ≡ true → Kept q v
unfolding well_kept
kept_to q v h =
    let a = and_parts _ _ h in let b = and_parts _ _ a.1 in let c = and_parts _ _ b.1 in let d = and_parts _ _ c.1 in
    record {
      full = leb-true _ _ a.0;
      place = eqb-true _ _ b.0;
      in_turn = c.0;
      even = none_left _ (eqb-true _ _ d.0);
      alike = (and_parts _ _ d.1).0;
      scatter = (and_parts _ _ d.1).1;
    }

pub kept_from : (q : Pieces) (v : View) → Kept q v → well_kept q v ≡ true
unfolding well_kept
kept_from q v k =
    and_from _ _ (le-leb _ _ k.full)
    (and_from _ _ (eq-eqb _ _ k.place)
    (and_from _ _ k.in_turn (and_from _ _ (eq-eqb _ _ (ap length k.even)) (and_from _ _ k.alike k.scatter))))

pub record Goes (q : Pieces) (v w : View) : Type 0 where
  pub kept : Kept q w
  pub line : view_line q w ≡ view_line q v

pub pieces_length : (q : Pieces) (k m : ℕ) (x : Token) → length (pieces q k m x) ≡ m
unfolding pieces
pieces_length q k zero x = refl
pieces_length q k (suc m) x = ap suc (pieces_length q (suc k) m x)

pieces_bodies : (q : Pieces) (k m : ℕ) (x : Token) → bodies (pieces q k m x) ≡ outcomes q k m x.body
unfolding pieces bodies outcomes
pieces_bodies q k zero x = refl
pieces_bodies q k (suc m) x = ap (λ z. q.inner (q.cut k x.body) ∷ z) (pieces_bodies q (suc k) m x)

pieces_first : (q : Pieces) (k m : ℕ) (x : Token) → 0 < m → (first_or credit (pieces q k m x)).tags ≡ x.tags
unfolding pieces
pieces_first q k zero x h = absurd (omega arith)
pieces_first q k (suc m) x h = refl

-- the pieces of one token are alike
pieces_tagged : (q : Pieces) (k m : ℕ) (x : Token) → all_tagged x.tags (pieces q k m x) ≡ true
unfolding all_tagged pieces
pieces_tagged q k zero x = refl
pieces_tagged q k (suc m) x = and_from _ _ (same_tags-refl x.tags) (pieces_tagged q (suc k) m x)

pieces_alike : (q : Pieces) (k m : ℕ) (x : Token) → alike (pieces q k m x) ≡ true
unfolding alike pieces
pieces_alike q k zero x = refl
pieces_alike q k (suc m) x = pieces_tagged q (suc k) m x

alike_more : (gs : List (List Token)) (g : List Token) → all_alike gs ≡ true → alike g ≡ true → all_alike (gs ++ g ∷ []) ≡ true
unfolding all_alike
alike_more [] g h k = and_from _ _ k refl
alike_more (y ∷ ys) g h k = and_from _ _ (and_parts _ _ h).0 (alike_more ys g (and_parts _ _ h).1 k)

alike_rest : (g : List Token) (gs : List (List Token)) → all_alike (g ∷ gs) ≡ true → all_alike gs ≡ true
unfolding all_alike
alike_rest g gs h = (and_parts _ _ h).1

-- the pieces of one token are made its outcome
pieces_joined : (q : Pieces) (x : Token) → 0 < q.number → joined q (pieces q 0 q.number x) ≡ over (mapped q) x
unfolding joined mapped
pieces_joined q x h =
    ap₂ (λ a b. record { tags = a; body = q.join b }) (pieces_first q 0 q.number x h) (pieces_bodies q 0 q.number x)

-- THE ROWS
module _ (q : Pieces) (pos : 0 < q.number) (wide : 0 < q.lines) (v : View) (k : Kept q v) where
  spot_below : (p : ℕ) → spot q p < q.lines
  unfolding spot
  spot_below p = mod-lt (p % q.number) wide

  -- the place of the next piece in its group
  place_next : (x : Token) → v.sending ≡ x ∷ [] → (length v.held + under_way q v) % q.number ≡ v.sent
  unfolding next_piece
  place_next x e = k.place ∙ ap (λ s. next_piece s v.sent) e

  pub sent_below : (x : Token) → v.sending ≡ x ∷ [] → v.sent < q.number
  sent_below x e = subst (λ z. z < q.number) (place_next x e) (mod-lt (length v.held + under_way q v) pos)

  -- all that depends on the whole list
  same_whole : (w : View) → whole q w ≡ whole q v → w.output ≡ v.output → w.input ≡ v.input →
      view_line q w ≡ view_line q v
  unfolding view_line to_come
  same_whole w e o i = λ j. o j ++ (map (joined q) (groups q.number [] (e j)) ++ map (over (mapped q)) (i j))

  -- Scatter takes a token
  abbrev pub take_view : Token → List Token → View
  take_view x xs = record v { sending = x ∷ []; sent = 0; input = xs }

  take_whole : (x : Token) (xs : List Token) → v.sending ≡ [] →
      whole q (take_view x xs) ≡ whole q v ++ pieces q 0 q.number x
  unfolding whole unsent
  take_whole x xs e =
      let z : q.number - 0 ≡ q.number = omega arith in
      ap (λ n. v.held ++ (read_by v.lines (spot q) (length v.held) (under_way q v) ++ pieces q 0 n x)) z
      ∙ ap (λ y. v.held ++ (y ++ pieces q 0 q.number x))
      (sym (append-nil (read_by v.lines (spot q) (length v.held) (under_way q v))))
      ∙ sym (append_assoc v.held _ _)
      ∙ ap (λ s. (v.held ++ (read_by v.lines (spot q) (length v.held) (under_way q v) ++ unsent q s v.sent))
      ++ pieces q 0 q.number x) (sym e)

  place_idle : v.sending ≡ [] → (length v.held + under_way q v) % q.number ≡ 0
  unfolding next_piece
  place_idle e = k.place ∙ ap (λ s. next_piece s v.sent) e

  pub take_goes : (x : Token) (xs : List Token) → v.sending ≡ [] → v.input ≡ x ∷ xs → Goes q v (take_view x xs)
  unfolding view_line to_come next_piece scatter_ok
  take_goes x xs e f =
      let w = take_whole x xs e in
      let one =
      one_group q.number [] (pieces q 0 q.number x) (omega (arith, pieces_length q 0 q.number x, pos))
      (omega (arith, pieces_length q 0 q.number x)) in
      let g : groups q.number [] (whole q (take_view x xs))
      ≡ groups q.number [] (whole q v) ++ pieces q 0 q.number x ∷ [] =
      ap (groups q.number []) w ∙ groups_append q.number [] (whole q v) (pieces q 0 q.number x)
      ∙ ap (λ a. groups q.number [] (whole q v) ++ groups q.number a (pieces q 0 q.number x)) k.even
      ∙ ap (λ z. groups q.number [] (whole q v) ++ z) one.0 in
      record {
        kept = record {
          full = k.full;
          place = place_idle e;
          in_turn = k.in_turn;
          even = ap (left q.number []) w ∙ left_append q.number [] (whole q v) (pieces q 0 q.number x)
              ∙ ap (λ a. left q.number a (pieces q 0 q.number x)) k.even ∙ one.1;
          alike = ap all_alike g ∙ alike_more _ _ k.alike (pieces_alike q 0 q.number x);
          scatter = lt-ltb _ _ pos;
        };
        line =
            ap (λ z. v.output ++ (map (joined q) z ++ map (over (mapped q)) xs)) g
            ∙ ap (λ z. v.output ++ (z ++ map (over (mapped q)) xs))
            (map-append (joined q) (groups q.number [] (whole q v)) (pieces q 0 q.number x ∷ []))
            ∙ ap (λ z. v.output ++ z) (append_assoc (map (joined q) (groups q.number [] (whole q v))) _ _)
            ∙ ap (λ z. v.output ++ (map (joined q) (groups q.number [] (whole q v)) ++ z ∷ map (over (mapped q)) xs))
            (pieces_joined q x pos)
            ∙ ap
            (λ z. v.output ++ (map (joined q) (groups q.number [] (whole q v)) ++ map (over (mapped q)) z)) (sym f);
      }

  -- Gather takes a piece
  abbrev pub collect_view : View
  collect_view =
      record v {
        lines = at v.lines (spot q (length v.held)) (rest_of (v.lines (spot q (length v.held))));
        held = v.held ++ first_or credit (v.lines (spot q (length v.held))) ∷ [];
      }

  collect_total : has_first (v.lines (spot q (length v.held))) ≡ true → under_way q v ≡ suc (under_way q collect_view)
  collect_total h =
      let a = total_at v.lines (spot q (length v.held)) (rest_of (v.lines (spot q (length v.held)))) q.lines
      (spot_below (length v.held)) in
      let b = ap length (front (v.lines (spot q (length v.held))) h) in
      omega (arith, a, b)

  collect_whole : under_way q v ≡ suc (under_way q collect_view) →
      length (v.held ++ first_or credit (v.lines (spot q (length v.held))) ∷ []) ≡ suc (length v.held) →
      whole q collect_view ≡ whole q v
  unfolding whole read_by
  collect_whole t n =
      append_assoc v.held _ _
      ∙ ap (λ z. v.held
      ++ (first_or credit (v.lines (spot q (length v.held))) ∷
      (read_by (at v.lines (spot q (length v.held)) (rest_of (v.lines (spot q (length v.held))))) (spot q) z
      (under_way q collect_view) ++ unsent q v.sending v.sent))) n
      ∙ ap (λ z. v.held ++ (read_by v.lines (spot q) (length v.held) z ++ unsent q v.sending v.sent)) (sym t)

  collect_turn : under_way q v ≡ suc (under_way q collect_view) →
      in_by (at v.lines (spot q (length v.held)) (rest_of (v.lines (spot q (length v.held))))) (spot q) q.lines
      (suc (length v.held)) (under_way q collect_view) ≡ true
  unfolding in_by
  collect_turn t = (and_parts _ _ (ap (in_by v.lines (spot q) q.lines (length v.held)) (sym t) ∙ k.in_turn)).1

  pub collect_goes : length v.held < q.number → has_first (v.lines (spot q (length v.held))) ≡ true →
      Goes q v collect_view
  collect_goes l h =
      let t = collect_total h in
      let n : length (v.held ++ first_or credit (v.lines (spot q (length v.held))) ∷ []) ≡ suc (length v.held) =
      length-append v.held _ ∙ omega arith in
      let w : whole q collect_view ≡ whole q v = collect_whole t n in
      record {
        kept = record {
          full = omega (arith, n, l);
          place = ap (λ z. z % q.number) (omega (arith, n, t)) ∙ k.place;
          in_turn =
              ap (λ z. in_by (at v.lines (spot q (length v.held)) (rest_of (v.lines (spot q (length v.held)))))
              (spot q) q.lines z (under_way q collect_view)) n
              ∙ collect_turn t;
          even = ap (left q.number []) w ∙ k.even;
          alike = ap (λ z. all_alike (groups q.number [] z)) w ∙ k.alike;
          scatter = k.scatter;
        };
        line = same_whole collect_view w refl refl;
      }

  -- Gather emits a group
  abbrev pub emit_view : View
  emit_view = record v { held = []; output = v.output ++ joined q v.held ∷ [] }

  spot_again : (m : ℕ) → spot q (0 + m) ≡ spot q (q.number + m)
  unfolding spot
  spot_again m = ap (λ z. z % q.lines) (ap (λ z. z % q.number) (omega arith) ∙ sym (add-mod_left q.number m))

  emit_whole : length v.held ≡ q.number →
      whole q emit_view ≡ read_by v.lines (spot q) (length v.held) (under_way q v) ++ unsent q v.sending v.sent
  unfolding whole
  emit_whole e =
      ap (λ z. z ++ unsent q v.sending v.sent)
      ((read_moved (spot q) q.lines (under_way q v) q.number 0 v.lines spot_again).0
      ∙ ap (λ z. read_by v.lines (spot q) z (under_way q v)) (sym e))

  pub emit_goes : length v.held ≡ q.number → Goes q v emit_view
  unfolding view_line to_come whole
  emit_goes e =
      let w = emit_whole e in
      let one = one_group q.number [] v.held (omega (arith, e, pos)) (omega (arith, e)) in
      let r : List Token = read_by v.lines (spot q) (length v.held) (under_way q v) ++ unsent q v.sending v.sent in
      let g : groups q.number []
      (v.held ++ (read_by v.lines (spot q) (length v.held) (under_way q v) ++ unsent q v.sending v.sent))
      ≡ v.held ∷ groups q.number []
      (read_by v.lines (spot q) (length v.held) (under_way q v) ++ unsent q v.sending v.sent) =
      groups_append q.number [] v.held _
      ∙ ap₂ (λ a b. a
      ++ groups q.number b
      (read_by v.lines (spot q) (length v.held) (under_way q v) ++ unsent q v.sending v.sent)) one.0 one.1 in
      record {
        kept = record {
          full = omega arith;
          place = sym (add-mod_left q.number (0 + under_way q v)) ∙ ap (λ z. z % q.number) (omega (arith, e)) ∙ k.place;
          in_turn =
              (read_moved (spot q) q.lines (under_way q v) q.number 0 v.lines spot_again).1
              ∙ ap (λ z. in_by v.lines (spot q) q.lines z (under_way q v)) (sym e) ∙ k.in_turn;
          even = ap (left q.number []) w
              ∙ ap (λ a. left q.number a
              (read_by v.lines (spot q) (length v.held) (under_way q v) ++ unsent q v.sending v.sent)) (sym one.1)
              ∙ sym (left_append q.number [] v.held _) ∙ k.even;
          alike = ap (λ z. all_alike (groups q.number [] z)) w ∙ alike_rest v.held _ (sym (ap all_alike g) ∙ k.alike);
          scatter = k.scatter;
        };
        line =
            append_assoc v.output _ _
            ∙ ap (λ z. v.output
            ++ (joined q v.held ∷ (map (joined q) (groups q.number [] z) ++ map (over (mapped q)) v.input))) w
            ∙ ap (λ z. v.output ++ (map (joined q) z ++ map (over (mapped q)) v.input)) (sym g);
      }

  -- Scatter sends a piece
  abbrev pub send_view : Token → List Token → ℕ → View
  send_view x s n =
      record v {
        lines = at v.lines (v.sent % q.lines) (v.lines (v.sent % q.lines) ++ piece q v.sent x ∷ []);
        sending = s;
        sent = n;
      }

  -- Scatter's held token and number after piece k
  pub data Next (x : Token) : List Token → ℕ → Type 0 where
    More : suc v.sent < q.number → Next x (x ∷ []) (suc v.sent)
    Done : q.number ≤ suc v.sent → Next x [] 0

  send_unsent : (x : Token) (s : List Token) (n : ℕ) → Next x s n → v.sending ≡ x ∷ [] →
      unsent q v.sending v.sent ≡ piece q v.sent x ∷ unsent q s n
  unfolding unsent pieces
  send_unsent x s n t e =
      let d : q.number - v.sent ≡ suc (q.number - suc v.sent) = omega (arith, sent_below x e) in
      ap (λ z. unsent q z v.sent) e ∙ ap (λ m. pieces q v.sent m x) d
      ∙ ap (λ z. piece q v.sent x ∷ z)
      (elim t as (λ s n t. pieces q (suc v.sent) (q.number - suc v.sent) x ≡ unsent q s n) [
        | More l ↦ refl
        | Done l ↦ let z : q.number - suc v.sent ≡ 0 = omega arith in ap (λ m. pieces q (suc v.sent) m x) z
      ])

  send_place : (x : Token) (s : List Token) (n : ℕ) → Next x s n → v.sending ≡ x ∷ [] →
      suc (length v.held + under_way q v) % q.number ≡ next_piece s n
  unfolding next_piece
  send_place x s n t e =
      suc-mod (length v.held + under_way q v) q.number ∙ ap (λ z. suc z % q.number) (place_next x e)
      ∙ elim t as (λ s n t. suc v.sent % q.number ≡ next_piece s n) [
        | More l ↦ mod-eq_of_lt l
        | Done l ↦ ap (λ z. z % q.number) (omega (arith, l, sent_below x e)) ∙ mod_self q.number
      ]

  send_scatter : (x : Token) (s : List Token) (n : ℕ) → Next x s n → scatter_ok q s n ≡ true
  unfolding scatter_ok
  send_scatter x s n t = elim t as (λ s n t. scatter_ok q s n ≡ true) [ More l ↦ lt-ltb _ _ l | Done l ↦ refl ]

  send_spot : (x : Token) → v.sending ≡ x ∷ [] → v.sent % q.lines ≡ spot q (length v.held + under_way q v)
  unfolding spot
  send_spot x e = ap (λ z. z % q.lines) (sym (place_next x e))

  pub send_goes : (x : Token) (s : List Token) (n : ℕ) → Next x s n → v.sending ≡ x ∷ [] → Goes q v (send_view x s n)
  unfolding whole
  send_goes x s n t e =
      let h = length v.held in
      let m = under_way q v in
      let a : at v.lines (v.sent % q.lines) (v.lines (v.sent % q.lines) ++ piece q v.sent x ∷ [])
      ≡ at v.lines (spot q (length v.held + under_way q v))
      (v.lines (spot q (length v.held + under_way q v)) ++ piece q v.sent x ∷ []) =
      ap (λ w. at v.lines w (v.lines w ++ piece q v.sent x ∷ [])) (send_spot x e) in
      let c : total (at v.lines (v.sent % q.lines) (v.lines (v.sent % q.lines) ++ piece q v.sent x ∷ [])) q.lines
      ≡ suc (under_way q v) =
      omega (
        arith,
        total_at v.lines (v.sent % q.lines) (v.lines (v.sent % q.lines) ++ piece q v.sent x ∷ []) q.lines
            (mod-lt v.sent wide),
        length-append (v.lines (v.sent % q.lines)) (piece q v.sent x ∷ []),
      ) in
      let r = turns_more (spot q) q.lines spot_below (under_way q v) (length v.held)
      (length v.held + under_way q v) v.lines (piece q v.sent x) refl k.in_turn in
      let w : whole q (send_view x s n) ≡ whole q v =
      ap₂ (λ L z. v.held ++ (read_by L (spot q) (length v.held) z ++ unsent q s n)) a c
      ∙ ap (λ z. v.held ++ (z ++ unsent q s n)) r.0
      ∙ ap (λ z. v.held ++ z)
      (append_assoc (read_by v.lines (spot q) (length v.held) (under_way q v)) _ _
      ∙ ap (λ z. read_by v.lines (spot q) (length v.held) (under_way q v) ++ z) (sym (send_unsent x s n t e))) in
      record {
        kept = record {
          full = k.full;
          place = ap (λ z. (length v.held + z) % q.number) c ∙ ap (λ z. z % q.number) (omega arith)
              ∙ send_place x s n t e;
          in_turn = ap₂ (λ L z. in_by L (spot q) q.lines (length v.held) z) a c ∙ r.1;
          even = ap (left q.number []) w ∙ k.even;
          alike = ap (λ z. all_alike (groups q.number [] z)) w ∙ k.alike;
          scatter = send_scatter x s n t;
        };
        line = same_whole (send_view x s n) w refl refl;
      }
