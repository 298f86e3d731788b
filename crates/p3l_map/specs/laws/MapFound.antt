-- WHAT IS FOUND IN A MAP is what its part is.
use Rattle.std.proofs.Common.{◌≡◌, ℕ, zero, suc, ◌+◌, ◌-◌, ◌%◌, ◌<◌, ◌&&◌, cond, not, nat_eq, nat_le, Bool, true, false, List, [], ◌∷◌, ◌++◌, map, length, refl, sym, ap, ap₂, ◌∙◌, arith}
use Rattle.std.proofs.lemmas.List.{map-append, length-replicate}
use Rattle.std.proofs.Math.Path.{fun_ext}
use Rattle.p3l_firing.specs.At.{at}
use Rattle.p3l_firing.specs.Lists.{first_or, rest_of, has_first}
use Rattle.p3l_firing.specs.State.{State}
use Rattle.p3l_firing.specs.Token.{credit, same_tags}
use Rattle.p3l_firing.specs.declared.token.Token.{Token}
use Rattle.p3l_map.specs.Map.{Pieces, View, spot, pieces, joined, unsent, under_way, whole, to_come, next_piece, scatter_ok, all_tagged, alike, all_alike, well_kept}
use Rattle.p3l_map.specs.MapShape.{pieces_of, lines_of, view_of, map_part, map_shape}
use Rattle.p3l_map.specs.Places.{read_by, all_empty, in_by, total, groups, left}
use Rattle.p3l_map.specs.laws.Near.{near-come, near-kept}
use Rattle.p3l_template.specs.Part.{Part, all_orderly}
use Rattle.p3l_template.specs.Shape.{Base, Role, fan_slots}
use Rattle.p3l_template.specs.Units.{Units}
use Rattle.p3l_template.specs.Lines.{lines_by}
use Rattle.p3l_template.specs.Finding.{bare, bares, pending_of, AreSlots, IsFoundShape}
use Rattle.p3l_map.specs.MapKind.{bare_pieces, line_at, found_by, map_finds}
use Rattle.p3l_template.specs.laws.BareLaw.{bares-bares, bares-length, bares-line, and-swap}

-- THE LINES
abbrev bare_lines : (ℕ → List Token) → ℕ → List Token
bare_lines L w = bares (L w)

rest-bare : (xs : List Token) → rest_of (bares xs) ≡ bares (rest_of xs)
rest-bare [] = refl
rest-bare (x ∷ xs) = refl

has-bare : (xs : List Token) → has_first (bares xs) ≡ has_first xs
has-bare [] = refl
has-bare (x ∷ xs) = refl

pub first-bare : (xs : List Token) → first_or credit (bares xs) ≡ bare (first_or credit xs)
first-bare [] = refl
first-bare (x ∷ xs) = refl

cond-bare : (b : Bool) (xs ys : List Token) → cond b (bares xs) (bares ys) ≡ bares (cond b xs ys)
cond-bare true xs ys = refl
cond-bare false xs ys = refl

at-bare : (L : ℕ → List Token) (k : ℕ) → at (bare_lines L) k (rest_of (bares (L k))) ≡ bare_lines (at L k (rest_of (L k)))
unfolding at
at-bare L k = fun_ext (λ j. ap (λ z. cond (nat_eq j k) z (bares (L j))) (rest-bare (L k)) ∙ cond-bare (nat_eq j k) (rest_of (L k)) (L j))

read-bare : (f : ℕ → ℕ) (m c : ℕ) (L : ℕ → List Token) → read_by (bare_lines L) f c m ≡ bares (read_by L f c m)
unfolding read_by
read-bare f zero c L = refl
read-bare f (suc m) c L =
    ap₂ (λ x M. x ∷ read_by M f (suc c) m) (first-bare (L (f c))) (at-bare L (f c))
    ∙ ap (λ z. bare (first_or credit (L (f c))) ∷ z) (read-bare f m (suc c) (at L (f c) (rest_of (L (f c)))))

empty-bare : (L : ℕ → List Token) (n : ℕ) → all_empty (bare_lines L) n ≡ all_empty L n
unfolding all_empty
empty-bare L zero = refl
empty-bare L (suc n) = ap₂ (λ x y. not x && y) (has-bare (L n)) (empty-bare L n)

in-bare : (f : ℕ → ℕ) (n m c : ℕ) (L : ℕ → List Token) → in_by (bare_lines L) f n c m ≡ in_by L f n c m
unfolding in_by
in-bare f n zero c L = empty-bare L n
in-bare f n (suc m) c L =
    ap₂ (λ x M. x && in_by M f n (suc c) m) (has-bare (L (f c))) (at-bare L (f c))
    ∙ ap (λ z. has_first (L (f c)) && z) (in-bare f n m (suc c) (at L (f c) (rest_of (L (f c)))))

total-bare : (L : ℕ → List Token) (n : ℕ) → total (bare_lines L) n ≡ total L n
unfolding total
total-bare L zero = refl
total-bare L (suc n) = ap₂ (λ x y. x + y) (bares-length (L n)) (total-bare L n)

-- THE GROUPS
cond-map : (b : Bool) (xs ys : List (List Token)) → cond b (map bares xs) (map bares ys) ≡ map bares (cond b xs ys)
cond-map true xs ys = refl
cond-map false xs ys = refl

more-bare : (acc : List Token) (x : Token) → bares acc ++ bare x ∷ [] ≡ bares (acc ++ x ∷ [])
more-bare acc x = sym (map-append bare acc (x ∷ []))

pub groups-bare : (n : ℕ) (acc xs : List Token) → groups n (bares acc) (bares xs) ≡ map bares (groups n acc xs)
unfolding groups
groups-bare n acc [] = refl
groups-bare n acc (x ∷ xs) =
    ap₂ (λ l a. cond (nat_eq (suc l) n) (a ∷ groups n [] (bares xs)) (groups n a (bares xs))) (bares-length acc) (more-bare acc x)
    ∙ ap₂ (λ y z. cond (nat_eq (suc (length acc)) n) (bares (acc ++ x ∷ []) ∷ y) z) (groups-bare n [] xs) (groups-bare n (acc ++ x ∷ []) xs)
    ∙ cond-map (nat_eq (suc (length acc)) n) ((acc ++ x ∷ []) ∷ groups n [] xs) (groups n (acc ++ x ∷ []) xs)

pub left-bare : (n : ℕ) (acc xs : List Token) → left n (bares acc) (bares xs) ≡ bares (left n acc xs)
unfolding left
left-bare n acc [] = refl
left-bare n acc (x ∷ xs) =
    ap₂ (λ l a. cond (nat_eq (suc l) n) (left n [] (bares xs)) (left n a (bares xs))) (bares-length acc) (more-bare acc x)
    ∙ ap₂ (λ y z. cond (nat_eq (suc (length acc)) n) y z) (left-bare n [] xs) (left-bare n (acc ++ x ∷ []) xs)
    ∙ cond-bare (nat_eq (suc (length acc)) n) (left n [] xs) (left n (acc ++ x ∷ []) xs)

tagged-bare : (tags : List ℕ) (xs : List Token) → all_tagged tags (bares xs) ≡ all_tagged tags xs
unfolding all_tagged
tagged-bare tags [] = refl
tagged-bare tags (x ∷ xs) = ap (λ b. same_tags x.tags tags && b) (tagged-bare tags xs)

alike-bare : (g : List Token) → alike (bares g) ≡ alike g
unfolding alike
alike-bare [] = refl
alike-bare (x ∷ xs) = tagged-bare x.tags xs

pub all_alike-bare : (gs : List (List Token)) → all_alike (map bares gs) ≡ all_alike gs
unfolding all_alike
all_alike-bare [] = refl
all_alike-bare (g ∷ gs) = ap₂ (λ a b. a && b) (alike-bare g) (all_alike-bare gs)

-- THE VIEW
-- the map, and the view, without outcomes
abbrev plain_map : Pieces → Pieces
plain_map q = bare_pieces q.number q.lines

abbrev seen : View → View
seen v = record { lines = bare_lines v.lines; held = bares v.held; sending = bares v.sending; sent = v.sent; input = []; output = [] }

module _ (q : Pieces) where
  pieces-bare : (k m : ℕ) (x : Token) → pieces (plain_map q) k m (bare x) ≡ bares (pieces q k m x)
  unfolding pieces
  pieces-bare k zero x = refl
  pieces-bare k (suc m) x = ap (λ z. bare x ∷ z) (pieces-bare (suc k) m x)

  unsent-bare : (xs : List Token) (k : ℕ) → unsent (plain_map q) (bares xs) k ≡ bares (unsent q xs k)
  unfolding unsent
  unsent-bare [] k = refl
  unsent-bare (x ∷ xs) k = pieces-bare k (q.number - k) x

  joined-bare : (gs : List (List Token)) → map (joined (plain_map q)) (map bares gs) ≡ bares (map (joined q) gs)
  unfolding joined
  joined-bare [] = refl
  joined-bare (g ∷ gs) = ap₂ (λ (t : Token) z. bare t ∷ z) (first-bare g) (joined-bare gs)

  next-bare : (xs : List Token) (k : ℕ) → next_piece (bares xs) k ≡ next_piece xs k
  unfolding next_piece
  next-bare [] k = refl
  next-bare (x ∷ xs) k = refl

  scatter-bare : (xs : List Token) (k : ℕ) → scatter_ok (plain_map q) (bares xs) k ≡ scatter_ok q xs k
  unfolding scatter_ok
  scatter-bare [] k = refl
  scatter-bare (x ∷ []) k = refl
  scatter-bare (x ∷ (y ∷ ys)) k = refl

  module _ (v : View) where
    way-bare : under_way (plain_map q) (seen v) ≡ under_way q v
    way-bare = total-bare v.lines q.lines

    whole-bare : whole (plain_map q) (seen v) ≡ bares (whole q v)
    unfolding whole spot
    whole-bare =
        ap₂ (λ h m. bares v.held ++ (read_by (bare_lines v.lines) (spot q) h m ++ unsent (plain_map q) (bares v.sending) v.sent))
        (bares-length v.held) way-bare
        ∙ ap₂ (λ r u. bares v.held ++ (r ++ u)) (read-bare (spot q) (under_way q v) (length v.held) v.lines) (unsent-bare v.sending v.sent)
        ∙ ap (λ z. bares v.held ++ z) (sym (map-append bare (read_by v.lines (spot q) (length v.held) (under_way q v)) _))
        ∙ sym (map-append bare v.held _)

    groups-whole : groups q.number [] (whole (plain_map q) (seen v)) ≡ map bares (groups q.number [] (whole q v))
    groups-whole = ap (groups q.number []) whole-bare ∙ groups-bare q.number [] (whole q v)

    kept-bare : well_kept (plain_map q) (seen v) ≡ well_kept q v
    unfolding well_kept spot
    kept-bare =
        λ i. nat_le (bares-length v.held i) q.number
        && (nat_eq ((bares-length v.held i + way-bare i) % q.number) (next-bare v.sending v.sent i)
        && ((ap₂ (λ h m. in_by (bare_lines v.lines) (spot q) q.lines h m) (bares-length v.held) way-bare
        ∙ in-bare (spot q) q.lines (under_way q v) (length v.held) v.lines) i
        && (nat_eq ((ap (λ z. length (left q.number [] z)) whole-bare
        ∙ ap length (left-bare q.number [] (whole q v)) ∙ bares-length (left q.number [] (whole q v))) i) 0
        && ((ap all_alike groups-whole ∙ all_alike-bare (groups q.number [] (whole q v))) i
        && scatter-bare v.sending v.sent i))))

    come-bare : to_come (plain_map q) (seen v) ≡ bares (to_come q v)
    unfolding to_come
    come-bare = ap (map (joined (plain_map q))) groups-whole ∙ joined-bare (groups q.number [] (whole q v))

-- tokens joined from bare pieces are bare
bares-joined : (number n : ℕ) (gs : List (List Token)) → bares (map (joined (bare_pieces number n)) gs) ≡ map (joined (bare_pieces number n)) gs
unfolding joined
bares-joined number n [] = refl
bares-joined number n (g ∷ gs) = ap (λ z. bare (first_or credit g) ∷ z) (bares-joined number n gs)

seen-found : (number n : ℕ) (v : View) → found_by (bare_pieces number n) (seen v) ≡ found_by (bare_pieces number n) v
unfolding found_by to_come
seen-found number n v =
    let q : Pieces = bare_pieces number n in
    ap₂ (λ b p. record { orderly = b; pending = p }) (kept-bare q v) (come-bare q v ∙ bares-joined number n (groups number [] (whole q v)))

pub found-bare : (number n : ℕ) (L : ℕ → List Token) (held sending : List Token) (sent : ℕ) →
    found_by (bare_pieces number n) (record { lines = L; held = held; sending = sending; sent = sent; input = []; output = [] })
    ≡ found_by (bare_pieces number n)
    (record { lines = L; held = bares held; sending = bares sending; sent = sent; input = []; output = [] })
found-bare number n L held sending sent =
    sym (seen-found number n (record { lines = L; held = held; sending = sending; sent = sent; input = []; output = [] }))
    ∙ ap₂ (λ h x. found_by (bare_pieces number n)
    (record { lines = bare_lines L; held = h; sending = x; sent = sent; input = []; output = [] })) (sym (bares-bares held)) (sym (bares-bares sending))
    ∙ seen-found number n (record { lines = L; held = bares held; sending = bares sending; sent = sent; input = []; output = [] })

-- the lines that are seen
line-bare : (s : State) (n w i o : ℕ) (parts : List Part) → AreSlots (fan_slots i o n) parts → w < n →
    line_at (lines_by s (fan_slots i o n) (map (pending_of s) parts)) w ≡ bares (lines_of parts s w)
unfolding lines_by AreSlots fan_slots
line-bare s zero w i o parts slotted l = absurd (omega (arith, l))
line-bare s (suc n) w i o [] slotted l = absurd slotted
line-bare s (suc n) zero i o (P ∷ Ps) slotted l = sym (bares-line s P i o slotted.0.0 slotted.0.1)
line-bare s (suc n) (suc w) i o (P ∷ Ps) slotted l = line-bare s n w (suc i) (suc o) Ps slotted.1 (omega (arith, l))

module _ (node n : ℕ) (units : Units) (roles : ℕ → Role) (base : Base) (parts : List Part) (s : State)
    (slotted : AreSlots (fan_slots base.chan (base.chan + n) n) parts) where
  abbrev Q : Pieces
  Q = pieces_of units node n (roles 0).meaning

  abbrev lines : ℕ → List Token
  lines = line_at (lines_by s (fan_slots base.chan (base.chan + n) n) (map (pending_of s) parts))

  same-lines : (w : ℕ) → w < n → lines w ≡ bares (lines_of parts s w)
  same-lines w l = line-bare s n w base.chan (base.chan + n) parts slotted l

  map-orderly : (map_part units node n roles base parts).orderly s
      ≡ (all_orderly parts s && (map_finds node n units.tree base s (map (pending_of s) parts)).orderly)
  unfolding map_finds found_by
  map-orderly =
      and-swap (well_kept Q (view_of base parts s)) (all_orderly parts s)
      ∙ ap (λ b. all_orderly parts s && b)
      (sym (near-kept (plain_map Q) (seen (view_of base parts s)) lines same-lines ∙ kept-bare Q (view_of base parts s)))

  map-pending : pending_of s (map_part units node n roles base parts)
      ≡ (map_finds node n units.tree base s (map (pending_of s) parts)).pending
  unfolding map_finds found_by
  map-pending = sym (near-come (plain_map Q) (seen (view_of base parts s)) lines same-lines ∙ come-bare Q (view_of base parts s))

pub map_found : (node n : ℕ) → IsFoundShape (map_shape node n) (map_finds node n)
map_found node n = record {
  orderly = map-orderly node n;
  pending = map-pending node n;
  ends = λ units roles base parts slotted. record { input = refl; output = refl; proc_to = refl; chan_to = refl };
  laid = λ cap base. length-replicate (n + n) _;
}
