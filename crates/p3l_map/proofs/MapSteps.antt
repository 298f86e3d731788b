-- The steps of what is found in a map.
use Rattle.std.proofs.Common.{◌≡◌, ℕ, zero, suc, ◌+◌, ◌-◌, ◌%◌, ◌<◌, ◌≤◌, ◌&&◌, cond, not, inl, inr, Some, None, Bool, true, false, List, [], ◌∷◌, ◌++◌, map, drop, set, replicate, length, get_or, refl, sym, ap, ap₂, ◌∙◌, subst, arith, append_assoc, append-nil, length-append, mod-lt, ltb-true, eq-eqb}
use Rattle.std.proofs.lemmas.Bool.{cases_Bool, cases_eq, and_from, cond-true, cond-false, false≢true}
use Rattle.std.proofs.lemmas.List.{map-append, get_or-set_same, get_or-set_other, get_or_default}
use Rattle.std.proofs.Math.Seq.{drop-cons}
use Rattle.std.proofs.Math.Path.{fun_ext}
use Rattle.p3l_firing.specs.At.{at}
use Rattle.p3l_firing.specs.Lists.{first_or, rest_of, has_first}
use Rattle.p3l_firing.specs.Token.{credit, same_tags}
use Rattle.p3l_firing.specs.declared.token.Token.{Token}
use Rattle.p3l_map.specs.Map.{Pieces, View, spot, pieces, joined, unsent, under_way, whole, to_come, next_piece, scatter_ok, all_tagged, alike, all_alike, well_kept}
use Rattle.p3l_map.specs.Places.{read_by, all_empty, in_by, total, groups, left}
use Rattle.p3l_map.specs.laws.GroupLaw.{groups_append, left_append, one_group}
use Rattle.p3l_map.specs.laws.MapView.{Kept, kept_to, kept_from, pieces_length}
use Rattle.p3l_map.specs.laws.Turns.{total_at}
use Rattle.p3l_map.specs.laws.SizeLaw.{read_count}
use Rattle.p3l_template.specs.laws.Lists.{none_left}
use Rattle.p3l_template.specs.laws.Rows.{at-same, at-other, front}
use Rattle.p3l_template.specs.Finding.{bare, bares, if_orderly}
use Rattle.p3l_map.specs.Groups.{left_at, count_of, by_turns, are_in_turn, last_of, begun, made, made_alike}
use Rattle.p3l_map.specs.MapKind.{bare_pieces, line_at, found_by}
use Rattle.p3l_template.specs.laws.BareLaw.{and-true}
use Rattle.p3l_map.specs.laws.MapFound.{first-bare, groups-bare, left-bare, all_alike-bare}
use Rattle.p3l_map.proofs.GroupSteps.{left_length, begun_more, alike_append, tagged_append}

-- LINES
-- the lines that were counted
pub count_more : (lines : List (List Token)) (i count : ℕ) (l : List Token) → i < length lines → l ≡ get_or lines i l →
    count ≡ total (line_at lines) i → count + length l ≡ total (line_at lines) (i + 1)
unfolding total
count_more lines i count l b h e =
    let one : i + 1 ≡ suc i = omega arith in
    let here : length l ≡ length (line_at lines i) = ap length (h ∙ get_or_default lines i l [] b) in
    omega (arith, e, here) ∙ ap (total (line_at lines)) (sym one)

-- TAKING
-- a token is taken from line w, of whose tokens k were taken before
module _ (lines : List (List Token)) (taken : List ℕ) (w k : ℕ) (l other : List Token) (below : w < length lines)
    (same : length taken ≡ length lines) (is : l ≡ get_or lines w other) (next : k ≡ get_or taken w 0) where
  left_line : left_at lines taken w ≡ drop k l
  left_line = ap₂ (λ n z. drop n z) (sym next) (sym (is ∙ get_or_default lines w other [] below))

  module _ (x none : Token) (there : k < length l) (it : x ≡ get_or l k none) where
    left_here : left_at lines taken w ≡ x ∷ drop (suc k) l
    left_here = left_line ∙ drop-cons l k none there ∙ ap (λ z. z ∷ drop (suc k) l) (sym it)

    pub left_taken : (now : List ℕ) → now ≡ set taken w (k + 1) → left_at lines now ≡ at (left_at lines taken) w (rest_of (left_at lines taken w))
    left_taken now e = fun_ext each
      where
        each : (v : ℕ) → left_at lines now v ≡ at (left_at lines taken) w (rest_of (left_at lines taken w)) v
        each v =
            elim (cases_eq v w) [
              | inl d ↦
                  let one : k + 1 ≡ suc k = omega arith in
                  ap (left_at lines now) d
                  ∙ ap₂ (λ n z. drop n z) (ap (λ ns. get_or ns w 0) e ∙ get_or-set_same taken w (k + 1) 0 (omega (arith, below, same)) ∙ one)
                  (sym (is ∙ get_or_default lines w other [] below))
                  ∙ sym (ap rest_of left_here) ∙ sym (at-same (left_at lines taken) w _)
                  ∙ ap (at (left_at lines taken) w (rest_of (left_at lines taken w))) (sym d)
              | inr d ↦
                  ap (λ n. drop n (line_at lines v)) (ap (λ ns. get_or ns v 0) e ∙ get_or-set_other taken w v (k + 1) 0 d)
                  ∙ sym (at-other (left_at lines taken) w _ v d)
            ]

-- BY TURNS
abbrev turn : (number : ℕ) → List (List Token) → ℕ → ℕ
turn number lines = spot (bare_pieces number (length lines))

pub turn_below : (number : ℕ) (lines : List (List Token)) (p : ℕ) → 1 ≤ length lines → turn number lines p < length lines
unfolding spot
turn_below number lines p pos = mod-lt (p % number) (omega (arith, pos))

-- i tokens were taken by turns, behind those of `from`
pub record IsTaking (number : ℕ) (lines : List (List Token)) (from : List Token) (i : ℕ) (list : List Token) (taken : List ℕ) : Type 0 where
  pub lengths : length taken ≡ length lines
  pub places : length list ≡ length from + i
  pub pieces_read : list ++ bares (read_by (left_at lines taken) (turn number lines) (length list) (count_of lines - i))
      ≡ from ++ bares (by_turns number lines (length from))
  pub turns : in_by (left_at lines taken) (turn number lines) (length lines) (length list) (count_of lines - i)
      ≡ are_in_turn number lines (length from)
  pub rest : total (left_at lines taken) (length lines) + i ≡ count_of lines

none_total : (L : ℕ → List Token) (n : ℕ) → total L n ≡ 0 → all_empty L n ≡ true
unfolding total all_empty
none_total L zero e = refl
none_total L (suc n) e =
    and_from _ _ (no_first (L n) (omega (arith, e))) (none_total L n (omega (arith, e)))
  where
    no_first : (ts : List Token) → length ts ≡ 0 → not (has_first ts) ≡ true
    no_first [] h = refl
    no_first (t ∷ ts) h = absurd (omega (arith, h))

zeros_at : (n w : ℕ) → ◌≡◌ {A = ℕ} (get_or (replicate n 0) w 0) 0
zeros_at zero w = refl
zeros_at (suc n) zero = refl
zeros_at (suc n) (suc w) = zeros_at n w

-- at the start nothing was taken
pub none_taken_yet : (number : ℕ) (lines : List (List Token)) (from : List Token) (taken : List ℕ) → length taken ≡ length lines →
    taken ≡ replicate (length lines) 0 → IsTaking number lines from 0 from taken
none_taken_yet number lines from taken same e =
    let all : left_at lines taken ≡ line_at lines =
    fun_ext (λ w. ap (λ n. drop n (line_at lines w)) (ap (λ ns. get_or ns w 0) e ∙ zeros_at (length lines) w)) in
    let whole : count_of lines - 0 ≡ count_of lines = omega arith in
    record {
      lengths = same;
      places = omega arith;
      pieces_read = ap₂ (λ L m. from ++ bares (read_by L (turn number lines) (length from) m)) all whole;
      turns = ap₂ (λ L m. in_by L (turn number lines) (length lines) (length from) m) all whole;
      rest = ap (λ L. total L (length lines) + 0) all ∙ omega arith;
    }

module _ (number : ℕ) (lines : List (List Token)) (from : List Token) (i : ℕ) (list : List Token) (taken : List ℕ)
    (t : IsTaking number lines from i list taken) where
  abbrev here : List Token
  here = left_at lines taken (turn number lines (length list))

  -- a line that doesn't have the token of its place
  pub no_turn : i < count_of lines → has_first here ≡ false → false ≡ are_in_turn number lines (length from)
  unfolding in_by
  no_turn l h =
      let one : suc (count_of lines - suc i) ≡ count_of lines - i = omega (arith, l) in
      sym (ap (λ b. b && in_by (at (left_at lines taken) (turn number lines (length list)) (rest_of here)) (turn number lines) (length lines)
      (suc (length list)) (count_of lines - suc i)) h)
      ∙ ap (in_by (left_at lines taken) (turn number lines) (length lines) (length list)) one ∙ t.turns

  -- one token more
  pub next_turn : (now : List Token) (after : List ℕ) → i < count_of lines → turn number lines (length list) < length lines → has_first here ≡ true →
      length after ≡ length taken → now ≡ list ++ bare (first_or credit here) ∷ [] →
      left_at lines after ≡ at (left_at lines taken) (turn number lines (length list)) (rest_of here) →
      IsTaking number lines from (i + 1) now after
  unfolding in_by read_by
  next_turn now after l below some same e left =
      let w = turn number lines (length list) in
      let one : suc (count_of lines - (i + 1)) ≡ count_of lines - i = omega (arith, l) in
      let longer : length now ≡ suc (length list) = ap length e ∙ length-append list (bare (first_or credit here) ∷ []) ∙ omega arith in
      record {
        lengths = same ∙ t.lengths;
        places = omega (arith, longer, t.places);
        pieces_read =
            ap₂ (λ L k. now ++ bares (read_by L (turn number lines) k (count_of lines - (i + 1)))) left longer
            ∙ ap (λ z. z ++ bares (read_by (at (left_at lines taken) w (rest_of here)) (turn number lines) (suc (length list)) (count_of lines - (i + 1)))) e
            ∙ append_assoc list (bare (first_or credit here) ∷ []) _
            ∙ ap (λ m. list ++ bares (read_by (left_at lines taken) (turn number lines) (length list) m)) one ∙ t.pieces_read;
        turns =
            ap₂ (λ L k. in_by L (turn number lines) (length lines) k (count_of lines - (i + 1))) left longer
            ∙ ap (λ b. b && in_by (at (left_at lines taken) w (rest_of here)) (turn number lines) (length lines) (suc (length list)) (count_of lines - (i + 1))) (sym some)
            ∙ ap (in_by (left_at lines taken) (turn number lines) (length lines) (length list)) one ∙ t.turns;
        rest =
            let a = total_at (left_at lines taken) w (rest_of here) (length lines) below in
            let b = ap length (front here some) in
            let d = ap (λ L. total L (length lines)) left in
            omega (arith, a, b, d, t.rest);
      }

  -- all were taken
  pub all_turns : count_of lines ≤ i → (true ≡ are_in_turn number lines (length from)) × (list ≡ from ++ bares (by_turns number lines (length from)))
  unfolding in_by read_by
  all_turns l =
      let none : 0 ≡ count_of lines - i = omega (arith, l) in
      let empty : total (left_at lines taken) (length lines) ≡ 0 = omega (arith, l, t.rest) in (
        sym (none_total (left_at lines taken) (length lines) empty)
            ∙ ap (in_by (left_at lines taken) (turn number lines) (length lines) (length list)) none ∙ t.turns,
        sym (append-nil list) ∙ ap (λ m. list ++ bares (read_by (left_at lines taken) (turn number lines) (length list) m)) none ∙ t.pieces_read,
      )

-- THE GROUPS OF A VIEW
pieces_tagged : (tags : List ℕ) (q : Pieces) (k m : ℕ) (x : Token) → all_tagged tags (pieces q k (suc m) x) ≡ same_tags x.tags tags
unfolding all_tagged pieces
pieces_tagged tags q k zero x = and-true (same_tags x.tags tags)
pieces_tagged tags q k (suc m) x = ap (λ b. same_tags x.tags tags && b) (pieces_tagged tags q (suc k) m x) ∙ twice (same_tags x.tags tags)
  where
    twice : (b : Bool) → (b && b) ≡ b
    twice true = refl
    twice false = refl

pieces_of_itself : (q : Pieces) (k m : ℕ) (x : Token) → all_tagged x.tags (pieces q k m x) ≡ true
unfolding all_tagged pieces same_tags
pieces_of_itself q k zero x = refl
pieces_of_itself q k (suc m) x = and_from _ _ (itself x.tags) (pieces_of_itself q (suc k) m x)
  where
    itself : (ts : List ℕ) → same_tags ts ts ≡ true
    itself [] = refl
    itself (t ∷ ts) = and_from _ _ (eq-eqb t t refl) (itself ts)

-- a group that a token's pieces complete is as alike as one that the token itself is put to, and is made the same
as_alike : (q : Pieces) (k m : ℕ) (acc : List Token) (x : Token) → alike (acc ++ pieces q k (suc m) x) ≡ alike (acc ++ x ∷ [])
unfolding alike pieces all_tagged
as_alike q k m [] x = pieces_of_itself q (suc k) m x
as_alike q k m (y ∷ ys) x =
    tagged_append y.tags ys (pieces q k (suc m) x) ∙ ap (λ b. all_tagged y.tags ys && b) (pieces_tagged y.tags q k m x ∙ sym (and-true (same_tags x.tags y.tags)))
    ∙ sym (tagged_append y.tags ys (x ∷ []))

as_made : (q : Pieces) (k m : ℕ) (acc : List Token) (x : Token) → made (acc ++ pieces q k (suc m) x) ≡ made (acc ++ x ∷ [])
unfolding pieces
as_made q k m [] x = refl
as_made q k m (y ∷ ys) x = refl

-- the groups of all pieces are whole, and are as alike as those that were walked, and are made the same
record IsEven (number : ℕ) (all walked : List Token) : Type 0 where
  pub even : left number [] all ≡ []
  pub agree : all_alike (groups number [] all) ≡ all_alike (begun number walked)
  pub come : map made (groups number [] all) ≡ map made (begun number walked)

made_bare : (number lines : ℕ) (gs : List (List Token)) → map (joined (bare_pieces number lines)) gs ≡ map made gs
unfolding joined
made_bare number lines [] = refl
made_bare number lines (g ∷ gs) = ap (λ z. made g ∷ z) (made_bare number lines gs)

module _ (number lines : ℕ) (xs : List Token) where
  even_none : length (left number [] xs) ≡ 0 → IsEven number (xs ++ []) (xs ++ [])
  unfolding last_of
  even_none h =
      let same : xs ++ [] ≡ xs = append-nil xs in
      let none : left number [] xs ≡ [] = none_left (left number [] xs) h in
      let e : groups number [] (xs ++ []) ≡ begun number (xs ++ []) =
      ap (groups number []) same ∙ sym (append-nil (groups number [] xs)) ∙ ap (λ z. groups number [] xs ++ last_of z) (sym none)
      ∙ ap (begun number) (sym same) in
      record { even = ap (left number []) same ∙ none; agree = ap all_alike e; come = ap (map made) e }

  even_one : (k m : ℕ) (x : Token) → length (left number [] xs) ≡ k → k + suc m ≡ number →
      IsEven number (xs ++ pieces (bare_pieces number lines) k (suc m) x) (xs ++ x ∷ [])
  unfolding all_alike
  even_one k m x h e =
      let q : Pieces = bare_pieces number lines in
      let many = pieces_length q k (suc m) x in
      let one = one_group number (left number [] xs) (pieces q k (suc m) x) (omega (arith, many)) (omega (arith, many, h, e)) in
      let all : groups number [] (xs ++ pieces q k (suc m) x) ≡ groups number [] xs ++ (left number [] xs ++ pieces q k (suc m) x) ∷ [] =
      groups_append number [] xs (pieces q k (suc m) x) ∙ ap (λ z. groups number [] xs ++ z) one.0 in
      record {
        even = left_append number [] xs (pieces q k (suc m) x) ∙ one.1;
        agree =
            ap all_alike all ∙ alike_append (groups number [] xs) ((left number [] xs ++ pieces q k (suc m) x) ∷ [])
            ∙ ap (λ b. all_alike (groups number [] xs) && (b && true)) (as_alike q k m (left number [] xs) x)
            ∙ sym (alike_append (groups number [] xs) ((left number [] xs ++ x ∷ []) ∷ [])) ∙ ap all_alike (sym (begun_more number xs x));
        come =
            ap (map made) all ∙ map-append made (groups number [] xs) ((left number [] xs ++ pieces q k (suc m) x) ∷ [])
            ∙ ap (λ t. map made (groups number [] xs) ++ t ∷ []) (as_made q k m (left number [] xs) x)
            ∙ sym (map-append made (groups number [] xs) ((left number [] xs ++ x ∷ []) ∷ [])) ∙ ap (map made) (sym (begun_more number xs x));
      }

  is_even : (sending : List Token) (k : ℕ) → scatter_ok (bare_pieces number lines) sending k ≡ true →
      length (left number [] xs) ≡ next_piece sending k →
      IsEven number (xs ++ unsent (bare_pieces number lines) sending k) (xs ++ sending)
  unfolding scatter_ok next_piece unsent
  is_even [] k h e = even_none e
  is_even (x ∷ []) k h e =
      let below : k < number = ltb-true k number h in
      let left_over : number - k ≡ suc (number - suc k) = omega (arith, below) in
      subst (λ m. IsEven number (xs ++ pieces (bare_pieces number lines) k m x) (xs ++ x ∷ [])) (sym left_over)
      (even_one k (number - suc k) x e (omega (arith, below)))
  is_even (x ∷ (y ∷ ys)) k h e = absurd (false≢true h)

module _ (number lines : ℕ) (v : View) where
  abbrev q : Pieces
  q = bare_pieces number lines

  not_kept : (Kept q v → ⊥) → well_kept q v ≡ false
  not_kept refused =
      elim (cases_Bool (well_kept q v)) [
        | inl t ↦ absurd (refused (kept_to q v t))
        | inr f ↦ f
      ]

  pub none_found : (Kept q v → ⊥) → None ≡ if_orderly (found_by q v)
  unfolding if_orderly found_by
  none_found refused = sym (cond-false _ _ _ (not_kept refused))

  -- the pieces that were gathered, and those on the lines by turns
  abbrev pub gathered : List Token
  gathered = v.held ++ read_by v.lines (spot q) (length v.held) (under_way q v)

  pub gathered_count : length gathered ≡ length v.held + under_way q v
  gathered_count =
      length-append v.held _ ∙ ap (λ m. length v.held + m) (read_count (spot q) (under_way q v) (length v.held) v.lines)

  pub found_in_groups : 0 < number → length v.held ≤ number → (length v.held + under_way q v) % number ≡ next_piece v.sending v.sent →
      in_by v.lines (spot q) q.lines (length v.held) (under_way q v) ≡ true → scatter_ok q v.sending v.sent ≡ true →
      made_alike (begun number (gathered ++ v.sending)) ≡ if_orderly (found_by q v)
  unfolding made_alike if_orderly found_by to_come whole
  found_in_groups pos full place in_turn scatter =
      let over : length (left number [] gathered) ≡ next_piece v.sending v.sent =
      left_length number [] gathered pos ∙ ap (λ m. m % number) (omega (arith, gathered_count)) ∙ place in
      let all : whole q v ≡ gathered ++ unsent q v.sending v.sent =
      sym (append_assoc v.held (read_by v.lines (spot q) (length v.held) (under_way q v)) (unsent q v.sending v.sent)) in
      let e : IsEven number (whole q v) (gathered ++ v.sending) =
      subst (λ z. IsEven number z (gathered ++ v.sending)) (sym all) (is_even number lines gathered v.sending v.sent scatter over) in
      elim (cases_Bool (all_alike (groups number [] (whole q v)))) [
        | inl t ↦
            let kept : well_kept q v ≡ true =
            kept_from q v (record { full = full; place = place; in_turn = in_turn; even = e.even; alike = t; scatter = scatter }) in
            cond-true _ _ _ (sym e.agree ∙ t)
            ∙ ap Some (sym e.come ∙ sym (made_bare number lines (groups number [] (whole q v))))
            ∙ sym (cond-true _ _ _ kept)
        | inr f ↦
            cond-false _ _ _ (sym e.agree ∙ f) ∙ sym (cond-false _ _ _ (not_kept (λ k. false≢true (sym f ∙ k.alike))))
      ]

-- the groups of the tokens without their outcomes
last-bare : (xs : List Token) → last_of (bares xs) ≡ map bares (last_of xs)
unfolding last_of
last-bare [] = refl
last-bare (x ∷ xs) = refl

made-bare : (gs : List (List Token)) → map made (map bares gs) ≡ map made gs
made-bare [] = refl
made-bare (g ∷ gs) = ap₂ (λ (t : Token) z. bare t ∷ z) (first-bare g) (made-bare gs)

pub made_alike-bare : (number : ℕ) (xs : List Token) → made_alike (begun number (bares xs)) ≡ made_alike (begun number xs)
unfolding made_alike
made_alike-bare number xs =
    let e : begun number (bares xs) ≡ map bares (begun number xs) =
    ap₂ (λ a b. a ++ last_of b) (groups-bare number [] xs) (left-bare number [] xs)
    ∙ ap (λ z. map bares (groups number [] xs) ++ z) (last-bare (left number [] xs))
    ∙ sym (map-append bares (groups number [] xs) (last_of (left number [] xs))) in
    ap₂ (λ b p. cond b (Some p) None) (ap all_alike e ∙ all_alike-bare (begun number xs)) (ap (map made) e ∙ made-bare (begun number xs))
