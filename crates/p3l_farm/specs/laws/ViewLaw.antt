-- Effects of Emit and Collect on the view of a farm. Emit numbers a token and sends it to any worker (`emit_goes`).
-- Collect takes the expected token from any worker (`collect_goes`): the list is unchanged, and the numbers on each
-- line still rise. If no line begins with the expected number, no token is left
-- (`none_ready`).
use Rattle.std.proofs.Common.{◌≡◌, ℕ, zero, suc, ◌+◌, ◌≤◌, ◌<◌, inl, inr, true, false, List, [], ◌∷◌, ◌++◌, map, length, get_or, refl, sym, ap, ap₂, ◌∙◌, subst, arith, append_assoc, length-append, eqb-true, eq-eqb, lt-ltb, ltb-true}
use Rattle.std.proofs.lemmas.Bool.{cases_lt, cases_eq, and_parts, and_from}
use Rattle.p3l_base.specs.declared.outcome.Outcome.{Outcome}
use Rattle.p3l_farm.specs.Farm.{all_above, rising, all_rising, joined, View, to_come, well_kept}
use Rattle.p3l_firing.specs.Lists.{rest_of}
use Rattle.p3l_firing.specs.Token.{over, newest_tag, untagged, tagged, first_tag, later_tags}
use Rattle.p3l_firing.specs.declared.token.Token.{Token}
use Rattle.p3l_firing.specs.kinds.Collect.{front_is}
use Rattle.p3l_template.specs.Bag.{look, read, IsNumbered}
use Rattle.p3l_template.specs.laws.BagLaw.{look_there, look_empty, look_append, not_out, numbered_to, numbered_from, without_count, insert_numbered, insert_read, release_numbered, release_read}
use Rattle.p3l_template.specs.laws.Lists.{none_left}

-- line w changed by f
unfoldable pub change : ℕ → (List Token → List Token) → List (List Token) → List (List Token)
change w f [] = []
change zero f (l ∷ ls) = f l ∷ ls
change (suc w) f (l ∷ ls) = l ∷ change w f ls

-- the tokens before and after line w
pub record Split (w : ℕ) (ls : List (List Token)) : Type 0 where
  pub before : List Token
  pub after : List Token
  pub whole : joined ls ≡ before ++ (get_or ls w [] ++ after)
  pub changed : (f : List Token → List Token) → joined (change w f ls) ≡ before ++ (f (get_or ls w []) ++ after)

pub split : (w : ℕ) (ls : List (List Token)) → w < length ls → Split w ls
unfolding joined change
split w [] l = absurd (omega arith)
split zero (x ∷ ls) l = record { before = []; after = joined ls; whole = refl; changed = λ f. refl }
split (suc w) (x ∷ ls) l =
    let r = split w ls (omega arith) in
    record {
      before = x ++ r.before;
      after = r.after;
      whole = ap (λ z. x ++ z) r.whole ∙ sym (append_assoc x _ _);
      changed = λ f. ap (λ z. x ++ z) (r.changed f) ∙ sym (append_assoc x _ _);
    }

-- RISING LINES
above_append : (k : ℕ) (xs : List Token) (y : Token) → all_above k xs ≡ true → k < newest_tag y →
    all_above k (xs ++ y ∷ []) ≡ true
unfolding all_above
above_append k [] y h l = and_from _ _ (lt-ltb _ _ l) refl
above_append k (x ∷ xs) y h l = and_from _ _ (and_parts _ _ h).0 (above_append k xs y (and_parts _ _ h).1 l)

above_none : (k t : ℕ) (xs : List Token) → all_above t xs ≡ true → k ≤ t → length (look k xs) ≡ 0
unfolding all_above
above_none k t [] h l = ap length (look_empty k)
above_none k t (x ∷ xs) h l =
    let b = ltb-true t (newest_tag x) (and_parts _ _ h).0 in
    ap length (look_there k x xs (λ e. omega (arith, e, b, l))) ∙ above_none k t xs (and_parts _ _ h).1 l

-- a token with a number above all others
rising_append : (xs : List Token) (y : Token) → rising xs ≡ true → ((k : ℕ) → newest_tag y ≤ k → length (look k xs) ≡ 0) →
    rising (xs ++ y ∷ []) ≡ true
unfolding rising all_above
rising_append [] y h n = refl
rising_append (x ∷ xs) y h n =
    and_from _ _
    (above_append (newest_tag x) xs y (and_parts _ _ h).0
    (elim (cases_lt (newest_tag x) (newest_tag y)) [ inl e ↦ e | inr e ↦ absurd (not_out (newest_tag x) x xs refl (n (newest_tag x) e)) ]))
    (rising_append xs y (and_parts _ _ h).1 (λ k l. elim (cases_eq (newest_tag x) k) [
      | inl e ↦ absurd (not_out k x xs e (n k l))
      | inr e ↦ ap length (sym (look_there k x xs e)) ∙ n k l
    ]))

rising_rest : (xs : List Token) → rising xs ≡ true → rising (rest_of xs) ≡ true
unfolding rising
rising_rest [] h = refl
rising_rest (x ∷ xs) h = (and_parts _ _ h).1

rising_at : (w : ℕ) (ls : List (List Token)) → all_rising ls ≡ true → rising (get_or ls w []) ≡ true
unfolding all_rising rising
rising_at w [] h = refl
rising_at zero (l ∷ ls) h = (and_parts _ _ h).0
rising_at (suc w) (l ∷ ls) h = rising_at w ls (and_parts _ _ h).1

rising_change : (w : ℕ) (f : List Token → List Token) (ls : List (List Token)) → all_rising ls ≡ true →
    rising (f (get_or ls w [])) ≡ true → all_rising (change w f ls) ≡ true
unfolding all_rising change
rising_change w f [] h k = refl
rising_change zero f (l ∷ ls) h k = and_from _ _ k (and_parts _ _ h).1
rising_change (suc w) f (l ∷ ls) h k = and_from _ _ (and_parts _ _ h).0 (rising_change w f ls (and_parts _ _ h).1 k)

-- in a rising line with no lower number, the least is in front
front_due : (c : ℕ) (l : List Token) → rising l ≡ true → ((k : ℕ) → k < c → length (look k l) ≡ 0) →
    front_is c l ≡ false → length (look c l) ≡ 0
unfolding rising front_is
front_due c [] h n e = ap length (look_empty c)
front_due c (x ∷ xs) h n e =
    elim (cases_eq (newest_tag x) c) [
      | inl d ↦ let z : true ≡ false = sym (eq-eqb _ _ d) ∙ e in cc
      | inr d ↦ elim (cases_lt (newest_tag x) c) [
        | inl l ↦ absurd (not_out (newest_tag x) x xs refl (n (newest_tag x) l))
        | inr l ↦ ap length (look_there c x xs d) ∙ above_none c (newest_tag x) xs (and_parts _ _ h).0 l
      ]
    ]

two_none : (k : ℕ) (xs ys : List Token) → length (look k xs) ≡ 0 → length (look k ys) ≡ 0 →
    length (look k (xs ++ ys)) ≡ 0
two_none k xs ys a b = let c = ap length (look_append k xs ys) in let d = length-append (look k xs) (look k ys) in
    omega (arith, a, b, c, d)

none_two : (k : ℕ) (xs ys : List Token) → length (look k (xs ++ ys)) ≡ 0 →
    (length (look k xs) ≡ 0) × (length (look k ys) ≡ 0)
none_two k xs ys a =
    let c = ap length (look_append k xs ys) in let d = length-append (look k xs) (look k ys) in
    (omega (arith, a, c, d), omega (arith, a, c, d))

none_due : (c : ℕ) (ls : List (List Token)) → all_rising ls ≡ true →
    ((k : ℕ) → k < c → length (look k (joined ls)) ≡ 0) →
    ((w : ℕ) → w < length ls → front_is c (get_or ls w []) ≡ false) → length (look c (joined ls)) ≡ 0
unfolding all_rising joined
none_due c [] h n e = ap length (look_empty c)
none_due c (l ∷ ls) h n e =
    two_none c l (joined ls)
    (front_due c l (and_parts _ _ h).0 (λ k b. (none_two k l (joined ls) (n k b)).0) (e 0 (omega arith)))
    (none_due c ls (and_parts _ _ h).1 (λ k b. (none_two k l (joined ls) (n k b)).1) (λ w b. e (suc w) (omega arith)))

pub each_empty : (ls : List (List Token)) (w : ℕ) → joined ls ≡ [] → get_or ls w [] ≡ []
unfolding joined
each_empty [] w h = refl
each_empty ([] ∷ ls) zero h = refl
each_empty ([] ∷ ls) (suc w) h = each_empty ls w h
each_empty ((x ∷ l) ∷ ls) w h = cc

-- WHAT IS KEPT
unfoldable pub view_line : (Outcome → Outcome) → View → List Token
view_line m v = v.output ++ (to_come v ++ map (over m) v.input)

pub record Kept (v : View) : Type 0 where
  pub count : v.least + length (joined v.lines) ≡ v.next
  pub numbered : IsNumbered (joined v.lines) v.least
  pub rising : all_rising v.lines ≡ true

pub kept_to : (v : View) → well_kept v ≡ true → Kept v
unfolding well_kept
kept_to v h =
    let a = and_parts _ _ h in
    let b = and_parts _ _ a.1 in
    record { count = eqb-true _ _ a.0; numbered = numbered_to (joined v.lines) v.least b.0; rising = b.1 }

pub kept_from : (v : View) → Kept v → well_kept v ≡ true
unfolding well_kept
kept_from v k =
    and_from _ _ (eq-eqb _ _ k.count) (and_from _ _ (numbered_from (joined v.lines) v.least k.numbered) k.rising)

-- from v to w: still kept, and the same list
pub record Goes (m : Outcome → Outcome) (v w : View) : Type 0 where
  pub kept : Kept w
  pub line : view_line m w ≡ view_line m v

-- no token is left if no line begins with the number that is expected
pub none_ready : (v : View) → Kept v → ((w : ℕ) → w < length v.lines → front_is v.least (get_or v.lines w []) ≡ false) →
    joined v.lines ≡ []
none_ready v k e =
    none_left _ (elim (cases_lt 0 (length (joined v.lines))) [
      | inl l ↦
          let a = k.numbered.once v.least (omega arith) (omega (arith, l)) in
          let b = none_due v.least v.lines k.rising (λ j b. k.numbered.none j (λ f. absurd (omega (arith, b, f)))) e in
          absurd (omega (arith, a, b))
      | inr l ↦ omega (arith, l)
    ])

-- THE ROWS
module _ (m : Outcome → Outcome) (v : View) (k : Kept v) where
  -- Emit numbers the token x and sends it to worker w
  abbrev pub emit_view : ℕ → Token → List Token → View
  emit_view w x xs =
      record v { next = v.next + 1; lines = change w (λ l. l ++ over m (tagged v.next x) ∷ []) v.lines; input = xs }

  new_turn : (x : Token) → newest_tag (over m (tagged v.next x)) ≡ v.next
  unfolding first_tag
  new_turn x = refl

  new_untagged : (x : Token) → untagged (over m (tagged v.next x)) ≡ over m x
  unfolding later_tags
  new_untagged x = refl

  module _ (w : ℕ) (s : Split w v.lines) where
    abbrev here : List Token
    here = get_or v.lines w []

    bag_now : joined v.lines ≡ (s.before ++ here) ++ s.after
    bag_now = s.whole ∙ sym (append_assoc s.before here s.after)

    emit_bag : (y : Token) → joined (change w (λ l. l ++ y ∷ []) v.lines) ≡ (s.before ++ here) ++ y ∷ s.after
    emit_bag y =
        s.changed (λ l. l ++ y ∷ []) ∙ ap (λ z. s.before ++ z) (append_assoc here (y ∷ []) s.after)
        ∙ sym (append_assoc s.before here (y ∷ s.after))

    -- no number in the line is next or above it
    all_lower : (j : ℕ) → v.next ≤ j → length (look j here) ≡ 0
    all_lower j l =
        (none_two j s.before here
        (none_two j (s.before ++ here) s.after
        (ap (λ z. length (look j z)) (sym bag_now) ∙ k.numbered.none j (λ _. omega (arith, k.count, l)))).0).1

    emit_split : (x : Token) (xs : List Token) → v.input ≡ x ∷ xs → Goes m v (emit_view w x xs)
    unfolding view_line to_come
    emit_split x xs e =
        let b = emit_bag (over m (tagged v.next x)) in
        let n = subst (λ z. IsNumbered z v.least) bag_now k.numbered in
        let len = ap length bag_now in
        let t : newest_tag (over m (tagged v.next x)) ≡ v.least + length ((s.before ++ here) ++ s.after) =
        omega (arith, new_turn x, k.count, len) in
        let more = ap length b ∙ without_count (s.before ++ here) (over m (tagged v.next x)) s.after in
        record {
          kept = record {
            count = omega (arith, more, len, k.count);
            numbered =
                subst (λ z. IsNumbered z v.least) (sym b)
                (insert_numbered (s.before ++ here) (over m (tagged v.next x)) s.after v.least n t);
            rising =
                rising_change w _ v.lines k.rising
                (rising_append here (over m (tagged v.next x)) (rising_at w v.lines k.rising)
                (λ j l. all_lower j (omega (arith, new_turn x, l))));
          };
          line =
              ap (λ z. v.output ++ (read z v.least (length z) ++ map (over m) xs)) b
              ∙ ap (λ z. v.output ++ (z ++ map (over m) xs))
              (insert_read (s.before ++ here) (over m (tagged v.next x)) s.after v.least n t
              ∙ ap₂ (λ y z. read y v.least (length y) ++ z ∷ []) (sym bag_now) (new_untagged x))
              ∙ ap (λ z. v.output ++ z) (append_assoc (read (joined v.lines) v.least (length (joined v.lines))) _ _)
              ∙ ap (λ z. v.output
              ++ (read (joined v.lines) v.least (length (joined v.lines)) ++ map (over m) z)) (sym e);
        }

  pub emit_goes : (w : ℕ) (x : Token) (xs : List Token) → w < length v.lines → v.input ≡ x ∷ xs →
      Goes m v (emit_view w x xs)
  emit_goes w x xs l e = emit_split w (split w v.lines l) x xs e

  -- Collect takes the token x, which is expected, from worker w
  abbrev pub collect_view : ℕ → Token → View
  collect_view w x = record v { least = v.least + 1; lines = change w rest_of v.lines; output = v.output ++ untagged x ∷ [] }

  module _ (w : ℕ) (s : Split w v.lines) (x : Token) (xs : List Token) (e : get_or v.lines w [] ≡ x ∷ xs)
      (d : newest_tag x ≡ v.least) where
    bag_from : joined v.lines ≡ s.before ++ x ∷ (xs ++ s.after)
    bag_from = s.whole ∙ ap (λ z. s.before ++ (z ++ s.after)) e

    bag_to : joined (change w rest_of v.lines) ≡ s.before ++ (xs ++ s.after)
    bag_to = s.changed rest_of ∙ ap (λ z. s.before ++ (rest_of z ++ s.after)) e

    collect_split : Goes m v (collect_view w x)
    unfolding view_line to_come
    collect_split =
        let n = subst (λ z. IsNumbered z v.least) bag_from k.numbered in
        let len : length (joined v.lines) ≡ suc (length (joined (change w rest_of v.lines))) =
        ap length bag_from ∙ without_count s.before x (xs ++ s.after) ∙ ap (λ z. suc (length z)) (sym bag_to) in
        let up : v.least + 1 ≡ suc v.least = omega arith in
        record {
          kept = record {
            count = omega (arith, len, k.count);
            numbered =
                subst (λ z. IsNumbered (joined (change w rest_of v.lines)) z) (sym up)
                (subst (λ z. IsNumbered z (suc v.least)) (sym bag_to)
                (release_numbered s.before x (xs ++ s.after) v.least n d));
            rising = rising_change w rest_of v.lines k.rising (rising_rest _ (rising_at w v.lines k.rising));
          };
          line =
              ap₂ (λ y z. (v.output ++ untagged x ∷ []) ++ (read y z (length y) ++ map (over m) v.input)) bag_to up
              ∙ append_assoc v.output _ _
              ∙ ap (λ z. v.output ++ (z ++ map (over m) v.input))
              (sym (release_read s.before x (xs ++ s.after) v.least n d))
              ∙ ap (λ z. v.output ++ (read z v.least (length z) ++ map (over m) v.input)) (sym bag_from);
        }

  pub collect_goes : (w : ℕ) (x : Token) (xs : List Token) → w < length v.lines → get_or v.lines w [] ≡ x ∷ xs →
      newest_tag x ≡ v.least → Goes m v (collect_view w x)
  collect_goes w x xs l e d = collect_split w (split w v.lines l) x xs e d
