-- Groups of pieces, piece by piece: a piece more in a group that has begun, and the group that a token completes.
use Rattle.std.proofs.Common.{◌≡◌, ◌≢◌, ℕ, suc, ◌+◌, ◌%◌, ◌<◌, ◌&&◌, inl, inr, nat_eq, Some, None, true, false, List, [], ◌∷◌, ◌++◌, map, length, refl, sym, ap, ap₂, ◌∙◌, arith, append_assoc, append-nil, length-append, eqb-true, eq-eqb}
use Rattle.std.proofs.Math.Nat.{add-mod_left, mod-eq_of_lt}
use Rattle.std.proofs.lemmas.Bool.{cases_Bool, and_parts, and_from, cond-true, cond-false, false≢true}
use Rattle.std.proofs.lemmas.List.{map-append}
use Rattle.p3l_firing.specs.declared.token.Token.{Token}
use Rattle.p3l_firing.specs.Token.{same_tags}
use Rattle.p3l_map.specs.Map.{all_tagged, alike, all_alike}
use Rattle.p3l_map.specs.Places.{groups, left}
use Rattle.p3l_map.specs.laws.GroupLaw.{groups_append, left_append}
use Rattle.p3l_template.specs.Finding.{bare}
use Rattle.p3l_template.specs.laws.Lists.{none_left}
use Rattle.p3l_map.specs.Groups.{last_of, begun, made, made_alike}
use Rattle.p3l_template.specs.laws.BareLaw.{and-true, and-assoc}

-- the number of pieces left over
pub left_length : (n : ℕ) (acc xs : List Token) → length acc < n → length (left n acc xs) ≡ (length acc + length xs) % n
unfolding left
left_length n acc [] l =
    let e : length acc + 0 ≡ length acc = omega arith in
    sym (ap (λ m. m % n) e ∙ mod-eq_of_lt l)
left_length n acc (x ∷ xs) l =
    elim (cases_Bool (nat_eq (suc (length acc)) n)) [
      | inl e ↦
          let full : n + length xs ≡ length acc + suc (length xs) = omega (arith, eqb-true (suc (length acc)) n e) in
          ap length (cond-true _ (left n [] xs) (left n (acc ++ x ∷ []) xs) e)
          ∙ left_length n [] xs (omega (arith, l))
          ∙ ap (λ m. m % n) (omega arith) ∙ sym (add-mod_left n (length xs)) ∙ ap (λ m. m % n) full
      | inr e ↦
          let longer : length (acc ++ x ∷ []) ≡ suc (length acc) = length-append acc (x ∷ []) ∙ omega arith in
          let below : suc (length acc) < n = below_next (length acc) n l e in
          let sum : length (acc ++ x ∷ []) + length xs ≡ length acc + suc (length xs) = omega (arith, longer) in
          ap length (cond-false _ (left n [] xs) (left n (acc ++ x ∷ []) xs) e)
          ∙ left_length n (acc ++ x ∷ []) xs (omega (arith, longer, below)) ∙ ap (λ m. m % n) sum
    ]
  where
    below_next : (a m : ℕ) → a < m → nat_eq (suc a) m ≡ false → suc a < m
    below_next a m l e =
        let no : suc a ≢ m = λ d. false≢true (sym e ∙ eq-eqb (suc a) m d) in
        omega (arith, l, no)

-- one piece more of a group, whether that completes it or not
last_more : (xs : List Token) (x : Token) → last_of (xs ++ x ∷ []) ≡ (xs ++ x ∷ []) ∷ []
unfolding last_of
last_more [] x = refl
last_more (y ∷ ys) x = refl

one_more : (n : ℕ) (acc : List Token) (x : Token) → groups n acc (x ∷ []) ++ last_of (left n acc (x ∷ [])) ≡ (acc ++ x ∷ []) ∷ []
unfolding groups left last_of
one_more n acc x =
    elim (cases_Bool (nat_eq (suc (length acc)) n)) [
      | inl e ↦
          ap₂ (λ a b. a ++ last_of b) (cond-true _ ((acc ++ x ∷ []) ∷ []) [] e) (cond-true _ [] (acc ++ x ∷ []) e)
      | inr e ↦
          ap₂ (λ a b. a ++ last_of b) (cond-false _ ((acc ++ x ∷ []) ∷ []) [] e) (cond-false _ [] (acc ++ x ∷ []) e)
          ∙ last_more acc x
    ]

module _ (n : ℕ) (xs : List Token) where
  abbrev before : List (List Token)
  before = groups n [] xs

  abbrev over : List Token
  over = left n [] xs

  pub begun_append : (ys : List Token) → begun n (xs ++ ys) ≡ before ++ (groups n over ys ++ last_of (left n over ys))
  begun_append ys =
      ap₂ (λ a b. a ++ last_of b) (groups_append n [] xs ys) (left_append n [] xs ys)
      ∙ append_assoc before (groups n over ys) (last_of (left n over ys))

  pub begun_more : (x : Token) → begun n (xs ++ x ∷ []) ≡ before ++ (over ++ x ∷ []) ∷ []
  begun_more x = begun_append (x ∷ []) ∙ ap (λ z. before ++ z) (one_more n over x)

-- the groups of two lists are all alike exactly if those of each list are
pub alike_append : (gs hs : List (List Token)) → all_alike (gs ++ hs) ≡ (all_alike gs && all_alike hs)
unfolding all_alike
alike_append [] hs = refl
alike_append (g ∷ gs) hs = ap (λ b. alike g && b) (alike_append gs hs) ∙ sym (and-assoc (alike g) (all_alike gs) (all_alike hs))

pub tagged_append : (tags : List ℕ) (xs ys : List Token) → all_tagged tags (xs ++ ys) ≡ (all_tagged tags xs && all_tagged tags ys)
unfolding all_tagged
tagged_append tags [] ys = refl
tagged_append tags (x ∷ xs) ys =
    ap (λ b. same_tags x.tags tags && b) (tagged_append tags xs ys)
    ∙ sym (and-assoc (same_tags x.tags tags) (all_tagged tags xs) (all_tagged tags ys))

alike_less : (acc : List Token) (x : Token) → alike (acc ++ x ∷ []) ≡ true → all_alike (last_of acc) ≡ true
unfolding alike all_alike last_of
alike_less [] x h = refl
alike_less (y ∷ ys) x h = and_from _ _ (and_parts _ _ (sym (tagged_append y.tags ys (x ∷ [])) ∙ h)).0 refl

begun_less : (n : ℕ) (acc ys : List Token) → all_alike (groups n acc ys ++ last_of (left n acc ys)) ≡ true → all_alike (last_of acc) ≡ true
unfolding groups left all_alike
begun_less n acc [] h = h
begun_less n acc (y ∷ ys) h =
    elim (cases_Bool (nat_eq (suc (length acc)) n)) [
      | inl e ↦
          let whole = ap₂ (λ a b. all_alike (a ++ last_of b)) (sym (cond-true _ ((acc ++ y ∷ []) ∷ groups n [] ys) (groups n (acc ++ y ∷ []) ys) e))
          (sym (cond-true _ (left n [] ys) (left n (acc ++ y ∷ []) ys) e)) ∙ h in
          alike_less acc y (and_parts _ _ whole).0
      | inr e ↦
          let more = ap₂ (λ a b. all_alike (a ++ last_of b)) (sym (cond-false _ ((acc ++ y ∷ []) ∷ groups n [] ys) (groups n (acc ++ y ∷ []) ys) e))
          (sym (cond-false _ (left n [] ys) (left n (acc ++ y ∷ []) ys) e)) ∙ h in
          let next = begun_less n (acc ++ y ∷ []) ys more in
          alike_less acc y (and_parts _ _ (ap all_alike (sym (last_more acc y)) ∙ next)).0
    ]

-- groups that aren't alike so far aren't alike with more pieces
pub not_alike : (n : ℕ) (xs ys : List Token) → all_alike (begun n xs) ≡ false → all_alike (begun n (xs ++ ys)) ≡ false
not_alike n xs ys h =
    elim (cases_Bool (all_alike (begun n (xs ++ ys)))) [
      | inl t ↦
          let parts = and_parts _ _
          (sym (ap all_alike (begun_append n xs ys) ∙ alike_append (groups n [] xs) (groups n (left n [] xs) ys ++ last_of (left n (left n [] xs) ys))) ∙ t) in
          let all : all_alike (begun n xs) ≡ true =
          alike_append (groups n [] xs) (last_of (left n [] xs)) ∙ and_from _ _ parts.0 (begun_less n (left n [] xs) ys parts.1) in
          absurd (false≢true (sym h ∙ all))
      | inr f ↦ f
    ]

pub none_made : (gs : List (List Token)) → all_alike gs ≡ false → None ≡ made_alike gs
unfolding made_alike
none_made gs h = sym (cond-false _ _ _ h)

pub all_made : (gs : List (List Token)) (list : List Token) → list ≡ map made gs → all_alike gs ≡ true → Some list ≡ made_alike gs
unfolding made_alike
all_made gs list e h = ap Some e ∙ sym (cond-true _ _ _ h)

-- the invariant of the walk over the pieces: the first piece of each group so far, all of which are alike
pub record AreFirsts (n : ℕ) (xs firsts : List Token) : Type 0 where
  pub made : firsts ≡ map made (begun n xs)
  pub alike : all_alike (begun n xs) ≡ true

-- the first piece of the group of x, after these pieces
pub record HasFirst (n : ℕ) (xs : List Token) (x : Token) (firsts : List Token) : Type 0 where
  pub groups_before : List Token
  pub first : Token
  pub last : firsts ≡ groups_before ++ first ∷ []
  pub more : (next : List Token) → next ≡ firsts → same_tags x.tags first.tags ≡ true → AreFirsts n (xs ++ x ∷ []) next
  pub differs : same_tags x.tags first.tags ≡ false → all_alike (begun n (xs ++ x ∷ [])) ≡ false

pub no_firsts : (n : ℕ) (firsts : List Token) → firsts ≡ [] → AreFirsts n [] firsts
unfolding groups left last_of all_alike
no_firsts n firsts e = record { made = e; alike = refl }

module _ (n : ℕ) (pos : 0 < n) (xs : List Token) (x : Token) (firsts : List Token) (are : AreFirsts n xs firsts) where
  many : length (left n [] xs) ≡ length xs % n
  many = left_length n [] xs pos ∙ ap (λ m. m % n) (omega arith)

  -- a piece that is the first of its group
  pub first_more : (next : List Token) → length xs % n ≡ 0 → next ≡ firsts ++ bare x ∷ [] → AreFirsts n (xs ++ x ∷ []) next
  unfolding last_of all_alike alike all_tagged
  first_more next h e =
      let none : left n [] xs ≡ [] = none_left (left n [] xs) (many ∙ h) in
      let same : begun n xs ≡ groups n [] xs = ap (λ z. groups n [] xs ++ last_of z) none ∙ append-nil (groups n [] xs) in
      let more : begun n (xs ++ x ∷ []) ≡ groups n [] xs ++ (x ∷ []) ∷ [] =
      begun_more n xs x ∙ ap (λ z. groups n [] xs ++ (z ++ x ∷ []) ∷ []) none in
      record {
        made =
            e ∙ ap (λ z. z ++ bare x ∷ []) (are.made ∙ ap (map made) same)
            ∙ sym (map-append made (groups n [] xs) ((x ∷ []) ∷ [])) ∙ ap (map made) (sym more);
        alike =
            ap all_alike more ∙ alike_append (groups n [] xs) ((x ∷ []) ∷ [])
            ∙ and_from _ _ (ap all_alike (sym same) ∙ are.alike) refl;
      }

  -- any other, which is compared with the first one
  some : (ts : List Token) → length ts ≢ 0 → (y : Token) × ((ys : List Token) × (ts ≡ y ∷ ys))
  some [] h = absurd (h refl)
  some (t ∷ ts) h = (t, (ts, refl))

  module _ (y : Token) (ys : List Token) (over : left n [] xs ≡ y ∷ ys) where
    same : begun n xs ≡ groups n [] xs ++ (y ∷ ys) ∷ []
    unfolding last_of
    same = ap (λ z. groups n [] xs ++ last_of z) over

    more : begun n (xs ++ x ∷ []) ≡ groups n [] xs ++ (y ∷ (ys ++ x ∷ [])) ∷ []
    more = begun_more n xs x ∙ ap (λ z. groups n [] xs ++ (z ++ x ∷ []) ∷ []) over

    pub last_first : firsts ≡ map made (groups n [] xs) ++ bare y ∷ []
    last_first = are.made ∙ ap (map made) same ∙ map-append made (groups n [] xs) ((y ∷ ys) ∷ [])

    alike_more : all_alike (begun n (xs ++ x ∷ [])) ≡ same_tags x.tags y.tags
    unfolding all_alike alike all_tagged
    alike_more =
        let parts = and_parts _ _ (sym (alike_append (groups n [] xs) ((y ∷ ys) ∷ [])) ∙ ap all_alike (sym same) ∙ are.alike) in
        ap all_alike more ∙ alike_append (groups n [] xs) ((y ∷ (ys ++ x ∷ [])) ∷ [])
        ∙ ap₂ (λ a b. a && b) parts.0
        (and-true (all_tagged y.tags (ys ++ x ∷ [])) ∙ tagged_append y.tags ys (x ∷ [])
        ∙ ap₂ (λ a b. a && b) (sym (and-true (all_tagged y.tags ys)) ∙ parts.1) (and-true (same_tags x.tags y.tags)))

    later_more : (next : List Token) → next ≡ firsts → same_tags x.tags y.tags ≡ true → AreFirsts n (xs ++ x ∷ []) next
    later_more next e h =
        record {
          made = e ∙ last_first ∙ sym (map-append made (groups n [] xs) ((y ∷ (ys ++ x ∷ [])) ∷ [])) ∙ ap (map made) (sym more);
          alike = alike_more ∙ h;
        }

  pub has_first_one : length xs % n ≢ 0 → HasFirst n xs x firsts
  has_first_one h =
      let t = some (left n [] xs) (λ e. h (sym many ∙ e)) in
      record {
        groups_before = map made (groups n [] xs);
        first = bare t.0;
        last = last_first t.0 t.1.0 t.1.1;
        more = later_more t.0 t.1.0 t.1.1;
        differs = λ no. alike_more t.0 t.1.0 t.1.1 ∙ no;
      }
