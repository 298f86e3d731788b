-- Tokens in slots: one more, one too many, and all of them in order.
use Rattle.std.proofs.Common.{◌≡◌, ◌≢◌, ℕ, zero, suc, ◌+◌, ◌-◌, ◌<◌, ◌≤◌, Option, Some, None, is_some, true, false, List, [], ◌∷◌, ◌++◌, map, take, drop, length, get_or, set, replicate, refl, sym, ap, ap₂, ◌∙◌, subst, arith, inl, inr, append-nil, length-append}
use Rattle.std.proofs.lemmas.Bool.{cases_Bool, cases_eq, cond-true, cond-false, false≢true}
use Rattle.std.proofs.lemmas.List.{map-append, length-map, length-set, get_or-set_same, get_or-set_other, get_or_default}
use Rattle.p3l_firing.specs.Token.{newest_tag, untagged}
use Rattle.p3l_firing.specs.declared.token.Token.{Token}
use Rattle.p3l_template.specs.Bag.{look, read, numbered, IsNumbered}
use Rattle.p3l_template.specs.laws.BagLaw.{look_append, look_here, look_there, look_empty, numbered_to, numbered_from}
use Rattle.p3l_template.specs.Finding.{bare, bares}
use Rattle.p3l_template.specs.Numbered.{AreSlotted, listed, ordered}
use Rattle.p3l_template.specs.laws.BareLaw.{bares-length}

-- a token counts once for its own number
own_count : (xs : List Token) (x : Token) (rest : List Token) (k : ℕ) → newest_tag x ≡ k →
    length (look k (xs ++ x ∷ rest)) ≡ length (look k xs) + suc (length (look k rest))
own_count xs x rest k e =
    ap length (look_append k xs (x ∷ rest)) ∙ length-append (look k xs) (look k (x ∷ rest))
    ∙ ap (λ z. length (look k xs) + length z) (look_here k x rest e)

-- a number outside the slots
pub out_of_slots : (xs rest : List Token) (x : Token) (c n k : ℕ) → length (xs ++ x ∷ rest) ≡ n → k ≡ newest_tag x →
    (c ≤ k → c + n ≤ k) → numbered (xs ++ x ∷ rest) c ≡ false
out_of_slots xs rest x c n k e is h =
    elim (cases_Bool (numbered (xs ++ x ∷ rest) c)) [
      | inl t ↦
          let z = (numbered_to (xs ++ x ∷ rest) c t).none k (λ l. omega (arith, e, h l)) in
          absurd (omega (arith, z, own_count xs x rest k (sym is)))
      | inr f ↦ f
    ]

is_none : (o : Option Token) → is_some o ≡ false → o ≡ None
is_none None h = refl
is_none (Some x) h = absurd (false≢true (sym h))

listed_some : (o : Option Token) → is_some o ≡ true → length (listed o) ≡ 1
unfolding listed
listed_some None h = absurd (false≢true h)
listed_some (Some x) h = refl

-- a number whose slot is taken
pub slot_taken : (xs rest : List Token) (x : Token) (c k : ℕ) (slots : List (Option Token)) (o : Option Token) → AreSlotted c slots xs →
    length (xs ++ x ∷ rest) ≡ length slots → k ≡ newest_tag x → c ≤ k → k - c < length slots →
    o ≡ get_or slots (k - c) o → is_some o ≡ true → numbered (xs ++ x ∷ rest) c ≡ false
slot_taken xs rest x c k slots o are e is from below here some =
    elim (cases_Bool (numbered (xs ++ x ∷ rest) c)) [
      | inl t ↦
          let up : c + (k - c) ≡ k = omega (arith, from) in
          let one : length (look k xs) ≡ 1 =
          ap (λ z. length (look z xs)) (sym up) ∙ sym (bares-length (look (c + (k - c)) xs))
          ∙ ap length (sym (are.each (k - c) below)) ∙ ap (λ z. length (listed z)) (sym (here ∙ get_or_default slots (k - c) o None below))
          ∙ listed_some o some in
          let z = (numbered_to (xs ++ x ∷ rest) c t).once k from (omega (arith, e, below, from)) in
          absurd (omega (arith, z, one, own_count xs x rest k (sym is)))
      | inr f ↦ f
    ]

look_miss : (k : ℕ) (x : Token) → newest_tag x ≢ k → look k (x ∷ []) ≡ []
look_miss k x e = look_there k x [] e ∙ look_empty k

-- a token more in a free slot
pub slot_filled : (xs : List Token) (x y : Token) (c k : ℕ) (slots : List (Option Token)) (o : Option Token) →
    k ≡ newest_tag x → c ≤ k → k - c < length slots → o ≡ get_or slots (k - c) o → is_some o ≡ false → y ≡ bare (untagged x) →
    AreSlotted c slots xs → AreSlotted c (set slots (k - c) (Some y)) (xs ++ x ∷ [])
unfolding listed
slot_filled xs x y c k slots o is from below here free same are = record {
  each = λ j l. each j (subst (λ n. j < n) (length-set slots (k - c) (Some y)) l);
  none = λ j h.
      ap length (look_append j xs (x ∷ []))
      ∙ length-append (look j xs) (look j (x ∷ []))
      ∙ ap₂ (λ a b. a + b) (are.none j (λ m. omega (arith, h m, length-set slots (k - c) (Some y))))
      (ap length (look_miss j x (λ e. omega (arith, is, e, from, below, h (omega (arith, is, e, from)), length-set slots (k - c) (Some y)))));
}
  where
    each : (j : ℕ) → j < length slots → listed (get_or (set slots (k - c) (Some y)) j None) ≡ bares (look (c + j) (xs ++ x ∷ []))
    each j l =
        elim (cases_eq j (k - c)) [
          | inl e ↦
              let up : newest_tag x ≡ c + j = omega (arith, is, e, from) in
              let none : bares (look (c + j) xs) ≡ [] =
              sym (are.each j l)
              ∙ ap listed (ap (λ n. get_or slots n None) e ∙ sym (here ∙ get_or_default slots (k - c) o None below) ∙ is_none o free) in
              ap (λ n. listed (get_or (set slots (k - c) (Some y)) n None)) e
              ∙ ap listed (get_or-set_same slots (k - c) (Some y) None below)
              ∙ ap (λ z. z ∷ []) same
              ∙ ap bares (sym (look_here (c + j) x [] up ∙ ap (λ z. untagged x ∷ z) (look_empty (c + j))))
              ∙ ap (λ z. z ++ bares (look (c + j) (x ∷ []))) (sym none)
              ∙ sym (map-append bare (look (c + j) xs) (look (c + j) (x ∷ [])))
              ∙ ap bares (sym (look_append (c + j) xs (x ∷ [])))
          | inr e ↦
              ap listed (get_or-set_other slots (k - c) j (Some y) None e) ∙ are.each j l
              ∙ ap bares (sym (look_append (c + j) xs (x ∷ []) ∙ ap (λ z. look (c + j) xs ++ z) (look_miss (c + j) x (λ d. e (omega (arith, is, d)))) ∙ append-nil (look (c + j) xs)))
        ]

abbrev no_token : Option Token
no_token = None

-- no token in free slots
pub free_are : (c n : ℕ) → AreSlotted c (replicate n None) []
unfolding listed look
free_are c n = record {
  each = λ k l. ap listed (none_at n k);
  none = λ k h. refl;
}
  where
    none_at : (m k : ℕ) → get_or (replicate m no_token) k no_token ≡ no_token
    none_at zero k = refl
    none_at (suc m) zero = refl
    none_at (suc m) (suc k) = none_at m k

-- all slots in order
in_slots : (xs list : List Token) (c : ℕ) → ((k : ℕ) → k < length list → listed (get_or (map Some list) k None) ≡ bares (look (c + k) xs)) →
    bares (read xs c (length list)) ≡ list
unfolding listed read
in_slots xs [] c h = refl
in_slots xs (y ∷ list) c h =
    map-append bare (look c xs) _
    ∙ ap₂ (λ a b. a ++ b) (ap (λ n. bares (look n xs)) (omega arith) ∙ sym (h 0 (omega arith)))
    (in_slots xs list (suc c) (λ k l. h (suc k) (omega arith) ∙ ap (λ n. bares (look n xs)) (omega arith)))

some_at : (list : List Token) (k : ℕ) → k < length list → length (listed (get_or (map Some list) k None)) ≡ 1
unfolding listed
some_at [] k l = absurd (omega arith)
some_at (y ∷ list) zero l = refl
some_at (y ∷ list) (suc k) l = some_at list k (omega arith)

pub all_in_order : (xs list : List Token) (c : ℕ) → AreSlotted c (map Some list) xs → length xs ≡ length (map Some list) → Some list ≡ ordered xs c
unfolding ordered
all_in_order xs list c are e =
    let many : length xs ≡ length list = e ∙ length-map list Some in
    let n : IsNumbered xs c = record {
      once = λ k f l.
          let up : c + (k - c) ≡ k = omega (arith, f) in
          let below : k - c < length list = omega (arith, l, f, many) in
          ap (λ z. length (look z xs)) (sym up) ∙ sym (bares-length (look (c + (k - c)) xs))
          ∙ ap length (sym (are.each (k - c) (omega (arith, below, length-map list Some)))) ∙ some_at list (k - c) below;
      none = λ k h. are.none k (λ f. omega (arith, h f, e));
    } in
    sym (cond-true _ _ _ (numbered_from xs c n)
    ∙ ap Some (ap (λ m. bares (read xs c m)) many ∙ in_slots xs list c (λ k l. are.each k (omega (arith, l, length-map list Some)))))

-- a slot that stays free
pub slot_free : (xs : List Token) (c k : ℕ) (slots : List (Option Token)) → AreSlotted c slots xs → length xs ≡ length slots →
    k < length slots → get_or slots k None ≡ None → None ≡ ordered xs c
unfolding ordered listed
slot_free xs c k slots are e l free =
    let none : length (look (c + k) xs) ≡ 0 =
    sym (bares-length (look (c + k) xs)) ∙ ap length (sym (are.each k l)) ∙ ap (λ o. length (listed o)) free in
    let no : numbered xs c ≡ false = elim (cases_Bool (numbered xs c)) [
      | inl t ↦
          let z = (numbered_to xs c t).once (c + k) (omega arith) (omega (arith, e, l)) in
          absurd (omega (arith, z, none))
      | inr f ↦ f
    ] in
    sym (cond-false _ _ _ no)

-- a list about one of its places
pub split_at : (xs : List Token) (i : ℕ) (x : Token) → i < length xs → x ≡ get_or xs i x → xs ≡ take i xs ++ x ∷ drop (i + 1) xs
split_at [] i x l h = absurd (omega arith)
split_at (y ∷ ys) zero x l h = ap (λ z. z ∷ ys) (sym h)
split_at (y ∷ ys) (suc i) x l h =
    let e : suc i + 1 ≡ suc (i + 1) = omega arith in
    ap (λ z. y ∷ z) (split_at ys i x (omega arith) h) ∙ ap (λ n. y ∷ (take i ys ++ x ∷ drop n (y ∷ ys))) (sym e)

-- the slot after those that were taken off
pub or_middle : (done : List (Option Token)) (o : Option Token) (rest : List (Option Token)) (d : Option Token) →
    get_or (done ++ (o ∷ rest)) (length done) d ≡ o
or_middle [] o rest d = refl
or_middle (x ∷ done) o rest d = or_middle done o rest d

pub no_slots : (slots : List (Option Token)) → length slots ≡ 0 → slots ≡ []
no_slots [] h = refl
no_slots (o ∷ slots) h = absurd (omega (arith, h))

pub not_some : (o : Option Token) → ((x : Token) → o ≡ Some x → ⊥) → o ≡ None
not_some None h = refl
not_some (Some x) h = absurd (h x refl)
