-- IsNumbered tokens in any order, read in the order of their numbers. One more with the next number comes last
-- (`insert_read`), the one with the least leaves first (`release_read`), and one moved to the end is read as before
-- (`moved_read`). In each case every number occurs there once again. Farm and loop depend on it.
use Rattle.std.proofs.Common.{◌≡◌, ℕ, zero, suc, ◌+◌, ◌≤◌, ◌<◌, ◌≢◌, inl, inr, true, List, [], ◌∷◌, ◌++◌, length, refl, sym, ap, ap₂, ◌∙◌, subst, arith, append_assoc, append-nil, length-append, eqb-true, eq-eqb, ne_eqb, lt-ltb, ltb-true, leb-true, le-leb}
use Rattle.std.proofs.lemmas.Bool.{cases_eq, cases_lt, cond-true, cond-false, and_parts, and_from}
use Rattle.p3l_firing.specs.Token.{newest_tag, untagged}
use Rattle.p3l_firing.specs.declared.token.Token.{Token}
use Rattle.p3l_template.specs.Bag.{look, read, each_once, all_within, numbered, IsNumbered}
pub use Rattle.p3l_template.specs.laws.Lists.{none_left}

pub look_here : (k : ℕ) (x : Token) (xs : List Token) → newest_tag x ≡ k → look k (x ∷ xs) ≡ untagged x ∷ look k xs
unfolding look
look_here k x xs e = cond-true _ _ _ (eq-eqb (newest_tag x) k e)

pub look_there : (k : ℕ) (x : Token) (xs : List Token) → newest_tag x ≢ k → look k (x ∷ xs) ≡ look k xs
unfolding look
look_there k x xs e = cond-false _ _ _ (ne_eqb (newest_tag x) k e)

pub look_empty : (k : ℕ) → look k [] ≡ []
unfolding look
look_empty k = refl

pub look_append : (k : ℕ) (xs ys : List Token) → look k (xs ++ ys) ≡ look k xs ++ look k ys
look_append k [] ys = ap (λ z. z ++ look k ys) (sym (look_empty k))
look_append k (x ∷ xs) ys =
    elim (cases_eq (newest_tag x) k) [
      | inl e ↦
          look_here k x (xs ++ ys) e ∙ ap (λ z. untagged x ∷ z) (look_append k xs ys)
          ∙ ap (λ z. z ++ look k ys) (sym (look_here k x xs e))
      | inr e ↦ look_there k x (xs ++ ys) e ∙ look_append k xs ys ∙ ap (λ z. z ++ look k ys) (sym (look_there k x xs e))
    ]

-- a look at a list reads the tokens before x, x, and the tokens after it
look_mid : (k : ℕ) (xs : List Token) (x : Token) (ys : List Token) →
    look k (xs ++ x ∷ ys) ≡ look k xs ++ (look k (x ∷ []) ++ look k ys)
look_mid k xs x ys = look_append k xs (x ∷ ys) ∙ ap (λ z. look k xs ++ z) (look_append k (x ∷ []) ys)

look_last : (k : ℕ) (xs : List Token) (x : Token) → look k (xs ++ x ∷ []) ≡ look k xs ++ look k (x ∷ [])
look_last k xs x = look_append k xs (x ∷ [])

read_same : (xs ys : List Token) (c m : ℕ) → ((k : ℕ) → c ≤ k → k < c + m → look k ys ≡ look k xs) →
    read ys c m ≡ read xs c m
unfolding read
read_same xs ys c zero h = refl
read_same xs ys c (suc m) h =
    ap₂ (λ a b. a ++ b) (h c (omega arith) (omega arith))
    (read_same xs ys (suc c) m (λ k f l. h k (omega arith) (omega arith)))

once_at : (xs : List Token) (c m : ℕ) → each_once xs c m ≡ true → (k : ℕ) → c ≤ k → k < c + m → length (look k xs) ≡ 1
unfolding each_once
once_at xs c zero h k f l = absurd (omega arith)
once_at xs c (suc m) h k f l =
    elim (cases_eq k c) [
      | inl e ↦ ap (λ z. length (look z xs)) e ∙ eqb-true _ _ (and_parts _ _ h).0
      | inr e ↦ once_at xs (suc c) m (and_parts _ _ h).1 k (omega arith) (omega arith)
    ]

once_from : (xs : List Token) (c m : ℕ) → ((k : ℕ) → c ≤ k → k < c + m → length (look k xs) ≡ 1) →
    each_once xs c m ≡ true
unfolding each_once
once_from xs c zero h = refl
once_from xs c (suc m) h =
    and_from _ _ (eq-eqb _ _ (h c (omega arith) (omega arith)))
    (once_from xs (suc c) m (λ k f l. h k (omega arith) (omega arith)))

within_none : (c d : ℕ) (xs : List Token) → all_within c d xs ≡ true → (k : ℕ) → (c ≤ k → d ≤ k) →
    length (look k xs) ≡ 0
unfolding all_within
within_none c d [] h k l = ap length (look_empty k)
within_none c d (x ∷ xs) h k l =
    let a = and_parts _ _ (and_parts _ _ h).0 in
    let f = leb-true c (newest_tag x) a.0 in
    let b = ltb-true (newest_tag x) d a.1 in
    ap length (look_there k x xs (λ e. omega (arith, e, f, b, l (omega (arith, e, f)))))
    ∙ within_none c d xs (and_parts _ _ h).1 k l

pub not_out : (k : ℕ) (x : Token) (xs : List Token) → newest_tag x ≡ k → length (look k (x ∷ xs)) ≡ 0 → ⊥
not_out k x xs e h = let z : suc (length (look k xs)) ≡ 0 = ap length (sym (look_here k x xs e)) ∙ h in omega (arith, z)

within_from : (c d : ℕ) (xs : List Token) → ((k : ℕ) → (c ≤ k → d ≤ k) → length (look k xs) ≡ 0) →
    all_within c d xs ≡ true
unfolding all_within
within_from c d [] h = refl
within_from c d (x ∷ xs) h =
    and_from _ _
    (and_from _ _
    (le-leb c (newest_tag x)
    (elim (cases_lt (newest_tag x) c) [
      | inl e ↦ absurd (not_out (newest_tag x) x xs refl (h (newest_tag x) (λ f. omega (arith, e, f))))
      | inr e ↦ e
    ]))
    (lt-ltb (newest_tag x) d
    (elim (cases_lt (newest_tag x) d) [ inl e ↦ e | inr e ↦ absurd (not_out (newest_tag x) x xs refl (h (newest_tag x) (λ _. e))) ])))
    (within_from c d xs (λ k l. elim (cases_eq (newest_tag x) k) [
      | inl e ↦ absurd (not_out k x xs e (h k l))
      | inr e ↦ ap length (sym (look_there k x xs e)) ∙ h k l
    ]))

pub numbered_to : (xs : List Token) (c : ℕ) → numbered xs c ≡ true → IsNumbered xs c
numbered_to xs c h = record {
  once = once_at xs c (length xs) (and_parts _ _ h).0;
  none = within_none c (c + length xs) xs (and_parts _ _ h).1;
}

pub numbered_from : (xs : List Token) (c : ℕ) → IsNumbered xs c → numbered xs c ≡ true
numbered_from xs c n = and_from _ _ (once_from xs c (length xs) n.once) (within_from c (c + length xs) xs n.none)

-- a look at another number doesn't read x
without_look : (k : ℕ) (xs : List Token) (x : Token) (ys : List Token) → newest_tag x ≢ k →
    look k (xs ++ x ∷ ys) ≡ look k (xs ++ ys)
without_look k xs x ys h =
    look_mid k xs x ys ∙ ap (λ z. look k xs ++ (z ++ look k ys)) (look_there k x [] h ∙ look_empty k)
    ∙ sym (look_append k xs ys)

-- and of its own
with_look : (k : ℕ) (xs : List Token) (x : Token) (ys : List Token) → newest_tag x ≡ k →
    look k (xs ++ x ∷ ys) ≡ look k xs ++ (untagged x ∷ look k ys)
with_look k xs x ys h = look_append k xs (x ∷ ys) ∙ ap (λ z. look k xs ++ z) (look_here k x ys h)

with_length : (k : ℕ) (xs : List Token) (x : Token) (ys : List Token) → newest_tag x ≡ k →
    length (look k (xs ++ x ∷ ys)) ≡ suc (length (look k (xs ++ ys)))
with_length k xs x ys h =
    let a = ap length (with_look k xs x ys h) in
    let b = length-append (look k xs) (untagged x ∷ look k ys) in
    let c = ap length (look_append k xs ys) in
    let d = length-append (look k xs) (look k ys) in
    omega (arith, a, b, c, d)

pub without_count : (xs : List Token) (x : Token) (ys : List Token) → length (xs ++ x ∷ ys) ≡ suc (length (xs ++ ys))
without_count xs x ys = length-append xs (x ∷ ys) ∙ omega (arith, length-append xs ys)

one_alone : (a : List Token) (v : Token) (b : List Token) → length (a ++ (v ∷ b)) ≡ 1 → a ++ (v ∷ b) ≡ v ∷ []
one_alone [] v [] h = refl
one_alone [] v (w ∷ b) h = absurd (omega (arith, h))
one_alone (u ∷ []) v b h = absurd (omega (arith, h, length-append (u ∷ []) (v ∷ b)))
one_alone (u ∷ (w ∷ a)) v b h = absurd (omega (arith, h))

-- one token more, with the next number, anywhere
pub insert_numbered : (xs : List Token) (x : Token) (ys : List Token) (c : ℕ) → IsNumbered (xs ++ ys) c →
    newest_tag x ≡ c + length (xs ++ ys) → IsNumbered (xs ++ x ∷ ys) c
insert_numbered xs x ys c n e =
    let len = without_count xs x ys in
    record {
      once = λ k f l. elim (cases_eq (newest_tag x) k) [
        | inl d ↦ with_length k xs x ys d ∙ ap suc (n.none k (λ _. omega (arith, e, d)))
        | inr d ↦ ap length (without_look k xs x ys d) ∙ n.once k f (omega (arith, len, e, d, l))
      ];
      none = λ k l.
          ap length (without_look k xs x ys (λ d. omega (arith, len, e, d, l (omega (arith, e, d)))))
          ∙ n.none k (λ f. omega (arith, len, l f));
    }

read_more : (xs : List Token) (x : Token) (ys : List Token) (c m : ℕ) → newest_tag x ≡ c + m →
    length (look (newest_tag x) (xs ++ ys)) ≡ 0 → read (xs ++ x ∷ ys) c (suc m) ≡ read (xs ++ ys) c m ++ untagged x ∷ []
unfolding read
read_more xs x ys c zero e h =
    let k : newest_tag x ≡ c = omega arith in
    let one : length (look c (xs ++ x ∷ ys)) ≡ 1 =
    with_length c xs x ys k ∙ ap suc (ap (λ z. length (look z (xs ++ ys))) (sym k) ∙ h) in
    ap (λ z. z ++ [])
    (with_look c xs x ys k
    ∙ one_alone (look c xs) (untagged x) (look c ys) (ap length (sym (with_look c xs x ys k)) ∙ one))
read_more xs x ys c (suc m) e h =
    ap₂ (λ a b. a ++ b) (without_look c xs x ys (omega (arith, e))) (read_more xs x ys (suc c) m (omega arith) h)
    ∙ sym (append_assoc (look c (xs ++ ys)) _ _)

pub insert_read : (xs : List Token) (x : Token) (ys : List Token) (c : ℕ) → IsNumbered (xs ++ ys) c →
    newest_tag x ≡ c + length (xs ++ ys) →
    read (xs ++ x ∷ ys) c (length (xs ++ x ∷ ys)) ≡ read (xs ++ ys) c (length (xs ++ ys)) ++ untagged x ∷ []
insert_read xs x ys c n e =
    ap (read (xs ++ x ∷ ys) c) (without_count xs x ys)
    ∙ read_more xs x ys c (length (xs ++ ys)) e (n.none (newest_tag x) (λ _. omega (arith, e)))

-- the same at the end
pub append_numbered : (xs : List Token) (x : Token) (c : ℕ) → IsNumbered xs c → newest_tag x ≡ c + length xs →
    IsNumbered (xs ++ x ∷ []) c
append_numbered xs x c n e =
    insert_numbered xs x [] c (subst (λ z. IsNumbered z c) (sym (append-nil xs)) n)
    (e ∙ ap (λ z. c + length z) (sym (append-nil xs)))

pub append_read : (xs : List Token) (x : Token) (c : ℕ) → IsNumbered xs c → newest_tag x ≡ c + length xs →
    read (xs ++ x ∷ []) c (length (xs ++ x ∷ [])) ≡ read xs c (length xs) ++ untagged x ∷ []
append_read xs x c n e =
    insert_read xs x [] c (subst (λ z. IsNumbered z c) (sym (append-nil xs)) n)
    (e ∙ ap (λ z. c + length z) (sym (append-nil xs)))
    ∙ ap (λ z. read z c (length z) ++ untagged x ∷ []) (append-nil xs)

-- of parts with one token in all, the order does not matter
one_moved : (a p b : List Token) → length (a ++ (p ++ b)) ≡ 1 → (a ++ b) ++ p ≡ a ++ (p ++ b)
one_moved [] [] b h = append-nil b
one_moved [] (t ∷ []) [] h = refl
one_moved [] (t ∷ []) (u ∷ b) h = absurd (omega (arith, h))
one_moved [] (t ∷ (u ∷ p)) b h = absurd (omega (arith, h))
one_moved (t ∷ []) [] b h = append-nil (t ∷ b)
one_moved (t ∷ []) (u ∷ p) b h = absurd (omega (arith, h))
one_moved (t ∷ (u ∷ a)) p b h = absurd (omega (arith, h))

length_mid : (a p b : List Token) → length ((a ++ b) ++ p) ≡ length (a ++ (p ++ b))
length_mid a p b =
    let x = length-append (a ++ b) p in let y = length-append a b in let z = length-append a (p ++ b) in
    let w = length-append p b in
    omega (arith, x, y, z, w)

moved_look : (k : ℕ) (xs : List Token) (x : Token) (ys : List Token) →
    look k ((xs ++ ys) ++ x ∷ []) ≡ (look k xs ++ look k ys) ++ look k (x ∷ [])
moved_look k xs x ys = look_last k (xs ++ ys) x ∙ ap (λ z. z ++ look k (x ∷ [])) (look_append k xs ys)

moved_length : (k : ℕ) (xs : List Token) (x : Token) (ys : List Token) →
    length (look k ((xs ++ ys) ++ x ∷ [])) ≡ length (look k (xs ++ x ∷ ys))
moved_length k xs x ys =
    ap length (moved_look k xs x ys) ∙ length_mid (look k xs) (look k (x ∷ [])) (look k ys)
    ∙ ap length (sym (look_mid k xs x ys))

pub moved_count : (xs : List Token) (x : Token) (ys : List Token) →
    length ((xs ++ ys) ++ x ∷ []) ≡ length (xs ++ x ∷ ys)
moved_count xs x ys = length_mid xs (x ∷ []) ys

-- a token moved to the end
pub moved_numbered : (xs : List Token) (x : Token) (ys : List Token) (c : ℕ) → IsNumbered (xs ++ x ∷ ys) c →
    IsNumbered ((xs ++ ys) ++ x ∷ []) c
moved_numbered xs x ys c n = record {
  once = λ k f l. moved_length k xs x ys ∙ n.once k f (omega (arith, moved_count xs x ys, l));
  none = λ k l. moved_length k xs x ys ∙ n.none k (λ f. omega (arith, moved_count xs x ys, l f));
}

pub moved_read : (xs : List Token) (x : Token) (ys : List Token) (c : ℕ) → IsNumbered (xs ++ x ∷ ys) c →
    read ((xs ++ ys) ++ x ∷ []) c (length ((xs ++ ys) ++ x ∷ [])) ≡ read (xs ++ x ∷ ys) c (length (xs ++ x ∷ ys))
moved_read xs x ys c n =
    ap (read ((xs ++ ys) ++ x ∷ []) c) (moved_count xs x ys)
    ∙ read_same (xs ++ x ∷ ys) ((xs ++ ys) ++ x ∷ []) c (length (xs ++ x ∷ ys)) (λ k f l.
    moved_look k xs x ys
    ∙ one_moved (look k xs) (look k (x ∷ [])) (look k ys) (ap length (sym (look_mid k xs x ys)) ∙ n.once k f l)
    ∙ sym (look_mid k xs x ys))

-- the token with the least number taken out
pub release_numbered : (xs : List Token) (x : Token) (ys : List Token) (c : ℕ) → IsNumbered (xs ++ x ∷ ys) c →
    newest_tag x ≡ c → IsNumbered (xs ++ ys) (suc c)
release_numbered xs x ys c n e =
    let len = without_count xs x ys in
    record {
      once = λ k f l.
          ap length (sym (without_look k xs x ys (omega (arith, e, f))))
          ∙ n.once k (omega (arith, f)) (omega (arith, len, l));
      none = λ k l. elim (cases_eq (newest_tag x) k) [
        | inl d ↦
            let a = with_length k xs x ys d in
            let b = n.once k (omega (arith, d, e)) (omega (arith, d, e, len)) in
            omega (arith, a, b)
        | inr d ↦
            ap length (sym (without_look k xs x ys d)) ∙ n.none k (λ f. omega (arith, len, l (omega (arith, f, d, e))))
      ];
    }

read_next : (xs ys : List Token) (x : Token) (m : ℕ) → length (look (newest_tag x) (xs ++ x ∷ ys)) ≡ 1 →
    read (xs ++ x ∷ ys) (newest_tag x) (suc m) ≡ untagged x ∷ read (xs ++ ys) (suc (newest_tag x)) m
unfolding read
read_next xs ys x m h =
    let e : look (newest_tag x) (xs ++ x ∷ ys) ≡ look (newest_tag x) xs ++ (untagged x ∷ look (newest_tag x) ys) =
    look_append (newest_tag x) xs (x ∷ ys) ∙ ap (λ z. look (newest_tag x) xs ++ z) (look_here (newest_tag x) x ys refl) in
    ap₂ (λ a b. a ++ b)
    (e ∙ one_alone (look (newest_tag x) xs) (untagged x) (look (newest_tag x) ys) (ap length (sym e) ∙ h))
    (read_same (xs ++ ys) (xs ++ x ∷ ys) (suc (newest_tag x)) m (λ k f l. without_look k xs x ys (omega (arith, f))))

pub release_read : (xs : List Token) (x : Token) (ys : List Token) (c : ℕ) → IsNumbered (xs ++ x ∷ ys) c → newest_tag x ≡ c →
    read (xs ++ x ∷ ys) c (length (xs ++ x ∷ ys)) ≡ untagged x ∷ read (xs ++ ys) (suc c) (length (xs ++ ys))
release_read xs x ys c n e =
    ap (read (xs ++ x ∷ ys) c) (without_count xs x ys)
    ∙ subst (λ z. length (look z (xs ++ x ∷ ys)) ≡ 1 →
    read (xs ++ x ∷ ys) z (suc (length (xs ++ ys))) ≡ untagged x ∷ read (xs ++ ys) (suc z) (length (xs ++ ys))) e
    (read_next xs ys x (length (xs ++ ys)))
    (n.once c (omega arith) (omega (arith, without_count xs x ys)))

-- as many are read as there are
read_count : (xs : List Token) (c m : ℕ) → ((k : ℕ) → c ≤ k → k < c + m → length (look k xs) ≡ 1) →
    length (read xs c m) ≡ m
unfolding read
read_count xs c zero h = refl
read_count xs c (suc m) h =
    let a = length-append (look c xs) (read xs (suc c) m) in
    let b = h c (omega arith) (omega arith) in
    let r = read_count xs (suc c) m (λ k f l. h k (omega arith) (omega arith)) in
    omega (arith, a, b, r)

pub read_length : (xs : List Token) (c : ℕ) → IsNumbered xs c → length (read xs c (length xs)) ≡ length xs
read_length xs c n = read_count xs c (length xs) n.once
