-- Tokens that are taken by turns from n lines, place c from line spot c, for any such spot below n. Lines that are
-- equal below n give the same (`turns_same`), and a token after the line whose turn comes is read last (`turns_more`).
-- Where the same lines come in turn from two places on, the same is read (`read_moved`).
use Rattle.std.proofs.Common.{◌≡◌, ℕ, zero, suc, ◌+◌, ◌<◌, ◌≢◌, inl, inr, not, ◌&&◌, true, List, [], ◌∷◌, ◌++◌, refl, sym, ap, ap₂, ◌∙◌, subst, arith, length}
use Rattle.std.proofs.Math.Path.{fun_ext}
use Rattle.std.proofs.lemmas.Bool.{and_parts, and_from, cases_eq, not-true}
use Rattle.p3l_firing.specs.Lists.{first_or, rest_of, has_first}
use Rattle.p3l_firing.specs.At.{at}
use Rattle.p3l_firing.specs.Token.{credit}
use Rattle.p3l_firing.specs.declared.token.Token.{Token}
use Rattle.p3l_map.specs.Places.{read_by, all_empty, in_by, total}
use Rattle.p3l_template.specs.laws.Lists.{first_append, rest_append, has_append}
use Rattle.p3l_template.specs.laws.Rows.{at-same, at-other, emptied}

pub all_empty_at : (L : ℕ → List Token) (n w : ℕ) → all_empty L n ≡ true → w < n → L w ≡ []
unfolding all_empty
all_empty_at L zero w h l = absurd (omega arith)
all_empty_at L (suc n) w h l =
    elim (cases_eq w n) [
      | inl e ↦ ap L e ∙ emptied (L n) (not-true _ (and_parts _ _ h).0)
      | inr k ↦ all_empty_at L n w (and_parts _ _ h).1 (omega arith)
    ]

pub all_empty_from : (L : ℕ → List Token) (n : ℕ) → ((w : ℕ) → w < n → L w ≡ []) → all_empty L n ≡ true
unfolding all_empty
all_empty_from L zero h = refl
all_empty_from L (suc n) h =
    and_from _ _ (ap (λ ts. not (has_first ts)) (h n (omega arith))) (all_empty_from L n (λ w l. h w (omega arith)))

all_empty_same : (L M : ℕ → List Token) (n : ℕ) → ((w : ℕ) → w < n → M w ≡ L w) → all_empty M n ≡ all_empty L n
unfolding all_empty
all_empty_same L M zero h = refl
all_empty_same L M (suc n) h =
    ap₂ (λ x y. not (has_first x) && y) (h n (omega arith)) (all_empty_same L M n (λ w l. h w (omega arith)))

at_same_below : (L M : ℕ → List Token) (n k : ℕ) → k < n → ((w : ℕ) → w < n → M w ≡ L w) → (w : ℕ) → w < n →
    at M k (rest_of (M k)) w ≡ at L k (rest_of (L k)) w
at_same_below L M n k l h w m =
    elim (cases_eq w k) [
      | inl e ↦
          subst (λ j. at M k (rest_of (M k)) j ≡ at L k (rest_of (L k)) j) (sym e)
          (at-same M k _ ∙ ap rest_of (h k l) ∙ sym (at-same L k _))
      | inr e ↦ at-other M k _ w e ∙ h w m ∙ sym (at-other L k _ w e)
    ]

pub turns_same : (spot : ℕ → ℕ) (n : ℕ) → ((k : ℕ) → spot k < n) → (m c : ℕ) (L M : ℕ → List Token) →
    ((w : ℕ) → w < n → M w ≡ L w) →
    (read_by M spot c m ≡ read_by L spot c m) × (in_by M spot n c m ≡ in_by L spot n c m)
unfolding read_by in_by
turns_same spot n p zero c L M h = (refl, all_empty_same L M n h)
turns_same spot n p (suc m) c L M h =
    let k : spot c < n = p c in
    let r = turns_same spot n p m (suc c) (at L (spot c) (rest_of (L (spot c)))) (at M (spot c) (rest_of (M (spot c))))
    (at_same_below L M n (spot c) k h) in
    (ap₂ (λ x y. first_or credit x ∷ y) (h (spot c) k) r.0, ap₂ (λ x y. has_first x && y) (h (spot c) k) r.1)

-- taking at j and appending at i may be done in either order
swap_at : (L : ℕ → List Token) (i j : ℕ) (x : Token) → has_first (L j) ≡ true → (w : ℕ) →
    at (at L i (L i ++ x ∷ [])) j (rest_of (at L i (L i ++ x ∷ []) j)) w
    ≡ at (at L j (rest_of (L j))) i (at L j (rest_of (L j)) i ++ x ∷ []) w
swap_at L i j x h w =
    elim (cases_eq w j) [
      | inl e ↦ elim (cases_eq w i) [
        | inl d ↦
            let ij : i ≡ j = sym d ∙ e in
            subst (λ k. at (at L i (L i ++ x ∷ [])) j (rest_of (at L i (L i ++ x ∷ []) j)) k
            ≡ at (at L j (rest_of (L j))) i (at L j (rest_of (L j)) i ++ x ∷ []) k) (sym e)
            (at-same _ j _ ∙ ap rest_of (subst (λ k. at L k (L k ++ x ∷ []) j ≡ L j ++ x ∷ []) (sym ij) (at-same L j _))
            ∙ rest_append (L j) (x ∷ []) h
            ∙ sym (subst (λ k. at (at L j (rest_of (L j))) k (at L j (rest_of (L j)) k ++ x ∷ []) j ≡ rest_of (L j) ++ x ∷ [])
            (sym ij) (at-same _ j _ ∙ ap (λ z. z ++ x ∷ []) (at-same L j _))))
        | inr d ↦
            subst (λ k. k ≢ i →
            at (at L i (L i ++ x ∷ [])) j (rest_of (at L i (L i ++ x ∷ []) j)) k
            ≡ at (at L j (rest_of (L j))) i (at L j (rest_of (L j)) i ++ x ∷ []) k) (sym e)
            (λ n. at-same _ j _ ∙ ap rest_of (at-other L i _ j n) ∙ sym (at-other _ i _ j n ∙ at-same L j _)) d
      ]
      | inr e ↦ at-other _ j _ w e ∙ elim (cases_eq w i) [
        | inl d ↦
            subst (λ k. k ≢ j →
            at L i (L i ++ x ∷ []) k ≡ at (at L j (rest_of (L j))) i (at L j (rest_of (L j)) i ++ x ∷ []) k) (sym d)
            (λ n. at-same L i _ ∙ ap (λ z. z ++ x ∷ []) (sym (at-other L j _ i n)) ∙ sym (at-same _ i _)) e
        | inr d ↦ at-other L i _ w d ∙ sym (at-other _ i _ w d ∙ at-other L j _ w e)
      ]
    ]

has_at : (L : ℕ → List Token) (i j : ℕ) (x : Token) → has_first (L j) ≡ true →
    (has_first (at L i (L i ++ x ∷ []) j) ≡ true) × (first_or credit (at L i (L i ++ x ∷ []) j) ≡ first_or credit (L j))
has_at L i j x h =
    elim (cases_eq j i) [
      | inl e ↦
          subst (λ k. (has_first (at L k (L k ++ x ∷ []) j) ≡ true)
          × (first_or credit (at L k (L k ++ x ∷ []) j) ≡ first_or credit (L j))) e (
            ap has_first (at-same L j _) ∙ has_append (L j) (x ∷ []) h,
            ap (first_or credit) (at-same L j _) ∙ first_append credit (L j) (x ∷ []) h,
          )
      | inr n ↦ (ap has_first (at-other L i _ j n) ∙ h, ap (first_or credit) (at-other L i _ j n))
    ]

-- one more token, at the line whose turn it will be
pub turns_more : (spot : ℕ → ℕ) (n : ℕ) → ((k : ℕ) → spot k < n) → (m c e : ℕ) (L : ℕ → List Token) (x : Token) →
    c + m ≡ e → in_by L spot n c m ≡ true →
    (read_by (at L (spot e) (L (spot e) ++ x ∷ [])) spot c (suc m) ≡ read_by L spot c m ++ x ∷ [])
    × (in_by (at L (spot e) (L (spot e) ++ x ∷ [])) spot n c (suc m) ≡ true)
unfolding read_by in_by
turns_more spot n p zero c e L x q h =
    let ce : e ≡ c = omega arith in
    let k : spot c < n = p c in
    subst (λ d. (read_by (at L (spot d) (L (spot d) ++ x ∷ [])) spot c 1 ≡ x ∷ [])
    × (in_by (at L (spot d) (L (spot d) ++ x ∷ [])) spot n c 1 ≡ true)) (sym ce)
    (let e0 : at L (spot c) (L (spot c) ++ x ∷ []) (spot c) ≡ x ∷ [] =
    at-same L (spot c) _ ∙ ap (λ z. z ++ x ∷ []) (all_empty_at L n (spot c) h k) in (
      ap (λ z. first_or credit z ∷ []) e0,
      and_from _ _ (ap has_first e0) (all_empty_from _ n (λ w l.
          elim (cases_eq w (spot c)) [
            | inl d ↦
                subst (λ j. at (at L (spot c) (L (spot c) ++ x ∷ [])) (spot c)
                (rest_of (at L (spot c) (L (spot c) ++ x ∷ []) (spot c))) j
                ≡ []) (sym d) (at-same _ (spot c) _ ∙ ap rest_of e0)
            | inr d ↦ at-other _ (spot c) _ w d ∙ at-other L (spot c) _ w d ∙ all_empty_at L n w h l
          ])),
    ))
turns_more spot n p (suc m) c e L x q h =
    let a = and_parts _ _ h in
    let b = has_at L (spot e) (spot c) x a.0 in
    let r = turns_more spot n p m (suc c) e (at L (spot c) (rest_of (L (spot c)))) x (omega arith) a.1 in
    let s = fun_ext (swap_at L (spot e) (spot c) x a.0) in (
      ap₂ (λ y F. y ∷ read_by F spot (suc c) (suc m)) b.1 s ∙ ap (λ z. first_or credit (L (spot c)) ∷ z) r.0,
      and_from _ _ b.0 (ap (λ F. in_by F spot n (suc c) (suc m)) s ∙ r.1),
    )

-- the same tokens are read if the same lines come in turn
pub read_moved : (spot : ℕ → ℕ) (n m c d : ℕ) (L : ℕ → List Token) → ((k : ℕ) → spot (d + k) ≡ spot (c + k)) →
    (read_by L spot d m ≡ read_by L spot c m) × (in_by L spot n d m ≡ in_by L spot n c m)
unfolding read_by in_by
read_moved spot n zero c d L h = (refl, refl)
read_moved spot n (suc m) c d L h =
    let e : spot d ≡ spot c = ap spot (omega arith) ∙ h 0 ∙ ap spot (omega arith) in
    let r = read_moved spot n m (suc c) (suc d) (at L (spot c) (rest_of (L (spot c))))
    (λ k. ap spot (omega arith) ∙ h (suc k) ∙ ap spot (omega arith)) in (
      ap (λ z. first_or credit (L z) ∷ read_by (at L z (rest_of (L z))) spot (suc d) m) e ∙ ap (λ z. first_or credit (L (spot c)) ∷ z) r.0,
      ap (λ z. has_first (L z) && in_by (at L z (rest_of (L z))) spot n (suc d) m) e
          ∙ ap (λ z. has_first (L (spot c)) && z) r.1,
    )

-- the number of tokens where one line changed
pub total_same : (L M : ℕ → List Token) (n : ℕ) → ((w : ℕ) → w < n → M w ≡ L w) → total M n ≡ total L n
unfolding total
total_same L M zero h = refl
total_same L M (suc n) h = ap₂ (λ x y. length x + y) (h n (omega arith)) (total_same L M n (λ w l. h w (omega arith)))

pub total_at : (L : ℕ → List Token) (w : ℕ) (ts : List Token) (n : ℕ) → w < n →
    total (at L w ts) n + length (L w) ≡ total L n + length ts
unfolding total
total_at L w ts zero l = absurd (omega arith)
total_at L w ts (suc n) l =
    elim (cases_eq w n) [
      | inl e ↦
          let a : length (at L w ts n) ≡ length ts =
          ap (λ z. length (at L w ts z)) (sym e) ∙ ap length (at-same L w ts) in
          let b : total (at L w ts) n ≡ total L n =
          total_same L (at L w ts) n (λ v k. at-other L w ts v (omega (arith, e, k))) in
          let c : length (L w) ≡ length (L n) = ap (λ z. length (L z)) e in
          omega (arith, a, b, c)
      | inr e ↦
          let a : length (at L w ts n) ≡ length (L n) = ap length (at-other L w ts n (λ d. e (sym d))) in
          let r = total_at L w ts n (omega (arith, e)) in
          omega (arith, a, r)
    ]
