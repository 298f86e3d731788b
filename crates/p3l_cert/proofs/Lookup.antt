-- Rows found by their key.
use Rattle.std.proofs.Common.{◌≡◌, ℕ, zero, suc, ◌+◌, ◌<◌, ◌≤◌, true, false, Bool, List, [], ◌∷◌, get_or, length, Some, None, ltb, refl, sym, ap, ◌∙◌, subst, arith, inl, inr}
use Rattle.std.proofs.lemmas.Bool.{cases_lt, cases_eq, ltb-true, ltb-false}
use Rattle.std.proofs.lemmas.Bool.Decides.{nat_tests}
use Rattle.p3l_cert.specs.declared.cert.Row.{Row}
use Rattle.p3l_cert.specs.declared.cert.Key.{Key}
use Rattle.p3l_cert.specs.Order.{is_below, comes_before}
use Rattle.p3l_cert.specs.Find.{IsPlace}
use Rattle.p3l_cert.specs.Rule.{is_key, kept}
use Rattle.std.specs.List.{All}
use Rattle.p3l_cert.specs.Rows.{Ascend, IsInRange}
use Rattle.p3l_cert.proofs.Order.{before_chain}

pub any_default : (rows : List Row) (i : ℕ) (d e : Row) → i < length rows → get_or rows i d ≡ get_or rows i e
any_default [] i d e h = absurd (omega arith)
any_default (x ∷ xs) zero d e h = refl
any_default (x ∷ xs) (suc i) d e h = any_default xs i d e (omega arith)

-- rows before one below a key are below it
pub all_below : (rows : List Row) (k : Key) (middle : ℕ) (e : Row) → Ascend rows → middle < length rows → is_below (get_or rows middle e) k ≡ true → (i : ℕ) (d : Row) → i < middle + 1 → is_below (get_or rows i d) k ≡ true
all_below rows k middle e ascend inside here i d less =
    elim (cases_lt i middle) [
      | inl before ↦
          let first = get_or rows i d in
          let second = get_or rows middle e in
          before_chain first.node first.bound first.cap second.node second.bound second.cap k.node k.bound k.cap (ascend i middle d e before inside) here
      | inr last ↦ let same : middle ≡ i = omega arith in
          subst (λ j. is_below (get_or rows j d) k ≡ true) same (rw (any_default rows middle d e inside) here)
    ]

pub false_unless : (b : Bool) → (b ≡ true → ⊥) → b ≡ false
false_unless true never = absurd (never refl)
false_unless false never = refl

-- rows after one that isn't below a key aren't
pub none_below : (rows : List Row) (k : Key) (middle : ℕ) (e : Row) → Ascend rows → middle < length rows → is_below (get_or rows middle e) k ≡ false → (i : ℕ) (d : Row) → middle ≤ i → i < length rows → is_below (get_or rows i d) k ≡ false
none_below rows k middle e ascend inside here i d from within =
    false_unless (is_below (get_or rows i d) k) (λ yes.
    let there = all_below rows k i d ascend within yes middle e (omega arith) in
    let both : true ≡ false = sym there ∙ here in cc)

pub not_key_below : (row : Row) (k : Key) → is_below row k ≡ true → is_key row k ≡ false
not_key_below row k below = grind (arith, nat_tests)

-- the first rows aren't a key's
pub kept_past : (rows : List Row) (k : Key) (n : ℕ) (d : Row) → n < length rows → ((i : ℕ) → i < n → is_key (get_or rows i d) k ≡ false) → is_key (get_or rows n d) k ≡ true → kept rows k ≡ Some (get_or rows n d).least
unfolding kept
kept_past [] k n d inside none here = absurd (omega arith)
kept_past (row ∷ rows) k zero d inside none here = rw here refl
kept_past (row ∷ rows) k (suc n) d inside none here = rw (none 0 (omega arith)) (kept_past rows k n d (omega arith) (λ i h. none (suc i) (omega arith)) here)

pub kept_none : (rows : List Row) (k : Key) (d : Row) → ((i : ℕ) → i < length rows → is_key (get_or rows i d) k ≡ false) → kept rows k ≡ None
unfolding kept
kept_none [] k d none = refl
kept_none (row ∷ rows) k d none = rw (none 0 (omega arith)) (kept_none rows k d (λ i h. none (suc i) (omega arith)))

-- a row that a key's row would come before isn't the key's
later_not_key : (first second : Row) (k : Key) → is_below first k ≡ false → is_key first k ≡ false → comes_before first second ≡ true → is_key second k ≡ false
later_not_key first second k below other before = grind (arith, nat_tests)

pub kept_at : (rows : List Row) (k : Key) (n : ℕ) (d : Row) → IsPlace rows k n → n < length rows → is_key (get_or rows n d) k ≡ true → kept rows k ≡ Some (get_or rows n d).least
kept_at rows k n d place inside here = kept_past rows k n d inside (λ i h. not_key_below (get_or rows i d) k (place.below i d h)) here

pub kept_apart : (rows : List Row) (k : Key) (n : ℕ) (d : Row) → Ascend rows → IsPlace rows k n → n < length rows → is_key (get_or rows n d) k ≡ false → kept rows k ≡ None
kept_apart rows k n d ascend place inside other =
    kept_none rows k d (λ i within.
    elim (cases_lt i n) [
      | inl before ↦ not_key_below (get_or rows i d) k (place.below i d before)
      | inr from ↦ elim (cases_eq i n) [
        | inl same ↦ subst (λ j. is_key (get_or rows j d) k ≡ false) (sym same) other
        | inr later ↦ later_not_key (get_or rows n d) (get_or rows i d) k (place.from n d (omega arith) inside) other (ascend n i d d (omega arith) within)
      ]
    ])

pub kept_past_all : (rows : List Row) (k : Key) (n : ℕ) (d : Row) → IsPlace rows k n → length rows ≤ n → kept rows k ≡ None
kept_past_all rows k n d place past = kept_none rows k d (λ i within. not_key_below (get_or rows i d) k (place.below i d (omega arith)))

-- the row at a key's place, where it is the key's, and where it isn't
pub place_kept : (rows : List Row) (k : Key) (n : ℕ) (row : Row) → IsPlace rows k n → true ≡ ltb n (length rows) → row ≡ get_or rows n row → is_key row k ≡ true → Some row.least ≡ kept rows k
place_kept rows k n row place inside at here =
    let within : n < length rows = ltb-true n (length rows) (sym inside) in
    ap (λ (r : Row). Some r.least) at ∙ sym (kept_at rows k n row place within (subst (λ (r : Row). is_key r k ≡ true) at here))

pub place_other : (rows : List Row) (k : Key) (n : ℕ) (row : Row) → Ascend rows → IsPlace rows k n → true ≡ ltb n (length rows) → row ≡ get_or rows n row → is_key row k ≡ false → None ≡ kept rows k
place_other rows k n row ascend place inside at other =
    let within : n < length rows = ltb-true n (length rows) (sym inside) in
    sym (kept_apart rows k n row ascend place within (subst (λ (r : Row). is_key r k ≡ false) at other))

pub place_past : (rows : List Row) (k : Key) (n : ℕ) → IsPlace rows k n → false ≡ ltb n (length rows) → None ≡ kept rows k
place_past rows k n place past =
    let none : Row = record { node = 0; bound = 0; cap = 0; least = 0 } in sym (kept_past_all rows k n none place (ltb-false n (length rows) (sym past)))

pub place_small : (rows : List Row) (n : ℕ) (row : Row) → All IsInRange rows → true ≡ ltb n (length rows) → row ≡ get_or rows n row → (1 ≤ row.least) × (row.least ≤ 513)
place_small rows n row range inside at =
    let here : IsInRange (get_or rows n row) = range n row (ltb-true n (length rows) (sym inside)) in
    subst (λ (r : Row). (1 ≤ r.least) × (r.least ≤ 513)) (sym at) (here.some_least, here.least)
