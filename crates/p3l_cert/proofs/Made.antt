-- Rows made of sorted keys.
use Rattle.std.proofs.Common.{◌≡◌, ℕ, zero, suc, ◌+◌, ◌-◌, ◌*◌, ◌<◌, ◌≤◌, Bool, true, false, List, [], ◌∷◌, ◌++◌, Some, get_or, length, refl, sym, ap, ◌∙◌, subst, arith, inl, inr}
use Rattle.std.specs.List.{All, Contains}
use Rattle.std.proofs.Math.Nat.{mul-le-mul_left}
use Rattle.std.proofs.lemmas.Bool.{cases_lt, cases_Bool, eq-eqb, ne_eqb, cond-true, cond-false}
use Rattle.std.proofs.lemmas.Bool.Decides.{nat_tests}
use Rattle.std.proofs.lemmas.List.{get_or_append_left, get_or_push, length-append}
use Rattle.std.proofs.lemmas.List.Elements.{All-push, Contains-get_or}
use Rattle.p3l_cert.specs.declared.cert.Key.{Key}
use Rattle.p3l_cert.specs.declared.cert.Row.{Row}
use Rattle.p3l_cert.specs.Fill.{is_next, with_key, Has, AreRowsOf}
use Rattle.p3l_cert.specs.Keys.{IsSmall, AreSorted}
use Rattle.p3l_cert.specs.Order.{are_before, comes_before, is_below, key_before}
use Rattle.p3l_cert.specs.Rows.{IsInRange, Ascend, AreRows}
use Rattle.p3l_cert.specs.Rule.{key, key_of, is_key, kept}
use Rattle.p3l_cert.proofs.Lookup.{any_default}
use Rattle.p3l_cert.proofs.Order.{before_chain}

-- ---- a row more

kept_left : (rows more : List Row) (k : Key) (v : ℕ) → kept rows k ≡ Some v → kept (rows ++ more) k ≡ Some v
unfolding kept
kept_left [] more k v e = absurd cc
kept_left (row ∷ rows) more k v e =
    elim (cases_Bool (is_key row k)) [
      | inl here ↦ rw here (rw here at e)
      | inr other ↦ rw other (kept_left rows more k v (rw other at e))
    ]

has_left : (rows more : List Row) (k : Key) → Has rows k → Has (rows ++ more) k
has_left rows more k has = (has.0, kept_left rows more k has.0 has.1)

has_last : (rows : List Row) (row : Row) → Has (rows ++ row ∷ []) (key_of row)
unfolding kept
has_last [] row = (row.least, rw (eq-eqb row.node row.node refl, eq-eqb row.bound row.bound refl, eq-eqb row.cap row.cap refl) refl)
has_last (first ∷ rows) row =
    elim (cases_Bool (is_key first (key_of row))) [
      | inl here ↦ (first.least, rw here refl)
      | inr other ↦ let p = has_last rows row in (p.0, rw other p.1)
    ]

ascend_more : (rows : List Row) (row : Row) → Ascend rows → ((d : Row) → 0 < length rows → comes_before (get_or rows (length rows - 1) d) row ≡ true) → Ascend (rows ++ row ∷ [])
ascend_more rows row ascend last i j d e less inside =
    let size = length-append rows (row ∷ []) in
    let front : get_or (rows ++ row ∷ []) i d ≡ get_or rows i d = get_or_append_left rows (row ∷ []) d i (omega (arith, size)) in
    elim (cases_lt j (length rows)) [
      | inl old ↦
          let back : get_or (rows ++ row ∷ []) j e ≡ get_or rows j e = get_or_append_left rows (row ∷ []) e j old in
          rw (front, back) (ascend i j d e less old)
      | inr new ↦
          let at : j ≡ length rows = omega (arith, size) in
          let back : get_or (rows ++ row ∷ []) j e ≡ row = get_or_push rows row e j (sym at) in
          let first = get_or rows i d in
          let middle = get_or rows (length rows - 1) d in
          let some : 0 < length rows = omega arith in
          rw (front, back) (elim (cases_lt i (length rows - 1)) [
            | inl before ↦ before_chain first.node first.bound first.cap middle.node middle.bound middle.cap row.node row.bound row.cap (ascend i (length rows - 1) d d before (omega arith)) (last d some)
            | inr from ↦ let same : length rows - 1 ≡ i = omega arith in subst (λ n. comes_before (get_or rows n d) row ≡ true) same (last d some)
          ])
    ]

-- ---- keys that neither comes before

same_first : (a b c x y z : ℕ) → are_before a b c x y z ≡ false → are_before x y z a b c ≡ false → a ≡ x
same_first a b c x y z one two = grind (arith, nat_tests)

same_second : (a b c x y z : ℕ) → are_before a b c x y z ≡ false → are_before x y z a b c ≡ false → b ≡ y
same_second a b c x y z one two = grind (arith, nat_tests)

same_third : (a b c x y z : ℕ) → are_before a b c x y z ≡ false → are_before x y z a b c ≡ false → c ≡ z
same_third a b c x y z one two = grind (arith, nat_tests)

same_numbers : (a b c x y z : ℕ) → are_before a b c x y z ≡ false → are_before x y z a b c ≡ false → (a ≡ x) × (b ≡ y) × (c ≡ z)
same_numbers a b c x y z one two = (same_first a b c x y z one two, same_second a b c x y z one two, same_third a b c x y z one two)

same_key : (j k : Key) → key_before j k ≡ false → key_before k j ≡ false → j ≡ k
same_key j k one two =
    let p = same_numbers j.node j.bound j.cap k.node k.bound k.cap one two in λ i. key (p.0 i) (p.1 i) (p.2 i)

-- ---- some of the keys

-- rows of the first i keys
pub record IsMade (keys : List Key) (i : ℕ) (rows : List Row) : Type 0 where
  pub ordered : AreRows rows
  pub all : (j : ℕ) (d : Key) → j < i → Has rows (get_or keys j d)
  pub only : All (λ row. Contains keys (key_of row)) rows
  pub none : i ≡ 0 → length rows ≡ 0
  pub last : 0 < i → (0 < length rows) × ((d : Row) (e : Key) → key_of (get_or rows (length rows - 1) d) ≡ get_or keys (i - 1) e)

any_key : (keys : List Key) (i : ℕ) (d e : Key) → i < length keys → get_or keys i d ≡ get_or keys i e
any_key [] i d e h = absurd (omega arith)
any_key (x ∷ xs) zero d e h = refl
any_key (x ∷ xs) (suc i) d e h = any_key xs i d e (omega arith)

small_range : (k : Key) → IsSmall k → IsInRange (record { node = k.node; bound = k.bound; cap = k.cap; least = 1 })
small_range k small =
    let some = small.some_cap in
    let few = small.cap in
    let product = small.bound in
    let once : k.bound * 1 ≤ k.bound * k.cap = mul-le-mul_left k.bound some in
    record { bound = omega (arith, once, product); some_cap = some; cap = few; some_least = omega arith; least = omega arith }

pub made_none : (keys : List Key) (rows : List Row) → rows ≡ [] → IsMade keys 0 rows
made_none keys rows e = rw e (record {
  ordered = record { range = λ i d inside. absurd (omega arith); ascend = λ i j d f less inside. absurd (omega arith) };
  all = λ j d less. absurd (omega arith);
  only = λ i d inside. absurd (omega arith);
  none = λ z. refl;
  last = λ some. absurd (omega arith);
})

module _ (keys : List Key) (i : ℕ) (rows after : List Row) (k d : Key) (inside : i < length keys) (at : k ≡ get_or keys i d) (made : IsMade keys i rows) where
  same_default : (e : Key) → get_or keys i e ≡ k
  same_default e = any_key keys i e d inside ∙ sym at

  pub made_more : IsSmall k → (next : Bool) → next ≡ true → ((e : Row) → 0 < length rows → next ≡ is_below (get_or rows (length rows - 1) e) k) → after ≡ rows ++ record { node = k.node; bound = k.bound; cap = k.cap; least = 1 } ∷ [] → IsMade keys (i + 1) after
  made_more small next holds test is =
      let row : Row = record { node = k.node; bound = k.bound; cap = k.cap; least = 1 } in
      let size = length-append rows (row ∷ []) in
      rw is (record {
        ordered = record {
          range = All-push IsInRange rows row made.ordered.range (small_range k small);
          ascend = ascend_more rows row made.ordered.ascend (λ e some. sym (test e some) ∙ holds);
        };
        all = λ j e less. elim (cases_lt j i) [
          | inl old ↦ has_left rows (row ∷ []) (get_or keys j e) (made.all j e old)
          | inr new ↦ let same : i ≡ j = omega arith in
              subst (λ n. Has (rows ++ row ∷ []) (get_or keys n e)) same (subst (Has (rows ++ row ∷ [])) (sym (same_default e)) (has_last rows row))
        ];
        only = All-push (λ r. Contains keys (key_of r)) rows row made.only (subst (Contains keys) (same_default d) (Contains-get_or keys i d inside));
        none = λ z. absurd (omega arith);
        last = λ some. (
          omega (arith, size),
          λ e f.
              let end : length (rows ++ row ∷ []) - 1 ≡ length rows = omega (arith, size) in
              let past : (i + 1) - 1 ≡ i = omega arith in
              ap key_of (ap (λ n. get_or (rows ++ row ∷ []) n e) end ∙ get_or_push rows row e (length rows) refl) ∙ sym (ap (λ n. get_or keys n f) past ∙ same_default f),
        );
      })

  pub made_same : AreSorted keys → (next : Bool) → next ≡ false → (length rows ≡ 0 → next ≡ true) → ((e : Row) → 0 < length rows → next ≡ is_below (get_or rows (length rows - 1) e) k) → IsMade keys (i + 1) rows
  made_same sorted next fails first test =
      elim (cases_lt 0 i) [
        | inl some ↦
            let last = made.last some in
            let row : Row = get_or rows (length rows - 1) (record { node = 0; bound = 0; cap = 0; least = 0 }) in
            let before : Key = get_or keys (i - 1) d in
            let is : key_of row ≡ before = last.1 (record { node = 0; bound = 0; cap = 0; least = 0 }) d in
            let up : is_below row k ≡ false = sym (test (record { node = 0; bound = 0; cap = 0; least = 0 }) last.0) ∙ fails in
            let upward : key_before before k ≡ false = subst (λ (j : Key). key_before j k ≡ false) is up in
            let place : (i - 1) + 1 ≡ i = omega arith in
            let down : key_before k before ≡ false = subst (λ (j : Key). key_before j before ≡ false) (sym at) (subst (λ n. key_before (get_or keys n d) before ≡ false) place (sorted (i - 1) d (omega arith))) in
            let same : before ≡ k = same_key before k upward down in
            record {
              ordered = made.ordered;
              all = λ j e less. elim (cases_lt j i) [
                | inl old ↦ made.all j e old
                | inr new ↦ let here : i ≡ j = omega arith in
                    subst (λ n. Has rows (get_or keys n e)) here (subst (Has rows) (same ∙ sym (same_default e)) (made.all (i - 1) d (omega arith)))
              ];
              only = made.only;
              none = λ z. absurd (omega arith);
              last = λ _. (
                last.0,
                λ e f.
                    let past : (i + 1) - 1 ≡ i = omega arith in
                    last.1 e d ∙ same ∙ sym (ap (λ n. get_or keys n f) past ∙ same_default f),
              );
            }
        | inr start ↦ let both : true ≡ false = sym (first (made.none (omega arith))) ∙ fails in absurd cc
      ]

-- one key more
pub made_step : (keys : List Key) (i : ℕ) (rows after : List Row) (k d : Key) → i < length keys → k ≡ get_or keys i d → IsMade keys i rows → IsSmall k → AreSorted keys → after ≡ with_key rows k → IsMade keys (i + 1) after
made_step keys i rows after k d inside at made small sorted is =
    let first : length rows ≡ 0 → is_next rows k ≡ true = λ none. rw (eq-eqb (length rows) 0 none) refl in
    let test : (e : Row) → 0 < length rows → is_next rows k ≡ is_below (get_or rows (length rows - 1) e) k =
    λ e some. rw (ne_eqb (length rows) 0 (λ z. omega (arith, z, some))) (ap (λ (r : Row). is_below r k) (any_default rows (length rows - 1) (record { node = 0; bound = 0; cap = 0; least = 0 }) e (omega arith))) in
    elim (cases_Bool (is_next rows k)) [
      | inl holds ↦ made_more keys i rows after k d inside at made small (is_next rows k) holds test (is ∙ cond-true (is_next rows k) (rows ++ record { node = k.node; bound = k.bound; cap = k.cap; least = 1 } ∷ []) rows holds)
      | inr fails ↦
          let same : after ≡ rows = is ∙ cond-false (is_next rows k) (rows ++ record { node = k.node; bound = k.bound; cap = k.cap; least = 1 } ∷ []) rows fails in
          subst (IsMade keys (i + 1)) (sym same) (made_same keys i rows after k d inside at made sorted (is_next rows k) fails first test)
    ]

pub made_all : (keys : List Key) (i : ℕ) (rows : List Row) → length keys ≤ i → IsMade keys i rows → AreRowsOf keys rows
made_all keys i rows past made = record { ordered = made.ordered; all = λ j d inside. made.all j d (omega arith); only = made.only }
