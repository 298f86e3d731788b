-- Numbers in decimal are lawful.
use Rattle.std.proofs.Common.{◌≡◌, ℕ, ◌+◌, ◌*◌, ◌/◌, ◌%◌, ◌^◌, ◌<◌, ◌≤◌, Bool, true, false, not, cond, ltb, eqb, ◌&&◌, List, [], ◌∷◌, ◌++◌, length, take, drop, get_or, Option, Some, None, Result, Ok, Err, refl, sym, ap, subst, ◌∙◌, append_assoc, arith, rules, one-add, lit<, lit≤, ◌==◌, ◌||◌, position, unwrap_or, inl, inr}
use Rattle.std.specs.Char.{is_ascii_digit, digit_value}
use Rattle.std.specs.Str.{bytes_eq, IsUtf8}
use Rattle.std.specs.List.{list_all}
use Rattle.std.specs.Fmt.{decimal}
use Rattle.std.specs.Str.Parse.{AllDigits, digits_value, digits_value_after, ParsesUnsigned}
use Rattle.std.proofs.Math.Dec.{eqb-suc-zero}
use Rattle.std.proofs.lemmas.Bool.{eq-eqb, ltb-true, lt-ltb, le-ltb, ne_eqb, cases_lt, cases_eq}
use Rattle.std.proofs.lemmas.Fmt.{IsAscii-from_digits, decimal_is_IsNumeral_wide, decimal_step_wide, decimal_by_steps_wide, decimal_digit, decimal_nonempty}
use Rattle.std.proofs.lemmas.List.{take_at, drop_at, take-append-drop, length-append, append-nil}
use Rattle.std.proofs.Math.ListN.{get_or-append}
use Rattle.std.proofs.lemmas.List.Sums.{prefix_len-le-length}
use Rattle.std.proofs.lemmas.Slice.Eq.{bytes_eq-Decides}
use Rattle.std.proofs.lemmas.Str.{IsUtf8-from_ascii, digit_value_digit}
use Rattle.std.proofs.lemmas.Str.Parse.{IsDigitsTest, IsNumeralModel, numerals_by_value, parse_digits, digit_from_value}
use Rattle.p3l_format.specs.declared.fault.Cause.TheVariants.{Range}
use Rattle.p3l_format.specs.Format.{Format, fault_at, within, tested}
use Rattle.p3l_format.specs.Numbers.{is_in}
use Rattle.p3l_format.specs.Lawful.{IsLawful, IsLawfulBefore}
use Rattle.p3l_format.specs.Decimal.{is_no_digit, digit_len, is_plain, number_of, found, number_text, number_in, number_then}
use Rattle.p3l_format.specs.laws.Parts.{bind_ok, ok_is, some_is, chosen_ok, chosen_some, both_true, first_true, second_true}
use Rattle.p3l_format.specs.laws.Formats.{Taken}
use Rattle.p3l_format.specs.laws.Text.{lawful_before_from, taken_before, lawful_then_text}

-- ---- digits without a leading zero are what their value writes

pub first_above_zero : (n : ℕ) → 0 < n → n < 10 ^ 64 → 48 < get_or (decimal n) 0 0
first_above_zero n some small =
    (decimal_by_steps_wide (λ m ds. (0 < length ds) × (0 < m → 48 < get_or ds 0 0)) (λ m l. (omega arith, λ a. omega arith))
    (λ m ds l h. (omega (arith, length-append ds ((48 + m % 10) ∷ [])), λ a. omega (arith, get_or-append ds ((48 + m % 10) ∷ []) 0 0 h.0, h.1 (omega arith)))) n small).1 some

le_value_after : (n : ℕ) (ds : List ℕ) → n ≤ digits_value_after 10 n ds
le_value_after n [] = omega arith
le_value_after n (c ∷ cs) = omega (arith, le_value_after (n * 10 + digit_value c) cs)

decimal_after : (n : ℕ) (ds : List ℕ) → 0 < n → AllDigits 10 ds → digits_value_after 10 n ds < 10 ^ 64 → decimal (digits_value_after 10 n ds) ≡ decimal n ++ ds
decimal_after n [] some d small = sym (append-nil (decimal n))
decimal_after n (c ∷ cs) some d small =
    let m : ℕ = n * 10 + digit_value c in
    let k = digit_value_digit c (digit_from_value c d.0) in
    let front : m / 10 ≡ n = omega (arith, d.0) in
    let end : 48 + m % 10 ≡ c = omega (arith, d.0) in
    decimal_after m cs (omega arith) d.1 small
    ∙ ap (λ x. x ++ cs) (decimal_step_wide m (omega arith) (omega (arith, le_value_after m cs)) ∙ (λ i. decimal (front i) ++ (end i ∷ [])))
    ∙ append_assoc (decimal n) (c ∷ []) cs

pub decimal_of_value : (ds : List ℕ) → AllDigits 10 ds → 0 < length ds → (get_or ds 0 0 ≡ 48 → length ds ≡ 1) → digits_value 10 ds < 10 ^ 64 → decimal (digits_value 10 ds) ≡ ds
decimal_of_value [] d some lead small = absurd (omega arith)
decimal_of_value (c ∷ []) d some lead small =
    let k = digit_value_digit c (digit_from_value c d.0) in
    decimal_digit (0 * 10 + digit_value c) (omega (arith, d.0)) ∙ ap (λ x. x ∷ []) (omega arith)
decimal_of_value (c ∷ e ∷ cs) d some lead small =
    let k = digit_value_digit c (digit_from_value c d.0) in
    let no : c ≡ 48 → ⊥ = λ z. omega (arith, lead z) in
    let is : 48 + (0 * 10 + digit_value c) ≡ c = omega arith in
    decimal_after (0 * 10 + digit_value c) (e ∷ cs) (omega arith) d.1 small
    ∙ ap (λ x. x ++ (e ∷ cs)) (decimal_digit (0 * 10 + digit_value c) (omega (arith, d.0)) ∙ ap (λ x. x ∷ []) is)

-- ---- numbers

-- no digit comes first
abbrev pub no_digit_first : List ℕ → Bool
no_digit_first [] = true
no_digit_first (b ∷ s) = is_no_digit b

tells_digits : IsDigitsTest (λ ds. list_all is_ascii_digit ds ≡ true)
tells_digits = search rules

own : IsNumeralModel (λ ds. list_all is_ascii_digit ds ≡ true) (digits_value 10)
own = numerals_by_value _ tells_digits

not_not : (b : Bool) → not (not b) ≡ b
not_not true = refl
not_not false = refl

digit_len_at : (ds rest : List ℕ) → list_all is_ascii_digit ds ≡ true → no_digit_first rest ≡ true → digit_len (ds ++ rest) ≡ length ds
digit_len_at [] [] all none = refl
digit_len_at [] (b ∷ rest) all none = rw none refl
digit_len_at (d ∷ ds) rest all none =
    rw (not_not (is_ascii_digit d), first_true (is_ascii_digit d) (list_all is_ascii_digit ds) all, digit_len_at ds rest (second_true (is_ascii_digit d) _ all) none) (omega arith)

number_is : (limit n : ℕ) → n < 10 ^ 64 → ltb n limit ≡ true → number_of limit (decimal n) ≡ Some n
number_is limit n small below =
    let value : digits_value 10 (decimal n) ≡ n = (decimal_is_IsNumeral_wide n small).1 in
    let same : bytes_eq (decimal n) (decimal n) ≡ true = (bytes_eq-Decides (decimal n) (decimal n)).1 refl in
    rw (value, same, below) refl

number_text_again : (limit : ℕ) → limit ≤ 10 ^ 64 → (n : ℕ) (rest : List ℕ) → (number_text limit).fits n ≡ true → no_digit_first rest ≡ true → (number_text limit).read ((number_text limit).spell n ++ rest) ≡ Ok (n, rest)
unfolding number_text
number_text_again limit most n rest fits none =
    let below = ltb-true n limit fits in
    let small : n < 10 ^ 64 = omega arith in
    let len = digit_len_at (decimal n) rest (own.from (decimal n) (decimal_is_IsNumeral_wide n small).0.1) none in
    rw (len, take_at (decimal n) rest (length (decimal n)) refl, drop_at (decimal n) rest (length (decimal n)) refl, number_is limit n small fits) refl

found_ok : {A : Type 0} (o : Option A) (s rest : List ℕ) (x : A × List ℕ) → found o s rest ≡ Ok x → (o ≡ Some x.0) × (rest ≡ x.1)
found_ok None s rest x e = absurd cc
found_ok (Some v) s rest x e = let same = ok_is (v, rest) x e in (ap (λ y. Some y.0) same, ap (λ y. y.1) same)

number_text_takes : (limit : ℕ) (s : List ℕ) (x : ℕ × List ℕ) → (number_text limit).read s ≡ Ok x → Taken (number_text limit) s x
unfolding number_text
number_text_takes limit s x e =
    let ds = take (digit_len s) s in
    let f = found_ok (number_of limit ds) s (drop (digit_len s) s) x e in
    let c = chosen_some (bytes_eq (decimal (digits_value 10 ds)) ds && ltb (digits_value 10 ds) limit) (Some (digits_value 10 ds)) x.0 f.0 in
    let value : digits_value 10 ds ≡ x.0 = some_is _ _ c.1 in
    let same : decimal (digits_value 10 ds) ≡ ds = (bytes_eq-Decides (decimal (digits_value 10 ds)) ds).0 (first_true (bytes_eq (decimal (digits_value 10 ds)) ds) _ c.0) in
    record {
      fits = subst (λ (n : ℕ). ltb n limit ≡ true) value (second_true (bytes_eq (decimal (digits_value 10 ds)) ds) _ c.0);
      is = sym (take-append-drop (digit_len s) s) ∙ ap (λ (r : List ℕ). ds ++ r) f.1 ∙ ap (λ (d : List ℕ). d ++ x.1) (sym same ∙ ap decimal value);
    }

pub number_text_before : (limit : ℕ) → limit ≤ 10 ^ 64 → IsLawfulBefore no_digit_first (number_text limit)
number_text_before limit most = lawful_before_from no_digit_first (number_text limit) (number_text_again limit most) (number_text_takes limit)

pub digits_front : (s : List ℕ) → list_all is_ascii_digit (take (digit_len s) s) ≡ true
digits_front [] = refl
digits_front (b ∷ s) =
    elim (is_ascii_digit b) as (λ c. is_ascii_digit b ≡ c → list_all is_ascii_digit (take (digit_len (b ∷ s)) (b ∷ s)) ≡ true) [
      | true ↦ λ e. rw (not_not (is_ascii_digit b), e, one-add (digit_len s)) (both_true (is_ascii_digit b) (list_all is_ascii_digit (take (digit_len s) s)) e (digits_front s))
      | false ↦ λ e. rw (not_not (is_ascii_digit b), e) refl
    ] refl

none_unless : {A : Type 0} (b : Bool) (v : A) → (b ≡ true → ⊥) → cond b (Some v) None ≡ None
none_unless true v never = absurd (never refl)
none_unless false v never = refl

-- digits that pass the test are those of a number below 2 ^ 128
reported : (ds : List ℕ) → (bytes_eq (decimal (digits_value 10 ds)) ds && ltb (digits_value 10 ds) (2 ^ 128)) ≡ true → (decimal (digits_value 10 ds) ≡ ds) × (digits_value 10 ds < 2 ^ 128)
reported ds e = (
  (bytes_eq-Decides (decimal (digits_value 10 ds)) ds).0 (first_true (bytes_eq (decimal (digits_value 10 ds)) ds) _ e),
  ltb-true (digits_value 10 ds) (2 ^ 128) (second_true (bytes_eq (decimal (digits_value 10 ds)) ds) _ e),
)

-- digits without a leading zero that a parse takes
pub number_parsed : {E : Type 0} (ds : List ℕ) (r : Result ℕ E) (n : ℕ) → r ≡ Ok n → list_all is_ascii_digit ds ≡ true → 0 < length ds → (get_or ds 0 0 ≡ 48 → length ds ≡ 1) → ParsesUnsigned 128 10 ds r → number_of (2 ^ 128) ds ≡ Some n
number_parsed {E = E} ds r n is digits some lead parses =
    let g : ((0 < length ds) × (digits_value 10 ds < 2 ^ 128)) × (n ≡ digits_value 10 ds) = parse_digits own {E = E} 128 ds (Ok n) (subst (λ (q : Result ℕ E). ParsesUnsigned 128 10 ds q) is parses) digits in
    let back = decimal_of_value ds (own.to ds digits) some lead (omega (arith, g.0.1)) in
    rw ((bytes_eq-Decides (decimal (digits_value 10 ds)) ds).1 back, lt-ltb (digits_value 10 ds) (2 ^ 128) g.0.1) (ap (λ (k : ℕ). Some k) (sym g.1))

pub number_refused : {E : Type 0} (ds : List ℕ) (e : E) → list_all is_ascii_digit ds ≡ true → 0 < length ds → ParsesUnsigned 128 10 ds (Err e) → number_of (2 ^ 128) ds ≡ None
number_refused ds e digits some parses =
    none_unless _ (digits_value 10 ds) (λ all. parse_digits own 128 ds (Err e) parses digits (some, (reported ds all).1))

no_zero_first : (d e : ℕ) (ds : List ℕ) → (length (e ∷ ds) == 0 || not (d == 48)) ≡ false → d ≡ 48
no_zero_first d e ds fails =
    elim (cases_eq d 48) [
      | inl same ↦ same
      | inr other ↦
          let no : eqb d 48 ≡ false = ne_eqb d 48 other in
          let yes : (length (e ∷ ds) == 0 || not (d == 48)) ≡ true = rw (eqb-suc-zero (length ds), no) refl in
          absurd cc
    ]

pub number_not_plain : (ds : List ℕ) → is_plain ds ≡ false → number_of (2 ^ 128) ds ≡ None
number_not_plain [] fails = none_unless _ 0 (λ all. let t : decimal 0 ≡ [] = (reported [] all).0 in let len : length (decimal 0) ≡ 0 = ap length t in let some = decimal_nonempty 0 (lit< tt) in omega arith)
number_not_plain (d ∷ []) fails = absurd cc
number_not_plain (d ∷ e ∷ ds) fails =
    let all_ds : List ℕ = d ∷ e ∷ ds in
    let lead : d ≡ 48 = no_zero_first d e ds fails in
    none_unless _ (digits_value 10 all_ds) (λ all.
    let t = reported all_ds all in
    elim (cases_lt (digits_value 10 all_ds) 10) [
      | inl small ↦
          let one : all_ds ≡ (48 + digits_value 10 all_ds) ∷ [] = sym t.0 ∙ decimal_digit (digits_value 10 all_ds) small in
          let len : length all_ds ≡ 1 = ap length one in
          omega arith
      | inr big ↦
          let some : 0 < digits_value 10 all_ds = omega arith in
          let first : 48 < get_or all_ds 0 0 = subst (λ (w : List ℕ). 48 < get_or w 0 0) t.0 (first_above_zero (digits_value 10 all_ds) some (omega (arith, t.1))) in
          omega arith
    ])

pub plain_says : (ds : List ℕ) → is_plain ds ≡ true → (0 < length ds) × (get_or ds 0 0 ≡ 48 → length ds ≡ 1)
plain_says [] plain = absurd cc
plain_says (d ∷ []) plain = (omega arith, λ e. refl)
plain_says (d ∷ e ∷ ds) plain = (
  omega arith,
  λ lead.
      let yes : eqb d 48 ≡ true = eq-eqb d 48 lead in
      let no : (length (e ∷ ds) == 0 || not (d == 48)) ≡ false = rw (eqb-suc-zero (length ds), yes) refl in
      absurd cc,
)

pub IsUtf8-digits : (ds : List ℕ) → list_all is_ascii_digit ds ≡ true → IsUtf8 ds
IsUtf8-digits ds digits = IsUtf8-from_ascii ds (IsAscii-from_digits ds (own.to ds digits))

digit_len-le : (s : List ℕ) → digit_len s ≤ length s
digit_len-le s = prefix_len-le-length (λ b. not (is_no_digit b)) s

pub digits_by_position : (s : List ℕ) (len : ℕ) → len ≡ unwrap_or (position is_no_digit s) (length s) → (len ≡ digit_len s) × (len ≤ length s)
digits_by_position s len e =
    let within = digit_len-le s in
    elim (cases_lt (digit_len s) (length s)) [
      | inl lt ↦
          let is : len ≡ digit_len s = e ∙ rw (lt-ltb (digit_len s) (length s) lt) refl in
          (is, omega arith)
      | inr le ↦
          let is : len ≡ length s = e ∙ rw (le-ltb (digit_len s) (length s) le) refl in
          (omega arith, omega arith)
    ]

-- ---- numbers and what follows

within_before_again : {A : Type 0} (fine : List ℕ → Bool) (test : A → Bool) (inner : Format ℕ A) → IsLawfulBefore fine inner → (v : A) (rest : List ℕ) → (within test inner).fits v ≡ true → fine rest ≡ true → (within test inner).read ((within test inner).spell v ++ rest) ≡ Ok (v, rest)
unfolding within
within_before_again fine test inner law v rest fits ok = rw (law.again v rest (first_true _ _ fits) ok, second_true (inner.fits v) (test v) fits) refl

within_before_takes : {A : Type 0} (fine : List ℕ → Bool) (test : A → Bool) (inner : Format ℕ A) → IsLawfulBefore fine inner → (s : List ℕ) (x : A × List ℕ) → (within test inner).read s ≡ Ok x → Taken (within test inner) s x
unfolding within
within_before_takes fine test inner law s x e =
    let a = bind_ok (inner.read s) (tested test s) x e in
    let b = chosen_ok (test a.0.0) (Ok a.0) (fault_at Range s) x a.2 in
    let t = taken_before fine inner law s a.0 a.1 in
    subst (λ y. Taken (within test inner) s y) (ok_is a.0 x b.1) (record { fits = both_true _ _ t.fits b.0; is = t.is })

pub within_before : {A : Type 0} (fine : List ℕ → Bool) (test : A → Bool) (inner : Format ℕ A) → IsLawfulBefore fine inner → IsLawfulBefore fine (within test inner)
within_before fine test inner law = lawful_before_from fine (within test inner) (within_before_again fine test inner law) (within_before_takes fine test inner law)

pub number_in_before : (low high : ℕ) → IsLawfulBefore no_digit_first (number_in low high)
number_in_before low high = within_before no_digit_first (is_in low high) (number_text (2 ^ 128)) (number_text_before (2 ^ 128) (lit≤ tt))

pub lawful_number_then : (low high : ℕ) (text : List ℕ) → ((rest : List ℕ) → no_digit_first (text ++ rest) ≡ true) → IsLawful (number_then low high text)
unfolding number_then
lawful_number_then low high text ok = lawful_then_text no_digit_first (number_in low high) text ok (number_in_before low high)
