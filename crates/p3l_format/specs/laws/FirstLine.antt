-- The first line of a text that isn't of its form.
use Rattle.std.proofs.Common.{◌≡◌, ℕ, zero, suc, ◌+◌, ◌-◌, ◌^◌, ◌<◌, ◌≤◌, ◌⊎◌, inl, inr, Bool, true, false, cond, eqb, List, [], ◌∷◌, ◌++◌, length, take, drop, Option, Some, None, Result, Ok, Err, refl, sym, ap, subst, ◌∙◌, append_assoc, arith}
use Rattle.std.proofs.lemmas.Bool.{cases_eq, ne_eqb, ltb-true, lt-ltb, le-leb}
use Rattle.std.proofs.lemmas.List.{length-append, append-nil, append_cancel_left, take_at}
use Rattle.std.proofs.lemmas.List.Sums.{sum_by-append}
use Rattle.std.proofs.lemmas.Fmt.{decimal_is_IsNumeral_wide}
use Rattle.std.proofs.lemmas.Str.Parse.{digit_from_value}
use Rattle.std.specs.Str.Parse.{AllDigits}
use Rattle.std.specs.Fmt.{decimal}
use Rattle.p3l_format.specs.Decimal.{digit_len, number_of, found, number_text, number_in, number_then}
use Rattle.p3l_format.specs.Numbers.{is_in}
use Rattle.p3l_format.specs.laws.Line.{lawful_line}
use Rattle.p3l_format.specs.laws.Decimal.{lawful_number_then, no_digit_first, number_in_before}
use Rattle.p3l_format.specs.declared.fault.FieldFault.{FieldFault}
use Rattle.p3l_format.specs.declared.fault.Cause.TheVariants.{Range, More}
use Rattle.p3l_format.specs.Format.{Format, fault_at, ◌>>=◌, both, pair, within, as_form, record_of, read_all, ended, tested}
use Rattle.p3l_format.specs.Lawful.{IsLawful}
use Rattle.p3l_format.specs.Text.{after_text, go_on, text_then, then_text}
use Rattle.p3l_format.specs.Line.{at_line, line, line_number, number_line}
use Rattle.p3l_format.specs.Series.{fits_from, spell_from, ended_or, read_from, until}
use Rattle.p3l_format.specs.FirstLine.{feeds, IsWhole, BeginAlike, Begins, IsFirstBadLine}
use Rattle.p3l_format.specs.laws.Parts.{ok_is, both_true, first_true, second_true}
use Rattle.p3l_format.specs.laws.Formats.{taken, lawful_both, lawful_record, one_spelling}
use Rattle.p3l_format.specs.laws.Text.{after_again, after_is, taken_before, lawful_text_then}

-- ---- line feeds

pub feeds-append : (s t : List ℕ) → feeds (s ++ t) ≡ feeds s + feeds t
feeds-append s t = sum_by-append (λ b. cond (eqb b 10) 1 0) s t

some_feed : (b : ℕ) (s : List ℕ) → b ≡ 10 → feeds (b ∷ s) ≡ 0 → ⊥
some_feed b s is none =
    let one : feeds (b ∷ []) ≡ 1 = subst (λ (c : ℕ). feeds (c ∷ []) ≡ 1) (sym is) refl in
    omega (arith, feeds-append (b ∷ []) s)

feeds_after : (b : ℕ) (s : List ℕ) → feeds (b ∷ s) ≡ 0 → feeds s ≡ 0
feeds_after b s none = omega (arith, feeds-append (b ∷ []) s)

-- equal texts have the same first line and the same rest
pub same_line : (a b s t : List ℕ) → feeds a ≡ 0 → feeds b ≡ 0 → a ++ 10 ∷ s ≡ b ++ 10 ∷ t → (a ≡ b) × (s ≡ t)
same_line [] [] s t p q e = (refl, cc)
same_line [] (c ∷ b) s t p q e =
    let is : c ≡ 10 = cc in
    absurd (some_feed c b is q)
same_line (c ∷ a) [] s t p q e =
    let is : c ≡ 10 = cc in
    absurd (some_feed c a is p)
same_line (c ∷ a) (d ∷ b) s t p q e =
    let head : c ≡ d = cc in
    let more : a ++ 10 ∷ s ≡ b ++ 10 ∷ t = cc in
    let h = same_line a b s t (feeds_after c a p) (feeds_after d b q) more in
    let front : a ≡ b = h.0 in
    (cc, h.1)

-- a prefix with no line feed is in the first line
pub in_first_line : (part s l r : List ℕ) → feeds part ≡ 0 → part ++ s ≡ l ++ 10 ∷ r → (m : List ℕ) × (l ≡ part ++ m) × (s ≡ m ++ 10 ∷ r)
in_first_line [] s l r none e = (l, refl, e)
in_first_line (c ∷ part) s [] r none e =
    let is : c ≡ 10 = cc in
    absurd (some_feed c part is none)
in_first_line (c ∷ part) s (d ∷ l) r none e =
    let head : c ≡ d = cc in
    let more : part ++ s ≡ l ++ 10 ∷ r = cc in
    let h = in_first_line part s l r (feeds_after c part none) more in
    let front : l ≡ part ++ h.0 = h.1 in
    (h.0, cc, h.2)

-- a text of one line, ended by a line feed
abbrev pub IsOneLine : List ℕ → Type 0
IsOneLine s = (front : List ℕ) × (feeds front ≡ 0) × (s ≡ front ++ 10 ∷ [])

abbrev pub IsInLine : List ℕ → Type 0
IsInLine s = feeds s ≡ 0

-- a text that begins with the line that the prefix begins also begins with the prefix
abbrev pub IsWithinLine : List ℕ → Type 0
IsWithinLine front = (s t : List ℕ) → BeginAlike (front ++ s) t → (rest : List ℕ) × (t ≡ front ++ rest)

pub line_is_within : (front : List ℕ) → IsOneLine front → IsWithinLine front
line_is_within front line s t alike =
    let is : line.0 ++ 10 ∷ s ≡ alike.first ++ 10 ∷ alike.s_rest =
    sym (append_assoc line.0 (10 ∷ []) s) ∙ ap (λ (a : List ℕ). a ++ s) (sym line.2) ∙ alike.s_is in
    let same = (same_line line.0 alike.first s alike.s_rest line.1 alike.one is).0 in
    (alike.t_rest, alike.t_is ∙ ap (λ (a : List ℕ). a ++ 10 ∷ alike.t_rest) (sym same) ∙ sym (append_assoc line.0 (10 ∷ []) alike.t_rest) ∙ ap (λ (a : List ℕ). a ++ alike.t_rest) (sym line.2))

pub part_is_within : (part : List ℕ) → IsInLine part → IsWithinLine part
part_is_within part none s t alike =
    let h = in_first_line part s alike.first alike.s_rest none alike.s_is in
    (h.0 ++ 10 ∷ alike.t_rest, alike.t_is ∙ ap (λ (a : List ℕ). a ++ 10 ∷ alike.t_rest) h.1 ∙ append_assoc part h.0 (10 ∷ alike.t_rest))

pub whole_line : (s : List ℕ) → IsOneLine s → IsWhole s
whole_line s line = inr (line.0, line.2)

pub whole_append : (s t : List ℕ) → IsWhole s → IsWhole t → IsWhole (s ++ t)
whole_append s t w (inl none) = subst (λ (r : List ℕ). IsWhole (s ++ r)) (sym none) (subst (λ (r : List ℕ). IsWhole r) (sym (append-nil s)) w)
whole_append s t w (inr some) = inr (s ++ some.0, ap (λ (r : List ℕ). s ++ r) some.1 ∙ sym (append_assoc s some.0 (10 ∷ [])))

pub part_then_line : (s t : List ℕ) → IsInLine s → IsOneLine t → IsOneLine (s ++ t)
part_then_line s t none line = (s ++ line.0, feeds-append s line.0 ∙ omega (arith, line.1), ap (λ (r : List ℕ). s ++ r) line.2 ∙ sym (append_assoc s line.0 (10 ∷ [])))

pub part_then_part : (s t : List ℕ) → IsInLine s → IsInLine t → IsInLine (s ++ t)
part_then_part s t first second = feeds-append s t ∙ omega arith

-- ---- what each spelling of a format is

abbrev pub Each : {A : Type 0} → (List ℕ → Type 0) → Format ℕ A → Type 0
Each {A = A} Is format = (v : A) → format.fits v ≡ true → Is (format.spell v)

abbrev pub Join : (List ℕ → Type 0) → (List ℕ → Type 0) → (List ℕ → Type 0) → Type 0
Join First Second Both = (s t : List ℕ) → First s → Second t → Both (s ++ t)

pub each_both : {A B : Type 0} (First Second Both : List ℕ → Type 0) (first : Format ℕ A) (second : Format ℕ B) → Join First Second Both → Each First first → Each Second second → Each Both (both first second)
unfolding pair
each_both First Second Both first second join a b v fits =
    join (first.spell v.0) (second.spell v.1) (a v.0 (first_true (first.fits v.0) (second.fits v.1) fits)) (b v.1 (second_true (first.fits v.0) (second.fits v.1) fits))

pub each_text_then : {A : Type 0} (First Second Both : List ℕ → Type 0) (text : List ℕ) (inner : Format ℕ A) → Join First Second Both → First text → Each Second inner → Each Both (text_then text inner)
unfolding text_then
each_text_then First Second Both text inner join a b v fits = join text (inner.spell v) a (b v fits)

pub each_then_text : {A : Type 0} (First Second Both : List ℕ → Type 0) (inner : Format ℕ A) (text : List ℕ) → Join First Second Both → Each First inner → Second text → Each Both (then_text inner text)
unfolding then_text
each_then_text First Second Both inner text join a b v fits = join (inner.spell v) text (a v fits) b

pub each_within : {A : Type 0} (Is : List ℕ → Type 0) (test : A → Bool) (inner : Format ℕ A) → Each Is inner → Each Is (within test inner)
unfolding within
each_within Is test inner a v fits = a v (first_true (inner.fits v) (test v) fits)

pub each_record : {A B : Type 0} (Is : List ℕ → Type 0) (make : A → B) (parts : B → A) (inner : Format ℕ A) → Each Is inner → Each Is (record_of make parts inner)
unfolding as_form
each_record Is make parts inner a v fits = a (parts v) fits

pub each_line : {A : Type 0} (Is : List ℕ → Type 0) (inner : Format ℕ A) → Each Is inner → Each Is (line inner)
unfolding line
each_line Is inner a v fits = a v fits

pub each_from : {P A : Type 0} (Is : List ℕ → Type 0) (item : P → Format ℕ A) (next : A → P) → Is [] → Join Is Is Is → ((p : P) → Each Is (item p)) → (p : P) (vs : List A) → fits_from item next p vs ≡ true → Is (spell_from item next p vs)
each_from Is item next none join items p [] fits = none
each_from Is item next none join items p (v ∷ vs) fits =
    join ((item p).spell v) (spell_from item next (next v) vs) (items p v (first_true ((item p).fits v) (fits_from item next (next v) vs) fits))
    (each_from Is item next none join items (next v) vs (second_true ((item p).fits v) (fits_from item next (next v) vs) fits))

pub each_until : {P A : Type 0} (Is Stop Both : List ℕ → Type 0) (item : P → Format ℕ A) (next : A → P) (p : P) (stop : List ℕ) → Is [] → Join Is Is Is → Join Is Stop Both
    → ((p : P) → Each Is (item p)) → Stop stop → Each Both (until item next p stop)
unfolding until
each_until Is Stop Both item next p stop none join ends items a vs fits = ends (spell_from item next p vs) stop (each_from Is item next none join items p vs fits) a

no_feed_in : (ds : List ℕ) → AllDigits 10 ds → IsInLine ds
no_feed_in [] d = refl
no_feed_in (c ∷ ds) d =
    let digit = digit_from_value c d.0 in
    let one : feeds (c ∷ []) ≡ 0 = rw (ne_eqb c 10 (λ is. omega arith)) refl in
    feeds-append (c ∷ []) ds ∙ omega (arith, no_feed_in ds d.1)

-- a number is in a line
pub number_in_line : (low high : ℕ) → Each IsInLine (number_in low high)
unfolding within number_text
number_in_line low high n fits =
    let below = ltb-true n (2 ^ 128) (first_true _ _ fits) in
    no_feed_in (decimal n) (decimal_is_IsNumeral_wide n (omega arith)).0.1

pub number_then_line : (low high : ℕ) (text : List ℕ) → IsInLine text → Each IsInLine (number_then low high text)
unfolding number_then
number_then_line low high text none = each_then_text IsInLine IsInLine IsInLine (number_in low high) text part_then_part (number_in_line low high) none

pub number_ends_line : (low high : ℕ) → Each IsOneLine (number_then low high (10 ∷ []))
unfolding number_then
number_ends_line low high = each_then_text IsInLine IsOneLine IsOneLine (number_in low high) (10 ∷ []) part_then_line (number_in_line low high) ([], refl, refl)

-- ---- faults

-- the bytes before the line that has the fault; no spelling has that line there, whatever is after it
pub record IsBadAt {A : Type 0} (format : Format ℕ A) (s : List ℕ) (left : ℕ) : Type 0 where
  pub before : List ℕ
  -- the bytes of the line before the place of the fault
  pub part : List ℕ
  pub place : List ℕ
  pub is : s ≡ before ++ (part ++ place)
  pub left_is : length place ≡ left
  pub inside : IsInLine part
  pub whole : IsWhole before
  pub good : Begins format before
  pub bad : (v : A) (rest more : List ℕ) → format.fits v ≡ true → format.spell v ++ rest ≡ before ++ more → BeginAlike more (part ++ place) → ⊥

-- each fault is in the first line that isn't of the form
pub record ReportsLine {A : Type 0} (format : Format ℕ A) : Type 0 where
  pub law : IsLawful format
  pub some : (v : A) × (format.fits v ≡ true)
  pub fault : (s : List ℕ) (f : FieldFault) → format.read s ≡ Err f → IsBadAt format s f.left

-- the place where `left` bytes are left is in the first line
pub record IsInFront (s : List ℕ) (left : ℕ) : Type 0 where
  pub part : List ℕ
  pub place : List ℕ
  pub is : s ≡ part ++ place
  pub left_is : length place ≡ left
  pub inside : IsInLine part

at_front : (s : List ℕ) (left : ℕ) → left ≡ length s → IsInFront s left
at_front s left is = record { part = []; place = s; is = refl; left_is = sym is; inside = refl }

-- each fault is in the first line
abbrev pub ReportsInFront : {A : Type 0} → Format ℕ A → Type 0
ReportsInFront format = (s : List ℕ) (f : FieldFault) → format.read s ≡ Err f → IsInFront s f.left

-- each spelling is one line, and each fault is in it
pub record IsLine {A : Type 0} (format : Format ℕ A) : Type 0 where
  pub law : IsLawful format
  pub one : Each IsOneLine format
  pub reports : ReportsInFront format

step_failed : {A B : Type 0} (r : Result A FieldFault) (g : A → Result B FieldFault) (f : FieldFault) → (r >>= g) ≡ Err f → (r ≡ Err f) ⊎ ((x : A) × (r ≡ Ok x) × (g x ≡ Err f))
step_failed (Ok x) g f e = inr (x, refl, e)
step_failed (Err d) g f e = let is : d ≡ f = cc in inl (ap (λ (c : FieldFault). Err c) is)

at_line_failed : {A : Type 0} (s : List ℕ) (r : Result A FieldFault) (f : FieldFault) → at_line s r ≡ Err f → f.left ≡ length s
at_line_failed s (Ok x) f e = absurd cc
at_line_failed s (Err d) f e = let is : fault_at Range s ≡ f = cc in ap (λ (c : FieldFault). c.left) (sym is)

pub is_line : {A : Type 0} (inner : Format ℕ A) → IsLawful inner → Each IsOneLine inner → IsLine (line inner)
unfolding line
is_line inner law one = record {
  law = lawful_line inner law;
  one = one;
  reports = λ s f e. at_front s f.left (at_line_failed s (inner.read s) f e);
}

-- two spellings in front of one text are of one value
same_front : {A : Type 0} (format : Format ℕ A) → IsLawful format → (v w : A) (s t : List ℕ) → format.fits v ≡ true → format.fits w ≡ true → format.spell v ++ s ≡ format.spell w ++ t → (v ≡ w) × (s ≡ t)
same_front format law v w s t fits fitting e =
    let c : format.read (format.spell w ++ t) ≡ Ok (v, s) = ap format.read (sym e) ∙ law.again v s fits in
    let d = ok_is (v, s) (w, t) (sym c ∙ law.again w t fitting) in
    (ap (λ x. x.0) d, ap (λ x. x.1) d)

-- no spelling has a line that isn't read
line_refused : {A : Type 0} (format : Format ℕ A) → IsLine format → (s : List ℕ) (f : FieldFault) → format.read s ≡ Err f → (v : A) (rest more : List ℕ) → format.fits v ≡ true → format.spell v ++ rest ≡ more → BeginAlike more s → ⊥
line_refused format l s f e v rest more fits is alike =
    let same : BeginAlike (format.spell v ++ rest) s = subst (λ (m : List ℕ). BeginAlike m s) (sym is) alike in
    let h = line_is_within (format.spell v) (l.one v fits) rest s same in
    let read : format.read s ≡ Ok (v, h.0) = ap format.read h.1 ∙ l.law.again v h.0 fits in
    let no_read = sym e ∙ read in
    absurd cc

-- a fault in the line in front
bad_front : {A : Type 0} (format : Format ℕ A) (s : List ℕ) (left : ℕ) → IsInFront s left → Begins format [] → ((v : A) (rest more : List ℕ) → format.fits v ≡ true → format.spell v ++ rest ≡ more → BeginAlike more s → ⊥) → IsBadAt format s left
bad_front format s left h good bad = record {
  before = [];
  part = h.part;
  place = h.place;
  is = h.is;
  left_is = h.left_is;
  inside = h.inside;
  whole = inl refl;
  good = good;
  bad = λ v rest more fits is alike. bad v rest more fits is (subst (λ (t : List ℕ). BeginAlike more t) (sym h.is) alike);
}

pub reports_line : {A : Type 0} (format : Format ℕ A) → IsLine format → (v : A) → format.fits v ≡ true → ReportsLine format
reports_line format l v fits = record {
  law = l.law;
  some = (v, fits);
  fault = λ s f e. bad_front format s f.left (l.reports s f e) (v, format.spell v, fits, refl) (line_refused format l s f e);
}

pub lines_are_whole : {A : Type 0} (format : Format ℕ A) → IsLine format → Each IsWhole format
lines_are_whole format l v fits = whole_line (format.spell v) (l.one v fits)

pub number_line_is : (word : List ℕ) (low high : ℕ) → IsInLine word → IsLine (number_line word low high)
unfolding number_line
number_line_is word low high none =
    is_line _ (lawful_text_then word _ (lawful_number_then low high (10 ∷ []) (λ rest. refl)))
    (each_text_then IsInLine IsOneLine IsOneLine word _ part_then_line none (number_ends_line low high))

low_fits : (word : List ℕ) (low high : ℕ) → low ≤ high → low < 2 ^ 128 → (number_line word low high).fits low ≡ true
unfolding number_line line text_then number_then then_text within number_text
low_fits word low high le lt = rw (lt-ltb low (2 ^ 128) lt, le-leb low low (omega arith), le-leb low high le) refl

pub number_line_reports : (word : List ℕ) (low high : ℕ) → IsInLine word → low ≤ high → low < 2 ^ 128 → ReportsLine (number_line word low high)
number_line_reports word low high none le lt = reports_line _ (number_line_is word low high none) low (low_fits word low high le lt)

-- a fault after whole lines that are of the form
after_lines : {A B : Type 0} (inner : Format ℕ A) (outer : Format ℕ B) (front s t : List ℕ) (left : ℕ) → IsWhole front → t ≡ front ++ s
    → ((a : List ℕ) → Begins inner a → Begins outer (front ++ a))
    → ((v : B) (rest more : List ℕ) → outer.fits v ≡ true → outer.spell v ++ rest ≡ front ++ more → (w : A) × (inner.fits w ≡ true) × (inner.spell w ++ rest ≡ more))
    → IsBadAt inner s left → IsBadAt outer t left
after_lines inner outer front s t left whole is begins untag b = record {
  before = front ++ b.before;
  part = b.part;
  place = b.place;
  is = is ∙ ap (λ (r : List ℕ). front ++ r) b.is ∙ sym (append_assoc front b.before (b.part ++ b.place));
  left_is = b.left_is;
  inside = b.inside;
  whole = whole_append front b.before whole b.whole;
  good = begins b.before b.good;
  bad = λ v rest more fits e alike.
      let h = untag v rest (b.before ++ more) fits (e ∙ append_assoc front b.before more) in
      b.bad h.0 rest more h.1 h.2 alike;
}

-- ---- two values

-- a fault in the first is one in both
first_bad_of : {A B : Type 0} (first : Format ℕ A) (second : Format ℕ B) (s : List ℕ) (left : ℕ) → (w : B) → second.fits w ≡ true → IsBadAt first s left → IsBadAt (both first second) s left
unfolding pair
first_bad_of first second s left w fitting b = record {
  before = b.before;
  part = b.part;
  place = b.place;
  is = b.is;
  left_is = b.left_is;
  inside = b.inside;
  whole = b.whole;
  good = (
    (b.good.0, w),
    b.good.1 ++ second.spell w,
    both_true (first.fits b.good.0) (second.fits w) b.good.2 fitting,
    ap (λ (r : List ℕ). r ++ second.spell w) b.good.3 ∙ append_assoc b.before b.good.1 (second.spell w),
  );
  bad = λ v rest more fits e alike.
      b.bad v.0 (second.spell v.1 ++ rest) more (first_true (first.fits v.0) (second.fits v.1) fits) (sym (append_assoc (first.spell v.0) (second.spell v.1) rest) ∙ e) alike;
}

both_begin : {A B : Type 0} (first : Format ℕ A) (second : Format ℕ B) (x : A) → first.fits x ≡ true → (a : List ℕ) → Begins second a → Begins (both first second) (first.spell x ++ a)
unfolding pair
both_begin first second x fits a good = (
  (x, good.0),
  good.1,
  both_true (first.fits x) (second.fits good.0) fits good.2,
  ap (λ (r : List ℕ). first.spell x ++ r) good.3 ∙ sym (append_assoc (first.spell x) a good.1),
)

both_untagged : {A B : Type 0} (first : Format ℕ A) (second : Format ℕ B) → IsLawful first → (x : A) → first.fits x ≡ true
    → (v : A × B) (rest more : List ℕ) → (both first second).fits v ≡ true → (both first second).spell v ++ rest ≡ first.spell x ++ more → (w : B) × (second.fits w ≡ true) × (second.spell w ++ rest ≡ more)
unfolding pair
both_untagged first second law x fitting v rest more fits e =
    let same = same_front first law v.0 x (second.spell v.1 ++ rest) more (first_true (first.fits v.0) (second.fits v.1) fits) fitting (sym (append_assoc (first.spell v.0) (second.spell v.1) rest) ∙ e) in
    (v.1, second_true (first.fits v.0) (second.fits v.1) fits, same.1)

both_fault : {A B : Type 0} (first : Format ℕ A) (second : Format ℕ B) → ReportsLine first → Each IsWhole first → ReportsLine second → (s : List ℕ) (f : FieldFault) → (both first second).read s ≡ Err f → IsBadAt (both first second) s f.left
unfolding pair
both_fault first second t whole u s f e =
    elim (step_failed (first.read s) (λ x. second.read x.1 >>= λ y. Ok ((x.0, y.0), y.1)) f e) [
      | inl no_first ↦ first_bad_of first second s f.left u.some.0 u.some.1 (t.fault s f no_first)
      | inr h ↦
          elim (step_failed (second.read h.0.1) (λ y. Ok ((h.0.0, y.0), y.1)) f h.2) [
            | inl no_second ↦
                let is = taken first t.law s h.0 h.1 in
                after_lines second (both first second) (first.spell h.0.0) h.0.1 s f.left (whole h.0.0 is.fits) is.is
                (both_begin first second h.0.0 is.fits) (both_untagged first second t.law h.0.0 is.fits) (u.fault h.0.1 f no_second)
            | inr k ↦ let never = k.2 in absurd cc
          ]
    ]

pub reports_both : {A B : Type 0} (first : Format ℕ A) (second : Format ℕ B) → ReportsLine first → Each IsWhole first → ReportsLine second → ReportsLine (both first second)
unfolding pair
reports_both first second t whole u = record {
  law = lawful_both first second t.law u.law;
  some = ((t.some.0, u.some.0), both_true (first.fits t.some.0) (second.fits u.some.0) t.some.1 u.some.1);
  fault = both_fault first second t whole u;
}

-- ---- a line, and then a value

text_fault : {A : Type 0} (read : List ℕ → Result A FieldFault) (s : List ℕ) (o : Option (List ℕ)) (f : FieldFault) → go_on read s o ≡ Err f → ((o ≡ None) × (f.left ≡ length s)) ⊎ ((rest : List ℕ) × (o ≡ Some rest) × (read rest ≡ Err f))
text_fault read s None f e = let is : fault_at Range s ≡ f = cc in inl (refl, ap (λ (c : FieldFault). c.left) (sym is))
text_fault read s (Some rest) f e = inr (rest, refl, e)

-- no spelling has a line that isn't the text's
text_refused : (text s : List ℕ) → IsWithinLine text → after_text text s ≡ None → (rest more : List ℕ) → text ++ rest ≡ more → BeginAlike more s → ⊥
text_refused text s within none rest more is alike =
    let h = within rest s (subst (λ (m : List ℕ). BeginAlike m s) (sym is) alike) in
    let some : after_text text s ≡ Some h.0 = ap (after_text text) h.1 ∙ after_again text h.0 in
    let no_text = sym none ∙ some in
    absurd cc

text_then_fault : {A : Type 0} (text : List ℕ) (inner : Format ℕ A) → IsOneLine text → ReportsLine inner → (s : List ℕ) (f : FieldFault) → (text_then text inner).read s ≡ Err f → IsBadAt (text_then text inner) s f.left
unfolding text_then
text_then_fault text inner one t s f e =
    elim (text_fault inner.read s (after_text text s) f e) [
      | inl no_text ↦
          bad_front (text_then text inner) s f.left (at_front s f.left no_text.1) (t.some.0, text ++ inner.spell t.some.0, t.some.1, refl)
          (λ v rest more fits is alike. text_refused text s (line_is_within text one) no_text.0 (inner.spell v ++ rest) more (sym (append_assoc text (inner.spell v) rest) ∙ is) alike)
      | inr h ↦
          after_lines inner (text_then text inner) text h.0 s f.left (whole_line text one) (after_is text s h.0 h.1)
          (λ a good. (good.0, good.1, good.2, ap (λ (r : List ℕ). text ++ r) good.3 ∙ sym (append_assoc text a good.1)))
          (λ v rest more fits is. (v, fits, append_cancel_left text (inner.spell v ++ rest) more (sym (append_assoc text (inner.spell v) rest) ∙ is)))
          (t.fault h.0 f h.2)
    ]

pub reports_text_then : {A : Type 0} (text : List ℕ) (inner : Format ℕ A) → IsOneLine text → ReportsLine inner → ReportsLine (text_then text inner)
unfolding text_then
reports_text_then text inner one t = record {
  law = lawful_text_then text inner t.law;
  some = (t.some.0, t.some.1);
  fault = text_then_fault text inner one t;
}

-- ---- the values of a record

record_fault : {A B : Type 0} (make : A → B) (parts : B → A) (inner : Format ℕ A) → ((a : A) → parts (make a) ≡ a) → ReportsLine inner → (s : List ℕ) (f : FieldFault) → (record_of make parts inner).read s ≡ Err f → IsBadAt (record_of make parts inner) s f.left
unfolding as_form
record_fault {A = A} make parts inner back t s f e =
    elim (step_failed (inner.read s) (λ x. Ok (make x.0, x.1)) f e) [
      | inl no_inner ↦
          after_lines inner (record_of make parts inner) [] s s f.left (inl refl) refl
          (λ a good. (make good.0, good.1, rw (back good.0) good.2, rw (back good.0) good.3))
          (λ v rest more fits is. (parts v, fits, is))
          (t.fault s f no_inner)
      | inr h ↦ let never = h.2 in absurd cc
    ]

pub reports_record : {A B : Type 0} (make : A → B) (parts : B → A) (inner : Format ℕ A) → ((a : A) → parts (make a) ≡ a) → ((b : B) → make (parts b) ≡ b) → ReportsLine inner → ReportsLine (record_of make parts inner)
unfolding as_form
reports_record make parts inner back there t = record {
  law = lawful_record make parts inner back there t.law;
  some = (make t.some.0, rw (back t.some.0) t.some.1);
  fault = record_fault make parts inner back t;
}

-- ---- faults inside a line

found_failed : {A : Type 0} (o : Option A) (s rest : List ℕ) (f : FieldFault) → found o s rest ≡ Err f → f.left ≡ length s
found_failed None s rest f e = let is : fault_at Range s ≡ f = cc in ap (λ (c : FieldFault). c.left) (sym is)
found_failed (Some v) s rest f e = absurd cc

test_failed : {A : Type 0} (b : Bool) (x : A) (s : List ℕ) (f : FieldFault) → cond b (Ok x) (Err (fault_at Range s)) ≡ Err f → f.left ≡ length s
test_failed true x s f e = absurd cc
test_failed false x s f e = let is : fault_at Range s ≡ f = cc in ap (λ (c : FieldFault). c.left) (sym is)

number_failed : (low high : ℕ) (s : List ℕ) (f : FieldFault) → (number_in low high).read s ≡ Err f → f.left ≡ length s
unfolding within number_text
number_failed low high s f e =
    elim (step_failed ((number_text (2 ^ 128)).read s) (tested (is_in low high) s) f e) [
      | inl no_number ↦ found_failed (number_of (2 ^ 128) (take (digit_len s) s)) s (drop (digit_len s) s) f no_number
      | inr h ↦ test_failed (is_in low high h.0.0) h.0 s f h.2
    ]

pub number_then_reports : (low high : ℕ) (text : List ℕ) → ReportsInFront (number_then low high text)
unfolding number_then then_text
number_then_reports low high text s f e =
    elim (step_failed ((number_in low high).read s) (λ x. go_on (λ rest. Ok (x.0, rest)) x.1 (after_text text x.1)) f e) [
      | inl no_number ↦ at_front s f.left (number_failed low high s f no_number)
      | inr h ↦
          let is = taken_before no_digit_first (number_in low high) (number_in_before low high) s h.0 h.1 in
          elim (text_fault (λ rest. Ok (h.0.0, rest)) h.0.1 (after_text text h.0.1) f h.2) [
            | inl no_text ↦ record { part = (number_in low high).spell h.0.0; place = h.0.1; is = is.is; left_is = sym no_text.1; inside = number_in_line low high h.0.0 is.fits }
            | inr k ↦ let never = k.2 in absurd cc
          ]
    ]

pub both_report : {A B : Type 0} (first : Format ℕ A) (second : Format ℕ B) → IsLawful first → Each IsInLine first → ReportsInFront first → ReportsInFront second → ReportsInFront (both first second)
unfolding pair
both_report first second law in_line reports reported s f e =
    elim (step_failed (first.read s) (λ x. second.read x.1 >>= λ y. Ok ((x.0, y.0), y.1)) f e) [
      | inl no_first ↦ reports s f no_first
      | inr h ↦
          elim (step_failed (second.read h.0.1) (λ y. Ok ((h.0.0, y.0), y.1)) f h.2) [
            | inl no_second ↦
                let is = taken first law s h.0 h.1 in
                let at = reported h.0.1 f no_second in
                record {
                  part = first.spell h.0.0 ++ at.part;
                  place = at.place;
                  is = is.is ∙ ap (λ (r : List ℕ). first.spell h.0.0 ++ r) at.is ∙ sym (append_assoc (first.spell h.0.0) at.part at.place);
                  left_is = at.left_is;
                  inside = part_then_part (first.spell h.0.0) at.part (in_line h.0.0 is.fits) at.inside;
                }
            | inr k ↦ let never = k.2 in absurd cc
          ]
    ]

-- ---- lines up to a text that ends them

ended_failed : {A : Type 0} (o : Option (List ℕ)) (r : Result (List A × List ℕ) FieldFault) (f : FieldFault) → ended_or o r ≡ Err f → (o ≡ None) × (r ≡ Err f)
ended_failed None r f e = (refl, e)
ended_failed (Some rest) r f e = absurd cc

-- an item in front of the others
item_apart : {P A : Type 0} (item : P → Format ℕ A) (next : A → P) (stop : List ℕ) (p : P) (v : A) (vs : List A) (rest : List ℕ)
    → ((((item p).spell v ++ spell_from item next (next v) vs) ++ stop) ++ rest) ≡ (item p).spell v ++ ((spell_from item next (next v) vs ++ stop) ++ rest)
item_apart item next stop p v vs rest =
    ap (λ (t : List ℕ). t ++ rest) (append_assoc ((item p).spell v) (spell_from item next (next v) vs) stop) ∙ append_assoc ((item p).spell v) (spell_from item next (next v) vs ++ stop) rest

item_bad : {P A : Type 0} (item : P → Format ℕ A) (next : A → P) (stop : List ℕ) → ((p : P) → IsLine (item p)) → IsWithinLine stop → (p : P) (s : List ℕ) (f : FieldFault) → after_text stop s ≡ None → (item p).read s ≡ Err f
    → (vs : List A) (rest more : List ℕ) → fits_from item next p vs ≡ true → ((spell_from item next p vs ++ stop) ++ rest) ≡ more → BeginAlike more s → ⊥
item_bad item next stop lines within p s f none e [] rest more fits is alike = text_refused stop s within none rest more is alike
item_bad item next stop lines within p s f none e (v ∷ vs) rest more fits is alike =
    line_refused (item p) (lines p) s f e v ((spell_from item next (next v) vs ++ stop) ++ rest) more (first_true ((item p).fits v) (fits_from item next (next v) vs) fits)
    (sym (item_apart item next stop p v vs rest) ∙ is) alike

item_begins : {P A : Type 0} (item : P → Format ℕ A) (next : A → P) (stop : List ℕ) (p : P) (v : A) → (item p).fits v ≡ true → (a : List ℕ) → Begins (until item next (next v) stop) a → Begins (until item next p stop) ((item p).spell v ++ a)
unfolding until
item_begins item next stop p v fits a good = (
  v ∷ good.0,
  good.1,
  both_true ((item p).fits v) (fits_from item next (next v) good.0) fits good.2,
  append_assoc ((item p).spell v) (spell_from item next (next v) good.0) stop ∙ ap (λ (r : List ℕ). (item p).spell v ++ r) good.3 ∙ sym (append_assoc ((item p).spell v) a good.1),
)

item_untagged : {P A : Type 0} (item : P → Format ℕ A) (next : A → P) (stop : List ℕ) → ((p : P) → IsLine (item p)) → ((p : P) (v : A) (rest : List ℕ) → after_text stop ((item p).spell v ++ rest) ≡ None)
    → (p : P) (x : A) → (item p).fits x ≡ true → (vs : List A) (rest more : List ℕ) → fits_from item next p vs ≡ true → ((spell_from item next p vs ++ stop) ++ rest) ≡ (item p).spell x ++ more
    → (ws : List A) × (fits_from item next (next x) ws ≡ true) × (((spell_from item next (next x) ws ++ stop) ++ rest) ≡ more)
item_untagged item next stop lines differs p x fitting [] rest more fits is =
    let none : after_text stop (stop ++ rest) ≡ None = ap (after_text stop) is ∙ differs p x more in
    let no_text = sym none ∙ after_again stop rest in
    absurd cc
item_untagged {A = A} item next stop lines differs p x fitting (v ∷ vs) rest more fits is =
    let tail : List ℕ = (spell_from item next (next v) vs ++ stop) ++ rest in
    let same = same_front (item p) (lines p).law v x tail more (first_true ((item p).fits v) (fits_from item next (next v) vs) fits) fitting (sym (item_apart item next stop p v vs rest) ∙ is) in (
      vs,
      subst (λ (w : A). fits_from item next (next w) vs ≡ true) same.0 (second_true ((item p).fits v) (fits_from item next (next v) vs) fits),
      subst (λ (w : A). ((spell_from item next (next w) vs ++ stop) ++ rest) ≡ more) same.0 same.1,
    )

one_some : (s : List ℕ) → IsOneLine s → 0 < length s
one_some s one = omega (arith, ap length one.2, length-append one.0 (10 ∷ []))

series_fault : {P A : Type 0} (item : P → Format ℕ A) (next : A → P) (stop : List ℕ) → ((p : P) → IsLine (item p)) → ((p : P) (v : A) (rest : List ℕ) → after_text stop ((item p).spell v ++ rest) ≡ None) → IsWithinLine stop
    → (n : ℕ) (p : P) (s : List ℕ) (f : FieldFault) → length s < n → read_from item next stop n p s ≡ Err f → IsBadAt (until item next p stop) s f.left
unfolding until
series_fault item next stop lines differs within zero p s f lt e = absurd (omega arith)
series_fault item next stop lines differs within (suc n) p s f lt e =
    let a = ended_failed (after_text stop s) ((item p).read s >>= λ x. read_from item next stop n (next x.0) x.1 >>= λ y. Ok (x.0 ∷ y.0, y.1)) f e in
    elim (step_failed ((item p).read s) (λ x. read_from item next stop n (next x.0) x.1 >>= λ y. Ok (x.0 ∷ y.0, y.1)) f a.1) [
      | inl no_item ↦ bad_front (until item next p stop) s f.left ((lines p).reports s f no_item) ([], stop, refl, refl) (item_bad item next stop lines within p s f a.0 no_item)
      | inr h ↦
          elim (step_failed (read_from item next stop n (next h.0.0) h.0.1) (λ y. Ok (h.0.0 ∷ y.0, y.1)) f h.2) [
            | inl no_more ↦
                let is = taken (item p) (lines p).law s h.0 h.1 in
                let one = (lines p).one h.0.0 is.fits in
                let some = one_some ((item p).spell h.0.0) one in
                let less : length h.0.1 < n = omega (arith, ap length is.is, length-append ((item p).spell h.0.0) h.0.1) in
                after_lines (until item next (next h.0.0) stop) (until item next p stop) ((item p).spell h.0.0) h.0.1 s f.left (whole_line _ one) is.is
                (item_begins item next stop p h.0.0 is.fits)
                (item_untagged item next stop lines differs p h.0.0 is.fits)
                (series_fault item next stop lines differs within n (next h.0.0) h.0.1 f less no_more)
            | inr k ↦ let never = k.2 in absurd cc
          ]
    ]

pub reports_until : {P A : Type 0} (item : P → Format ℕ A) (next : A → P) (p : P) (stop : List ℕ) → ((p : P) → IsLine (item p)) → ((p : P) (v : A) (rest : List ℕ) → after_text stop ((item p).spell v ++ rest) ≡ None) → IsWithinLine stop
    → IsLawful (until item next p stop) → ReportsLine (until item next p stop)
unfolding until
reports_until item next p stop lines differs within law = record {
  law = law;
  some = ([], refl);
  fault = λ s f e. series_fault item next stop lines differs within (suc (length s)) p s f (omega arith) e;
}

-- ---- whole lines and a part of one, and then the rest of that line

pub record IsCut (s : List ℕ) : Type 0 where
  pub lines : List ℕ
  pub part : List ℕ
  pub is : s ≡ lines ++ part
  pub whole : IsWhole lines
  pub inside : IsInLine part

pub cut_at : (s t : List ℕ) → IsWhole s → IsInLine t → IsCut (s ++ t)
cut_at s t whole inside = record { lines = s; part = t; is = refl; whole = whole; inside = inside }

rest_bad : {A B : Type 0} (first : Format ℕ A) (second : Format ℕ B) → IsLawful first → IsLine second → (x : A) (s : List ℕ) (f : FieldFault) → first.fits x ≡ true → second.read s ≡ Err f → (lines part : List ℕ) → first.spell x ≡ lines ++ part → IsInLine part
    → (v : A × B) (rest more : List ℕ) → (both first second).fits v ≡ true → (both first second).spell v ++ rest ≡ lines ++ more → BeginAlike more (part ++ s) → ⊥
unfolding pair
rest_bad first second law l x s f fitting e lines part cut inside v rest more fits is alike =
    let m = in_first_line part s alike.first alike.t_rest inside alike.t_is in
    let after : List ℕ = m.0 ++ 10 ∷ alike.s_rest in
    let more_is : more ≡ part ++ after = alike.s_is ∙ ap (λ (r : List ℕ). r ++ 10 ∷ alike.s_rest) m.1 ∙ append_assoc part m.0 (10 ∷ alike.s_rest) in
    let fronts : first.spell v.0 ++ (second.spell v.1 ++ rest) ≡ first.spell x ++ after =
    sym (append_assoc (first.spell v.0) (second.spell v.1) rest) ∙ is ∙ ap (λ (r : List ℕ). lines ++ r) more_is ∙ sym (append_assoc lines part after) ∙ ap (λ (r : List ℕ). r ++ after) (sym cut) in
    let same = same_front first law v.0 x (second.spell v.1 ++ rest) after (first_true (first.fits v.0) (second.fits v.1) fits) fitting fronts in
    let none : feeds m.0 ≡ 0 = omega (arith, alike.one, ap feeds m.1, feeds-append part m.0) in
    line_refused second l s f e v.1 rest after (second_true (first.fits v.0) (second.fits v.1) fits) same.1
    (record { first = m.0; one = none; s_rest = alike.s_rest; s_is = refl; t_rest = alike.t_rest; t_is = m.2 })

rest_fault : {A B : Type 0} (first : Format ℕ A) (second : Format ℕ B) → ReportsLine first → Each IsCut first → IsLine second → (w : B) → second.fits w ≡ true → (s : List ℕ) (f : FieldFault) → (both first second).read s ≡ Err f → IsBadAt (both first second) s f.left
unfolding pair
rest_fault first second t cuts l w fitting s f e =
    elim (step_failed (first.read s) (λ x. second.read x.1 >>= λ y. Ok ((x.0, y.0), y.1)) f e) [
      | inl no_first ↦ first_bad_of first second s f.left w fitting (t.fault s f no_first)
      | inr h ↦
          elim (step_failed (second.read h.0.1) (λ y. Ok ((h.0.0, y.0), y.1)) f h.2) [
            | inl no_second ↦
                let is = taken first t.law s h.0 h.1 in
                let cut = cuts h.0.0 is.fits in
                let at = l.reports h.0.1 f no_second in
                let line_is : cut.part ++ h.0.1 ≡ (cut.part ++ at.part) ++ at.place = ap (λ (r : List ℕ). cut.part ++ r) at.is ∙ sym (append_assoc cut.part at.part at.place) in
                record {
                  before = cut.lines;
                  part = cut.part ++ at.part;
                  place = at.place;
                  is = is.is ∙ ap (λ (r : List ℕ). r ++ h.0.1) cut.is ∙ append_assoc cut.lines cut.part h.0.1 ∙ ap (λ (r : List ℕ). cut.lines ++ r) line_is;
                  left_is = at.left_is;
                  inside = part_then_part cut.part at.part cut.inside at.inside;
                  whole = cut.whole;
                  good = (
                    (h.0.0, w),
                    cut.part ++ second.spell w,
                    both_true (first.fits h.0.0) (second.fits w) is.fits fitting,
                    ap (λ (r : List ℕ). r ++ second.spell w) cut.is ∙ append_assoc cut.lines cut.part (second.spell w),
                  );
                  bad = λ v rest more fits e alike.
                      rest_bad first second t.law l h.0.0 h.0.1 f is.fits no_second cut.lines cut.part cut.is cut.inside v rest more fits e (subst (λ (r : List ℕ). BeginAlike more r) (sym line_is) alike);
                }
            | inr k ↦ let never = k.2 in absurd cc
          ]
    ]

pub cut_then_line : (s t : List ℕ) → IsCut s → IsOneLine t → IsWhole (s ++ t)
cut_then_line s t cut one =
    let is : s ++ t ≡ cut.lines ++ (cut.part ++ t) = ap (λ (r : List ℕ). r ++ t) cut.is ∙ append_assoc cut.lines cut.part t in
    subst (λ (r : List ℕ). IsWhole r) (sym is) (whole_append cut.lines (cut.part ++ t) cut.whole (whole_line (cut.part ++ t) (part_then_line cut.part t cut.inside one)))

pub reports_rest : {A B : Type 0} (first : Format ℕ A) (second : Format ℕ B) → ReportsLine first → Each IsCut first → IsLine second → (w : B) → second.fits w ≡ true → ReportsLine (both first second)
unfolding pair
reports_rest first second t cuts l w fitting = record {
  law = lawful_both first second t.law l.law;
  some = ((t.some.0, w), both_true (first.fits t.some.0) (second.fits w) t.some.1 fitting);
  fault = rest_fault first second t cuts l w fitting;
}

-- ---- a whole text

line_number_is : (before part place s : List ℕ) (left : ℕ) → s ≡ before ++ (part ++ place) → length place ≡ left → IsInLine part → line_number s left ≡ feeds before + 1
line_number_is before part place s left is left_is inside =
    let whole : s ≡ (before ++ part) ++ place = is ∙ sym (append_assoc before part place) in
    let so_many : length (before ++ part) ≡ length s - left = omega (arith, ap length whole, length-append (before ++ part) place) in
    let front : take (length s - left) s ≡ before ++ part = ap (take (length s - left)) whole ∙ take_at (before ++ part) place (length s - left) so_many in
    ap (λ (r : List ℕ). feeds r + 1) front ∙ omega (arith, feeds-append before part)

reported_first : {A : Type 0} (format : Format ℕ A) (s : List ℕ) (left : ℕ) → IsBadAt format s left → IsFirstBadLine format s (line_number s left)
reported_first format s left b = record {
  before = b.before;
  others = b.part ++ b.place;
  is = b.is;
  whole = b.whole;
  number = line_number_is b.before b.part b.place s left b.is b.left_is b.inside;
  good = b.good;
  bad = λ v more fits is alike. b.bad v [] more fits (append-nil (format.spell v) ∙ is) alike;
}

more_left : {A : Type 0} (x : A × List ℕ) (f : FieldFault) → ended x ≡ Err f → length x.1 ≡ f.left
more_left (v, []) f e = absurd cc
more_left (v, s ∷ more) f e = let is : fault_at More (s ∷ more) ≡ f = cc in ap (λ (c : FieldFault). c.left) is

no_line : (s : List ℕ) → BeginAlike [] s → ⊥
no_line s alike = omega (arith, ap length alike.s_is, length-append alike.first (10 ∷ alike.s_rest))

-- the line of each fault is the first that isn't of the form
pub first_bad : {A : Type 0} (format : Format ℕ A) → ReportsLine format → Each IsWhole format → (s : List ℕ) (f : FieldFault) → read_all format s ≡ Err f → IsFirstBadLine format s (line_number s f.left)
first_bad format t whole s f e =
    elim (step_failed (format.read s) ended f e) [
      | inl no_value ↦ reported_first format s f.left (t.fault s f no_value)
      | inr h ↦
          let is = taken format t.law s h.0 h.1 in
          record {
            before = format.spell h.0.0;
            others = h.0.1;
            is = is.is;
            whole = whole h.0.0 is.fits;
            number = line_number_is (format.spell h.0.0) [] h.0.1 s f.left is.is (more_left h.0 f h.2) refl;
            good = (h.0.0, [], is.fits, sym (append-nil (format.spell h.0.0)));
            bad = λ v more fits e alike.
                let none = (one_spelling format t.law h.0.0 v more is.fits fits (sym e)).1 in
                no_line h.0.1 (subst (λ (m : List ℕ). BeginAlike m h.0.1) none alike);
          }
    ]

-- ---- a text has one such line

-- of two prefixes of a text one begins the other
fronts : (a b s t : List ℕ) → a ++ s ≡ b ++ t → ((m : List ℕ) × (b ≡ a ++ m) × (s ≡ m ++ t)) ⊎ ((m : List ℕ) × (a ≡ b ++ m) × (t ≡ m ++ s))
fronts [] b s t e = inl (b, refl, e)
fronts (c ∷ a) [] s t e = inr (c ∷ a, refl, sym e)
fronts (c ∷ a) (d ∷ b) s t e =
    let head : c ≡ d = cc in
    let more : a ++ s ≡ b ++ t = cc in
    elim (fronts a b s t more) [
      | inl h ↦ let is : b ≡ a ++ h.0 = h.1 in inl (h.0, cc, h.2)
      | inr h ↦ let is : a ≡ b ++ h.0 = h.1 in inr (h.0, cc, h.2)
    ]

none_after : (a m : List ℕ) → a ++ m ≡ [] → m ≡ []
none_after [] m e = e
none_after (c ∷ a) m e = absurd cc

ended_by_feed : (a m front : List ℕ) → a ++ m ≡ front ++ 10 ∷ [] → (m ≡ []) ⊎ ((rest : List ℕ) × (m ≡ rest ++ 10 ∷ []))
ended_by_feed [] m front e = inr (front, e)
ended_by_feed (c ∷ a) m [] e =
    let none : a ++ m ≡ [] = cc in
    inl (none_after a m none)
ended_by_feed (c ∷ a) m (d ∷ front) e =
    let more : a ++ m ≡ front ++ 10 ∷ [] = cc in
    ended_by_feed a m front more

first_line : (front : List ℕ) → (l : List ℕ) × (r : List ℕ) × (feeds l ≡ 0) × (front ++ 10 ∷ [] ≡ l ++ 10 ∷ r)
first_line [] = ([], [], refl, refl)
first_line (c ∷ front) =
    let h = first_line front in
    elim (cases_eq c 10) [
      | inl is ↦ ([], front ++ 10 ∷ [], refl, ap (λ b. b ∷ (front ++ 10 ∷ [])) is)
      | inr other ↦
          let one : feeds (c ∷ []) ≡ 0 = rw (ne_eqb c 10 other) refl in
          (c ∷ h.0, h.1, feeds-append (c ∷ []) h.0 ∙ omega (arith, h.2), ap (λ (t : List ℕ). c ∷ t) h.3)
    ]

-- no such line is after another
not_after : {A : Type 0} (format : Format ℕ A) (text : List ℕ) (line other : ℕ) (a : IsFirstBadLine format text line) (b : IsFirstBadLine format text other) (m : List ℕ) → b.before ≡ a.before ++ m → a.others ≡ m ++ b.others → m ≡ []
not_after format text line other a b m is rest =
    elim b.whole [
      | inl none ↦ none_after a.before m (sym is ∙ none)
      | inr w ↦
          elim (ended_by_feed a.before m w.0 (sym is ∙ w.1)) [
            | inl none ↦ none
            | inr h ↦
                let l = first_line h.0 in
                let m_is : m ≡ l.0 ++ 10 ∷ l.1 = h.1 ∙ l.3 in
                absurd (a.bad b.good.0 (m ++ b.good.1) b.good.2 (b.good.3 ∙ ap (λ (r : List ℕ). r ++ b.good.1) is ∙ append_assoc a.before m b.good.1) (record {
                  first = l.0;
                  one = l.2;
                  s_rest = l.1 ++ b.good.1;
                  s_is = ap (λ (r : List ℕ). r ++ b.good.1) m_is ∙ append_assoc l.0 (10 ∷ l.1) b.good.1;
                  t_rest = l.1 ++ b.others;
                  t_is = rest ∙ ap (λ (r : List ℕ). r ++ b.others) m_is ∙ append_assoc l.0 (10 ∷ l.1) b.others;
                }))
          ]
    ]

one_before : {A : Type 0} (format : Format ℕ A) (text : List ℕ) (line other : ℕ) (a : IsFirstBadLine format text line) (b : IsFirstBadLine format text other) (m : List ℕ) → b.before ≡ a.before ++ m → a.others ≡ m ++ b.others → line ≡ other
one_before format text line other a b m is rest =
    let same : b.before ≡ a.before = is ∙ ap (λ (r : List ℕ). a.before ++ r) (not_after format text line other a b m is rest) ∙ append-nil a.before in
    a.number ∙ ap (λ (r : List ℕ). feeds r + 1) (sym same) ∙ sym b.number

pub one_first_bad : {A : Type 0} (format : Format ℕ A) (text : List ℕ) (line other : ℕ) → IsFirstBadLine format text line → IsFirstBadLine format text other → line ≡ other
one_first_bad format text line other a b =
    elim (fronts a.before b.before a.others b.others (sym a.is ∙ b.is)) [
      | inl h ↦ one_before format text line other a b h.0 h.1 h.2
      | inr h ↦ sym (one_before format text other line b a h.0 h.1 h.2)
    ]
