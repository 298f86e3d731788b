-- Formats put together from placed ones are placed.
use Rattle.std.proofs.Common.{◌≡◌, ◌≤◌, ◌<◌, ◌⊎◌, inl, inr, ℕ, zero, suc, Bool, true, false, cond, ◌&&◌, List, [], ◌∷◌, ◌++◌, length, take, drop, ◌^◌, pos, Option, Some, None, Result, Ok, Err, refl, sym, ap, subst, ◌∙◌, append_assoc, arith, ltb}
use Rattle.std.specs.List.{flat_map, list_all, slice_get}
use Rattle.std.specs.Int.{Width, w32, w64, byte_len, from_be_bytes, to_be_bytes, cast_signed, cast_unsigned}
use Rattle.std.proofs.lemmas.Bool.{eqb-true, lt-ltb}
use Rattle.std.proofs.lemmas.List.{append-nil, length-append}
use Rattle.p3l_format.specs.declared.fault.Cause.TheVariants.{Short, Range}
use Rattle.p3l_format.specs.declared.fault.FieldFault.{FieldFault}
use Rattle.p3l_format.specs.Format.{Format, ◌>>=◌, tested, fault_at, within, pair, both, after, as_form, always, record_of, made, coded, read_many, counted, tagged, nothing}
use Rattle.p3l_format.specs.Lawful.{IsLawful}
use Rattle.p3l_format.specs.Numbers.{is_byte, number, u8_format, u32_format, u64_format, is_in, u32_in, u8_in, u32_below, block, is_i64, i64_format, one_of}
use Rattle.p3l_format.specs.Places.{FailsAt, IsCutOff, IsPlaced, NoneIsThere, Piece, texts}
use Rattle.p3l_format.specs.laws.Parts.{first_true, second_true}
use Rattle.p3l_format.specs.laws.Formats.{taken, one_spelling, IsForm, lawful_pair, lawful_after, lawful_form, lawful_within, lawful_counted, lawful_tagged, lawful_nothing}
use Rattle.p3l_format.specs.laws.Numbers.{lawful_u8, lawful_u32, lawful_u64, lawful_i64, lawful_block, IsWide, wide32, wide64}

-- ---- steps that fail

abbrev failed : {A : Type 0} → FieldFault → Result A FieldFault
failed e = Err e

err_is : {A : Type 0} (d e : FieldFault) → failed {A = A} d ≡ failed {A = A} e → d ≡ e
err_is d e is = cc

-- a step fails, or the one after it
bind_err : {A B : Type 0} (r : Result A FieldFault) (f : A → Result B FieldFault) (e : FieldFault) → (r >>= f) ≡ Err e → (r ≡ Err e) ⊎ ((x : A) × (r ≡ Ok x) × (f x ≡ Err e))
bind_err (Ok x) f e is = inr (x, refl, is)
bind_err (Err d) f e is = inl (ap (λ x. Err x) (err_is d e is))

-- making another value of a value changes no fault
pub wrap_err : {A B : Type 0} (r : Result A FieldFault) (g : A → B) (e : FieldFault) → (r >>= λ x. Ok (g x)) ≡ Err e → r ≡ Err e
wrap_err (Ok x) g e is = absurd cc
wrap_err (Err d) g e is = ap (λ x. Err x) (err_is d e is)

chosen_err : {A : Type 0} (b : Bool) (r : Result A FieldFault) (d e : FieldFault) → cond b r (Err d) ≡ Err e → (r ≡ Err e) ⊎ (d ≡ e)
chosen_err true r d e is = inl is
chosen_err false r d e is = inr (err_is d e is)

refused_err : {A : Type 0} (b : Bool) (d e : FieldFault) (r : Result A FieldFault) → cond b (Err d) r ≡ Err e → (d ≡ e) ⊎ (r ≡ Err e)
refused_err true d e r is = inl (err_is d e is)
refused_err false d e r is = inr is

-- ---- lists that are one list

-- one of two beginnings of a list begins the other
split_two : {X : Type 0} (a b c d : List X) → a ++ b ≡ c ++ d → ((m : List X) × (a ≡ c ++ m) × (d ≡ m ++ b)) ⊎ ((m : List X) × (c ≡ a ++ m) × (b ≡ m ++ d))
split_two a b [] d e = inl (a, refl, sym e)
split_two [] b (y ∷ c) d e = inr (y ∷ c, refl, e)
split_two {X = X} (x ∷ a) b (y ∷ c) d e =
    let head : x ≡ y = cc in
    let tail : a ++ b ≡ c ++ d = cc in
    elim (split_two a b c d tail) [
      | inl h ↦ inl (h.0, (let q : a ≡ c ++ h.0 = h.1 in cc), h.2)
      | inr h ↦ inr (h.0, (let q : c ≡ a ++ h.0 = h.1 in cc), h.2)
    ]

pub texts-append : (fs gs : List Piece) → texts (fs ++ gs) ≡ texts fs ++ texts gs
texts-append [] gs = refl
texts-append (f ∷ fs) gs = ap (λ (l : List ℕ). f.text ++ l) (texts-append fs gs) ∙ sym (append_assoc f.text (texts fs) (texts gs))

-- ---- fields in a row

-- a step fails with this many bytes left
abbrev pub FailsLeft : {C : Type 0} → Result C FieldFault → ℕ → Type 0
FailsLeft r left = (e : FieldFault) × (r ≡ Err e) × (e.left ≡ left)

-- the reader after a value fails within its bytes
abbrev pub FailsInside : {A C : Type 0} → (A × List ℕ → Result C FieldFault) → Type 0
FailsInside {A = A} go = (x : A × List ℕ) (e : FieldFault) → go x ≡ Err e → e.left ≤ length x.1

-- the reader after a value has these fields
pub record Follows {A C : Type 0} (go : A × List ℕ → Result C FieldFault) (a : A) (fields : List Piece) (Lacks : List Piece → List ℕ → Type 0) : Type 0 where
  pub shared : (fs more : List Piece) (rest : List ℕ) (e : FieldFault) → fields ≡ fs ++ more → go (a, texts fs ++ rest) ≡ Err e → e.left ≤ length rest
  pub next : (fs more : List Piece) (f : Piece) (rest : List ℕ) → fields ≡ fs ++ f ∷ more → Lacks fs rest → FailsLeft (go (a, texts fs ++ rest)) (length rest)
  pub cut : (fs more : List Piece) (f : Piece) (rest : List ℕ) → fields ≡ fs ++ f ∷ more → IsCutOff rest f.text → go (a, texts fs ++ rest) ≡ Err (fault_at Short rest)

pub row_inside : {A C : Type 0} (first : Format ℕ A) → IsPlaced first → (go : A × List ℕ → Result C FieldFault) → FailsInside go → (s : List ℕ) (e : FieldFault) → (first.read s >>= go) ≡ Err e → e.left ≤ length s
row_inside first p go inside s e is =
    elim (bind_err (first.read s) go e is) [
      | inl no_first ↦ p.inside s e no_first
      | inr h ↦
          let t = taken first p.law s h.0 h.1 in
          let low = inside h.0 e h.2 in
          let len : length s ≡ length (first.spell h.0.0 ++ h.0.1) = ap length t.is in
          omega (arith, low, length-append (first.spell h.0.0) h.0.1)
    ]

-- a value read from a beginning of another takes all the fields that the bytes share with it
read_past : {A : Type 0} (first : Format ℕ A) (p : IsPlaced first) (a : A) (fs m : List Piece) (rest : List ℕ) (x : A × List ℕ) → first.fits a ≡ true → p.fields a ≡ fs ++ m
    → first.read (texts fs ++ rest) ≡ Ok x → length x.1 ≤ length rest
read_past first p a fs m rest x fits is read =
    let t = taken first p.law (texts fs ++ rest) x read in
    elim (split_two (texts fs) rest (first.spell x.0) x.1 t.is) [
      | inl h ↦
          let whole : first.spell x.0 ++ (h.0 ++ texts m) ≡ first.spell a =
          sym (append_assoc (first.spell x.0) h.0 (texts m)) ∙ ap (λ (l : List ℕ). l ++ texts m) (sym h.1) ∙ sym (texts-append fs m) ∙ ap texts (sym is) ∙ p.joined a in
          let none : length (h.0 ++ texts m) ≡ 0 = ap length (one_spelling first p.law x.0 a (h.0 ++ texts m) t.fits fits whole).1 in
          let len : length x.1 ≡ length (h.0 ++ rest) = ap length h.2 in
          omega (arith, length-append h.0 (texts m), length-append h.0 rest)
      | inr h ↦
          let len : length rest ≡ length (h.0 ++ x.1) = ap length h.2 in
          omega (arith, length-append h.0 x.1)
    ]

-- after all fields of a value what follows is read
row_goes : {A C : Type 0} (first : Format ℕ A) (p : IsPlaced first) (go : A × List ℕ → Result C FieldFault) (a : A) (fs m : List Piece) (rest : List ℕ) → first.fits a ≡ true → fs ≡ p.fields a ++ m
    → (first.read (texts fs ++ rest) >>= go) ≡ go (a, texts m ++ rest)
row_goes first p go a fs m rest fits is =
    ap (λ (s : List ℕ). first.read s >>= go)
    (ap (λ (l : List Piece). texts l ++ rest) is ∙ ap (λ (l : List ℕ). l ++ rest) (texts-append (p.fields a) m ∙ ap (λ (l : List ℕ). l ++ texts m) (p.joined a)) ∙ append_assoc (first.spell a) (texts m) rest)
    ∙ rw (p.law.again a (texts m ++ rest) fits) refl

pub row_shared : {A C : Type 0} (first : Format ℕ A) (p : IsPlaced first) (go : A × List ℕ → Result C FieldFault) → FailsInside go → (a : A) (g : List Piece) (Lacks : List Piece → List ℕ → Type 0) → Follows go a g Lacks → first.fits a ≡ true
    → (fs more : List Piece) (rest : List ℕ) (e : FieldFault) → p.fields a ++ g ≡ fs ++ more → (first.read (texts fs ++ rest) >>= go) ≡ Err e → e.left ≤ length rest
row_shared first p go inside a g Lacks follows fits fs more rest e is fails =
    elim (split_two (p.fields a) g fs more is) [
      | inl h ↦
          elim (bind_err (first.read (texts fs ++ rest)) go e fails) [
            | inl no_first ↦ p.shared a fs h.0 rest e fits h.1 no_first
            | inr k ↦ omega (arith, read_past first p a fs h.0 rest k.0 fits h.1 k.1, inside k.0 e k.2)
          ]
      | inr h ↦ follows.shared h.0 more rest e h.2 (sym (row_goes first p go a fs h.0 rest fits h.1) ∙ fails)
    ]

-- the next field of a row is in the first value, or in those after it
next_in : (a g fs more : List Piece) (f : Piece) → a ++ g ≡ fs ++ f ∷ more → ((m : List Piece) × (a ≡ fs ++ f ∷ m)) ⊎ ((m : List Piece) × (fs ≡ a ++ m) × (g ≡ m ++ f ∷ more))
next_in a g fs more f is =
    elim (split_two a g fs (f ∷ more) is) [
      | inl h ↦ first_or h.0 h.1 h.2
      | inr h ↦ inr h
    ]
  where
    first_or : (m : List Piece) → a ≡ fs ++ m → f ∷ more ≡ m ++ g → ((n : List Piece) × (a ≡ fs ++ f ∷ n)) ⊎ ((n : List Piece) × (fs ≡ a ++ n) × (g ≡ n ++ f ∷ more))
    first_or [] at rest_is = inr ([], sym (at ∙ append-nil fs) ∙ sym (append-nil a), sym rest_is)
    first_or (y ∷ m) at rest_is =
        let same : f ≡ y = cc in
        inl (m, at ∙ ap (λ (z : Piece). fs ++ z ∷ m) (sym same))

pub row_next : {A C : Type 0} (first : Format ℕ A) (p : IsPlaced first) (go : A × List ℕ → Result C FieldFault) (a : A) (g : List Piece) (Lacks : List Piece → List ℕ → Type 0) → Follows go a g Lacks → first.fits a ≡ true
    → (fs more : List Piece) (f : Piece) (rest : List ℕ) → p.fields a ++ g ≡ fs ++ f ∷ more
    → ((m : List Piece) → p.fields a ≡ fs ++ f ∷ m → NoneIsThere p.fields fs rest) → ((m : List Piece) → fs ≡ p.fields a ++ m → Lacks m rest)
    → FailsLeft (first.read (texts fs ++ rest) >>= go) (length rest)
row_next {C = C} first p go a g Lacks follows fits fs more f rest is in_first in_next =
    elim (next_in (p.fields a) g fs more f is) [
      | inl h ↦
          let n = p.next a fs h.0 f rest fits h.1 (in_first h.0 h.1) in
          (n.fault, rw n.refused refl, n.place)
      | inr h ↦ subst (λ (r : Result C FieldFault). FailsLeft r (length rest)) (sym (row_goes first p go a fs h.0 rest fits h.1)) (follows.next h.0 more f rest h.2 (in_next h.0 h.1))
    ]

pub row_cut : {A C : Type 0} (first : Format ℕ A) (p : IsPlaced first) (go : A × List ℕ → Result C FieldFault) (a : A) (g : List Piece) (Lacks : List Piece → List ℕ → Type 0) → Follows go a g Lacks → first.fits a ≡ true
    → (fs more : List Piece) (f : Piece) (rest : List ℕ) → p.fields a ++ g ≡ fs ++ f ∷ more → IsCutOff rest f.text → (first.read (texts fs ++ rest) >>= go) ≡ Err (fault_at Short rest)
row_cut first p go a g Lacks follows fits fs more f rest is off =
    elim (next_in (p.fields a) g fs more f is) [
      | inl h ↦ (let short = p.cut a fs h.0 f rest fits h.1 off in rw short refl)
      | inr h ↦ row_goes first p go a fs h.0 rest fits h.1 ∙ follows.cut h.0 more f rest h.2 off
    ]

-- the fields of a value, with others after them
pub with_more : (a b fs more : List Piece) (g : Piece) → a ≡ fs ++ g ∷ more → a ++ b ≡ fs ++ g ∷ (more ++ b)
with_more a b fs more g is = ap (λ (l : List Piece). l ++ b) is ∙ append_assoc fs (g ∷ more) b

pub with_before : (a b fs m more : List Piece) (g : Piece) → fs ≡ a ++ m → b ≡ m ++ g ∷ more → a ++ b ≡ fs ++ g ∷ more
with_before a b fs m more g at is = ap (λ (l : List Piece). a ++ l) is ∙ sym (append_assoc a m (g ∷ more)) ∙ ap (λ (l : List Piece). l ++ g ∷ more) (sym at)

pub as_fails : {A : Type 0} (format : Format ℕ A) (s : List ℕ) (left : ℕ) → FailsLeft (format.read s) left → FailsAt format s left
as_fails format s left f = record { fault = f.0; refused = f.1; place = f.2 }

-- ---- two values

unfoldable pub placed_pair : {A B : Type 0} (first : Format ℕ A) (second : A → Format ℕ B) → IsPlaced first → ((a : A) → IsPlaced (second a)) → IsPlaced (pair first second)
unfolding pair
placed_pair {A = A} {B = B} first second p q = record {
  law = lawful_pair first second p.law (λ a. (q a).law);
  fields = fields;
  joined = λ v. texts-append (p.fields v.0) ((q v.0).fields v.1) ∙ ap (λ (l : List ℕ). l ++ texts ((q v.0).fields v.1)) (p.joined v.0) ∙ ap (λ (l : List ℕ). first.spell v.0 ++ l) ((q v.0).joined v.1);
  some = (p.some, (q p.some).some);
  inside = row_inside first p go inside;
  shared = λ v fs more rest e fits is fails. row_shared first p go inside v.0 ((q v.0).fields v.1) _ (follows v.0 v.1 (second_true (first.fits v.0) _ fits)) (first_true _ ((second v.0).fits v.1) fits) fs more rest e is fails;
  next = λ v fs more f rest fits is none. as_fails (pair first second) (texts fs ++ rest) (length rest)
      (row_next first p go v.0 ((q v.0).fields v.1) _ (follows v.0 v.1 (second_true (first.fits v.0) _ fits)) (first_true _ ((second v.0).fits v.1) fits) fs more f rest is
      (λ m at w g others after has right begins. none (w, (q w).some) g (others ++ (q w).fields (q w).some) after (with_more (p.fields w) ((q w).fields (q w).some) fs others g has) right begins)
      (λ m at w g others after has right begins. none (v.0, w) g others after (with_before (p.fields v.0) ((q v.0).fields w) fs m others g at has) right begins));
  cut = λ v fs more f rest fits is off. row_cut first p go v.0 ((q v.0).fields v.1) _ (follows v.0 v.1 (second_true (first.fits v.0) _ fits)) (first_true _ ((second v.0).fits v.1) fits) fs more f rest is off;
}
  where
    fields : A × B → List Piece
    fields v = p.fields v.0 ++ (q v.0).fields v.1

    go : A × List ℕ → Result ((A × B) × List ℕ) FieldFault
    go x = (second x.0).read x.1 >>= λ y. Ok ((x.0, y.0), y.1)

    inside : FailsInside go
    inside x e is = (q x.0).inside x.1 e (wrap_err ((second x.0).read x.1) (λ (y : B × List ℕ). ((x.0, y.0), y.1)) e is)

    follows : (a : A) (b : B) → (second a).fits b ≡ true → Follows go a ((q a).fields b) (NoneIsThere (q a).fields)
    follows a b fits = record {
      shared = λ fs more rest e is fails. (q a).shared b fs more rest e fits is (wrap_err ((second a).read (texts fs ++ rest)) (λ (y : B × List ℕ). ((a, y.0), y.1)) e fails);
      next = λ fs more f rest is none. (let n = (q a).next b fs more f rest fits is none in (n.fault, rw n.refused refl, n.place));
      cut = λ fs more f rest is off. rw ((q a).cut b fs more f rest fits is off) refl;
    }

abbrev pub placed_both : {A B : Type 0} (first : Format ℕ A) (second : Format ℕ B) → IsPlaced first → IsPlaced second → IsPlaced (both first second)
placed_both first second p q = placed_pair first (λ _. second) p (λ _. q)

-- ---- one field

-- a format of one field: it fails at its front, and isn't whole where it is cut off
pub record IsOne {A : Type 0} (format : Format ℕ A) : Type 0 where
  pub law : IsLawful format
  pub any : A
  pub front : (s : List ℕ) (e : FieldFault) → format.read s ≡ Err e → e.left ≡ length s
  pub short : (v : A) (s : List ℕ) → format.fits v ≡ true → IsCutOff s (format.spell v) → format.read s ≡ Err (fault_at Short s)

-- the field that a value is
abbrev pub piece_of : {A : Type 0} → Format ℕ A → A → Piece
piece_of format v = record { text = format.spell v; right = format.fits v }

abbrev pub one_field : {A : Type 0} → Format ℕ A → A → List Piece
one_field format v = piece_of format v ∷ []

pub one_shared : {A : Type 0} (format : Format ℕ A) → IsOne format → (v : A) (fs more : List Piece) (rest : List ℕ) (e : FieldFault) → format.fits v ≡ true → one_field format v ≡ fs ++ more
    → format.read (texts fs ++ rest) ≡ Err e → e.left ≤ length rest
one_shared format o v [] more rest e fits is fails = let at = o.front rest e fails in omega arith
one_shared format o v (f ∷ []) more rest e fits is fails =
    let same : f ≡ piece_of format v = cc in
    let bytes : (f.text ++ []) ++ rest ≡ format.spell v ++ rest = ap (λ (l : List ℕ). l ++ rest) (append-nil f.text ∙ ap (λ (g : Piece). g.text) same) in
    let read : format.read ((f.text ++ []) ++ rest) ≡ Ok (v, rest) = ap format.read bytes ∙ o.law.again v rest fits in
    absurd cc
one_shared format o v (f ∷ g ∷ fs) more rest e fits is fails = absurd cc

fails_or : {A : Type 0} (format : Format ℕ A) → IsOne format → (rest : List ℕ) → NoneIsThere (one_field format) [] rest → (r : Result (A × List ℕ) FieldFault) → format.read rest ≡ r → FailsAt format rest (length rest)
fails_or format o rest none (Ok x) is =
    absurd (none x.0 (piece_of format x.0) [] x.1 refl (o.law.fitting rest x.0 x.1 is) (o.law.spelled rest x.0 x.1 is))
fails_or format o rest none (Err e) is = record { fault = e; refused = is; place = o.front rest e is }

pub one_next : {A : Type 0} (format : Format ℕ A) → IsOne format → (v : A) (fs more : List Piece) (f : Piece) (rest : List ℕ) → format.fits v ≡ true → one_field format v ≡ fs ++ f ∷ more → NoneIsThere (one_field format) fs rest
    → FailsAt format (texts fs ++ rest) (length rest)
one_next format o v [] more f rest fits is none = fails_or format o rest none (format.read rest) refl
one_next format o v (g ∷ []) more f rest fits is none = absurd cc
one_next format o v (g ∷ h ∷ fs) more f rest fits is none = absurd cc

pub one_cut : {A : Type 0} (format : Format ℕ A) → IsOne format → (v : A) (fs more : List Piece) (f : Piece) (rest : List ℕ) → format.fits v ≡ true → one_field format v ≡ fs ++ f ∷ more → IsCutOff rest f.text
    → format.read (texts fs ++ rest) ≡ Err (fault_at Short rest)
one_cut format o v [] more f rest fits is off =
    let same : f ≡ piece_of format v = cc in
    o.short v rest fits (subst (λ (g : Piece). IsCutOff rest g.text) same off)
one_cut format o v (g ∷ []) more f rest fits is off = absurd cc
one_cut format o v (g ∷ h ∷ fs) more f rest fits is off = absurd cc

abbrev pub placed_one : {A : Type 0} (format : Format ℕ A) → IsOne format → IsPlaced format
placed_one format o = record {
  law = o.law;
  fields = one_field format;
  joined = λ v. append-nil (format.spell v);
  some = o.any;
  inside = λ s e fails. (let at = o.front s e fails in omega arith);
  shared = one_shared format o;
  next = one_next format o;
  cut = one_cut format o;
}

-- ---- a value that always comes first

-- the one field of a value is in its range where the value fits
pub one_right : {A : Type 0} (format : Format ℕ A) (w : A) (fs more : List Piece) (g : Piece) → one_field format w ≡ fs ++ g ∷ more → g.right ≡ true → format.fits w ≡ true
one_right format w [] more g is right =
    let same : g ≡ piece_of format w = cc in
    subst (λ (h : Piece). h.right ≡ true) same right
one_right format w (f ∷ []) more g is right = absurd cc
one_right format w (f ∷ h ∷ fs) more g is right = absurd cc

unfoldable pub placed_after : {H A : Type 0} (head : Format ℕ H) (it : H) (inner : Format ℕ A) → ((h : H) → head.fits h ≡ true → h ≡ it) → IsOne head → IsPlaced inner → IsPlaced (after head it inner)
unfolding after
placed_after {H = H} {A = A} head it inner only o q = record {
  law = lawful_after head it inner only o.law q.law;
  fields = λ v. one_field head it ++ q.fields v;
  joined = λ v. ap (λ (l : List ℕ). head.spell it ++ l) (q.joined v);
  some = q.some;
  inside = row_inside head p go inside;
  shared = λ v fs more rest e fits is fails. row_shared head p go inside it (q.fields v) _ (follows v (second_true (head.fits it) _ fits)) (first_true _ (inner.fits v) fits) fs more rest e is fails;
  next = λ v fs more f rest fits is none. as_fails (after head it inner) (texts fs ++ rest) (length rest)
      (row_next head p go it (q.fields v) _ (follows v (second_true (head.fits it) _ fits)) (first_true _ (inner.fits v) fits) fs more f rest is
      (λ m at w g others after_it has right begins.
      let same : w ≡ it = only w (one_right head w fs others g has right) in
      none v g (others ++ q.fields v) after_it (with_more (one_field head it) (q.fields v) fs others g (ap (one_field head) (sym same) ∙ has)) right begins)
      (λ m at w g others after_it has right begins. none w g others after_it (with_before (one_field head it) (q.fields w) fs m others g at has) right begins));
  cut = λ v fs more f rest fits is off. row_cut head p go it (q.fields v) _ (follows v (second_true (head.fits it) _ fits)) (first_true _ (inner.fits v) fits) fs more f rest is off;
}
  where
    p : IsPlaced head
    p = placed_one head o

    go : H × List ℕ → Result (A × List ℕ) FieldFault
    go x = inner.read x.1

    inside : FailsInside go
    inside x e is = q.inside x.1 e is

    follows : (v : A) → inner.fits v ≡ true → Follows go it (q.fields v) (NoneIsThere q.fields)
    follows v fits = record {
      shared = λ fs more rest e is fails. q.shared v fs more rest e fits is fails;
      next = λ fs more f rest is none. (let n = q.next v fs more f rest fits is none in (n.fault, n.refused, n.place));
      cut = λ fs more f rest is off. q.cut v fs more f rest fits is off;
    }

-- ---- a tag

-- each value has one of this tag with the same fields in the tag's row
abbrev pub CanTurn : {T A : Type 0} → (A → T) → (row : T → Format ℕ A) → ((t : T) → IsPlaced (row t)) → Type 0
CanTurn {T = T} {A = A} tag_of row q = (t : T) (w : A) → (v : A) × (tag_of v ≡ t) × ((q t).fields v ≡ (q t).fields w)

unfoldable pub placed_tagged : {T A : Type 0} (tag : Format ℕ T) (tag_of : A → T) (row : T → Format ℕ A) → IsPlaced tag → (q : (t : T) → IsPlaced (row t)) → ((t : T) (v : A) → (row t).fits v ≡ true → tag_of v ≡ t) → CanTurn tag_of row q
    → T → IsPlaced (tagged tag tag_of row)
unfolding tagged
placed_tagged {T = T} {A = A} tag tag_of row p q has turn it = record {
  law = lawful_tagged tag tag_of row p.law (λ t. (q t).law) has;
  fields = fields;
  joined = λ v. texts-append (p.fields (tag_of v)) ((q (tag_of v)).fields v) ∙ ap (λ (l : List ℕ). l ++ texts ((q (tag_of v)).fields v)) (p.joined (tag_of v)) ∙ ap (λ (l : List ℕ). tag.spell (tag_of v) ++ l) ((q (tag_of v)).joined v);
  some = (q it).some;
  inside = row_inside tag p go inside;
  shared = λ v fs more rest e fits is fails. row_shared tag p go inside (tag_of v) ((q (tag_of v)).fields v) _ (follows (tag_of v) v (second_true (tag.fits (tag_of v)) _ fits)) (first_true _ ((row (tag_of v)).fits v) fits) fs more rest e is fails;
  next = λ v fs more f rest fits is none. as_fails (tagged tag tag_of row) (texts fs ++ rest) (length rest)
      (row_next tag p go (tag_of v) ((q (tag_of v)).fields v) _ (follows (tag_of v) v (second_true (tag.fits (tag_of v)) _ fits)) (first_true _ ((row (tag_of v)).fits v) fits) fs more f rest is
      (λ m at t g others after_it there right begins.
      let w = turn t (q t).some in
      none w.0 g (others ++ (q (tag_of w.0)).fields w.0) after_it (with_more (p.fields (tag_of w.0)) ((q (tag_of w.0)).fields w.0) fs others g (ap p.fields w.1 ∙ there)) right begins)
      (λ m at w g others after_it there right begins.
      let u = turn (tag_of v) w in
      none u.0 g others after_it
      (ap (λ (t : T). p.fields t ++ (q t).fields u.0) u.1 ∙ with_before (p.fields (tag_of v)) ((q (tag_of v)).fields u.0) fs m others g at (u.2 ∙ there)) right begins));
  cut = λ v fs more f rest fits is off. row_cut tag p go (tag_of v) ((q (tag_of v)).fields v) _ (follows (tag_of v) v (second_true (tag.fits (tag_of v)) _ fits)) (first_true _ ((row (tag_of v)).fits v) fits) fs more f rest is off;
}
  where
    fields : A → List Piece
    fields v = p.fields (tag_of v) ++ (q (tag_of v)).fields v

    go : T × List ℕ → Result (A × List ℕ) FieldFault
    go x = (row x.0).read x.1

    inside : FailsInside go
    inside x e is = (q x.0).inside x.1 e is

    follows : (t : T) (v : A) → (row t).fits v ≡ true → Follows go t ((q t).fields v) (NoneIsThere (q t).fields)
    follows t v fits = record {
      shared = λ fs more rest e is fails. (q t).shared v fs more rest e fits is fails;
      next = λ fs more f rest is none. (let n = (q t).next v fs more f rest fits is none in (n.fault, n.refused, n.place));
      cut = λ fs more f rest is off. (q t).cut v fs more f rest fits is off;
    }

-- ---- a list with its count

pub many_inside : {A : Type 0} (item : Format ℕ A) → IsPlaced item → (n : ℕ) (s : List ℕ) (e : FieldFault) → read_many item.read n s ≡ Err e → e.left ≤ length s
many_inside item q zero s e is = absurd cc
many_inside {A = A} item q (suc n) s e is =
    row_inside item q (λ x. read_many item.read n x.1 >>= λ y. Ok (x.0 ∷ y.0, y.1))
    (λ x d no_rest. many_inside item q n x.1 d (wrap_err (read_many item.read n x.1) (λ (y : List A × List ℕ). (x.0 ∷ y.0, y.1)) d no_rest)) s e is

-- the reader of a list after its first value
abbrev many_go : {A : Type 0} → Format ℕ A → ℕ → A × List ℕ → Result (List A × List ℕ) FieldFault
many_go item n x = read_many item.read n x.1 >>= λ y. Ok (x.0 ∷ y.0, y.1)

go_inside : {A : Type 0} (item : Format ℕ A) → IsPlaced item → (n : ℕ) → FailsInside (many_go item n)
go_inside {A = A} item q n x e is = many_inside item q n x.1 e (wrap_err (read_many item.read n x.1) (λ (y : List A × List ℕ). (x.0 ∷ y.0, y.1)) e is)

-- after these fields no list of n values has one that is in its range and that the bytes begin with
abbrev pub NoneOfMany : {A : Type 0} → (A → List Piece) → ℕ → List Piece → List ℕ → Type 0
NoneOfMany {A = A} fields n fs rest =
    (ws : List A) (g : Piece) (more : List Piece) (after_it : List ℕ) → length ws ≡ n → flat_map fields ws ≡ fs ++ g ∷ more → g.right ≡ true → rest ≡ g.text ++ after_it → ⊥

-- the fields of a list's values, and how the list fails
pub record ManyFollow {A : Type 0} (item : Format ℕ A) (q : IsPlaced item) (vs : List A) : Type 0 where
  pub shared : (fs more : List Piece) (rest : List ℕ) (e : FieldFault) → flat_map q.fields vs ≡ fs ++ more → read_many item.read (length vs) (texts fs ++ rest) ≡ Err e → e.left ≤ length rest
  pub next : (fs more : List Piece) (f : Piece) (rest : List ℕ) → flat_map q.fields vs ≡ fs ++ f ∷ more → NoneOfMany q.fields (length vs) fs rest → FailsLeft (read_many item.read (length vs) (texts fs ++ rest)) (length rest)
  pub cut : (fs more : List Piece) (f : Piece) (rest : List ℕ) → flat_map q.fields vs ≡ fs ++ f ∷ more → IsCutOff rest f.text → read_many item.read (length vs) (texts fs ++ rest) ≡ Err (fault_at Short rest)

go_follows : {A : Type 0} (item : Format ℕ A) (q : IsPlaced item) (v : A) (vs : List A) → ManyFollow item q vs → Follows (many_go item (length vs)) v (flat_map q.fields vs) (NoneOfMany q.fields (length vs))
go_follows {A = A} item q v vs m = record {
  shared = λ fs more rest e is fails. m.shared fs more rest e is (wrap_err (read_many item.read (length vs) (texts fs ++ rest)) (λ (y : List A × List ℕ). (v ∷ y.0, y.1)) e fails);
  next = λ fs more f rest is none. (let n = m.next fs more f rest is none in (n.0, rw n.1 refl, n.2));
  cut = λ fs more f rest is off. rw (m.cut fs more f rest is off) refl;
}

pub no_field : (fs more : List Piece) (f : Piece) → [] ≡ fs ++ f ∷ more → ⊥
no_field [] more f is = cc
no_field (g ∷ fs) more f is = cc

pub many_follow : {A : Type 0} (item : Format ℕ A) (q : IsPlaced item) (vs : List A) → list_all item.fits vs ≡ true → ManyFollow item q vs
many_follow item q [] fits = record {
  shared = λ fs more rest e is fails. absurd cc;
  next = λ fs more f rest is none. absurd (no_field fs more f is);
  cut = λ fs more f rest is off. absurd (no_field fs more f is);
}
many_follow item q (v ∷ vs) fits =
    let m = many_follow item q vs (second_true (item.fits v) (list_all item.fits vs) fits) in
    let first = first_true (item.fits v) (list_all item.fits vs) fits in
    let go = many_go item (length vs) in
    record {
      shared = λ fs more rest e is fails. row_shared item q go (go_inside item q (length vs)) v (flat_map q.fields vs) _ (go_follows item q v vs m) first fs more rest e is fails;
      next = λ fs more f rest is none. row_next item q go v (flat_map q.fields vs) _ (go_follows item q v vs m) first fs more f rest is
          (λ k at w g others after_it has right begins. none (w ∷ vs) g (others ++ flat_map q.fields vs) after_it refl (with_more (q.fields w) (flat_map q.fields vs) fs others g has) right begins)
          (λ k at ws g others after_it len has right begins. none (v ∷ ws) g others after_it (ap suc len) (with_before (q.fields v) (flat_map q.fields ws) fs k others g at has) right begins);
      cut = λ fs more f rest is off. row_cut item q go v (flat_map q.fields vs) _ (go_follows item q v vs m) first fs more f rest is off;
    }

pub many_joined : {A : Type 0} (item : Format ℕ A) (q : IsPlaced item) (vs : List A) → texts (flat_map q.fields vs) ≡ flat_map item.spell vs
many_joined item q [] = refl
many_joined item q (v ∷ vs) =
    texts-append (q.fields v) (flat_map q.fields vs) ∙ ap (λ (l : List ℕ). l ++ texts (flat_map q.fields vs)) (q.joined v) ∙ ap (λ (l : List ℕ). item.spell v ++ l) (many_joined item q vs)

-- n times a value
pub copies : {A : Type 0} → ℕ → A → List A
copies zero v = []
copies (suc n) v = v ∷ copies n v

pub copies_len : {A : Type 0} (n : ℕ) (v : A) → length (copies n v) ≡ n
unfolding copies
copies_len zero v = refl
copies_len (suc n) v = ap suc (copies_len n v)

unfoldable pub placed_counted : {A : Type 0} (count : Format ℕ ℕ) (item : ℕ → Format ℕ A) → IsPlaced count → ((n : ℕ) → IsPlaced (item n)) → IsPlaced (counted count item)
unfolding counted
placed_counted {A = A} count item p q = record {
  law = lawful_counted count item p.law (λ n. (q n).law);
  fields = fields;
  joined = λ vs. texts-append (p.fields (length vs)) (flat_map (q (length vs)).fields vs) ∙ ap (λ (l : List ℕ). l ++ texts (flat_map (q (length vs)).fields vs)) (p.joined (length vs)) ∙ ap (λ (l : List ℕ). count.spell (length vs) ++ l) (many_joined (item (length vs)) (q (length vs)) vs);
  some = [];
  inside = row_inside count p go inside;
  shared = λ vs fs more rest e fits is fails. row_shared count p go inside (length vs) (flat_map (q (length vs)).fields vs) _ (follows vs (second_true (count.fits (length vs)) _ fits)) (first_true _ (list_all (item (length vs)).fits vs) fits) fs more rest e is fails;
  next = λ vs fs more f rest fits is none. as_fails (counted count item) (texts fs ++ rest) (length rest)
      (row_next count p go (length vs) (flat_map (q (length vs)).fields vs) _ (follows vs (second_true (count.fits (length vs)) _ fits)) (first_true _ (list_all (item (length vs)).fits vs) fits) fs more f rest is
      (λ m at n g others after_it has right begins.
      let ws = copies n (q n).some in
      none ws g (others ++ flat_map (q (length ws)).fields ws) after_it (with_more (p.fields (length ws)) (flat_map (q (length ws)).fields ws) fs others g (ap p.fields (copies_len n (q n).some) ∙ has)) right begins)
      (λ m at ws g others after_it len has right begins.
      none ws g others after_it
      (ap (λ (n : ℕ). p.fields n ++ flat_map (q n).fields ws) len ∙ with_before (p.fields (length vs)) (flat_map (q (length vs)).fields ws) fs m others g at has) right begins));
  cut = λ vs fs more f rest fits is off. row_cut count p go (length vs) (flat_map (q (length vs)).fields vs) _ (follows vs (second_true (count.fits (length vs)) _ fits)) (first_true _ (list_all (item (length vs)).fits vs) fits) fs more f rest is off;
}
  where
    fields : List A → List Piece
    fields vs = p.fields (length vs) ++ flat_map (q (length vs)).fields vs

    go : ℕ × List ℕ → Result (List A × List ℕ) FieldFault
    go n = read_many (item n.0).read n.0 n.1

    inside : FailsInside go
    inside x e is = many_inside (item x.0) (q x.0) x.0 x.1 e is

    follows : (vs : List A) → list_all (item (length vs)).fits vs ≡ true → Follows go (length vs) (flat_map (q (length vs)).fields vs) (NoneOfMany (q (length vs)).fields (length vs))
    follows vs fits =
        let m = many_follow (item (length vs)) (q (length vs)) vs fits in record {
          shared = λ fs more rest e is fails. m.shared fs more rest e is fails;
          next = λ fs more f rest is none. m.next fs more f rest is none;
          cut = λ fs more f rest is off. m.cut fs more f rest is off;
        }

-- ---- no bytes

unfoldable pub placed_nothing : {A : Type 0} (is_it : A → Bool) (it : A) → is_it it ≡ true → ((v : A) → is_it v ≡ true → it ≡ v) → IsPlaced (nothing {S = ℕ} is_it it)
unfolding nothing
placed_nothing is_it it is only = record {
  law = lawful_nothing is_it it is only;
  fields = λ v. [];
  joined = λ v. refl;
  some = it;
  inside = λ s e fails. absurd cc;
  shared = λ v fs more rest e fits is fails. absurd cc;
  next = λ v fs more f rest fits is none. absurd (no_field fs more f is);
  cut = λ v fs more f rest fits is off. absurd (no_field fs more f is);
}

-- ---- another form

-- a field that a value of the parts has, a value of the form has too
abbrev pub HasAll : {A B : Type 0} → (B → A) → (A → List Piece) → Type 0
HasAll {A = A} {B = B} parts fields =
    (a : A) (fs more : List Piece) (g : Piece) → fields a ≡ fs ++ g ∷ more → g.right ≡ true → (b : B) × (others : List Piece) × (fields (parts b) ≡ fs ++ g ∷ others)

unfoldable pub placed_form : {A B : Type 0} (good : B → Bool) (make : A → B) (parts : B → A) (inner : Format ℕ A) → IsForm good make parts inner → (p : IsPlaced inner) → HasAll parts p.fields → IsPlaced (as_form good make parts inner)
unfolding as_form
placed_form {A = A} good make parts inner form p all = record {
  law = lawful_form good make parts inner form p.law;
  fields = λ v. p.fields (parts v);
  joined = λ v. p.joined (parts v);
  some = make p.some;
  inside = λ s e fails. p.inside s e (wrap_err (inner.read s) (λ (x : A × List ℕ). (make x.0, x.1)) e fails);
  shared = λ v fs more rest e fits is fails.
      p.shared (parts v) fs more rest e (second_true (good v) (inner.fits (parts v)) fits) is (wrap_err (inner.read (texts fs ++ rest)) (λ (x : A × List ℕ). (make x.0, x.1)) e fails);
  next = λ v fs more f rest fits is none.
      let n = p.next (parts v) fs more f rest (second_true (good v) (inner.fits (parts v)) fits) is
      (λ w g others after_it has right begins. let u = all w fs others g has right in none u.0 g u.1 after_it u.2 right begins) in
      record { fault = n.fault; refused = rw n.refused refl; place = n.place };
  cut = λ v fs more f rest fits is off. rw (p.cut (parts v) fs more f rest (second_true (good v) (inner.fits (parts v)) fits) is off) refl;
}

-- `HasAll` holds if the parts of a made value are those that it was made of
pub has_all : {A B : Type 0} (make : A → B) (parts : B → A) (fields : A → List Piece) → ((a : A) → parts (make a) ≡ a) → HasAll parts fields
has_all make parts fields back a fs more g has right = (make a, more, ap fields (back a) ∙ has)

abbrev pub placed_record : {A B : Type 0} (make : A → B) (parts : B → A) (inner : Format ℕ A) → ((a : A) → parts (make a) ≡ a) → ((b : B) → make (parts b) ≡ b) → IsPlaced inner → IsPlaced (record_of make parts inner)
placed_record make parts inner back there p =
    placed_form always make parts inner (record { back = λ a _. back a; fine = λ a _. refl; there = λ v _. there v }) p (has_all make parts p.fields back)

-- ---- numbers

left_is : (d e : FieldFault) → d ≡ e → e.left ≡ d.left
left_is d e is = ap (λ (f : FieldFault). f.left) (sym is)

off_len : (s w : List ℕ) → IsCutOff s w → length s < length w
off_len s w off =
    let len : length w ≡ length (s ++ off.0 ∷ off.1) = ap length off.2 in
    omega (arith, length-append s (off.0 ∷ off.1))

one_number : (w : Width) (limit : ℕ) → IsWide w limit → IsLawful (number w limit) → IsOne (number w limit)
unfolding number
one_number w limit wide law = record {
  law = law;
  any = 0;
  front = λ s e fails.
      elim (refused_err (ltb (length s) (byte_len w)) (fault_at Short s) e (cond (list_all is_byte (take (byte_len w) s)) (Ok (from_be_bytes w (take (byte_len w) s), drop (byte_len w) s)) (Err (fault_at Range s))) fails) [
        | inl short ↦ left_is (fault_at Short s) e short
        | inr h ↦
            elim (chosen_err (list_all is_byte (take (byte_len w) s)) (Ok (from_be_bytes w (take (byte_len w) s), drop (byte_len w) s)) (fault_at Range s) e h) [
              | inl k ↦ absurd cc
              | inr range ↦ left_is (fault_at Range s) e range
            ]
      ];
  short = λ n s fits off.
      let low = off_len s (to_be_bytes w n) off in
      rw (lt-ltb (length s) (byte_len w) (omega (arith, wide.len n))) refl;
}

pub one_u32 : IsOne u32_format
one_u32 = one_number w32 (2 ^ 32) wide32 lawful_u32

pub one_u64 : IsOne u64_format
one_u64 = one_number w64 (2 ^ 64) wide64 lawful_u64

u8_front : (s : List ℕ) (e : FieldFault) → u8_format.read s ≡ Err e → e.left ≡ length s
unfolding u8_format
u8_front [] e fails = left_is (fault_at {S = ℕ} Short []) e (err_is (fault_at {S = ℕ} Short []) e fails)
u8_front (b ∷ s) e fails =
    elim (chosen_err (is_byte b) (Ok (b, s)) (fault_at Range (b ∷ s)) e fails) [
      | inl k ↦ absurd cc
      | inr range ↦ left_is (fault_at Range (b ∷ s)) e range
    ]

u8_short : (v : ℕ) (s : List ℕ) → IsCutOff s (v ∷ []) → u8_format.read s ≡ Err (fault_at Short s)
unfolding u8_format
u8_short v [] off = refl
u8_short v (b ∷ s) off = (let low = off_len (b ∷ s) (v ∷ []) off in absurd (omega arith))

pub one_u8 : IsOne u8_format
unfolding u8_format
one_u8 = record { law = lawful_u8; any = 0; front = u8_front; short = λ v s fits off. u8_short v s off }

pub one_block : (n : ℕ) → IsOne (block n)
unfolding block
one_block n = record {
  law = lawful_block n;
  any = copies n 0;
  front = λ s e fails.
      elim (refused_err (ltb (length s) n) (fault_at Short s) e (Ok (take n s, drop n s)) fails) [
        | inl short ↦ left_is (fault_at Short s) e short
        | inr k ↦ absurd cc
      ];
  short = λ b s fits off.
      let low = off_len s b off in
      let len : length b ≡ n = eqb-true _ _ fits in
      rw (lt-ltb (length s) n (omega arith)) refl;
}

pub one_within : {A : Type 0} (test : A → Bool) (inner : Format ℕ A) → IsOne inner → IsOne (within test inner)
unfolding within
one_within test inner o = record {
  law = lawful_within test inner o.law;
  any = o.any;
  front = λ s e fails.
      elim (bind_err (inner.read s) (tested test s) e fails) [
        | inl no_inner ↦ o.front s e no_inner
        | inr h ↦
            elim (chosen_err (test h.0.0) (Ok h.0) (fault_at Range s) e h.2) [
              | inl k ↦ absurd cc
              | inr range ↦ left_is (fault_at Range s) e range
            ]
      ];
  short = λ v s fits off. rw (o.short v s (first_true (inner.fits v) (test v) fits) off) refl;
}

made_err : {A : Type 0} (o : Option A) (s rest : List ℕ) (e : FieldFault) → made o s rest ≡ Err e → e.left ≡ length s
made_err None s rest e fails = left_is (fault_at Range s) e (err_is (fault_at Range s) e fails)
made_err (Some v) s rest e fails = absurd cc

pub one_coded : {A B : Type 0} (make : A → Option B) (code : B → A) (inner : Format ℕ A) → IsLawful (coded make code inner) → B → IsOne inner → IsOne (coded make code inner)
unfolding coded
one_coded make code inner law some o = record {
  law = law;
  any = some;
  front = λ s e fails.
      elim (bind_err (inner.read s) (λ x. made (make x.0) s x.1) e fails) [
        | inl no_inner ↦ o.front s e no_inner
        | inr h ↦ made_err (make h.0.0) s h.0.1 e h.2
      ];
  short = λ v s fits off. rw (o.short (code v) s fits off) refl;
}

pub one_of_one : {A : Type 0} (all : List A) (place : A → ℕ) → IsLawful (one_of all place) → A → IsOne (one_of all place)
unfolding one_of
one_of_one all place law some = one_coded (λ n. slice_get all n) place u8_format law some one_u8

abbrev pub placed_u8 : IsPlaced u8_format
placed_u8 = placed_one u8_format one_u8

abbrev pub placed_u32 : IsPlaced u32_format
placed_u32 = placed_one u32_format one_u32

abbrev pub placed_u64 : IsPlaced u64_format
placed_u64 = placed_one u64_format one_u64

pub one_u32_in : (low high : ℕ) → IsOne (u32_in low high)
one_u32_in low high = one_within (is_in low high) u32_format one_u32

abbrev pub placed_u32_in : (low high : ℕ) → IsPlaced (u32_in low high)
placed_u32_in low high = placed_one (u32_in low high) (one_u32_in low high)

abbrev pub placed_u8_in : (low high : ℕ) → IsPlaced (u8_in low high)
placed_u8_in low high = placed_one (u8_in low high) (one_within (is_in low high) u8_format one_u8)

abbrev pub placed_u32_below : (limit : ℕ) → IsPlaced (u32_below limit)
placed_u32_below limit = placed_one (u32_below limit) (one_within (λ n. ltb n limit) u32_format one_u32)

abbrev pub placed_one_of : {A : Type 0} (all : List A) (place : A → ℕ) → IsLawful (one_of all place) → A → IsPlaced (one_of all place)
placed_one_of all place law some = placed_one (one_of all place) (one_of_one all place law some)

pub one_i64 : IsOne i64_format
unfolding as_form
one_i64 = record {
  law = lawful_i64;
  any = pos 0;
  front = λ s e fails. one_u64.front s e (wrap_err (u64_format.read s) (λ (x : ℕ × List ℕ). (cast_signed w64 x.0, x.1)) e fails);
  short = λ z s fits off. rw (one_u64.short (cast_unsigned w64 z) s (second_true (is_i64 z) (u64_format.fits (cast_unsigned w64 z)) fits) off) refl;
}

abbrev pub placed_i64 : IsPlaced i64_format
placed_i64 = placed_one i64_format one_i64
