-- Counts of flags, and searches among them.
use Rattle.std.proofs.Common.{◌≡◌, ℕ, zero, suc, ◌+◌, ◌-◌, ◌*◌, ◌<◌, ◌≤◌, ◌⊎◌, Bool, true, false, not, cond, List, length, replicate, get_or, slice_set, Option, Some, None, refl, sym, ap, ap₂, ◌∙◌, inl, inr, arith, length-set, ◌/◌, ◌%◌, subst, get_or-set_same, get_or-set_other}
use mathlib.Core.Bool.{beq}
use Rattle.std.specs.List.{find, range_with_len}
use Rattle.std.specs.Option.{option_or}
use Rattle.std.proofs.lemmas.Bool.{cond-true, cond-false, cases_Bool, cases_lt, cases_eq}
use Rattle.std.proofs.lemmas.List.Folds.{find-append}
use Rattle.std.proofs.lemmas.List.{length-replicate, get_or_read}
use Rattle.p3l_ready.specs.Flags.{flag_at, count_from, IsCounted}
use Rattle.p3l_ready.specs.At.{at}
use Rattle.p3l_ready.proofs.AtLemmas.{at-same, at-other, same_function}
use Rattle.p3l_ready.proofs.Cyclic.{range-split}

-- a written flag
pub flag-put : (flags : List Bool) (p : ℕ) (flag : Bool) → p < length flags → flag_at (slice_set flags p flag) ≡ at (flag_at flags) p flag
flag-put flags p flag h =
    same_function (λ j. elim (cases_eq j p) [
      | inl e ↦ ap (flag_at (slice_set flags p flag)) e ∙ get_or-set_same flags p flag false h ∙ sym (at-same (flag_at flags) p flag) ∙ ap (at (flag_at flags) p flag) (sym e)
      | inr e ↦ get_or-set_other flags p j flag false e ∙ sym (at-other (flag_at flags) p flag j e)
    ])

abbrev one : Bool → ℕ
one b = cond b 1 0

module _ (f : ℕ → Bool) where
  pub count-split : (a n k : ℕ) → count_from f a (n + k) ≡ count_from f a n + count_from f (a + n) k
  unfolding count_from
  count-split a zero k =
      let e : zero + k ≡ k = omega arith in
      let g : a ≡ a + zero = omega arith in
      let r : count_from f a (zero + k) ≡ count_from f (a + zero) k = ap (count_from f a) e ∙ ap (λ x. count_from f x k) g in
      omega (arith, r)
  count-split a (suc n) k =
      let e : suc n + k ≡ suc (n + k) = omega arith in
      let g : a + 1 + n ≡ a + suc n = omega arith in
      let r : count_from f (a + 1) (n + k) ≡ count_from f (a + 1) n + count_from f (a + 1 + n) k = count-split (a + 1) n k in
      let s : count_from f (a + 1 + n) k ≡ count_from f (a + suc n) k = ap (λ x. count_from f x k) g in
      ap (count_from f a) e ∙ omega (arith, r, s)

  pub count-within : (a n : ℕ) → count_from f a n ≤ n
  unfolding count_from
  count-within a zero = omega arith
  count-within a (suc n) =
      let r = count-within (a + 1) n in
      elim (cases_Bool (f a)) [
        | inl e ↦ let h : one (f a) ≡ 1 = cond-true (f a) 1 0 e in omega (arith, r, h)
        | inr e ↦ let h : one (f a) ≡ 0 = cond-false (f a) 1 0 e in omega (arith, r, h)
      ]

  -- a search finds nothing if the count is 0
  pub none-counted : (a n : ℕ) → count_from f a n ≡ 0 → find f (range_with_len a n) ≡ None
  unfolding count_from
  none-counted a zero h = refl
  none-counted a (suc n) h =
      elim (cases_Bool (f a)) [
        | inl e ↦ let one_is : one (f a) ≡ 1 = cond-true (f a) 1 0 e in absurd (omega (arith, h, one_is))
        | inr e ↦
            let rest : count_from f (a + 1) n ≡ 0 = omega (arith, h) in
            cond-false (f a) _ _ e ∙ none-counted (a + 1) n rest
      ]

  -- a search that finds nothing finds nothing in the front
  pub none-front : (a n k : ℕ) → find f (range_with_len a (n + k)) ≡ None → find f (range_with_len a n) ≡ None
  none-front a n k h = left (find f (range_with_len a n)) _ (sym (find-append f (range_with_len a n) (range_with_len (a + n) k)) ∙ ap (find f) (sym (range-split a n k)) ∙ h)
    where
      left : (x y : Option ℕ) → option_or x y ≡ None → x ≡ None
      left None y e = refl
      left (Some x) y e = cc

  -- two searches that find nothing, one after the other
  pub none-joined : (a n k : ℕ) → find f (range_with_len a n) ≡ None → find f (range_with_len (a + n) k) ≡ None → find f (range_with_len a (n + k)) ≡ None
  none-joined a n k h g = ap (find f) (range-split a n k) ∙ find-append f (range_with_len a n) (range_with_len (a + n) k) ∙ ap₂ option_or h g

  -- one flag changes
  module _ (p : ℕ) (x : Bool) where
    pub count-other : (a n : ℕ) → (a + n ≤ p) ⊎ (p < a) → count_from (at f p x) a n ≡ count_from f a n
    unfolding count_from
    count-other a zero h = refl
    count-other a (suc n) h =
        let here : at f p x a ≡ f a = at-other f p x a (λ e. elim h [ inl l ↦ absurd (omega (arith, e)) | inr l ↦ absurd (omega (arith, e)) ]) in
        ap₂ (λ b c. one b + c) here (count-other (a + 1) n (elim h [ inl l ↦ inl (omega arith) | inr l ↦ inr (omega arith) ]))

    pub count-here : (a n : ℕ) → a ≤ p → p < a + n → count_from (at f p x) a n + one (f p) ≡ count_from f a n + one x
    unfolding count_from
    count-here a zero low high = absurd (omega arith)
    count-here a (suc n) low high =
        elim (cases_eq a p) [
          | inl e ↦
              let here : one (at f p x a) ≡ one x = ap one (ap (at f p x) e ∙ at-same f p x) in
              let was : one (f a) ≡ one (f p) = ap (λ k. one (f k)) e in
              let rest : count_from (at f p x) (a + 1) n ≡ count_from f (a + 1) n = count-other (a + 1) n (inr (omega (arith, e))) in
              omega (arith, here, was, rest)
          | inr e ↦
              let here : one (at f p x a) ≡ one (f a) = ap one (at-other f p x a e) in
              let rest : count_from (at f p x) (a + 1) n + one (f p) ≡ count_from f (a + 1) n + one x = count-here (a + 1) n (omega (arith, e)) (omega arith) in
              omega (arith, here, rest)
        ]

-- a set whose numbers are none
count-none : (n a k : ℕ) → count_from (flag_at (replicate n false)) a k ≡ 0
unfolding count_from
count-none n a zero = refl
count-none n a (suc k) =
    let here : one (flag_at (replicate n false) a) ≡ 0 = ap one (no_flag n a) in
    let rest : count_from (flag_at (replicate n false)) (a + 1) k ≡ 0 = count-none n (a + 1) k in
    omega (arith, here, rest)
  where
    no_flag : (n a : ℕ) → flag_at (replicate n false) a ≡ false
    no_flag zero a = refl
    no_flag (suc n) zero = refl
    no_flag (suc n) (suc a) = no_flag n a

no_blocks : (n b : ℕ) → get_or {A = ℕ} (replicate n 0) b 0 ≡ 0
no_blocks zero b = refl
no_blocks (suc n) zero = refl
no_blocks (suc n) (suc b) = no_blocks n b

pub counted-new : (n m : ℕ) → n ≤ 1048576 → n ≤ 64 * m → 64 * m < n + 64 → IsCounted (replicate n false) (replicate m 0) 0
counted-new n m few room tight =
    let flags : length (replicate n false) ≡ n = length-replicate n false in
    let blocks : length {A = ℕ} (replicate m 0) ≡ m = length-replicate m 0 in
    record {
      few = omega (arith, flags);
      room = omega (arith, flags, blocks);
      tight = omega (arith, flags, blocks);
      each = λ b h. no_blocks m b ∙ sym (count-none n (64 * b) 64);
      all = sym (count-none n 0 _);
    }

-- a set with one flag changed
module _ (flags : List Bool) (blocks : List ℕ) (count : ℕ) (h : IsCounted flags blocks count) (p : ℕ) (inside : p < length flags) where
  pub block-inside : p / 64 < length blocks
  block-inside = let room = h.room in omega arith

  pub block-is : get_or blocks (p / 64) 0 ≡ count_from (flag_at flags) (64 * (p / 64)) 64
  block-is = h.each (p / 64) block-inside

  pub counted-put : (x : Bool) (n k : ℕ) → n + one (flag_at flags p) ≡ get_or blocks (p / 64) 0 + one x → k + one (flag_at flags p) ≡ count + one x → IsCounted (slice_set flags p x) (slice_set blocks (p / 64) n) k
  counted-put x n k block all =
      let long : length (slice_set flags p x) ≡ length flags = length-set flags p x in
      let as_long : length (slice_set blocks (p / 64) n) ≡ length blocks = length-set blocks (p / 64) n in
      let few = h.few in
      let room = h.room in
      let tight = h.tight in
      let was = h.all in
      let put = flag-put flags p x inside in
      record {
        few = omega (arith, long);
        room = omega (arith, long, as_long);
        tight = omega (arith, long, as_long);
        each = λ b l.
            elim (cases_eq b (p / 64)) [
              | inl e ↦
                  let here : get_or (slice_set blocks (p / 64) n) (p / 64) 0 ≡ n = get_or-set_same blocks (p / 64) n 0 block-inside in
                  let counted : count_from (at (flag_at flags) p x) (64 * (p / 64)) 64 + one (flag_at flags p) ≡ count_from (flag_at flags) (64 * (p / 64)) 64 + one x = count-here (flag_at flags) p x (64 * (p / 64)) 64 (omega arith) (omega arith) in
                  let block_was = block-is in
                  let same : count_from (flag_at (slice_set flags p x)) (64 * (p / 64)) 64 ≡ count_from (at (flag_at flags) p x) (64 * (p / 64)) 64 = ap (λ f. count_from f (64 * (p / 64)) 64) put in
                  let goal : get_or (slice_set blocks (p / 64) n) (p / 64) 0 ≡ count_from (flag_at (slice_set flags p x)) (64 * (p / 64)) 64 = omega (arith, here, counted, block_was, same, block) in
                  subst (λ j. get_or (slice_set blocks (p / 64) n) j 0 ≡ count_from (flag_at (slice_set flags p x)) (64 * j) 64) (sym e) goal
              | inr e ↦
                  let apart : (64 * b + 64 ≤ p) ⊎ (p < 64 * b) = elim (cases_lt p (64 * b)) [ inl low ↦ inr low | inr high ↦ inl (omega arith) ] in
                  let inner : b < length blocks = omega (arith, l, as_long) in
                  get_or-set_other blocks (p / 64) b n 0 e ∙ h.each b inner ∙ sym (count-other (flag_at flags) p x (64 * b) 64 apart) ∙ ap (λ f. count_from f (64 * b) 64) (sym put)
            ];
        all =
            (let counted : count_from (at (flag_at flags) p x) 0 (length flags) + one (flag_at flags p) ≡ count_from (flag_at flags) 0 (length flags) + one x = count-here (flag_at flags) p x 0 (length flags) (omega arith) (omega (arith, inside)) in
            let same : count_from (flag_at (slice_set flags p x)) 0 (length (slice_set flags p x)) ≡ count_from (at (flag_at flags) p x) 0 (length flags) = ap₂ (λ f m. count_from f 0 m) put long in
            omega (arith, counted, same, was, all));
      }

  -- a number is put in
  module _ (x flag : Bool) (read : x ≡ get_or flags p x) (differs : not (beq x flag) ≡ true) (b : ℕ) (block : b ≡ get_or blocks (p / 64) b) where
    was_is : flag_at flags p ≡ x
    was_is = sym (get_or_read flags p x inside read false)

    block_was : b ≡ get_or blocks (p / 64) 0
    block_was = get_or_read blocks (p / 64) b block-inside block 0

    pub block-few : b ≤ 64
    block-few =
        let within = count-within (flag_at flags) (64 * (p / 64)) 64 in
        let is = block_was ∙ block-is in
        omega (arith, within, is)

    pub count-few : count ≤ 1048576
    count-few =
        let within = count-within (flag_at flags) 0 (length flags) in
        let few = h.few in
        let is = h.all in
        omega (arith, within, is, few)

    pub counted-in : flag ≡ true → IsCounted (slice_set flags p flag) (slice_set blocks (p / 64) (b + 1)) (count + 1)
    counted-in e =
        let was : one (flag_at flags p) ≡ 0 = ap one (was_is ∙ other x flag differs e) in
        let now : one flag ≡ 1 = ap one e in
        let is = block_was in
        counted-put flag (b + 1) (count + 1) (omega (arith, was, now, is)) (omega (arith, was, now))
      where
        other : (x flag : Bool) → not (beq x flag) ≡ true → flag ≡ true → x ≡ false
        other true true d e = cc
        other true false d e = cc
        other false flag d e = refl

    module _ (e : flag ≡ false) where
      there : flag_at flags p ≡ true
      there = was_is ∙ other x flag differs e
        where
          other : (x flag : Bool) → not (beq x flag) ≡ true → flag ≡ false → x ≡ true
          other false true d e = cc
          other false false d e = cc
          other true flag d e = refl

      pub block-some : 1 ≤ b
      block-some =
          let counted : count_from (at (flag_at flags) p false) (64 * (p / 64)) 64 + one (flag_at flags p) ≡ count_from (flag_at flags) (64 * (p / 64)) 64 + one false = count-here (flag_at flags) p false (64 * (p / 64)) 64 (omega arith) (omega arith) in
          let is = block_was ∙ block-is in
          let here : one (flag_at flags p) ≡ 1 = ap one there in
          omega (arith, counted, is, here)

      pub count-some : 1 ≤ count
      count-some =
          let counted : count_from (at (flag_at flags) p false) 0 (length flags) + one (flag_at flags p) ≡ count_from (flag_at flags) 0 (length flags) + one false = count-here (flag_at flags) p false 0 (length flags) (omega arith) (omega (arith, inside)) in
          let is = h.all in
          let here : one (flag_at flags p) ≡ 1 = ap one there in
          omega (arith, counted, is, here)

      pub counted-out : IsCounted (slice_set flags p flag) (slice_set blocks (p / 64) (b - 1)) (count - 1)
      counted-out =
          let was : one (flag_at flags p) ≡ 1 = ap one there in
          let now : one flag ≡ 0 = ap one e in
          let is = block_was in
          let some = block-some in
          let more = count-some in
          counted-put flag (b - 1) (count - 1) (omega (arith, was, now, is, some)) (omega (arith, was, now, more))

-- an empty block
pub gap-empty : (flags now : List Bool) (blocks : List ℕ) (count : ℕ) → flags ≡ now → IsCounted flags blocks count → (p x : ℕ) → p < length now → p % 64 ≡ 0 → x ≡ get_or blocks (p / 64) x → x ≡ 0 → find (flag_at now) (range_with_len p 64) ≡ None
gap-empty flags now blocks count same h p x low whole read nothing =
    let inside : p < length flags = subst (λ fs. p < length fs) (sym same) low in
    let start : 64 * (p / 64) ≡ p = omega (arith, whole) in
    let is : count_from (flag_at flags) (64 * (p / 64)) 64 ≡ 0 = sym (block-is flags blocks count h p inside) ∙ sym (get_or_read blocks (p / 64) x (block-inside flags blocks count h p inside) read 0) ∙ nothing in
    let here : count_from (flag_at now) p 64 ≡ 0 = ap₂ (λ fs a. count_from (flag_at fs) a 64) (sym same) (sym start) ∙ is in
    none-counted (flag_at now) p 64 here

-- the blocks before one
module _ (flags now : List Bool) (blocks : List ℕ) (count : ℕ) (same : flags ≡ now) (h : IsCounted flags blocks count) (k : ℕ) where
  pub blocks-more : (left b x : ℕ) → b < length blocks → left + count_from (flag_at now) 0 (64 * b) ≡ k → x ≡ get_or blocks b x → x ≤ left → (left - x) + count_from (flag_at now) 0 (64 * (b + 1)) ≡ k
  blocks-more left b x inside was read low =
      let next : 64 * (b + 1) ≡ 64 * b + 64 = omega arith in
      let split : count_from (flag_at now) 0 (64 * b + 64) ≡ count_from (flag_at now) 0 (64 * b) + count_from (flag_at now) (0 + 64 * b) 64 = count-split (flag_at now) 0 (64 * b) 64 in
      let start : 0 + 64 * b ≡ 64 * b = omega arith in
      let block : count_from (flag_at now) (0 + 64 * b) 64 ≡ x = ap₂ (λ fs a. count_from (flag_at fs) a 64) (sym same) start ∙ sym (h.each b inside) ∙ sym (get_or_read blocks b x inside read 0) in
      let all : count_from (flag_at now) 0 (64 * (b + 1)) ≡ count_from (flag_at now) 0 (64 * b + 64) = ap (count_from (flag_at now) 0) next in
      omega (arith, was, low, split, block, all)

  pub blocks-end : (left b n : ℕ) → n ≡ length blocks → n ≤ b → b ≤ n → left + count_from (flag_at now) 0 (64 * b) ≡ k → k < count_from (flag_at now) 0 (length now) → ⊥
  blocks-end left b n n_is high low was there =
      let long : length flags ≡ length now = ap length same in
      let room = h.room in
      let whole : 64 * b ≡ length now + (64 * b - length now) = omega (arith, n_is, high, low, room, long) in
      let split : count_from (flag_at now) 0 (64 * b) ≡ count_from (flag_at now) 0 (length now) + count_from (flag_at now) (0 + length now) (64 * b - length now) = ap (count_from (flag_at now) 0) whole ∙ count-split (flag_at now) 0 (length now) (64 * b - length now) in
      omega (arith, was, there, split)

-- one number more
module _ (f : ℕ → Bool) where
  pub count-more : (a p : ℕ) → a ≤ p → count_from f a (p + 1 - a) ≡ count_from f a (p - a) + one (f p)
  unfolding count_from
  count-more a p low =
      let next : p + 1 - a ≡ (p - a) + 1 = omega arith in
      let here : a + (p - a) ≡ p = omega arith in
      let split : count_from f a ((p - a) + 1) ≡ count_from f a (p - a) + count_from f (a + (p - a)) 1 = count-split f a (p - a) 1 in
      let last : count_from f (a + (p - a)) 1 ≡ count_from f p 1 = ap (λ x. count_from f x 1) here in
      let all : count_from f a (p + 1 - a) ≡ count_from f a ((p - a) + 1) = ap (count_from f a) next in
      omega (arith, split, last, all)

  pub count-parts : (p n : ℕ) → p ≤ n → count_from f 0 n ≡ count_from f 0 p + count_from f p (n - p)
  count-parts p n low =
      let whole : n ≡ p + (n - p) = omega arith in
      let start : 0 + p ≡ p = omega arith in
      let split : count_from f 0 (p + (n - p)) ≡ count_from f 0 p + count_from f (0 + p) (n - p) = count-split f 0 p (n - p) in
      let later : count_from f (0 + p) (n - p) ≡ count_from f p (n - p) = ap (λ x. count_from f x (n - p)) start in
      let all : count_from f 0 n ≡ count_from f 0 (p + (n - p)) = ap (count_from f 0) whole in
      omega (arith, split, later, all)

-- a flag that was read counts 1 or 0
pub read-one : (flags now : List Bool) → flags ≡ now → (p : ℕ) (x : Bool) → p < length flags → x ≡ get_or flags p x → (x ≡ true → one (flag_at now p) ≡ 1) × (x ≡ false → one (flag_at now p) ≡ 0)
read-one flags now same p x inside read =
    let is : flag_at now p ≡ x = ap (λ fs. flag_at fs p) (sym same) ∙ sym (get_or_read flags p x inside read false) in
    (λ e. ap one (is ∙ e), λ e. ap one (is ∙ e))
