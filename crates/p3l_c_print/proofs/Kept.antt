-- The first characters of a name.
use Rattle.std.proofs.Common.{◌≡◌, ℕ, zero, suc, ◌+◌, ◌<◌, ◌≤◌, ◌⊎◌, List, length, take, Bool, true, false, cond, IsCharBoundary, refl, sym, ap, subst, ◌∙◌, ⊎_elim, arith, take_all, length-take, lt-ltb, le-ltb, le-leb}
use Rattle.std.specs.Prelude.{slice_index}
use Rattle.std.specs.Fmt.{is_char_start}
use Rattle.std.specs.Fmt.Cut.{floor_char_boundary}
use Rattle.std.proofs.lemmas.Bool.{cases_lt, lt-leb}
use Rattle.std.proofs.lemmas.List.{get_or_past}
use Rattle.p3l_c_print.specs.Name.{kept_name}

-- a byte at a boundary is the first of a character
starts : (b : ℕ) → (128 ≤ b → 192 ≤ b) → is_char_start b ≡ true
starts b h = ⊎_elim (λ low. rw (lt-ltb b 128 low) refl) (λ high. rw (le-ltb b 128 high, le-leb 192 b (h high)) refl) (cases_lt b 128)

-- a byte at no boundary is a later one
continues : (b : ℕ) → ¬ (128 ≤ b → 192 ≤ b) → is_char_start b ≡ false
continues b h = ⊎_elim (λ low. absurd (h (λ high. omega arith)))
    (λ high. ⊎_elim (λ mid. rw (le-ltb b 128 high, lt-leb 192 b mid) refl) (λ top. absurd (h (λ _. top))) (cases_lt b 192)) (cases_lt b 128)

-- the last boundary of a text up to a place
abbrev IsLast : List ℕ → ℕ → ℕ → Type 0
IsLast text i kept = (kept ≤ i) × IsCharBoundary text kept × ((j : ℕ) → kept < j → j ≤ i → ¬ (IsCharBoundary text j))

last_is : (text : List ℕ) (i kept : ℕ) → i < length text → IsLast text i kept → floor_char_boundary text i ≡ kept
unfolding floor_char_boundary
last_is text zero kept within last = omega arith
last_is text (suc i) kept within last = ⊎_elim
    (λ below. ap (λ t. cond t (suc i) (floor_char_boundary text i)) (continues _ (λ h. last.2 (suc i) below (omega arith) (omega arith, λ _. h)))
    ∙ last_is text i kept (omega arith) (omega arith, last.1, λ j p q. last.2 j p (omega arith)))
    (λ above. let same : kept ≡ suc i = omega arith in
    ap (λ t. cond t (suc i) (floor_char_boundary text i)) (starts _ ((subst (IsCharBoundary text) same last.1).1 within)) ∙ sym same)
    (cases_lt kept (suc i))

-- from the end of a text on, each place counts as one
past_is : (text : List ℕ) (i : ℕ) → length text ≤ i → floor_char_boundary text i ≡ i
unfolding floor_char_boundary
past_is text zero past = refl
past_is text (suc i) past = ap (λ b. cond (is_char_start b) (suc i) (floor_char_boundary text i)) (get_or_past text (suc i) 0 past)

pub last_taken : (text : List ℕ) (i kept : ℕ) → IsLast text i kept → take kept text ≡ take (floor_char_boundary text i) text
last_taken text i kept last = ⊎_elim
    (λ within. ap (λ n. take n text) (sym (last_is text i kept within last)))
    (λ past. let whole : kept ≡ length text = ⊎_elim (λ l. absurd (last.2 (length text) l past (omega arith, λ short. omega arith))) (λ l. omega arith) (cases_lt kept (length text)) in
    take_all kept text (omega arith) ∙ sym (rw (past_is text i past) (take_all i text past)))
    (cases_lt i (length text))

one_floor : (t : Bool) (i n : ℕ) → n ≤ i → cond t (suc i) n ≤ suc i
one_floor true i n below = omega arith
one_floor false i n below = omega arith

floor_le : (text : List ℕ) (i : ℕ) → floor_char_boundary text i ≤ i
unfolding floor_char_boundary
floor_le text zero = omega arith
floor_le text (suc i) = one_floor (is_char_start (slice_index text (suc i))) i (floor_char_boundary text i) (floor_le text i)

pub kept_le : (name : List ℕ) → length (kept_name name) ≤ 39
unfolding kept_name
kept_le name =
    let floor = floor_le name 39 in
    let taken = length-take (floor_char_boundary name 39) name in
    omega arith
