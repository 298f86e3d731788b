-- The dimensions of arrays under the free indices of a map.
use Rattle.std.proofs.Common.{◌≡◌, ℕ, ◌+◌, ◌*◌, ◌≤◌, Bool, true, false, List, [], ◌∷◌, ◌++◌, length, Ok, Some, None, refl, sym, ap, ◌∙◌, subst, inl, inr, arith}
use Rattle.std.specs.Prelude.{◌⊎◌, bytes_eq, cond, count_by, not, ◌==◌, ◌&&◌, ◌||◌}
use Rattle.std.specs.List.{All, list_any, list_all}
use Rattle.std.specs.Cmp.Lexicographic.{same_text}
use Rattle.std.proofs.lemmas.Bool.{eqb-true}
use Rattle.std.proofs.lemmas.List.Elements.{All-nil, All-cons, All-head, All-tail}
use Rattle.std.proofs.lemmas.List.Folds.{list_any-append}
use Rattle.std.proofs.lemmas.List.Sums.{sum_by-cons}
use Rattle.std.proofs.lemmas.Slice.Eq.{bytes_eq-Decides}
use Rattle.p3l_base.specs.declared.slice.Place.{Place}
use Rattle.p3l_base.specs.declared.slice.Place.TheVariants.{Rest, First, Second}
use Rattle.p3l_base.specs.declared.slice.Dim.{Dim}
use Rattle.p3l_base.specs.Slice.{taken_size, cut_size}
use Rattle.p3l_base.specs.Cut.{HasIndexSize, one_at_first, one_at_second, first_count, second_count}
use Rattle.p3l_ast.specs.declared.refusal.Fault.TheVariants.{FreeIndex}
use Rattle.p3l_ast.specs.declared.call.Sub.{Sub}
use Rattle.p3l_ast.specs.declared.call.Sub.TheVariants.{Whole, Free}
use Rattle.p3l_skel.specs.Lawful.{IsSize}
use Rattle.p3l_types.specs.declared.shape.Shape.{Shape}
use Rattle.p3l_types.specs.Shape.{product, whole_sizes, sliced}
use Rattle.p3l_calls.specs.declared.index.Index.{Index}
use Rattle.p3l_calls.specs.Index.{are_indices, is_sized, is_free, is_free_of, free_count, stands_in, has_indices, is_index, member_rule, members_rule, size_rule, sizes_rule, second_place, place_named, place_in, first_size, second_size}
use Rattle.p3l_calls.specs.Map.{dims_of}
use Rattle.p3l_calls.proofs.Kept.{given-taken, kept-true, both-left, both-right}

-- 1 for what holds
abbrev bit : Bool → ℕ
bit b = cond b 1 0

-- names that are the same
named : (a b : List ℕ) → bytes_eq a b ≡ true → a ≡ b
named a b e = same_text a b (sym e)

apart : (a b c : List ℕ) → not (bytes_eq a b) ≡ true → bytes_eq a c ≡ true → bytes_eq b c ≡ true → ⊥
apart a b c e f g =
    let same : a ≡ b = named a c f ∙ sym (named b c g) in
    let equal : bytes_eq a b ≡ true = (bytes_eq-Decides a b).1 same in
    let no : not (bytes_eq a b) ≡ false = ap not equal in
    cc

-- a name of a size is the first free index or the second
abbrev IsPlaced : List Index → List ℕ → ℕ → Type 0
IsPlaced indices name size =
    ((place_named indices name ≡ First) × (size ≡ first_size indices)) ⊎ ((place_named indices name ≡ Second) × (size ≡ second_size indices))

single : (b c : Bool) → ((b && c) || false) ≡ true → (b ≡ true) × (c ≡ true)
single true true e = (refl, refl)
single true false e = absurd cc
single false c e = absurd cc

double : (b c d f : Bool) → ((b && c) || ((d && f) || false)) ≡ true → ((b ≡ true) × (c ≡ true)) ⊎ ((d ≡ true) × (f ≡ true))
double true true d f e = inl (refl, refl)
double true false d f e = inr (single d f e)
double false c d f e = inr (single d f e)

placed : (indices : List Index) (name : List ℕ) (size : ℕ) → are_indices indices ≡ true → is_sized indices name size ≡ true → IsPlaced indices name size
placed [] name size good e = absurd cc
placed (i ∷ []) name size good e =
    let both = single (bytes_eq i.name name) (i.size == size) e in
    inl (ap (λ b. cond b First Rest) both.0, sym (eqb-true i.size size both.1))
placed (i ∷ (j ∷ [])) name size good e =
    elim (double (bytes_eq i.name name) (i.size == size) (bytes_eq j.name name) (j.size == size) e) [
      | inl h ↦ inl (ap (λ b. cond b First (cond (bytes_eq j.name name) Second Rest)) h.0, sym (eqb-true i.size size h.1))
      | inr h ↦ by h (bytes_eq i.name name) refl
    ]
  where
    by : (bytes_eq j.name name ≡ true) × ((j.size == size) ≡ true) → (b : Bool) → bytes_eq i.name name ≡ b →
        ((cond (bytes_eq i.name name) First (cond (bytes_eq j.name name) Second Rest) ≡ First) × (size ≡ i.size))
        ⊎ ((cond (bytes_eq i.name name) First (cond (bytes_eq j.name name) Second Rest) ≡ Second) × (size ≡ j.size))
    by h true t = absurd (apart i.name j.name name good t h.0)
    by h false t = inr (ap (λ b. cond b First (cond (bytes_eq j.name name) Second Rest)) t ∙ ap (λ b. cond b Second Rest) h.0, sym (eqb-true j.size size h.1))
placed (i ∷ (j ∷ (k ∷ more))) name size good e = absurd cc

-- a free place has the size of its index, and one index of it is taken
free-size : (indices : List Index) (name : List ℕ) (size : ℕ) → IsPlaced indices name size →
    HasIndexSize (first_size indices) (second_size indices) (place_named indices name) size
free-size indices name size (inl h) = subst (λ p. HasIndexSize (first_size indices) (second_size indices) p size) (sym h.0) h.1
free-size indices name size (inr h) = subst (λ p. HasIndexSize (first_size indices) (second_size indices) p size) (sym h.0) h.1

free-taken : (indices : List Index) (name : List ℕ) (size : ℕ) → IsPlaced indices name size → taken_size (place_named indices name) size ≡ 1
free-taken indices name size (inl h) = ap (λ p. taken_size p size) h.0
free-taken indices name size (inr h) = ap (λ p. taken_size p size) h.0

sub-size : (indices : List Index) (sub : Sub) (size : ℕ) (u : Unit {0}) → are_indices indices ≡ true → size_rule indices sub size ≡ Ok u →
    HasIndexSize (first_size indices) (second_size indices) (place_in indices (Some sub)) size
sub-size indices Whole size u good e = tt
sub-size indices (Free spot) size u good e =
    free-size indices spot.name size (placed indices spot.name size good (kept-true (is_sized indices spot.name size) FreeIndex spot.pos u e))

plain-free : (indices : List Index) (sizes : List ℕ) →
    All (λ (d : Dim). HasIndexSize (first_size indices) (second_size indices) d.place d.size) (dims_of indices [] sizes)
plain-free indices [] = All-nil (λ (d : Dim). HasIndexSize (first_size indices) (second_size indices) d.place d.size)
plain-free indices (size ∷ sizes) =
    All-cons (λ (d : Dim). HasIndexSize (first_size indices) (second_size indices) d.place d.size)
    (record { size = size; place = Rest }) (dims_of indices [] sizes) tt (plain-free indices sizes)

pub dims-free : (indices : List Index) (subs : List Sub) (sizes : List ℕ) (u : Unit {0}) → are_indices indices ≡ true → sizes_rule indices subs sizes ≡ Ok u →
    All (λ (d : Dim). HasIndexSize (first_size indices) (second_size indices) d.place d.size) (dims_of indices subs sizes)
dims-free indices subs [] u good e = All-nil (λ (d : Dim). HasIndexSize (first_size indices) (second_size indices) d.place d.size)
dims-free indices [] (size ∷ sizes) u good e = plain-free indices (size ∷ sizes)
dims-free indices (sub ∷ subs) (size ∷ sizes) u good e =
    let passed = given-taken (size_rule indices sub size) _ u e in
    All-cons (λ (d : Dim). HasIndexSize (first_size indices) (second_size indices) d.place d.size)
    (record { size = size; place = place_in indices (Some sub) }) (dims_of indices subs sizes)
    (sub-size indices sub size passed.0 good passed.1) (dims-free indices subs sizes u good passed.2)

-- the words of one cut: those that the brackets leave
plain-cut : (indices : List Index) (sizes : List ℕ) → cut_size (dims_of indices [] sizes) ≡ product sizes
plain-cut indices [] = refl
plain-cut indices (size ∷ sizes) = ap (λ n. size * n) (plain-cut indices sizes)

brackets-cut : (indices : List Index) (subs : List Sub) (sizes : List ℕ) (u : Unit {0}) → are_indices indices ≡ true → length subs ≡ length sizes →
    sizes_rule indices subs sizes ≡ Ok u → cut_size (dims_of indices subs sizes) ≡ product (whole_sizes subs sizes)
brackets-cut indices [] [] u good n e = refl
brackets-cut indices [] (size ∷ sizes) u good n e = absurd (omega arith)
brackets-cut indices (sub ∷ subs) [] u good n e = absurd (omega arith)
brackets-cut indices (Whole ∷ subs) (size ∷ sizes) u good n e =
    ap (λ m. size * m) (brackets-cut indices subs sizes u good (omega arith) e)
brackets-cut indices (Free spot ∷ subs) (size ∷ sizes) u good n e =
    let passed = given-taken (size_rule indices (Free spot) size) _ u e in
    let one = free-taken indices spot.name size (placed indices spot.name size good (kept-true (is_sized indices spot.name size) FreeIndex spot.pos passed.0 passed.1)) in
    let rest = brackets-cut indices subs sizes u good (omega arith) passed.2 in
    let whole : taken_size (place_named indices spot.name) size * cut_size (dims_of indices subs sizes) ≡ 1 * product (whole_sizes subs sizes) =
    ap (λ m. m * cut_size (dims_of indices subs sizes)) one ∙ ap (λ m. 1 * m) rest in
    omega (arith, whole)

left-is : (b : Bool) (made left : Shape) → cond b (Some made) None ≡ Some left → (b ≡ true) × (made ≡ left)
left-is true made left e = (refl, cc)
left-is false made left e = absurd cc

pub dims-cut : (indices : List Index) (subs : List Sub) (shape left : Shape) (u : Unit {0}) → are_indices indices ≡ true →
    sizes_rule indices subs shape.sizes ≡ Ok u → sliced subs shape ≡ Some left → cut_size (dims_of indices subs shape.sizes) ≡ product left.sizes
dims-cut indices [] shape left u good e s =
    let is : shape ≡ left = cc in
    plain-cut indices shape.sizes ∙ ap (λ (sh : Shape). product sh.sizes) is
dims-cut indices (sub ∷ subs) shape left u good e s =
    let found = left-is (length (sub ∷ subs) == length shape.sizes) (record { sizes = whole_sizes (sub ∷ subs) shape.sizes }) left s in
    brackets-cut indices (sub ∷ subs) shape.sizes u good (eqb-true (length (sub ∷ subs)) (length shape.sizes) found.0) e
    ∙ ap (λ (sh : Shape). product sh.sizes) found.1

-- sizes of arrays keep their limits
pub dims-sizes : (indices : List Index) (subs : List Sub) (sizes : List ℕ) → All IsSize sizes → All (λ (d : Dim). IsSize d.size) (dims_of indices subs sizes)
dims-sizes indices subs [] h = All-nil (λ (d : Dim). IsSize d.size)
dims-sizes indices [] (size ∷ sizes) h =
    All-cons (λ (d : Dim). IsSize d.size) (record { size = size; place = Rest }) (dims_of indices [] sizes)
    (All-head IsSize size sizes h) (dims-sizes indices [] sizes (All-tail IsSize size sizes h))
dims-sizes indices (sub ∷ subs) (size ∷ sizes) h =
    All-cons (λ (d : Dim). IsSize d.size) (record { size = size; place = place_in indices (Some sub) }) (dims_of indices subs sizes)
    (All-head IsSize size sizes h) (dims-sizes indices subs sizes (All-tail IsSize size sizes h))

pub dims-length : (indices : List Index) (subs : List Sub) (sizes : List ℕ) → length (dims_of indices subs sizes) ≡ length sizes
dims-length indices subs [] = refl
dims-length indices [] (size ∷ sizes) = omega (arith, dims-length indices [] sizes)
dims-length indices (sub ∷ subs) (size ∷ sizes) = omega (arith, dims-length indices subs sizes)

-- the counts of the two free indices in brackets
firsts : List Index → List Sub → ℕ
firsts indices [] = 0
firsts indices (sub ∷ subs) = one_at_first (place_in indices (Some sub)) + firsts indices subs

seconds : List Index → List Sub → ℕ
seconds indices [] = 0
seconds indices (sub ∷ subs) = one_at_second (place_in indices (Some sub)) + seconds indices subs

count-cons : {X : Type 0} (p : X → Bool) (x : X) (xs : List X) → count_by p (x ∷ xs) ≡ bit (p x) + count_by p xs
count-cons p x xs = sum_by-cons (λ y. bit (p y)) x xs

second-first : (more : List Index) (name : List ℕ) → one_at_first (second_place more name) ≡ 0
second-first [] name = refl
second-first (j ∷ more) name = by (bytes_eq j.name name)
  where
    by : (b : Bool) → one_at_first (cond b Second Rest) ≡ 0
    by true = refl
    by false = refl

one-first : (b : Bool) (p : Place) → one_at_first p ≡ 0 → one_at_first (cond b First p) ≡ bit b
one-first true p e = refl
one-first false p e = e

firsts-count : (i : Index) (more : List Index) (subs : List Sub) → firsts (i ∷ more) subs ≡ count_by (is_free_of i.name) subs
unfolding firsts
firsts-count i more [] = refl
firsts-count i more (Whole ∷ subs) = omega (arith, firsts-count i more subs, count-cons (is_free_of i.name) Whole subs)
firsts-count i more (Free spot ∷ subs) =
    let here : one_at_first (place_named (i ∷ more) spot.name) ≡ bit (bytes_eq i.name spot.name) =
    one-first (bytes_eq i.name spot.name) (second_place more spot.name) (second-first more spot.name) in
    omega (arith, here, firsts-count i more subs, count-cons (is_free_of i.name) (Free spot) subs)

one-second : (b : Bool) → one_at_second (cond b First Rest) ≡ 0
one-second true = refl
one-second false = refl

seconds-none : (i : Index) (subs : List Sub) → seconds (i ∷ []) subs ≡ 0
unfolding seconds
seconds-none i [] = refl
seconds-none i (Whole ∷ subs) = omega (arith, seconds-none i subs)
seconds-none i (Free spot ∷ subs) =
    let here : one_at_second (place_named (i ∷ []) spot.name) ≡ 0 = one-second (bytes_eq i.name spot.name) in
    omega (arith, here, seconds-none i subs)

two-second : (b d : Bool) → (b ≡ true → d ≡ true → ⊥) → one_at_second (cond b First (cond d Second Rest)) ≡ bit d
two-second true true h = absurd (h refl refl)
two-second true false h = refl
two-second false true h = refl
two-second false false h = refl

seconds-count : (i j : Index) (subs : List Sub) → not (bytes_eq i.name j.name) ≡ true → seconds (i ∷ (j ∷ [])) subs ≡ count_by (is_free_of j.name) subs
unfolding seconds
seconds-count i j [] h = refl
seconds-count i j (Whole ∷ subs) h = omega (arith, seconds-count i j subs h, count-cons (is_free_of j.name) Whole subs)
seconds-count i j (Free spot ∷ subs) h =
    let here : one_at_second (place_named (i ∷ (j ∷ [])) spot.name) ≡ bit (bytes_eq j.name spot.name) =
    two-second (bytes_eq i.name spot.name) (bytes_eq j.name spot.name) (apart i.name j.name spot.name h) in
    omega (arith, here, seconds-count i j subs h, count-cons (is_free_of j.name) (Free spot) subs)

-- in dimensions they occur as often as in brackets
plain-counts : (indices : List Index) (sizes : List ℕ) → (first_count (dims_of indices [] sizes) ≡ 0) × (second_count (dims_of indices [] sizes) ≡ 0)
plain-counts indices [] = (refl, refl)
plain-counts indices (size ∷ sizes) = let rest = plain-counts indices sizes in (omega (arith, rest.0), omega (arith, rest.1))

brackets-counts : (indices : List Index) (subs : List Sub) (sizes : List ℕ) → length subs ≡ length sizes →
    (first_count (dims_of indices subs sizes) ≡ firsts indices subs) × (second_count (dims_of indices subs sizes) ≡ seconds indices subs)
unfolding firsts seconds
brackets-counts indices [] [] n = (refl, refl)
brackets-counts indices [] (size ∷ sizes) n = absurd (omega arith)
brackets-counts indices (sub ∷ subs) [] n = absurd (omega arith)
brackets-counts indices (sub ∷ subs) (size ∷ sizes) n =
    let rest = brackets-counts indices subs sizes (omega arith) in
    (ap (λ m. one_at_first (place_in indices (Some sub)) + m) rest.0, ap (λ m. one_at_second (place_in indices (Some sub)) + m) rest.1)

count-free : (i : List ℕ) (subs : List Sub) → count_by (is_free_of i) subs ≤ count_by is_free subs
count-free i [] = omega arith
count-free i (Whole ∷ subs) = omega (arith, count-free i subs, count-cons (is_free_of i) Whole subs, count-cons is_free Whole subs)
count-free i (Free spot ∷ subs) =
    omega (arith, by (bytes_eq i spot.name), count-free i subs, count-cons (is_free_of i) (Free spot) subs, count-cons is_free (Free spot) subs)
  where
    by : (b : Bool) → bit b ≤ 1
    by true = omega arith
    by false = omega arith

counts-free : (i j : List ℕ) (subs : List Sub) → not (bytes_eq i j) ≡ true →
    count_by (is_free_of i) subs + count_by (is_free_of j) subs ≤ count_by is_free subs
counts-free i j [] h = omega arith
counts-free i j (Whole ∷ subs) h =
    omega (arith, counts-free i j subs h, count-cons (is_free_of i) Whole subs, count-cons (is_free_of j) Whole subs, count-cons is_free Whole subs)
counts-free i j (Free spot ∷ subs) h =
    omega (
      arith,
      by (bytes_eq i spot.name) (bytes_eq j spot.name) (apart i j spot.name h),
      counts-free i j subs h,
      count-cons (is_free_of i) (Free spot) subs,
      count-cons (is_free_of j) (Free spot) subs,
      count-cons is_free (Free spot) subs,
    )
  where
    by : (b d : Bool) → (b ≡ true → d ≡ true → ⊥) → bit b + bit d ≤ 1
    by true true k = absurd (k refl refl)
    by true false k = omega arith
    by false true k = omega arith
    by false false k = omega arith

some-count : (p : Sub → Bool) (subs : List Sub) → list_any p subs ≡ true → 1 ≤ count_by p subs
some-count p [] e = absurd cc
some-count p (sub ∷ subs) e = by (p sub) refl (some-count p subs)
  where
    by : (b : Bool) → p sub ≡ b → (list_any p subs ≡ true → 1 ≤ count_by p subs) → 1 ≤ count_by p (sub ∷ subs)
    by true t rest = let one : bit (p sub) ≡ 1 = ap (λ b. bit b) t in omega (arith, one, count-cons p sub subs)
    by false t rest =
        let later : list_any p subs ≡ true = sym (ap (λ b. b || list_any p subs) t) ∙ e in
        omega (arith, rest later, count-cons p sub subs)

-- out arguments have each of the indices once
out-counts : (indices : List Index) (subs : List Sub) → are_indices indices ≡ true → has_indices indices subs ≡ true →
    (firsts indices subs ≡ 1) × (seconds indices subs + 1 ≡ length indices)
out-counts [] subs good e = absurd cc
out-counts (i ∷ []) subs good e =
    let count : count_by is_free subs ≡ 1 = eqb-true (count_by is_free subs) 1 (both-left _ (list_all (λ (k : Index). stands_in subs k.name) (i ∷ [])) e) in
    let all : (stands_in subs i.name && true) ≡ true = both-right (free_count subs == 1) _ e in
    let one = some-count (is_free_of i.name) subs (both-left (stands_in subs i.name) true all) in
    (omega (arith, firsts-count i [] subs, one, count-free i.name subs, count), omega (arith, seconds-none i subs))
out-counts (i ∷ (j ∷ [])) subs good e =
    let count : count_by is_free subs ≡ 2 = eqb-true (count_by is_free subs) 2 (both-left _ (list_all (λ (k : Index). stands_in subs k.name) (i ∷ (j ∷ []))) e) in
    let all : (stands_in subs i.name && (stands_in subs j.name && true)) ≡ true = both-right (free_count subs == 2) _ e in
    let one = some-count (is_free_of i.name) subs (both-left (stands_in subs i.name) (stands_in subs j.name && true) all) in
    let two = some-count (is_free_of j.name) subs (both-left (stands_in subs j.name) true (both-right (stands_in subs i.name) (stands_in subs j.name && true) all)) in
    let few = counts-free i.name j.name subs good in
    (omega (arith, firsts-count i (j ∷ []) subs, one, two, few, count), omega (arith, seconds-count i j subs good, one, two, few, count))
out-counts (i ∷ (j ∷ (k ∷ more))) subs good e = absurd cc

-- in arguments have each at most once
stands-more : (before : List Sub) (sub : Sub) (name : List ℕ) → stands_in (before ++ sub ∷ []) name ≡ (stands_in before name || (is_free_of name sub || false))
stands-more before sub name = list_any-append (is_free_of name) before (sub ∷ [])

once : (indices : List Index) (before subs : List Sub) (u : Unit {0}) (name : List ℕ) → members_rule indices before subs ≡ Ok u →
    count_by (is_free_of name) subs + bit (stands_in before name) ≤ 1
once indices before [] u name e = by (stands_in before name)
  where
    by : (b : Bool) → 0 + bit b ≤ 1
    by true = omega arith
    by false = omega arith
once indices before (Whole ∷ subs) u name e =
    let rest = once indices (before ++ Whole ∷ []) subs u name e in
    let same : bit (stands_in (before ++ Whole ∷ []) name) ≡ bit (stands_in before name) =
    ap (λ b. bit b) (stands-more before Whole name) ∙ by (stands_in before name) in
    omega (arith, rest, same, count-cons (is_free_of name) Whole subs)
  where
    by : (b : Bool) → bit (b || (false || false)) ≡ bit b
    by true = refl
    by false = refl
once indices before (Free spot ∷ subs) u name e =
    let passed = given-taken (member_rule indices before (Free spot)) _ u e in
    let rest = once indices (before ++ Free spot ∷ []) subs u name passed.2 in
    let new : not (stands_in before spot.name) ≡ true =
    both-right (is_index indices spot.name) (not (stands_in before spot.name)) (kept-true _ FreeIndex spot.pos passed.0 passed.1) in
    let later : bit (stands_in (before ++ Free spot ∷ []) name) ≡ bit (stands_in before name || (bytes_eq name spot.name || false)) =
    ap (λ b. bit b) (stands-more before (Free spot) name) in
    by (bytes_eq name spot.name) refl (stands_in before name) refl new (omega (arith, rest, later)) (count-cons (is_free_of name) (Free spot) subs)
  where
    by : (b : Bool) → bytes_eq name spot.name ≡ b → (d : Bool) → stands_in before name ≡ d → not (stands_in before spot.name) ≡ true →
        count_by (is_free_of name) subs + bit (stands_in before name || (bytes_eq name spot.name || false)) ≤ 1 →
        count_by (is_free_of name) (Free spot ∷ subs) ≡ bit (bytes_eq name spot.name) + count_by (is_free_of name) subs →
        count_by (is_free_of name) (Free spot ∷ subs) + bit (stands_in before name) ≤ 1
    by true t true f new rest count =
        let there : not (stands_in before name) ≡ true = ap (λ n. not (stands_in before n)) (named name spot.name t) ∙ new in
        let no : not (stands_in before name) ≡ false = ap not f in absurd cc
    by true t false f new rest count =
        let one : bit (bytes_eq name spot.name) ≡ 1 = ap (λ b. bit b) t in
        let none : bit (stands_in before name) ≡ 0 = ap (λ b. bit b) f in
        let more : bit (stands_in before name || (bytes_eq name spot.name || false)) ≡ 1 =
        ap (λ d. bit (d || (bytes_eq name spot.name || false))) f ∙ ap (λ b. bit (b || false)) t in
        omega (arith, one, none, more, rest, count)
    by false t true f new rest count =
        let one : bit (bytes_eq name spot.name) ≡ 0 = ap (λ b. bit b) t in
        let there : bit (stands_in before name) ≡ 1 = ap (λ b. bit b) f in
        let more : bit (stands_in before name || (bytes_eq name spot.name || false)) ≡ 1 =
        ap (λ d. bit (d || (bytes_eq name spot.name || false))) f in
        omega (arith, one, there, more, rest, count)
    by false t false f new rest count =
        let one : bit (bytes_eq name spot.name) ≡ 0 = ap (λ b. bit b) t in
        let there : bit (stands_in before name) ≡ 0 = ap (λ b. bit b) f in
        let more : bit (stands_in before name || (bytes_eq name spot.name || false)) ≡ 0 =
        ap (λ d. bit (d || (bytes_eq name spot.name || false))) f ∙ ap (λ b. bit (b || false)) t in
        omega (arith, one, there, more, rest, count)

in-counts : (indices : List Index) (subs : List Sub) (u : Unit {0}) → are_indices indices ≡ true → members_rule indices [] subs ≡ Ok u →
    (firsts indices subs ≤ 1) × (seconds indices subs + 1 ≤ length indices)
in-counts [] subs u good e = absurd cc
in-counts (i ∷ []) subs u good e =
    let first = once (i ∷ []) [] subs u i.name e in
    (omega (arith, firsts-count i [] subs, first), omega (arith, seconds-none i subs))
in-counts (i ∷ (j ∷ [])) subs u good e =
    let first = once (i ∷ (j ∷ [])) [] subs u i.name e in
    let second = once (i ∷ (j ∷ [])) [] subs u j.name e in
    (omega (arith, firsts-count i (j ∷ []) subs, first), omega (arith, seconds-count i j subs good, second))
in-counts (i ∷ (j ∷ (k ∷ more))) subs u good e = absurd cc

-- the counts of dimensions, under brackets for each size
pub out-dims : (indices : List Index) (subs : List Sub) (sizes : List ℕ) → length subs ≡ length sizes →
    are_indices indices ≡ true → has_indices indices subs ≡ true →
    (first_count (dims_of indices subs sizes) ≡ 1) × (second_count (dims_of indices subs sizes) + 1 ≡ length indices)
out-dims indices subs sizes n good e =
    let counts = out-counts indices subs good e in
    let same = brackets-counts indices subs sizes n in
    (same.0 ∙ counts.0, omega (arith, same.1, counts.1))

some-indices : (indices : List Index) → are_indices indices ≡ true → 1 ≤ length indices
some-indices [] e = absurd cc
some-indices (i ∷ more) e = omega arith

-- under a plain name or brackets for each size
pub in-dims : (indices : List Index) (subs : List Sub) (shape left : Shape) (u : Unit {0}) → sliced subs shape ≡ Some left →
    are_indices indices ≡ true → members_rule indices [] subs ≡ Ok u →
    (first_count (dims_of indices subs shape.sizes) ≤ 1) × (second_count (dims_of indices subs shape.sizes) + 1 ≤ length indices)
in-dims indices [] shape left u s good e =
    let plain = plain-counts indices shape.sizes in
    (omega (arith, plain.0), omega (arith, plain.1, some-indices indices good))
in-dims indices (sub ∷ subs) shape left u s good e =
    let found = left-is (length (sub ∷ subs) == length shape.sizes) (record { sizes = whole_sizes (sub ∷ subs) shape.sizes }) left s in
    let counts = in-counts indices (sub ∷ subs) u good e in
    let same = brackets-counts indices (sub ∷ subs) shape.sizes (eqb-true (length (sub ∷ subs)) (length shape.sizes) found.0) in
    (omega (arith, same.0, counts.0), omega (arith, same.1, counts.1))
