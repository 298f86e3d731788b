use Rattle.std.proofs.Common.{◌≡◌, ℕ, ◌+◌, ◌*◌, ◌<◌, List, [], ◌∷◌, ◌++◌, zero, suc, length, get_or, map, refl, sym, ap, ◌∙◌, arith, append_assoc}
use Rattle.std.specs.List.{flat_map, range_with_len}
use Rattle.std.proofs.lemmas.List.{map-append}
use Rattle.std.proofs.Math.Nat.{suc-mul}
use Rattle.p3l_base.proofs.Walk.{pieces_more}

-- two lists joined from parts of equal length have equal parts
pub parts_of_same : {X : Type 0} (a b c d : List X) → length a ≡ length c → a ++ b ≡ c ++ d → (a ≡ c) × (b ≡ d)
parts_of_same [] b [] d h e = (refl, e)
parts_of_same [] b (y ∷ c) d h e = absurd (omega arith)
parts_of_same (x ∷ a) b [] d h e = absurd (omega arith)
parts_of_same (x ∷ a) b (y ∷ c) d h e =
    let tails : a ++ b ≡ c ++ d = cc in
    let heads : x ≡ y = cc in
    let parts = parts_of_same a b c d (omega arith) tails in
    let front : a ≡ c = parts.0 in
    (cc, parts.1)

-- pieces of equal lengths are equal one by one, where they are joined
pub pieces_of_same : {X A : Type 0} (f g : X → List A) → ((x : X) → length (f x) ≡ length (g x)) → (xs : List X) → flat_map f xs ≡ flat_map g xs → (k : ℕ) (d : X) → k < length xs → f (get_or xs k d) ≡ g (get_or xs k d)
pieces_of_same f g same [] e k d h = absurd (omega arith)
pieces_of_same f g same (x ∷ xs) e zero d h = (parts_of_same (f x) (flat_map f xs) (g x) (flat_map g xs) (same x) e).0
pieces_of_same f g same (x ∷ xs) e (suc k) d h =
    pieces_of_same f g same xs (parts_of_same (f x) (flat_map f xs) (g x) (flat_map g xs) (same x) e).1 k d (omega arith)

pub map-flat_map : {X A B : Type 0} (f : A → B) (g : X → List A) (xs : List X) → map f (flat_map g xs) ≡ flat_map (λ x. map f (g x)) xs
map-flat_map f g [] = refl
map-flat_map f g (x ∷ xs) = map-append f (g x) (flat_map g xs) ∙ ap (λ ys. map f (g x) ++ ys) (map-flat_map f g xs)

-- the pieces of some indices, separated at one of them
pub pieces_at : {A : Type 0} (f : ℕ → List A) (low k n at rest : ℕ) → low + k ≡ at → k + suc rest ≡ n → flat_map f (range_with_len low n) ≡ flat_map f (range_with_len low k) ++ (f at ++ flat_map f (range_with_len (at + 1) rest))
pieces_at f low zero n at rest here whole =
    let e : low ≡ at = omega arith in
    let m : n ≡ suc rest = omega arith in
    rw (m, e) refl
pieces_at f low (suc k) n at rest here whole =
    let m : n ≡ suc (k + suc rest) = omega arith in
    let inner = pieces_at f (low + 1) k (k + suc rest) at rest (omega arith) refl in
    rw m (ap (λ ys. f low ++ ys) inner ∙ sym (append_assoc (f low) (flat_map f (range_with_len (low + 1) k)) (f at ++ flat_map f (range_with_len (at + 1) rest))))

pub range_append : (low m n : ℕ) → range_with_len low (m + n) ≡ range_with_len low m ++ range_with_len (low + m) n
range_append low zero n =
    let e : 0 + n ≡ n = omega arith in
    let l : low + 0 ≡ low = omega arith in
    rw (e, l) refl
range_append low (suc m) n =
    let e : suc m + n ≡ suc (m + n) = omega arith in
    let l : low + suc m ≡ low + 1 + m = omega arith in
    rw (e, l) (ap (λ xs. low ∷ xs) (range_append (low + 1) m n))

-- blocks of `size` values each, one after the other
pub blocks_joined : {A : Type 0} (f : ℕ → List A) (g : ℕ → A) (low size n : ℕ) → ((k : ℕ) → k < n → f k ≡ map g (range_with_len (low + k * size) size)) → flat_map f (range_with_len 0 n) ≡ map g (range_with_len low (n * size))
blocks_joined f g low size zero same =
    let e : 0 * size ≡ 0 = omega arith in
    rw e refl
blocks_joined f g low size (suc n) same =
    let before = blocks_joined f g low size n (λ k h. same k (omega arith)) in
    let joined : map g (range_with_len low (n * size + size)) ≡ map g (range_with_len low (n * size)) ++ map g (range_with_len (low + n * size) size) =
    ap (map g) (range_append low (n * size) size) ∙ map-append g (range_with_len low (n * size)) (range_with_len (low + n * size) size) in
    pieces_more f 0 n n (omega arith) ∙ ap (λ xs. xs ++ f n) before ∙ ap (λ xs. map g (range_with_len low (n * size)) ++ xs) (same n (omega arith)) ∙ sym joined ∙ ap (λ x. map g (range_with_len low x)) (sym (suc-mul n size))
