-- Numbers of clauses that pass are in their ranges.
use Rattle.std.proofs.Common.{◌≡◌, ℕ, ◌≤◌, Bool, true, false, IfSome, List, [], ◌∷◌, Ok, Option, Some, None, refl, subst, arith}
use Rattle.std.specs.Prelude.{min, nat_le, ◌&&◌, ◌||◌, ◌==◌}
use Rattle.std.specs.Int.{IsPowerOfTwo}
use Rattle.std.specs.List.{AllByRecursion, list_any}
use Rattle.std.proofs.lemmas.Bool.{eqb-true, leb-true}
use Rattle.p3l_ast.specs.declared.position.Pos.{Pos}
use Rattle.p3l_ast.specs.declared.port.Num.{Num}
use Rattle.p3l_types.specs.Constants.{Constants, number_of, natural}
use Rattle.p3l_body.specs.Seq.{limited}
use Rattle.p3l_calls.proofs.Kept.{given-taken, chosen, both-left, both-right}
use Rattle.p3l_check.specs.Clauses.{workers_upto, powers, is_power, as_power, reduce_workers, turns_of, tokens_of}

-- a number from a lowest to a highest
abbrev pub IsWithin : ℕ → ℕ → ℕ → Type 0
IsWithin low high n = (low ≤ n) × (n ≤ high)

pub limited-within : (low high : ℕ) (constants : Constants) (num : Num) (n : ℕ) → limited low high constants num ≡ Ok n → IsWithin low high n
limited-within low high constants num n e =
    let found = given-taken (number_of constants num) _ n e in
    let value : ℕ = natural found.0 in
    let tests = chosen (nat_le low value && nat_le value high) value n _ found.2 in
    let least : low ≤ value = leb-true low value (both-left (nat_le low value) (nat_le value high) tests.0) in
    let most : value ≤ high = leb-true value high (both-right (nat_le low value) (nat_le value high) tests.0) in
    subst (IsWithin low high) tests.1 (least, most)

pub upto-within : (most : ℕ) (constants : Constants) (clause : Option Num) (workers : Option ℕ) → workers_upto most constants clause ≡ Ok workers → IfSome workers (IsWithin 1 most)
upto-within most constants None workers e =
    let none : None ≡ workers = cc in subst (λ w. IfSome w (IsWithin 1 most)) none tt
upto-within most constants (Some num) workers e =
    let found = given-taken (limited 1 most constants num) _ workers e in
    let is : Some found.0 ≡ workers = cc (found.2) in
    subst (λ w. IfSome w (IsWithin 1 most)) is (limited-within 1 most constants num found.0 found.1)

one_of : (P : Type 0) (b rest : Bool) → (b ≡ true → P) → (rest ≡ true → P) → (b || rest) ≡ true → P
one_of P true rest here later e = here refl
one_of P false rest here later e = later e

among : (P : ℕ → Type 0) (n : ℕ) (xs : List ℕ) → AllByRecursion P xs → list_any (λ x. x == n) xs ≡ true → P n
among P n [] all e = absurd cc
among P n (x ∷ xs) all e =
    one_of (P n) (x == n) (list_any (λ x. x == n) xs) (λ is. subst P (eqb-true x n is) all.0) (among P n xs all.1) e

pub power-of_two : (n : ℕ) → is_power n ≡ true → IsPowerOfTwo n
power-of_two n e =
    among IsPowerOfTwo n powers ((0, refl), ((1, refl), ((2, refl), ((3, refl), ((4, refl), ((5, refl), ((6, refl), ((7, refl), ((8, refl), ((9, refl), tt)))))))))) e

-- a power of two, within a length
abbrev pub IsSegments : ℕ → ℕ → Type 0
IsSegments len n = IsPowerOfTwo n × (n ≤ len) × (n ≤ 512)

segments : (len : ℕ) (num : Num) (n : ℕ) (workers : Option ℕ) → IsWithin 1 (min len 512) n → as_power num n ≡ Ok workers → IfSome workers (IsSegments len)
segments len num n workers within e =
    let tests = chosen (is_power n) (Some n) workers _ e in
    let most : n ≤ min len 512 = within.1 in
    subst (λ w. IfSome w (IsSegments len)) tests.1 (power-of_two n tests.0, omega arith, omega arith)

pub reduce-within : (len : ℕ) (constants : Constants) (clause : Option Num) (workers : Option ℕ) → reduce_workers len constants clause ≡ Ok workers → IfSome workers (IsSegments len)
reduce-within len constants None workers e =
    let none : None ≡ workers = cc in subst (λ w. IfSome w (IsSegments len)) none tt
reduce-within len constants (Some num) workers e =
    let found = given-taken (limited 1 (min len 512) constants num) _ workers e in
    segments len num found.0 workers (limited-within 1 (min len 512) constants num found.0 found.1) found.2

pub turns-within : (pos : Pos) (constants : Constants) (clause : Option Num) (turns : ℕ) → turns_of pos constants clause ≡ Ok turns → IsWithin 1 65536 turns
turns-within pos constants None turns e = absurd cc
turns-within pos constants (Some num) turns e = limited-within 1 65536 constants num turns e

pub tokens-within : (constants : Constants) (clause : Option Num) (tokens : ℕ) → tokens_of constants clause ≡ Ok tokens → IsWithin 1 1024 tokens
tokens-within constants None tokens e =
    let usual : 4 ≡ tokens = cc in subst (IsWithin 1 1024) usual (omega arith, omega arith)
tokens-within constants (Some num) tokens e = limited-within 1 1024 constants num tokens e
