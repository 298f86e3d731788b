-- The two helper functions of the C text, and the meaning of their bodies: formulas over parameters
-- of type int64_t and uint64_t. They write no object, so no order of evaluation matters (C11 6.5p2,
-- p3). `None` is behaviour that is undefined or that the implementation defines.
use Rattle.std.specs.Prelude.{ℕ, ℤ, pos, negsuc, ◌+◌, ◌-◌, ◌/◌, ◌%◌, ◌^◌, ◌-ℤ◌, Bool, Option, Some, None, nat_lt, int_lt, if◌then◌else◌}

-- a function of a value, if there is one
abbrev pub some_then : {A B : Type 0} → Option A → (A → Option B) → Option B
some_then (Some x) go = go x
some_then None go = None

-- a number that int64_t has (7.20.1.1p1: exactly 64 bits in two's complement, with no padding)
abbrev pub in_range : ℤ → Bool
in_range (pos n) = nat_lt n (2 ^ 63)
in_range (negsuc n) = nat_lt n (2 ^ 63)

-- 6.5p5: a result that its type does not have is undefined
abbrev pub ranged : ℤ → Option ℤ
ranged v = if in_range v then Some v else None

-- 6.3.1.3p1: an unsigned value that int64_t has is unchanged; p3: any other is defined by the
-- implementation, so no text relies on it
abbrev pub narrowed : ℕ → Option ℤ
narrowed n = if nat_lt n (2 ^ 63) then Some (pos n) else None

-- 6.5.7p3: a negative count of places, or one of the width or more, is undefined; p5: a value that
-- isn't negative is divided by the power of 2, and the result of a negative one is defined by the
-- implementation, so no text relies on it
abbrev pub shifted_down : ℤ → ℤ → Option ℤ
shifted_down (pos n) (pos k) = if nat_lt k 64 then Some (pos (n / 2 ^ k)) else None
shifted_down (pos n) (negsuc k) = None
shifted_down (negsuc n) k = None

mutual
  -- a formula of type int64_t
  pub data Whole : Type 0 where
    first : Whole
    literal : ℤ → Whole
    difference : Whole → Whole → Whole
    narrow : Natural → Whole
    down : Whole → Whole
    choice : Question → Whole → Whole → Whole

  -- a formula of type uint64_t
  pub data Natural : Type 0 where
    given : Natural
    most : Natural
    below : Natural → Natural → Natural

  pub data Question : Type 0 where
    is_small : Natural → Question
    is_negative : Whole → Question

-- the parameters: x and k of type int64_t, u of type uint64_t
pub record Arguments : Type 0 where
  pub x : ℤ
  pub k : ℤ
  pub u : ℕ

abbrev mutual
  pub whole : Arguments → Whole → Option ℤ
  whole g first = Some g.x
  whole g (literal v) = ranged v
  whole g (difference a b) = some_then (whole g a) (λ v. some_then (whole g b) (λ w. ranged (v -ℤ w)))
  whole g (narrow a) = some_then (natural g a) narrowed
  whole g (down a) = some_then (whole g a) (λ v. shifted_down v g.k)
  whole g (choice c a b) = some_then (question g c) (λ t. if t then whole g a else whole g b)

  pub natural : Arguments → Natural → Option ℕ
  natural g given = Some g.u
  natural g most = Some (2 ^ 64 - 1)
  natural g (below a b) = some_then (natural g a) (λ m. some_then (natural g b) (λ n. Some ((m + (2 ^ 64 - n)) % 2 ^ 64)))

  pub question : Arguments → Question → Option Bool
  question g (is_small a) = some_then (natural g a) (λ n. Some (nat_lt n (2 ^ 63)))
  question g (is_negative a) = some_then (whole g a) (λ v. Some (int_lt v (pos 0)))

-- static int64_t p3l_signed(uint64_t u):
-- u <= INT64_MAX ? (int64_t)u : -1 - (int64_t)(UINT64_MAX - u)
abbrev pub signed_body : Whole
signed_body = choice (is_small given) (narrow given) (difference (literal (negsuc 0)) (narrow (below most given)))

-- static int64_t p3l_shr(int64_t x, int64_t k):
-- x < 0 ? -1 - ((-1 - x) >> k) : x >> k
abbrev pub shr_body : Whole
shr_body = choice (is_negative first) (difference (literal (negsuc 0)) (down (difference (literal (negsuc 0)) first))) (down first)

-- the results of the calls
unfoldable pub signed_call : ℕ → Option ℤ
signed_call u = whole (record { x = pos 0; k = pos 0; u = u }) signed_body

unfoldable pub shr_call : ℤ → ℤ → Option ℤ
shr_call x k = whole (record { x = x; k = k; u = 0 }) shr_body
