-- The part of C11 that functions of bodies are written in.
use Rattle.std.specs.Prelude.{ℕ, ℤ, List}
use Rattle.p3l_base.specs.declared.outcome.TrapKind.{TrapKind}

mutual
  -- expressions of type int64_t: a literal, a temp `tK`, an object with temps as its indices, `/`
  -- and `%`, `(int64_t)(c)`, `p3l_signed(u)` and `p3l_shr(x, k)`
  pub data Signed : Type 0 where
    number : ℤ → Signed
    temp : ℕ → Signed
    element : List ℕ → List ℕ → Signed
    quotient : Signed → Signed → Signed
    remainder : Signed → Signed → Signed
    truth : Test → Signed
    converted : Unsigned → Signed
    moved_down : Signed → Signed → Signed

  -- expressions of type uint64_t: `UINT64_C(0)`, `(uint64_t)(x)`, `+ - * & | ^ ~`, and `u << k`
  pub data Unsigned : Type 0 where
    nought : Unsigned
    of : Signed → Unsigned
    plus : Unsigned → Unsigned → Unsigned
    minus : Unsigned → Unsigned → Unsigned
    times : Unsigned → Unsigned → Unsigned
    bits_and : Unsigned → Unsigned → Unsigned
    bits_or : Unsigned → Unsigned → Unsigned
    bits_xor : Unsigned → Unsigned → Unsigned
    flipped : Unsigned → Unsigned
    moved_up : Unsigned → Signed → Unsigned

  -- expressions of type int that are 0 or 1: `== != < <= > >= ! || &&`, and `turns >= N`
  pub data Test : Type 0 where
    equal : Signed → Signed → Test
    differ : Signed → Signed → Test
    less : Signed → Signed → Test
    at_most : Signed → Signed → Test
    greater : Signed → Signed → Test
    at_least : Signed → Signed → Test
    negated : Test → Test
    either : Test → Test → Test
    both : Test → Test → Test
    spent : ℕ → Test

-- statements, each with those that follow it: `tK = e;`, `x[tI][tJ] = e;`, `if (c) return TRAP;`,
-- `turns = turns + 1;`, `if (c) { .. } else { .. }`, `for (;;) { .. if (!(c)) break; .. }`
pub data Lines : Type 0 where
  done : Lines
  keep : ℕ → Signed → Lines → Lines
  write : List ℕ → List ℕ → Signed → Lines → Lines
  stop_if : Test → TrapKind → Lines → Lines
  turn : Lines → Lines
  choose : Test → Lines → Lines → Lines → Lines
  forever : Lines → Test → Lines → Lines → Lines
