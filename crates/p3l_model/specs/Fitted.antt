-- Numbers of 64 bits.
use Rattle.std.specs.Prelude.{ℕ, min}

-- a number, or the greatest one of 64 bits where it has more
abbrev pub fitted : ℕ → ℕ
fitted n = min n 18446744073709551615
