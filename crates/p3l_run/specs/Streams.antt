-- The input and the output of a run, as contracts observe them.
use Rattle.std.specs.Prelude.{ℕ, List}
use Rattle.p3l_io.specs.Change.{Observation}

-- both of them at one moment
pub record Streams : Type 0 where
  pub input : Observation (List ℕ)
  pub output : Observation (List ℕ)

abbrev pub streams : Observation (List ℕ) → Observation (List ℕ) → Streams
streams input output = record { input = input; output = output }
