-- Ports that are declared, and their number of words.
use Rattle.std.specs.Prelude.{ℕ, ◌+◌, ◌≤◌, Bool, false, List, [], ◌∷◌, length, Option, Some, None, bytes_eq}
use Rattle.std.specs.List.{All}
use Rattle.p3l_base.specs.Limits.{most_sizes, most_words}
use Rattle.p3l_skel.specs.Lawful.{IsSize}
use Rattle.p3l_types.specs.declared.shape.Shape.{Shape}
use Rattle.p3l_types.specs.Shape.{product}
use Rattle.p3l_body.specs.declared.var.Var.{Var}

-- the number of words of variables
abbrev pub total : List Var → ℕ
total [] = 0
total (var ∷ vars) = product var.shape.sizes + total vars

-- an array has no more sizes than it may have, each in its limits
pub record IsSized (shape : Shape) : Type 0 where
  pub few : length shape.sizes ≤ most_sizes
  pub sizes : All IsSize shape.sizes

-- variables that keep the limits of declarations
pub record AreSized (vars : List Var) : Type 0 where
  pub each : All (λ (var : Var). IsSized var.shape) vars
  pub few_words : total vars ≤ most_words

-- the port is there and has this shape
abbrev pub has_shape : Option Var → Shape → Bool
has_shape None shape = false
has_shape (Some port) shape = bytes_eq port.shape.sizes shape.sizes
