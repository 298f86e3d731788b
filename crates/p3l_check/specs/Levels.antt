-- Tables of the modules that are nested no deeper than n levels.
use Rattle.std.specs.Prelude.{◌≡◌, ℕ, ◌<◌, Bool, false, List, length, slice_index_or}
use Rattle.std.specs.List.{All, list_all}
use Rattle.p3l_check.specs.declared.callables.Callable.{Callable}
use Rattle.p3l_check.specs.Refusing.{is_nested_within}

-- the modules that are called are there
abbrev pub CallsAreThere : List Callable → Type 0
CallsAreThere callables = All (λ (m : Callable). All (λ c. c < length callables) m.calls) callables

-- by a table for one level less, the instances of a module are nested no deeper
unfoldable pub is_nested_by : List Bool → Callable → Bool
is_nested_by level m = list_all (λ c. slice_index_or level c false) m.calls

-- the table says of each module whether it is nested no deeper than d
pub record IsLevel (callables : List Callable) (d : ℕ) (level : List Bool) : Type 0 where
  pub count : length level ≡ length callables
  pub each : (k : ℕ) → k < length callables → slice_index_or level k false ≡ is_nested_within callables d k
