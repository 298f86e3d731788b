-- The names that a module may use.
use Rattle.std.specs.Prelude.{ℕ, Bool, List}
use Rattle.p3l_types.specs.Constants.{Constants}
use Rattle.p3l_check.specs.declared.environment.Environment.{Environment}
use Rattle.p3l_check.specs.Modules.{Modules}
use Rattle.p3l_check.specs.Places.{defined_from}

-- the constants and the modules before it, and which names are defined by it or after it
pub record Before : Type 0 where
  pub constants : Constants
  pub modules : Modules
  pub is_ahead : List ℕ → Bool

abbrev pub before_of : Environment → Before
before_of env = record {
  constants = env.consts.now;
  modules = env.modules.now;
  is_ahead = defined_from env.places.now env.from;
}
