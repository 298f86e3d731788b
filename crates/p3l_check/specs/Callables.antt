-- Modules that fit those that they call.
use Rattle.std.specs.Prelude.{◌≡◌, ℕ, ◌<◌, List, length}
use Rattle.std.specs.List.{AllByRecursion}
use Rattle.p3l_skel.specs.declared.tree.ModuleInfo.{ModuleInfo}
use Rattle.p3l_check.specs.declared.callables.Callable.{Callable}
use Rattle.p3l_skel.specs.Lawful.{HasLawfulRescue}
use Rattle.p3l_check.specs.Wiring.{module_at, IsCallableModule}

-- each module fits those before it that it calls, and has a rescue number only where it may
pub record AreCallables (infos : List ModuleInfo) (callables : List Callable) : Type 0 where
  pub count : length callables ≡ length infos
  pub rescues : AllByRecursion HasLawfulRescue infos
  pub each : (k : ℕ) → k < length callables → IsCallableModule infos callables k (module_at callables k)
