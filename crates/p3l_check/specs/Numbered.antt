-- The numbers of modules by their names.
use Rattle.std.specs.Prelude.{◌≡◌, ℕ, ◌<◌, ◌^◌, List, length}
use Rattle.p3l_skel.specs.declared.tree.ModuleInfo.{ModuleInfo}
use Rattle.p3l_check.specs.declared.callables.Callable.{Callable}
use Rattle.p3l_body.specs.declared.ports.Ports.{Ports}
use Rattle.p3l_check.specs.Modules.{numbered}

-- a table has the names of modules with their numbers, of which there are no more than 32 bits count
pub record AreNumbered (numbers : List (List ℕ × ℕ)) (infos : List ModuleInfo) (ports : List Ports) (callables : List Callable) : Type 0 where
  pub numbers_are : numbers ≡ numbered 0 infos
  pub ported : length ports ≡ length infos
  pub wirings : length callables ≡ length infos
  pub few : length infos < 2 ^ 32
