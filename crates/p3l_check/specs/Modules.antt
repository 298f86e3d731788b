-- The modules before an entry.
use Rattle.std.specs.Prelude.{ℕ, ◌+◌, List, [], ◌∷◌, ◌++◌, Option, slice_index_or, bytes_eq}
use Rattle.std.specs.Map.{lookup}
use Rattle.p3l_skel.specs.declared.tree.ModuleInfo.{ModuleInfo}
use Rattle.p3l_check.specs.declared.callables.Callable.{Callable}
use Rattle.p3l_body.specs.declared.ports.Ports.{Ports}
use Rattle.p3l_check.specs.declared.defined.Defined.{Defined}

-- modules in the order of the source: their names with their kinds, their ports, and their calls with
-- what their instances are
pub record Modules : Type 0 where
  pub infos : List ModuleInfo
  pub ports : List Ports
  pub callables : List Callable

abbrev pub no_modules : Modules
no_modules = record { infos = []; ports = []; callables = [] }

-- the names of modules with their numbers, the first of which is k
abbrev pub numbered : ℕ → List ModuleInfo → List (List ℕ × ℕ)
numbered k [] = []
numbered k (info ∷ infos) = (info.name, k) ∷ numbered (k + 1) infos

-- the number of the module of a name
abbrev pub number_of : Modules → List ℕ → Option ℕ
number_of modules name = lookup (bytes_eq name) (numbered 0 modules.infos)

-- the ports of a number past the modules: none
abbrev pub no_ports : Ports
no_ports = record { ins = []; outs = [] }

-- the ports of the module of a number
abbrev pub ports_at : Modules → ℕ → Ports
ports_at modules k = slice_index_or modules.ports k no_ports

-- modules and one more
abbrev pub with_module : Modules → Defined → Modules
with_module modules defined = record {
  infos = modules.infos ++ defined.info ∷ [];
  ports = modules.ports ++ defined.ports ∷ [];
  callables = modules.callables ++ defined.callables ∷ [];
}
