-- Why a run may say that memory ran out.
use Rattle.std.specs.Prelude.{◌≡◌, ◌⊎◌, Bool, true}
use Rattle.p3l_base.specs.Memory.{Refused}
use Rattle.p3l_run.specs.declared.fault.RunFault.{RunFault}
use Rattle.p3l_run.specs.declared.fault.RunFault.TheVariants as fault

-- a request for memory was refused; or the units, if they may, said so themselves
abbrev pub IsWanting : Bool → Type 0
IsWanting units = Refused ⊎ (units ≡ true)

-- a fault says that memory ran out only for such a cause
abbrev pub Wants : Bool → RunFault → Type 0
Wants units fault.Write = Unit {0}
Wants units fault.NoMemory = IsWanting units
