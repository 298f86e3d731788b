-- Printed names of the kinds of traps.
use Rattle.std.specs.Prelude.{ℕ, List, codes}
use Rattle.p3l_base.specs.declared.outcome.TrapKind.{TrapKind}
use Rattle.p3l_base.specs.declared.outcome.TrapKind.TheVariants.{DivZero, DivOver, Index, Shift, Budget, Turns}

abbrev pub kind_text : TrapKind → List ℕ
kind_text DivZero = codes "division by zero"
kind_text DivOver = codes "division overflow"
kind_text Index = codes "index out of range"
kind_text Shift = codes "shift out of range"
kind_text Budget = codes "budget spent"
kind_text Turns = codes "turns spent"
