-- Answers that a plain program of statements may give.
use Rattle.std.specs.Prelude.{◌≡◌, Result, Ok, Err}
use Rattle.p3l_base.specs.declared.outcome.TrapKind.{TrapKind}
use Rattle.p3l_ast.specs.declared.meaning.stop.Stop.{Stop}
use Rattle.p3l_ast.specs.declared.meaning.stop.Stop.TheVariants.{Trapped, NoMemory}
use Rattle.p3l_base.specs.Memory.{Refused}

-- an answer is what is meant, value or trap, unless out of memory
abbrev pub Gives : {A : Type 0} → Result A Stop → Result A TrapKind → Type 0
Gives (Ok x) meant = Ok x ≡ meant
Gives (Err (Trapped trap)) meant = Err trap ≡ meant
Gives (Err NoMemory) meant = Refused
