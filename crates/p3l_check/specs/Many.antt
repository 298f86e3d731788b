-- Programs of more entries than 32 bits number. No text is as long.
use Rattle.std.specs.Prelude.{◌≡◌, ◌≤◌, ◌^◌, ◌⊎◌, List, length, Result, Ok, Err}
use Rattle.p3l_ast.specs.declared.refusal.SourceRefusal.{SourceRefusal}
use Rattle.p3l_ast.specs.declared.refusal.SourceRefusal.TheVariants.{At, NoMemory}
use Rattle.p3l_ast.specs.Tree.{EntryTree}
use Rattle.p3l_base.specs.Memory.{Refused}

-- too many entries to number their modules
abbrev pub AreMany : List EntryTree → Type 0
AreMany entries = 2 ^ 32 ≤ length entries

-- an answer is what is meant, value or refusal, unless out of memory or too many entries
abbrev pub GivesUnlessMany : {A : Type 0} → List EntryTree → Result A SourceRefusal → Result A SourceRefusal → Type 0
GivesUnlessMany entries (Ok x) meant = meant ≡ Ok x
GivesUnlessMany entries (Err NoMemory) meant = Refused ⊎ AreMany entries
GivesUnlessMany entries (Err (At fault pos)) meant = meant ≡ Err (At fault pos)
