-- Verdicts of rules on a source text: kept, or a fault and its place.
use Rattle.std.specs.Prelude.{◌≡◌, Bool, List, [], ◌∷◌, Result, Ok, Err, if◌then◌else◌}
use Rattle.p3l_ast.specs.declared.position.Pos.{Pos}
use Rattle.p3l_ast.specs.declared.refusal.Fault.{Fault}
use Rattle.p3l_ast.specs.declared.refusal.SourceRefusal.{SourceRefusal}
use Rattle.p3l_ast.specs.declared.refusal.SourceRefusal.TheVariants.{At, NoMemory}
use Rattle.p3l_base.specs.Memory.{Refused}

-- the verdict of a rule
abbrev pub Verdict : Type 0
Verdict = Result (Unit {0}) SourceRefusal

abbrev pub kept : Verdict
kept = Ok tt

abbrev pub broken_if : Bool → Fault → Pos → Verdict
broken_if bad fault pos = if bad then Err (At fault pos) else kept

-- the first of rules, in their order, that is broken
abbrev pub first_of : List Verdict → Verdict
first_of [] = kept
first_of (Ok x ∷ rules) = first_of rules
first_of (Err refusal ∷ rules) = Err refusal

-- the continuation of a value, if its rules are kept
abbrev pub given : {A B : Type 0} → Result A SourceRefusal → (A → Result B SourceRefusal) → Result B SourceRefusal
given (Ok x) go = go x
given (Err refusal) go = Err refusal

-- an answer is what is meant, value or refusal, unless out of memory
abbrev pub Gives : {A : Type 0} → Result A SourceRefusal → Result A SourceRefusal → Type 0
Gives (Ok x) meant = meant ≡ Ok x
Gives (Err NoMemory) meant = Refused
Gives (Err (At fault pos)) meant = meant ≡ Err (At fault pos)
