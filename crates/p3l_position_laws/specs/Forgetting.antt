-- Answers without the positions of their faults.
use Rattle.std.specs.Prelude.{Result, Ok, Err}
use Rattle.p3l_ast.specs.declared.refusal.SourceRefusal.{SourceRefusal}
use Rattle.p3l_ast.specs.declared.refusal.SourceRefusal.TheVariants.{At, NoMemory}
use Rattle.p3l_ast.specs.Unplaced.{nowhere}

abbrev pub refusal_unplaced : SourceRefusal → SourceRefusal
refusal_unplaced (At fault pos) = At fault nowhere
refusal_unplaced NoMemory = NoMemory

-- an answer without positions: what becomes of its value is given
abbrev pub settled : {A B : Type 0} → (A → B) → Result A SourceRefusal → Result B SourceRefusal
settled f (Ok x) = Ok (f x)
settled f (Err refusal) = Err (refusal_unplaced refusal)

-- an answer whose value has no positions
abbrev pub forget : {A : Type 0} → Result A SourceRefusal → Result A SourceRefusal
forget (Ok x) = Ok x
forget (Err refusal) = Err (refusal_unplaced refusal)
