-- The meaning of a compiled body.
use Rattle.std.specs.Prelude.{◌≡◌, ℕ, ℤ, List, [], ◌∷◌, ◌++◌, length, Some, Ok}
use Rattle.p3l_ast.specs.declared.meaning.valuation.Valuation.{Valuation}
use Rattle.p3l_ast.specs.Tree.{Statements}
use Rattle.p3l_ast.specs.Meaning.Statement.{run_of}
use Rattle.p3l_code.specs.declared.instr.Code.{Code}
use Rattle.p3l_code.specs.declared.instr.Instr.TheVariants.{End}
use Rattle.p3l_code.specs.Machine.{after, outs_of, started, ending, Unrolls}
use Rattle.p3l_compile.specs.Scope.{Names, valuation_of, IsLaid}
use Rattle.p3l_compile.specs.Statement.{statement_code, FitsCode}

-- a code of the statements and an end does on every words what they mean
abbrev pub Means : Names → Statements → Code → (Valuation → List ℤ) → Type 0
Means scope body code outs_in =
    (words : List ℤ) → length (started code words) ≡ code.memory
    → ending code words ≡ after (run_of code.budget body (valuation_of scope (started code words) 0)) (λ s. Some (Ok (outs_in s)))

-- for all scopes, statements and codes: where the machine makes steps on a code, and the code is that of the statements
abbrev pub CompiledMeans : Type 0
CompiledMeans =
    (scope : Names) (body : Statements) (code : Code) (outs_in : Valuation → List ℤ)
    → Unrolls code → IsLaid scope code.memory → FitsCode scope body
    → code.instrs ≡ statement_code scope 0 body ++ End ∷ []
    → ((m : List ℤ) (t : ℕ) → length m ≡ code.memory → outs_in (valuation_of scope m t) ≡ outs_of code m)
    → Means scope body code outs_in
