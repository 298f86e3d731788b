-- The calls of a pipe or a comp, checked one after another.
use Rattle.std.proofs.Common.{ℕ, Bool, List, ◌++◌, Result, Ok}
use Rattle.p3l_ast.specs.declared.refusal.SourceRefusal.{SourceRefusal}
use Rattle.p3l_ast.specs.declared.call.Call.{Call}
use Rattle.p3l_types.specs.Verdict.{given}
use Rattle.p3l_body.specs.declared.var.Var.{Var}
use Rattle.p3l_body.specs.Scope.{Names}
use Rattle.p3l_check.specs.Environment.{Before}
use Rattle.p3l_check.specs.Skeleton.{staged}

-- the callees so far, followed by those of the calls still to be checked
abbrev pub staged_after : List ℕ → Bool → Before → Names → List Var → List Var → List Call → Result (List ℕ) SourceRefusal
staged_after done in_process before names taken outs calls =
    given (staged in_process before names taken outs calls) (λ rest. Ok (done ++ rest))
