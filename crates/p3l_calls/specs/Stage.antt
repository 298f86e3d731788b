-- A call of a pipe or a comp that another follows: its outs are new ports, which the next call takes.
use Rattle.std.specs.Prelude.{ℕ, ◌+◌, not, false, List, [], ◌∷◌, ◌++◌, Result, Ok, Err, Option}
use Rattle.p3l_ast.specs.declared.refusal.Fault.TheVariants.{Twice, TypeDiffers, Wiring}
use Rattle.p3l_ast.specs.declared.refusal.SourceRefusal.{SourceRefusal}
use Rattle.p3l_ast.specs.declared.refusal.SourceRefusal.TheVariants.{At}
use Rattle.p3l_ast.specs.declared.call.OutArg.{OutArg}
use Rattle.p3l_ast.specs.declared.call.OutArg.TheVariants.{Fresh, Old}
use Rattle.p3l_ast.specs.declared.call.Call.{Call}
use Rattle.p3l_types.specs.Verdict.{broken_if, given}
use Rattle.p3l_types.specs.Constants.{Constants}
use Rattle.p3l_types.specs.Shape.{product}
use Rattle.p3l_body.specs.declared.var.Var.{Var}
use Rattle.p3l_body.specs.declared.ports.Ports.{Ports}
use Rattle.p3l_body.specs.Scope.{Names, named, declared_one}
use Rattle.p3l_calls.specs.Port.{has_shape}
use Rattle.p3l_calls.specs.Plain.{first, after_first, plain_ins}

-- a new port after others of n words in its list: it is declared, by the rules of ports, and
-- then it has the shape of the callee's port
abbrev pub fresh_out : Constants → Names → ℕ → Option Var → OutArg → Result Var SourceRefusal
fresh_out constants names words port (Old arg) = Err (At Wiring arg.at.pos)
fresh_out constants names words port (Fresh fresh) =
    given (declared_one Twice constants names words fresh)
    (λ var. given (broken_if (not (has_shape port var.shape)) TypeDiffers fresh.at.pos) (λ x. Ok var))

-- new ports one after another, each of which the next ones may not hide
abbrev pub fresh_outs : Constants → Names → ℕ → List Var → List OutArg → Result (List Var) SourceRefusal
fresh_outs constants names words ports [] = Ok []
fresh_outs constants names words ports (out ∷ outs) =
    given (fresh_out constants names words (first ports) out)
    (λ var. given (fresh_outs constants (names ++ named false var ∷ []) (words + product var.shape.sizes) (after_first ports) outs)
    (λ vars. Ok (var ∷ vars)))

-- a call that is handed these variables and that another follows; what it hands on
abbrev pub stage : Constants → Names → List Var → Ports → Call → Result (List Var) SourceRefusal
stage constants names taken callee call =
    given (plain_ins taken callee call) (λ x. fresh_outs constants names 0 callee.outs call.outs)
