-- The condition of a loop: it is handed the loop's outs, and gives a number in a new port.
use Rattle.std.specs.Prelude.{◌==◌, ◌&&◌, not, List, [], ◌∷◌, length, Err}
use Rattle.p3l_ast.specs.declared.position.Pos.{Pos}
use Rattle.p3l_ast.specs.declared.refusal.Fault.TheVariants.{Twice, LoopTypes}
use Rattle.p3l_ast.specs.declared.refusal.SourceRefusal.TheVariants.{At}
use Rattle.p3l_ast.specs.declared.call.OutArg.{OutArg}
use Rattle.p3l_ast.specs.declared.call.OutArg.TheVariants.{Fresh}
use Rattle.p3l_ast.specs.declared.call.Call.{Call}
use Rattle.p3l_types.specs.Verdict.{Verdict, broken_if, given, kept}
use Rattle.p3l_types.specs.Constants.{Constants}
use Rattle.p3l_body.specs.declared.var.Var.{Var}
use Rattle.p3l_body.specs.declared.ports.Ports.{Ports}
use Rattle.p3l_body.specs.Scope.{Names, declared_one}
use Rattle.p3l_calls.specs.Plain.{plain_ins}

-- the outs of a condition: one new port without sizes, where the callee gives a scalar, or the fault
-- is at the call's name; and then the port is declared
abbrev pub condition_out : Constants → Names → Pos → List Var → List OutArg → Verdict
condition_out constants names place (port ∷ []) (Fresh fresh ∷ []) =
    given (broken_if (not (length fresh.sizes == 0 && length port.shape.sizes == 0)) LoopTypes place)
    (λ x. given (declared_one Twice constants names 0 fresh) (λ var. kept))
condition_out constants names place ports outs = Err (At LoopTypes place)

-- the condition of a loop with these outs
abbrev pub condition : Constants → Names → List Var → Ports → Call → Verdict
condition constants names loop_outs callee call =
    given (plain_ins loop_outs callee call) (λ x. condition_out constants names call.at.pos callee.outs call.outs)
