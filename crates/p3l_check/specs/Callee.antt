-- The module that a call names, and whether it may be called so.
use Rattle.std.specs.Prelude.{ℕ, ◌==◌, ◌&&◌, not, Bool, true, length, Result, Ok, Err, if◌then◌else◌}
use Rattle.std.specs.Option.{option_map_or}
use Rattle.p3l_ast.specs.declared.position.Spot.{Spot}
use Rattle.p3l_ast.specs.declared.refusal.Fault.TheVariants.{UnknownName, UsedBeforeDefined, Arity, BadOperator, NotInComp}
use Rattle.p3l_ast.specs.declared.refusal.SourceRefusal.{SourceRefusal}
use Rattle.p3l_ast.specs.declared.refusal.SourceRefusal.TheVariants.{At}
use Rattle.p3l_ast.specs.declared.call.Call.{Call}
use Rattle.p3l_types.specs.Verdict.{Verdict, broken_if, given}
use Rattle.p3l_body.specs.declared.ports.Ports.{Ports}
use Rattle.p3l_check.specs.Wiring.{module_at}
use Rattle.p3l_check.specs.Modules.{Modules, number_of, ports_at}
use Rattle.p3l_check.specs.Environment.{Before}

-- the number of the earlier module of a name; the name may be defined here or later, or nowhere
abbrev pub callee_of : Before → Spot → Result ℕ SourceRefusal
callee_of before at =
    option_map_or Ok (number_of before.modules at.name)
    (Err (At (if before.is_ahead at.name then UsedBeforeDefined else UnknownName) at.pos))

-- in one process only sequential modules run
abbrev pub process_rule : Bool → Modules → ℕ → Spot → Verdict
process_rule in_process modules k at = broken_if (in_process && not (module_at modules.callables k).sequential) NotInComp at.pos

-- a call has as many ins and outs as its callee
abbrev pub arity_rule : Ports → Call → Verdict
arity_rule callee call =
    broken_if (not (length call.ins == length callee.ins && length call.outs == length callee.outs)) Arity call.at.pos

-- a call has one in and one out
abbrev pub one_each_rule : Call → Verdict
one_each_rule call = broken_if (not (length call.ins == 1 && length call.outs == 1)) Arity call.at.pos

-- an operator has two ins and one out
abbrev pub operator_rule : Ports → Spot → Verdict
operator_rule callee at = broken_if (not (length callee.ins == 2 && length callee.outs == 1)) BadOperator at.pos

-- an earlier module that may run where the call is
abbrev pub runnable_callee : Bool → Before → Call → Result ℕ SourceRefusal
runnable_callee in_process before call =
    given (callee_of before call.at) (λ k. given (process_rule in_process before.modules k call.at) (λ x. Ok k))

-- the callee of a call, all but its arguments
abbrev pub called : Bool → Before → Call → Result ℕ SourceRefusal
called in_process before call =
    given (runnable_callee in_process before call)
    (λ k. given (arity_rule (ports_at before.modules k) call) (λ x. Ok k))

-- the operator of a reduce, all but its arguments
abbrev pub operator_called : Before → Call → Result ℕ SourceRefusal
operator_called before call =
    given (runnable_callee true before call)
    (λ k. given (operator_rule (ports_at before.modules k) call.at)
    (λ x. given (one_each_rule call) (λ y. Ok k)))
