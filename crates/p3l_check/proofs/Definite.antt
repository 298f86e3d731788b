-- The rules of calls never run out of memory: their refusals are faults.
use Rattle.std.proofs.Common.{ℕ, Bool, false, ◌&&◌, not, List, [], ◌∷◌, length, Option, Some, None, Ok, Err}
use Rattle.std.specs.Prelude.{◌==◌, bytes_eq, if◌then◌else◌}
use Rattle.std.specs.Option.{option_map_or}
use Rattle.p3l_ast.specs.declared.position.Pos.{Pos}
use Rattle.p3l_ast.specs.declared.position.Spot.{Spot}
use Rattle.p3l_ast.specs.declared.refusal.SourceRefusal.TheVariants.{At}
use Rattle.p3l_ast.specs.declared.refusal.Fault.{Fault}
use Rattle.p3l_ast.specs.declared.refusal.Fault.TheVariants.{UnknownName, UsedBeforeDefined, Arity, BadOperator, NotInComp, FreeIndex, Wiring}
use Rattle.p3l_ast.specs.declared.call.Arg.{Arg}
use Rattle.p3l_ast.specs.declared.call.OutArg.{OutArg}
use Rattle.p3l_ast.specs.declared.call.OutArg.TheVariants.{Fresh, Old}
use Rattle.p3l_ast.specs.declared.call.Call.{Call}
use Rattle.p3l_types.specs.Verdict.{Verdict, broken_if, given, first_of}
use Rattle.p3l_types.specs.Shape.{product}
use Rattle.p3l_body.specs.declared.var.Var.{Var}
use Rattle.p3l_body.specs.declared.ports.Ports.{Ports}
use Rattle.p3l_body.proofs.Definite.{IsDefinite, ok_definite, at_definite, broken_definite, given_definite, next_definite}
use Rattle.p3l_check.specs.Wiring.{module_at}
use Rattle.p3l_calls.specs.Plain.{is_plain, plain_call}
use Rattle.p3l_calls.specs.Reduce.{is_rows, rows_rule, result_rule, is_operator, reduce_rule, folded, reduced, elements_of}
use Rattle.p3l_calls.proofs.Definite.{plain_call_definite}
use Rattle.p3l_check.specs.Modules.{number_of, ports_at}
use Rattle.p3l_check.specs.Environment.{Before}
use Rattle.p3l_check.specs.Callee.{callee_of, process_rule, arity_rule, runnable_callee, called}
use Rattle.p3l_check.specs.Skeleton.{loop_body}

or_definite : (o : Option ℕ) (fault : Fault) (pos : Pos) → IsDefinite {A = ℕ} (option_map_or Ok o (Err (At fault pos)))
or_definite None fault pos = at_definite fault pos
or_definite (Some k) fault pos = ok_definite k

callee_definite : (before : Before) (at : Spot) → IsDefinite (callee_of before at)
callee_definite before at = or_definite (number_of before.modules at.name) (if before.is_ahead at.name then UsedBeforeDefined else UnknownName) at.pos

runnable_definite : (in_process : Bool) (before : Before) (call : Call) → IsDefinite (runnable_callee in_process before call)
runnable_definite in_process before call =
    given_definite (callee_of before call.at) (λ k. given (process_rule in_process before.modules k call.at) (λ x. Ok k)) (callee_definite before call.at)
    (λ k. given_definite (process_rule in_process before.modules k call.at) (λ x. Ok k)
    (broken_definite (in_process && not (module_at before.modules.callables k).sequential) NotInComp call.at.pos) (λ x. ok_definite k))

called_definite : (in_process : Bool) (before : Before) (call : Call) → IsDefinite (called in_process before call)
called_definite in_process before call =
    given_definite (runnable_callee in_process before call) (λ k. given (arity_rule (ports_at before.modules k) call) (λ x. Ok k)) (runnable_definite in_process before call)
    (λ k. given_definite (arity_rule (ports_at before.modules k) call) (λ x. Ok k)
    (broken_definite (not (length call.ins == length (ports_at before.modules k).ins && length call.outs == length (ports_at before.modules k).outs)) Arity call.at.pos)
    (λ x. ok_definite k))

pub loop_body_definite : (before : Before) (ports : Ports) (call : Call) → IsDefinite (loop_body before ports call)
loop_body_definite before ports call =
    given_definite (called false before call) (λ k. given (plain_call ports.ins ports.outs (ports_at before.modules k) call) (λ x. Ok k)) (called_definite false before call)
    (λ k. given_definite (plain_call ports.ins ports.outs (ports_at before.modules k) call) (λ x. Ok k)
    (plain_call_definite ports.ins ports.outs (ports_at before.modules k) call) (λ x. ok_definite k))

rows_definite : (place : Pos) (array : Var) (args : List Arg) → IsDefinite (rows_rule place array args)
rows_definite place array [] = at_definite Arity place
rows_definite place array (arg ∷ []) = broken_definite (not (is_rows array arg)) FreeIndex arg.at.pos
rows_definite place array (arg ∷ other ∷ args) = at_definite Arity place

result_definite : (place : Pos) (out : Var) (outs : List OutArg) → IsDefinite (result_rule place out outs)
result_definite place out [] = at_definite Arity place
result_definite place out (Fresh fresh ∷ []) = at_definite Wiring fresh.at.pos
result_definite place out (Old arg ∷ []) = broken_definite (not (is_plain out.name arg)) Wiring arg.at.pos
result_definite place out (Fresh fresh ∷ other ∷ outs) = at_definite Arity place
result_definite place out (Old arg ∷ other ∷ outs) = at_definite Arity place

reduce_definite : (array : Var) (element : List ℕ) (out : Var) (callee : Ports) (call : Call) → IsDefinite (reduce_rule array element out callee call)
reduce_definite array element out callee call =
    let operator : Verdict = broken_if (not (is_operator element callee && bytes_eq out.shape.sizes element)) BadOperator call.at.pos in
    let last : IsDefinite (first_of (operator ∷ [])) =
    next_definite operator [] (broken_definite (not (is_operator element callee && bytes_eq out.shape.sizes element)) BadOperator call.at.pos) (ok_definite tt) in
    let rest : IsDefinite (first_of (result_rule call.at.pos out call.outs ∷ (operator ∷ []))) =
    next_definite (result_rule call.at.pos out call.outs) (operator ∷ []) (result_definite call.at.pos out call.outs) last in
    next_definite (rows_rule call.at.pos array call.ins) (result_rule call.at.pos out call.outs ∷ (operator ∷ [])) (rows_definite call.at.pos array call.ins) rest

folded_definite : (home : Pos) (array : Var) (sizes : List ℕ) (out : Var) (callee : Ports) (call : Call) → IsDefinite (folded home array sizes out callee call)
folded_definite home array [] out callee call = at_definite BadOperator home
folded_definite home array (len ∷ element) out callee call =
    given_definite (reduce_rule array element out callee call) (λ x. Ok (record { len = len; elem = product element })) (reduce_definite array element out callee call) (λ x. ok_definite _)

reduced_definite : (home : Pos) (ins outs : List Var) (callee : Ports) (call : Call) → IsDefinite (reduced home ins outs callee call)
reduced_definite home [] outs callee call = at_definite BadOperator home
reduced_definite home (array ∷ []) [] callee call = at_definite BadOperator home
reduced_definite home (array ∷ []) (out ∷ []) callee call = folded_definite home array array.shape.sizes out callee call
reduced_definite home (array ∷ []) (out ∷ other ∷ outs) callee call = at_definite BadOperator home
reduced_definite home (array ∷ other ∷ ins) outs callee call = at_definite BadOperator home

pub elements_definite : (home : Pos) (ports callee : Ports) (call : Call) → IsDefinite (elements_of home ports callee call)
elements_definite home ports callee call = reduced_definite home ports.ins ports.outs callee call
