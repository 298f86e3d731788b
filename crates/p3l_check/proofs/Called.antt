-- Facts about the module that a call names.
use Rattle.std.proofs.Common.{◌≡◌, ℕ, ◌<◌, Bool, true, false, IfSome, length, Ok, Err, Option, Some, None, refl, subst}
use Rattle.std.specs.Prelude.{◌&&◌, ◌==◌, not}
use Rattle.std.specs.Option.{option_map_or}
use Rattle.std.proofs.lemmas.Bool.{eqb-true}
use Rattle.p3l_ast.specs.declared.refusal.Fault.TheVariants.{Arity, NotInComp}
use Rattle.p3l_ast.specs.declared.refusal.SourceRefusal.{SourceRefusal}
use Rattle.p3l_ast.specs.declared.call.Call.{Call}
use Rattle.p3l_body.specs.declared.ports.Ports.{Ports}
use Rattle.p3l_check.specs.Wiring.{module_at}
use Rattle.p3l_calls.proofs.Kept.{given-taken, kept-true, kept-false, both-left, both-right}
use Rattle.p3l_check.specs.Modules.{Modules, number_of, ports_at}
use Rattle.p3l_check.specs.Environment.{Before}
use Rattle.p3l_check.specs.Callee.{callee_of, process_rule, arity_rule, one_each_rule, operator_rule, runnable_callee, called, operator_called}
use Rattle.p3l_check.proofs.Numbers.{number-below}

some-found : (o : Option ℕ) (refusal : SourceRefusal) (k : ℕ) → option_map_or Ok o (Err refusal) ≡ Ok k → o ≡ Some k
some-found None refusal k e = absurd cc
some-found (Some n) refusal k e = cc

process-kept : (in_process sequential : Bool) → (in_process && not sequential) ≡ false → in_process ≡ true → sequential ≡ true
process-kept true true e h = refl
process-kept true false e h = absurd cc
process-kept false sequential e h = absurd cc

-- an earlier module that may run where it is called
pub record IsRunnable (in_process : Bool) (modules : Modules) (k : ℕ) : Type 0 where
  pub inside : k < length modules.callables
  pub sequential : in_process ≡ true → (module_at modules.callables k).sequential ≡ true

pub runnable-is : (in_process : Bool) (before : Before) (call : Call) (k : ℕ) → length before.modules.callables ≡ length before.modules.infos →
    runnable_callee in_process before call ≡ Ok k → IsRunnable in_process before.modules k
runnable-is in_process before call k same e =
    let modules : Modules = before.modules in
    let found = given-taken (callee_of before call.at) _ k e in
    let rule = given-taken (process_rule in_process modules found.0 call.at) _ k found.2 in
    let is : found.0 ≡ k = cc (rule.2) in
    let named : number_of modules call.at.name ≡ Some found.0 = some-found (number_of modules call.at.name) _ found.0 found.1 in
    let below : IfSome (number_of modules call.at.name) (λ n. n < length modules.callables) = number-below call.at.name modules.infos (length modules.callables) same in
    let there : found.0 < length modules.callables = subst (λ o. IfSome o (λ n. n < length modules.callables)) named below in
    let kept = kept-false (in_process && not (module_at modules.callables found.0).sequential) NotInComp call.at.pos rule.0 rule.1 in
    subst (IsRunnable in_process modules) is
    (record { inside = there; sequential = process-kept in_process (module_at modules.callables found.0).sequential kept })

-- a call has as many arguments as its callee has ports
pub record HasArity (callee : Ports) (call : Call) : Type 0 where
  pub ins : length call.ins ≡ length callee.ins
  pub outs : length call.outs ≡ length callee.outs

-- the module that a call names, which has as many ports
pub record IsCalled (in_process : Bool) (modules : Modules) (call : Call) (k : ℕ) : Type 0 where
  pub runs : IsRunnable in_process modules k
  pub arity : HasArity (ports_at modules k) call

pub called-is : (in_process : Bool) (before : Before) (call : Call) (k : ℕ) → length before.modules.callables ≡ length before.modules.infos →
    called in_process before call ≡ Ok k → IsCalled in_process before.modules call k
called-is in_process before call k same e =
    let found = given-taken (runnable_callee in_process before call) _ k e in
    let callee : Ports = ports_at before.modules found.0 in
    let rule = given-taken (arity_rule callee call) _ k found.2 in
    let is : found.0 ≡ k = cc (rule.2) in
    let kept = kept-true (length call.ins == length callee.ins && length call.outs == length callee.outs) Arity call.at.pos rule.0 rule.1 in
    let arity : HasArity callee call = record {
      ins = eqb-true (length call.ins) (length callee.ins) (both-left (length call.ins == length callee.ins) (length call.outs == length callee.outs) kept);
      outs = eqb-true (length call.outs) (length callee.outs) (both-right (length call.ins == length callee.ins) (length call.outs == length callee.outs) kept);
    } in
    subst (IsCalled in_process before.modules call) is
    (record { runs = runnable-is in_process before call found.0 same found.1; arity = arity })

-- the operator of a reduce
pub operator-is : (before : Before) (call : Call) (k : ℕ) → length before.modules.callables ≡ length before.modules.infos →
    operator_called before call ≡ Ok k → IsRunnable true before.modules k
operator-is before call k same e =
    let found = given-taken (runnable_callee true before call) _ k e in
    let rule = given-taken (operator_rule (ports_at before.modules found.0) call.at) _ k found.2 in
    let last = given-taken (one_each_rule call) _ k rule.2 in
    let is : found.0 ≡ k = cc (last.2) in
    subst (IsRunnable true before.modules) is (runnable-is true before call found.0 same found.1)
