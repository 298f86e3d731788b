-- The skeleton of a module: the rules of its clauses and calls, by its kind.
use Rattle.std.specs.Prelude.{ℕ, ◌==◌, ◌&&◌, not, Bool, true, false, List, [], ◌∷◌, ◌++◌, map, length, Result, Ok, bytes_eq}
use Rattle.p3l_base.specs.Cut.{element_count}
use Rattle.p3l_ast.specs.declared.position.Spot.{Spot}
use Rattle.p3l_ast.specs.declared.refusal.Fault.TheVariants.{LoopTypes}
use Rattle.p3l_ast.specs.declared.refusal.SourceRefusal.{SourceRefusal}
use Rattle.p3l_ast.specs.declared.call.Call.{Call}
use Rattle.p3l_ast.specs.declared.module.Kind.{Kind}
use Rattle.p3l_ast.specs.declared.module.Kind.TheVariants as kinds
use Rattle.p3l_ast.specs.Tree.{ModuleTree}
use Rattle.p3l_types.specs.Verdict.{Verdict, broken_if, given}
use Rattle.p3l_body.specs.declared.var.Var.{Var}
use Rattle.p3l_body.specs.declared.ports.Ports.{Ports}
use Rattle.p3l_body.specs.Scope.{Names, named}
use Rattle.p3l_body.specs.Seq.{port_names}
use Rattle.p3l_skel.specs.declared.tree.Form.TheVariants as forms
use Rattle.p3l_check.specs.Wiring.{module_at}
use Rattle.p3l_calls.specs.Plain.{plain_call}
use Rattle.p3l_calls.specs.Stage.{stage}
use Rattle.p3l_calls.specs.Condition.{condition}
use Rattle.p3l_calls.specs.Map.{cut_of}
use Rattle.p3l_calls.specs.Reduce.{elements_of}
use Rattle.p3l_check.specs.declared.skeleton.Skeleton.{Skeleton}
use Rattle.p3l_check.specs.Modules.{ports_at}
use Rattle.p3l_check.specs.Environment.{Before}
use Rattle.p3l_check.specs.Clauses.{farm_workers, map_workers, reduce_workers, turns_of, tokens_of}
use Rattle.p3l_check.specs.Callee.{called, operator_called}
use Rattle.p3l_check.specs.Inside.{calls_of, call_of, turning_of}

-- the variables that a call of a pipe or a comp hands on, which is handed these: the last one fills the
-- outs of the module, and any other declares new ports
abbrev pub handed_on : Before → Names → List Var → List Var → Bool → Ports → Call → Result (List Var) SourceRefusal
handed_on before names taken outs true callee call = given (plain_call taken outs callee call) (λ x. Ok [])
handed_on before names taken outs false callee call = stage before.constants names taken callee call

-- the calls of a pipe or a comp in order, the first of which is handed these variables
abbrev pub staged : Bool → Before → Names → List Var → List Var → List Call → Result (List ℕ) SourceRefusal
staged in_process before names taken outs [] = Ok []
staged in_process before names taken outs (call ∷ calls) =
    given (called in_process before call)
    (λ k. given (handed_on before names taken outs (length calls == 0) (ports_at before.modules k) call)
    (λ vars. given (staged in_process before (names ++ map (named false) vars) vars outs calls)
    (λ ks. Ok (k ∷ ks))))

-- a pipe, or a comp, whose modules all run in one process
abbrev pub stages : Bool → Before → ModuleTree → Ports → Result (List ℕ) SourceRefusal
stages in_process before m ports =
    given (calls_of m.at.pos m.inside)
    (λ calls. staged in_process before (port_names ports) ports.ins ports.outs calls)

-- the workers of a farm, and then its call
abbrev pub farm_of : Before → ModuleTree → Ports → Result Skeleton SourceRefusal
farm_of before m ports =
    given (farm_workers before.constants m.clauses.workers)
    (λ workers. given (call_of m.at.pos m.inside)
    (λ call. given (called false before call)
    (λ k. given (plain_call ports.ins ports.outs (ports_at before.modules k) call)
    (λ x. Ok (record { form = forms.Farm workers; calls = k ∷ []; sequential = false })))))

-- the call of a map, and then its workers
abbrev pub map_of : Before → ModuleTree → Ports → Result Skeleton SourceRefusal
map_of before m ports =
    given (call_of m.at.pos m.inside)
    (λ call. given (called false before call)
    (λ k. given (cut_of ports (ports_at before.modules k) call)
    (λ cut. given (map_workers (element_count cut) before.constants m.clauses.workers)
    (λ workers. Ok (record {
      form = forms.Map workers cut;
      calls = k ∷ [];
      sequential = (module_at before.modules.callables k).sequential;
    })))))

-- the call of a reduce, and then its workers
abbrev pub reduce_of : Before → ModuleTree → Ports → Result Skeleton SourceRefusal
reduce_of before m ports =
    given (call_of m.at.pos m.inside)
    (λ call. given (operator_called before call)
    (λ k. given (elements_of m.at.pos ports (ports_at before.modules k) call)
    (λ elements. given (reduce_workers elements.len before.constants m.clauses.workers)
    (λ workers. Ok (record {
      form = forms.Reduce workers elements.len elements.elem;
      calls = k ∷ [];
      sequential = (module_at before.modules.callables k).sequential;
    })))))

-- variables have equal sizes in order
abbrev pub same_types : List Var → List Var → Bool
same_types [] [] = true
same_types [] (var ∷ vars) = false
same_types (var ∷ vars) [] = false
same_types (var ∷ vars) (other ∷ others) = bytes_eq var.shape.sizes other.shape.sizes && same_types vars others

-- the ins and outs of a loop have the same types in order
abbrev pub loop_rule : Ports → Spot → Verdict
loop_rule ports at = broken_if (not (same_types ports.ins ports.outs)) LoopTypes at.pos

-- the body of a loop
abbrev pub loop_body : Before → Ports → Call → Result ℕ SourceRefusal
loop_body before ports call =
    given (called false before call)
    (λ k. given (plain_call ports.ins ports.outs (ports_at before.modules k) call) (λ x. Ok k))

-- the condition of a loop
abbrev pub loop_condition : Before → Ports → Call → Result ℕ SourceRefusal
loop_condition before ports call =
    given (called true before call)
    (λ k. given (condition before.constants (port_names ports) ports.outs (ports_at before.modules k) call) (λ x. Ok k))

-- the turns and tokens of a loop, its types, its body, its condition
abbrev pub loop_of : Before → ModuleTree → Ports → Result Skeleton SourceRefusal
loop_of before m ports =
    given (turns_of m.at.pos before.constants m.clauses.turns)
    (λ turns. given (tokens_of before.constants m.clauses.tokens)
    (λ tokens. given (loop_rule ports m.at)
    (λ x. given (turning_of m.at.pos m.inside)
    (λ pair. given (loop_body before ports pair.0)
    (λ body. given (loop_condition before ports pair.1)
    (λ condition. Ok (record {
      form = forms.Loop turns tokens;
      calls = body ∷ condition ∷ [];
      sequential = false;
    })))))))

-- a module by the rules of its kind after those of its ports
abbrev pub skeleton_of : Kind → Before → ModuleTree → Ports → Result Skeleton SourceRefusal
skeleton_of kinds.Seq before m ports = Ok (record { form = forms.Seq; calls = []; sequential = true })
skeleton_of kinds.Comp before m ports =
    given (stages true before m ports) (λ calls. Ok (record { form = forms.Comp; calls = calls; sequential = true }))
skeleton_of kinds.Pipe before m ports =
    given (stages false before m ports) (λ calls. Ok (record { form = forms.Pipe; calls = calls; sequential = false }))
skeleton_of kinds.Farm before m ports = farm_of before m ports
skeleton_of kinds.Map before m ports = map_of before m ports
skeleton_of kinds.Reduce before m ports = reduce_of before m ports
skeleton_of kinds.Loop before m ports = loop_of before m ports
