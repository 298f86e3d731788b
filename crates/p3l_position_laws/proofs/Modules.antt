-- The rules of modules do not depend on positions.
use Rattle.std.proofs.Common.{◌≡◌, ℕ, ◌==◌, ◌&&◌, ◌||◌, not, Bool, true, false, List, [], ◌∷◌, ◌++◌, map, length, min, Ok, Err, Option, Some, None, refl, ap, ◌∙◌}
use Rattle.std.specs.Prelude.{option_map, if◌then◌else◌}
use Rattle.std.specs.Option.{option_map_or}
use Rattle.p3l_base.specs.Cut.{element_count}
use Rattle.p3l_ast.specs.declared.position.Spot.{Spot}
use Rattle.p3l_ast.specs.declared.position.Pos.{Pos}
use Rattle.p3l_ast.specs.declared.refusal.Fault.TheVariants.{Expected, UnknownName, UsedBeforeDefined, Arity, BadOperator, NotInComp, LoopTypes, BadWorkers}
use Rattle.p3l_ast.specs.declared.refusal.SourceRefusal.TheVariants.{At}
use Rattle.p3l_ast.specs.declared.port.Num.{Num}
use Rattle.p3l_ast.specs.declared.call.Call.{Call}
use Rattle.p3l_ast.specs.declared.module.Kind.{Kind}
use Rattle.p3l_ast.specs.declared.module.Kind.TheVariants as kinds
use Rattle.p3l_ast.specs.declared.module.Rescue.{Rescue}
use Rattle.p3l_ast.specs.declared.module.Clauses.{Clauses}
use Rattle.p3l_ast.specs.Tree.{InsideTree, body, calls, turning, ModuleTree}
use Rattle.p3l_ast.specs.Unplaced.{nowhere, spot_unplaced, num_unplaced, port_unplaced, arg_unplaced, out_unplaced, call_unplaced, rescue_unplaced, clauses_unplaced, inside_unplaced, module_unplaced}
use Rattle.p3l_types.specs.Constants.{Constants, place_of}
use Rattle.p3l_body.specs.declared.var.Var.{Var}
use Rattle.p3l_body.specs.declared.ports.Ports.{Ports}
use Rattle.p3l_body.specs.Scope.{Names, named}
use Rattle.p3l_body.specs.Seq.{port_names}
use Rattle.p3l_check.specs.Wiring.{module_at}
use Rattle.p3l_check.specs.Modules.{number_of, ports_at}
use Rattle.p3l_check.specs.Environment.{Before}
use Rattle.p3l_check.specs.Callee.{callee_of, arity_rule, one_each_rule, runnable_callee, called, operator_called}
use Rattle.p3l_check.specs.Clauses.{workers_upto, is_power, as_power, reduce_workers, turns_of, tokens_of, no_rescue, rescue_in}
use Rattle.p3l_check.specs.Inside.{calls_of, call_of, turning_of}
use Rattle.p3l_check.specs.Skeleton.{handed_on, staged, stages, farm_of, map_of, reduce_of, same_types, loop_body, loop_condition, loop_of, skeleton_of}
use Rattle.p3l_check.specs.Entry.{ports_in, defined_in}
use Rattle.p3l_position_laws.specs.Forgetting.{forget, settled}
use Rattle.p3l_position_laws.proofs.Forgetting.{passes, enters, found_passes, broken_passes, if_passes}
use Rattle.p3l_position_laws.proofs.Types.{is_nowhere, map_length}
use Rattle.p3l_position_laws.proofs.Bodies.{ports_pass, limited_passes, budget_passes, rescue_passes}
use Rattle.p3l_position_laws.proofs.Calls.{plain_call_passes, stage_passes, condition_passes, cut_passes, elements_pass}

-- clauses
workers_pass : (most : ℕ) (constants : Constants) (clause : Option Num) → workers_upto most constants (option_map num_unplaced clause) ≡ forget (workers_upto most constants clause)
workers_pass most constants None = refl
workers_pass most constants (Some num) = passes _ _ _ _ (limited_passes 1 most constants num) (λ n. refl)

power_passes : (num : Num) (n : ℕ) → as_power (num_unplaced num) n ≡ forget (as_power num n)
power_passes num n = if_passes (is_power n) (Some n) BadWorkers (place_of num) (place_of (num_unplaced num)) (is_nowhere num)

reduce_workers_pass : (len : ℕ) (constants : Constants) (clause : Option Num) → reduce_workers len constants (option_map num_unplaced clause) ≡ forget (reduce_workers len constants clause)
reduce_workers_pass len constants None = refl
reduce_workers_pass len constants (Some num) = passes _ _ _ _ (limited_passes 1 (min len 512) constants num) (λ n. power_passes num n)

turns_pass : (pos : Pos) (constants : Constants) (clause : Option Num) → turns_of nowhere constants (option_map num_unplaced clause) ≡ forget (turns_of pos constants clause)
turns_pass pos constants None = refl
turns_pass pos constants (Some num) = limited_passes 1 65536 constants num

tokens_pass : (constants : Constants) (clause : Option Num) → tokens_of constants (option_map num_unplaced clause) ≡ forget (tokens_of constants clause)
tokens_pass constants None = refl
tokens_pass constants (Some num) = limited_passes 1 1024 constants num

no_rescue_passes : (pos : Pos) (clause : Option Rescue) → no_rescue nowhere (option_map rescue_unplaced clause) ≡ forget (no_rescue pos clause)
no_rescue_passes pos None = refl
no_rescue_passes pos (Some rescue) = refl

rescue_in_passes : (kind : Kind) (pos : Pos) (constants : Constants) (clauses : Clauses) → rescue_in kind nowhere constants (clauses_unplaced clauses) ≡ forget (rescue_in kind pos constants clauses)
rescue_in_passes kinds.Seq pos constants clauses =
    passes _ _ _ _ (budget_passes constants clauses.budget) (λ budget. rescue_passes constants clauses.rescue)
rescue_in_passes kinds.Comp pos constants clauses = rescue_passes constants clauses.rescue
rescue_in_passes kinds.Pipe pos constants clauses = no_rescue_passes pos clauses.rescue
rescue_in_passes kinds.Farm pos constants clauses = no_rescue_passes pos clauses.rescue
rescue_in_passes kinds.Map pos constants clauses = no_rescue_passes pos clauses.rescue
rescue_in_passes kinds.Reduce pos constants clauses = no_rescue_passes pos clauses.rescue
rescue_in_passes kinds.Loop pos constants clauses = no_rescue_passes pos clauses.rescue

-- the calls inside a module are the same but for positions
calls_settle : (pos : Pos) (inside : InsideTree) → calls_of nowhere (inside_unplaced inside) ≡ settled (map call_unplaced) (calls_of pos inside)
calls_settle pos (body ports c) = refl
calls_settle pos (calls []) = refl
calls_settle pos (calls (c ∷ cs)) = refl
calls_settle pos (turning c d) = refl

call_settles : (pos : Pos) (inside : InsideTree) → call_of nowhere (inside_unplaced inside) ≡ settled call_unplaced (call_of pos inside)
call_settles pos (body ports c) = refl
call_settles pos (calls []) = refl
call_settles pos (calls (c ∷ [])) = refl
call_settles pos (calls (c ∷ (d ∷ cs))) = refl
call_settles pos (turning c d) = refl

abbrev pair_unplaced : Call × Call → Call × Call
pair_unplaced pair = (call_unplaced pair.0, call_unplaced pair.1)

turning_settles : (pos : Pos) (inside : InsideTree) → turning_of nowhere (inside_unplaced inside) ≡ settled pair_unplaced (turning_of pos inside)
turning_settles pos (body ports c) = refl
turning_settles pos (calls cs) = refl
turning_settles pos (turning c d) = refl

-- callees
arity_passes : (callee : Ports) (call : Call) → arity_rule callee (call_unplaced call) ≡ forget (arity_rule callee call)
arity_passes callee call =
    broken_passes (not (length call.ins == length callee.ins && length call.outs == length callee.outs)) _ Arity call.at.pos
    (ap (λ n. not (n == length callee.ins && length (map out_unplaced call.outs) == length callee.outs)) (map_length arg_unplaced call.ins)
    ∙ ap (λ n. not (length call.ins == length callee.ins && n == length callee.outs)) (map_length out_unplaced call.outs))

one_each_passes : (call : Call) → one_each_rule (call_unplaced call) ≡ forget (one_each_rule call)
one_each_passes call =
    broken_passes (not (length call.ins == 1 && length call.outs == 1)) _ Arity call.at.pos
    (ap (λ n. not (n == 1 && length (map out_unplaced call.outs) == 1)) (map_length arg_unplaced call.ins)
    ∙ ap (λ n. not (length call.ins == 1 && n == 1)) (map_length out_unplaced call.outs))

pub ports_in_pass : (constants : Constants) (m : ModuleTree) → ports_in constants (module_unplaced m) ≡ forget (ports_in constants m)
ports_in_pass constants m =
    passes _ _ _ _
    (broken_passes (length m.ins == 0 || length m.outs == 0) _ Expected m.at.pos
    (ap (λ n. n == 0 || length (map port_unplaced m.outs) == 0) (map_length port_unplaced m.ins)
    ∙ ap (λ n. length m.ins == 0 || n == 0) (map_length port_unplaced m.outs)))
    (λ x. ports_pass constants m.ins m.outs)

module _ (before : Before) (its : List ℕ → Bool) (same : (name : List ℕ) → its name ≡ before.is_ahead name) where
  abbrev other : Before
  other = record { constants = before.constants; modules = before.modules; is_ahead = its }

  callee_passes : (at : Spot) → callee_of other (spot_unplaced at) ≡ forget (callee_of before at)
  callee_passes at =
      ap (λ b. option_map_or Ok (number_of before.modules at.name) (Err (At (if b then UsedBeforeDefined else UnknownName) nowhere))) (same at.name)
      ∙ found_passes (number_of before.modules at.name) (if before.is_ahead at.name then UsedBeforeDefined else UnknownName) at.pos

  runnable_passes : (in_process : Bool) (call : Call) → runnable_callee in_process other (call_unplaced call) ≡ forget (runnable_callee in_process before call)
  runnable_passes in_process call =
      passes _ _ _ _ (callee_passes call.at)
      (λ k. passes _ _ _ _ (broken_passes (in_process && not (module_at before.modules.callables k).sequential) _ NotInComp call.at.pos refl) (λ x. refl))

  called_passes : (in_process : Bool) (call : Call) → called in_process other (call_unplaced call) ≡ forget (called in_process before call)
  called_passes in_process call =
      passes _ _ _ _ (runnable_passes in_process call) (λ k. passes _ _ _ _ (arity_passes (ports_at before.modules k) call) (λ x. refl))

  operator_passes : (call : Call) → operator_called other (call_unplaced call) ≡ forget (operator_called before call)
  operator_passes call =
      passes _ _ _ _ (runnable_passes true call)
      (λ k. let callee : Ports = ports_at before.modules k in
      passes _ _ _ _ (broken_passes (not (length callee.ins == 2 && length callee.outs == 1)) _ BadOperator call.at.pos refl)
      (λ x. passes _ _ _ _ (one_each_passes call) (λ y. refl)))

  handed_passes : (names : Names) (taken outs : List Var) (is_last : Bool) (callee : Ports) (call : Call) → handed_on other names taken outs is_last callee (call_unplaced call) ≡ forget (handed_on before names taken outs is_last callee call)
  handed_passes names taken outs true callee call = passes _ _ _ _ (plain_call_passes taken outs callee call) (λ x. refl)
  handed_passes names taken outs false callee call = stage_passes before.constants names taken callee call

  staged_passes : (in_process : Bool) (names : Names) (taken outs : List Var) (cs : List Call) → staged in_process other names taken outs (map call_unplaced cs) ≡ forget (staged in_process before names taken outs cs)
  staged_passes in_process names taken outs [] = refl
  staged_passes in_process names taken outs (call ∷ cs) =
      passes _ _ _ _ (called_passes in_process call)
      (λ k. passes _ _ _ _
      (ap (λ n. handed_on other names taken outs (n == 0) (ports_at before.modules k) (call_unplaced call)) (map_length call_unplaced cs)
      ∙ handed_passes names taken outs (length cs == 0) (ports_at before.modules k) call)
      (λ vars. passes _ _ _ _ (staged_passes in_process (names ++ map (named false) vars) vars outs cs) (λ ks. refl)))

  stages_pass : (in_process : Bool) (m : ModuleTree) (ports : Ports) → stages in_process other (module_unplaced m) ports ≡ forget (stages in_process before m ports)
  stages_pass in_process m ports =
      enters (map call_unplaced) _ _ _ _ (calls_settle m.at.pos m.inside) (λ cs. staged_passes in_process (port_names ports) ports.ins ports.outs cs)

  farm_passes : (m : ModuleTree) (ports : Ports) → farm_of other (module_unplaced m) ports ≡ forget (farm_of before m ports)
  farm_passes m ports =
      passes _ _ _ _ (workers_pass 512 before.constants m.clauses.workers)
      (λ workers. enters call_unplaced _ _ _ _ (call_settles m.at.pos m.inside)
      (λ call. passes _ _ _ _ (called_passes false call)
      (λ k. passes _ _ _ _ (plain_call_passes ports.ins ports.outs (ports_at before.modules k) call) (λ x. refl))))

  map_passes : (m : ModuleTree) (ports : Ports) → map_of other (module_unplaced m) ports ≡ forget (map_of before m ports)
  map_passes m ports =
      enters call_unplaced _ _ _ _ (call_settles m.at.pos m.inside)
      (λ call. passes _ _ _ _ (called_passes false call)
      (λ k. passes _ _ _ _ (cut_passes ports (ports_at before.modules k) call)
      (λ cut. passes _ _ _ _ (workers_pass (min (element_count cut) 512) before.constants m.clauses.workers) (λ workers. refl))))

  reduce_passes : (m : ModuleTree) (ports : Ports) → reduce_of other (module_unplaced m) ports ≡ forget (reduce_of before m ports)
  reduce_passes m ports =
      enters call_unplaced _ _ _ _ (call_settles m.at.pos m.inside)
      (λ call. passes _ _ _ _ (operator_passes call)
      (λ k. passes _ _ _ _ (elements_pass m.at.pos ports (ports_at before.modules k) call)
      (λ elements. passes _ _ _ _ (reduce_workers_pass elements.len before.constants m.clauses.workers) (λ workers. refl))))

  loop_body_passes : (ports : Ports) (call : Call) → loop_body other ports (call_unplaced call) ≡ forget (loop_body before ports call)
  loop_body_passes ports call =
      passes _ _ _ _ (called_passes false call)
      (λ k. passes _ _ _ _ (plain_call_passes ports.ins ports.outs (ports_at before.modules k) call) (λ x. refl))

  loop_condition_passes : (ports : Ports) (call : Call) → loop_condition other ports (call_unplaced call) ≡ forget (loop_condition before ports call)
  loop_condition_passes ports call =
      passes _ _ _ _ (called_passes true call)
      (λ k. passes _ _ _ _ (condition_passes before.constants (port_names ports) ports.outs (ports_at before.modules k) call) (λ x. refl))

  loop_passes : (m : ModuleTree) (ports : Ports) → loop_of other (module_unplaced m) ports ≡ forget (loop_of before m ports)
  loop_passes m ports =
      passes _ _ _ _ (turns_pass m.at.pos before.constants m.clauses.turns)
      (λ turns. passes _ _ _ _ (tokens_pass before.constants m.clauses.tokens)
      (λ tokens. passes _ _ _ _ (broken_passes (not (same_types ports.ins ports.outs)) _ LoopTypes m.at.pos refl)
      (λ x. enters pair_unplaced _ _ _ _ (turning_settles m.at.pos m.inside)
      (λ pair. passes _ _ _ _ (loop_body_passes ports pair.0)
      (λ b. passes _ _ _ _ (loop_condition_passes ports pair.1) (λ c. refl))))))

  skeleton_passes : (kind : Kind) (m : ModuleTree) (ports : Ports) → skeleton_of kind other (module_unplaced m) ports ≡ forget (skeleton_of kind before m ports)
  skeleton_passes kinds.Seq m ports = refl
  skeleton_passes kinds.Comp m ports = passes _ _ _ _ (stages_pass true m ports) (λ cs. refl)
  skeleton_passes kinds.Pipe m ports = passes _ _ _ _ (stages_pass false m ports) (λ cs. refl)
  skeleton_passes kinds.Farm m ports = farm_passes m ports
  skeleton_passes kinds.Map m ports = map_passes m ports
  skeleton_passes kinds.Reduce m ports = reduce_passes m ports
  skeleton_passes kinds.Loop m ports = loop_passes m ports

  pub defined_passes : (m : ModuleTree) → defined_in other (module_unplaced m) ≡ forget (defined_in before m)
  defined_passes m =
      passes _ _ _ _ (ports_in_pass before.constants m)
      (λ ports. passes _ _ _ _ (rescue_in_passes m.kind m.at.pos before.constants m.clauses)
      (λ rescue. passes _ _ _ _ (skeleton_passes m.kind m ports) (λ skeleton. refl)))
