-- Arguments that are names in order, without brackets.
use Rattle.std.specs.Prelude.{ℕ, ◌==◌, ◌&&◌, not, Bool, List, [], ◌∷◌, length, Err, Option, Some, None, bytes_eq, nat_lt}
use Rattle.p3l_ast.specs.declared.position.Pos.{Pos}
use Rattle.p3l_ast.specs.declared.refusal.Fault.TheVariants.{TypeDiffers, Wiring}
use Rattle.p3l_ast.specs.declared.refusal.SourceRefusal.TheVariants.{At}
use Rattle.p3l_ast.specs.declared.call.Arg.{Arg}
use Rattle.p3l_ast.specs.declared.call.OutArg.{OutArg}
use Rattle.p3l_ast.specs.declared.call.OutArg.TheVariants.{Fresh, Old}
use Rattle.p3l_ast.specs.declared.call.Call.{Call}
use Rattle.p3l_types.specs.Verdict.{Verdict, broken_if, given}
use Rattle.p3l_body.specs.declared.var.Var.{Var}
use Rattle.p3l_body.specs.declared.ports.Ports.{Ports}
use Rattle.p3l_calls.specs.Port.{has_shape}

-- the first of a list, if there is one
abbrev pub first : {A : Type 0} → List A → Option A
first [] = None
first (x ∷ xs) = Some x

-- those after the first
abbrev pub after_first : {A : Type 0} → List A → List A
after_first [] = []
after_first (x ∷ xs) = xs

-- entries by their rule one after another, each with the next of the variables whose names are
-- expected and the next of the callee's ports. The names must end with the entries, or the
-- fault is at the call's name.
abbrev pub in_order : {A : Type 0} → (Option Var → Option Var → A → Verdict) → Pos → List Var → List Var → List A → Verdict
in_order rule place vars ports [] = broken_if (nat_lt 0 (length vars)) Wiring place
in_order rule place vars ports (entry ∷ entries) =
    given (rule (first vars) (first ports) entry) (λ x. in_order rule place (after_first vars) (after_first ports) entries)

-- an argument is the name without brackets
abbrev pub is_plain : List ℕ → Arg → Bool
is_plain name arg = bytes_eq name arg.at.name && length arg.subs == 0

-- an argument is the variable that is expected, and then it has the shape of the callee's port;
-- nothing is expected past the last variable
abbrev pub plain_rule : Option Var → Option Var → Arg → Verdict
plain_rule None port arg = Err (At Wiring arg.at.pos)
plain_rule (Some var) port arg =
    given (broken_if (not (is_plain var.name arg)) Wiring arg.at.pos)
    (λ x. broken_if (not (has_shape port var.shape)) TypeDiffers arg.at.pos)

-- an argument is expected, so a declaration of a port is refused
abbrev pub plain_out_rule : Option Var → Option Var → OutArg → Verdict
plain_out_rule var port (Fresh fresh) = Err (At Wiring fresh.at.pos)
plain_out_rule var port (Old arg) = plain_rule var port arg

-- the ins of a call are these variables in order
abbrev pub plain_ins : List Var → Ports → Call → Verdict
plain_ins vars callee call = in_order plain_rule call.at.pos vars callee.ins call.ins

-- the outs of a call are these variables in order
abbrev pub plain_outs : List Var → Ports → Call → Verdict
plain_outs vars callee call = in_order plain_out_rule call.at.pos vars callee.outs call.outs

-- a call that is handed these variables and fills those: that of a farm, the body of a loop, the last
-- call of a pipe or a comp
abbrev pub plain_call : List Var → List Var → Ports → Call → Verdict
plain_call taken given_back callee call =
    given (plain_ins taken callee call) (λ x. plain_outs given_back callee call)
