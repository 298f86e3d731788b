-- The call of a reduce: the array that it folds, and the operator that fits its elements.
use Rattle.std.specs.Prelude.{ℕ, ◌==◌, ◌&&◌, not, Bool, false, List, [], ◌∷◌, length, Result, Ok, Err, bytes_eq}
use Rattle.std.specs.List.{list_all}
use Rattle.p3l_ast.specs.declared.position.Pos.{Pos}
use Rattle.p3l_ast.specs.declared.refusal.Fault.TheVariants.{Arity, Wiring, BadOperator, FreeIndex}
use Rattle.p3l_ast.specs.declared.refusal.SourceRefusal.{SourceRefusal}
use Rattle.p3l_ast.specs.declared.refusal.SourceRefusal.TheVariants.{At}
use Rattle.p3l_ast.specs.declared.call.Sub.{Sub}
use Rattle.p3l_ast.specs.declared.call.Sub.TheVariants.{Whole, Free}
use Rattle.p3l_ast.specs.declared.call.Arg.{Arg}
use Rattle.p3l_ast.specs.declared.call.OutArg.{OutArg}
use Rattle.p3l_ast.specs.declared.call.OutArg.TheVariants.{Fresh, Old}
use Rattle.p3l_ast.specs.declared.call.Call.{Call}
use Rattle.p3l_types.specs.Verdict.{Verdict, broken_if, first_of, given}
use Rattle.p3l_types.specs.Shape.{product}
use Rattle.p3l_body.specs.declared.var.Var.{Var}
use Rattle.p3l_body.specs.declared.ports.Ports.{Ports}
use Rattle.p3l_calls.specs.declared.reduce.Elements.{Elements}
use Rattle.p3l_calls.specs.Plain.{is_plain}
use Rattle.p3l_calls.specs.Index.{free_count}

-- the first bracket holds a free index, and no other does
abbrev pub frees_first : List Sub → Bool
frees_first [] = false
frees_first (Whole ∷ subs) = false
frees_first (Free spot ∷ subs) = free_count subs == 0

-- an argument is the array with a bracket for each size, the first free
abbrev pub is_rows : Var → Arg → Bool
is_rows array arg =
    bytes_eq array.name arg.at.name && length arg.subs == length array.shape.sizes && frees_first arg.subs

-- a call hands over the elements of the array
abbrev pub rows_rule : Pos → Var → List Arg → Verdict
rows_rule place array (arg ∷ []) = broken_if (not (is_rows array arg)) FreeIndex arg.at.pos
rows_rule place array args = Err (At Arity place)

-- and fills the out
abbrev pub result_rule : Pos → Var → List OutArg → Verdict
result_rule place out (Fresh fresh ∷ []) = Err (At Wiring fresh.at.pos)
result_rule place out (Old arg ∷ []) = broken_if (not (is_plain out.name arg)) Wiring arg.at.pos
result_rule place out outs = Err (At Arity place)

-- all ports have these sizes
abbrev pub all_have : List ℕ → List Var → Bool
all_have sizes ports = list_all (λ (port : Var). bytes_eq port.shape.sizes sizes) ports

-- the callee takes two elements of these sizes and gives one
abbrev pub is_operator : List ℕ → Ports → Bool
is_operator element callee =
    length callee.ins == 2 && length callee.outs == 1 && all_have element callee.ins && all_have element callee.outs

-- the call of a reduce of such an array, whose elements have these sizes, to this out
abbrev pub reduce_rule : Var → List ℕ → Var → Ports → Call → Verdict
reduce_rule array element out callee call =
    first_of (
    rows_rule call.at.pos array call.ins
    ∷ (result_rule call.at.pos out call.outs
    ∷ (broken_if (not (is_operator element callee && bytes_eq out.shape.sizes element)) BadOperator call.at.pos
    ∷ [])))

-- a reduce whose in port has these sizes: it must be an array, or the fault is at the reduce's name
abbrev pub folded : Pos → Var → List ℕ → Var → Ports → Call → Result Elements SourceRefusal
folded home array [] out callee call = Err (At BadOperator home)
folded home array (len ∷ element) out callee call =
    given (reduce_rule array element out callee call) (λ x. Ok (record { len = len; elem = product element }))

-- a reduce with these ports: one in and one out, or the fault is at the reduce's name
abbrev pub reduced : Pos → List Var → List Var → Ports → Call → Result Elements SourceRefusal
reduced home (array ∷ []) (out ∷ []) callee call = folded home array array.shape.sizes out callee call
reduced home ins outs callee call = Err (At BadOperator home)

-- the elements that a reduce with these ports folds
abbrev pub elements_of : Pos → Ports → Ports → Call → Result Elements SourceRefusal
elements_of home ports callee call = reduced home ports.ins ports.outs callee call
