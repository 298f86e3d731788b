-- The call of a map: how it cuts the map's token into elements, and joins their results.
use Rattle.std.specs.Prelude.{ℕ, ◌+◌, ◌==◌, ◌&&◌, not, Bool, false, List, [], ◌∷◌, length, Result, Ok, Err, Option, Some, None, bytes_eq, is_some, nat_lt}
use Rattle.std.specs.Option.{option_map_or}
use Rattle.p3l_base.specs.declared.slice.Dim.{Dim}
use Rattle.p3l_base.specs.declared.slice.Slice.{Slice}
use Rattle.p3l_base.specs.declared.cut.Cut.{Cut}
use Rattle.p3l_base.specs.Slice.{array_size}
use Rattle.p3l_ast.specs.declared.position.Pos.{Pos}
use Rattle.p3l_ast.specs.declared.refusal.Fault.TheVariants.{TypeDiffers, Wiring, FreeIndex}
use Rattle.p3l_ast.specs.declared.refusal.SourceRefusal.{SourceRefusal}
use Rattle.p3l_ast.specs.declared.refusal.SourceRefusal.TheVariants.{At}
use Rattle.p3l_ast.specs.declared.call.Sub.{Sub}
use Rattle.p3l_ast.specs.declared.call.Arg.{Arg}
use Rattle.p3l_ast.specs.declared.call.OutArg.{OutArg}
use Rattle.p3l_ast.specs.declared.call.OutArg.TheVariants.{Fresh, Old}
use Rattle.p3l_ast.specs.declared.call.Call.{Call}
use Rattle.p3l_types.specs.declared.shape.Shape.{Shape}
use Rattle.p3l_types.specs.Verdict.{Verdict, broken_if, first_of, given}
use Rattle.p3l_types.specs.Shape.{sliced}
use Rattle.p3l_body.specs.declared.var.Var.{Var}
use Rattle.p3l_body.specs.declared.ports.Ports.{Ports}
use Rattle.p3l_calls.specs.declared.index.Index.{Index}
use Rattle.p3l_calls.specs.declared.located.Located.{Located}
use Rattle.p3l_calls.specs.Port.{has_shape}
use Rattle.p3l_calls.specs.Plain.{first, after_first}
use Rattle.p3l_calls.specs.Index.{indices_in, are_indices, has_indices, members_rule, sizes_rule, place_in, first_size, second_size}
use Rattle.p3l_calls.specs.Located.{located}

-- the dimensions of an array under brackets; after a plain name all of each are taken
abbrev pub dims_of : List Index → List Sub → List ℕ → List Dim
dims_of indices subs [] = []
dims_of indices subs (size ∷ sizes) =
    record { size = size; place = place_in indices (first subs) } ∷ dims_of indices (after_first subs) sizes

-- an array from the word `start` on, under brackets
abbrev pub slice_of : List Index → ℕ → Arg → Shape → Slice
slice_of indices start arg shape = record { start = start; dims = dims_of indices arg.subs shape.sizes }

-- the brackets leave the shape of the callee's port
abbrev pub leaves : Option Var → List Sub → Shape → Bool
leaves port subs shape = option_map_or (has_shape port) (sliced subs shape) false

-- an out argument is the out port that is expected, with a bracket for each size; it has the map's
-- free indices, one or two, each once and at its one size; and an element of it is what the callee gives
abbrev pub map_out_rule : List Index → Var → Option Var → Arg → Verdict
map_out_rule indices var port arg =
    first_of (
    broken_if (not (bytes_eq var.name arg.at.name)) Wiring arg.at.pos
    ∷ (broken_if (not (length arg.subs == length var.shape.sizes)) TypeDiffers arg.at.pos
    ∷ (broken_if (not (are_indices indices && has_indices indices arg.subs)) FreeIndex arg.at.pos
    ∷ (sizes_rule indices arg.subs var.shape.sizes
    ∷ (broken_if (not (leaves port arg.subs var.shape)) TypeDiffers arg.at.pos
    ∷ [])))))

-- an in argument is an in port, plain or with a bracket for each size; its free indices are among the
-- map's, each at most once and at its one size; and an element of it is what the callee takes
abbrev pub map_in_rule : List Index → Located → Option Var → Arg → Verdict
map_in_rule indices array port arg =
    first_of (
    broken_if (not (is_some (sliced arg.subs array.shape))) TypeDiffers arg.at.pos
    ∷ (members_rule indices [] arg.subs
    ∷ (sizes_rule indices arg.subs array.shape.sizes
    ∷ (broken_if (not (leaves port arg.subs array.shape)) TypeDiffers arg.at.pos
    ∷ []))))

-- an out argument's slice, which starts at this word
abbrev pub map_out : List Index → ℕ → Option Var → Option Var → OutArg → Result Slice SourceRefusal
map_out indices start var port (Fresh fresh) = Err (At Wiring fresh.at.pos)
map_out indices start None port (Old arg) = Err (At Wiring arg.at.pos)
map_out indices start (Some var) port (Old arg) =
    given (map_out_rule indices var port arg) (λ x. Ok (slice_of indices start arg var.shape))

-- the slices of out arguments one after another, where the first starts at this word. They are the
-- out ports in order: where the entries end, so must the names, or the fault is at the call's name.
abbrev pub map_outs : List Index → Pos → ℕ → List Var → List Var → List OutArg → Result (List Slice) SourceRefusal
map_outs indices place start vars ports [] = given (broken_if (nat_lt 0 (length vars)) Wiring place) (λ x. Ok [])
map_outs indices place start vars ports (out ∷ outs) =
    given (map_out indices start (first vars) (first ports) out)
    (λ slice. given (map_outs indices place (start + array_size slice.dims) (after_first vars) (after_first ports) outs)
    (λ slices. Ok (slice ∷ slices)))

-- an in argument's slice
abbrev pub map_in : List Index → Option Located → Option Var → Arg → Result Slice SourceRefusal
map_in indices None port arg = Err (At Wiring arg.at.pos)
map_in indices (Some array) port arg =
    given (map_in_rule indices array port arg) (λ x. Ok (slice_of indices array.start arg array.shape))

-- the slices of in arguments one after another
abbrev pub map_ins : List Index → List Var → List Var → List Arg → Result (List Slice) SourceRefusal
map_ins indices vars ports [] = Ok []
map_ins indices vars ports (arg ∷ args) =
    given (map_in indices (located vars arg.at.name) (first ports) arg)
    (λ slice. given (map_ins indices vars (after_first ports) args) (λ slices. Ok (slice ∷ slices)))

-- the free indices of a map, those of its first out argument
abbrev pub indices_of : List Var → List OutArg → List Index
indices_of (var ∷ vars) (Old arg ∷ outs) = indices_in arg.subs var.shape.sizes
indices_of vars outs = []

-- the cut of a map with these ports: first the outs, then the ins
abbrev pub cut_of : Ports → Ports → Call → Result Cut SourceRefusal
cut_of ports callee call =
    let indices : List Index = indices_of ports.outs call.outs in
    given (map_outs indices call.at.pos 0 ports.outs callee.outs call.outs)
    (λ outs. given (map_ins indices ports.ins callee.ins call.ins)
    (λ ins. Ok (record { first = first_size indices; second = second_size indices; ins = ins; outs = outs })))
