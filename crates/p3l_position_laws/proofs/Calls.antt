-- The rules of calls do not depend on positions.
use Rattle.std.proofs.Common.{◌≡◌, ℕ, ◌+◌, ◌==◌, ◌&&◌, not, false, List, [], ◌∷◌, ◌++◌, map, length, Result, Ok, Option, Some, None, refl, ap, sym, ◌∙◌, nat_lt}
use Rattle.std.specs.Prelude.{is_some, bytes_eq, cond}
use Rattle.std.specs.List.{list_all, fold}
use Rattle.std.proofs.lemmas.List.{map-append}
use Rattle.p3l_base.specs.declared.cut.Cut.{Cut}
use Rattle.p3l_base.specs.Slice.{array_size}
use Rattle.p3l_ast.specs.declared.position.Pos.{Pos}
use Rattle.p3l_ast.specs.declared.refusal.Fault.TheVariants.{Twice, TypeDiffers, Wiring, FreeIndex, LoopTypes, BadOperator}
use Rattle.p3l_ast.specs.declared.refusal.SourceRefusal.{SourceRefusal}
use Rattle.p3l_ast.specs.declared.call.Sub.{Sub}
use Rattle.p3l_ast.specs.declared.call.Sub.TheVariants.{Whole, Free}
use Rattle.p3l_ast.specs.declared.call.Arg.{Arg}
use Rattle.p3l_ast.specs.declared.call.OutArg.{OutArg}
use Rattle.p3l_ast.specs.declared.call.OutArg.TheVariants.{Fresh, Old}
use Rattle.p3l_ast.specs.declared.call.Call.{Call}
use Rattle.p3l_ast.specs.Unplaced.{nowhere, num_unplaced, sub_unplaced, arg_unplaced, out_unplaced, call_unplaced}
use Rattle.p3l_types.specs.declared.shape.Shape.{Shape}
use Rattle.p3l_types.specs.Verdict.{Verdict, given}
use Rattle.p3l_types.specs.Constants.{Constants}
use Rattle.p3l_types.specs.Shape.{product, sliced}
use Rattle.p3l_body.specs.declared.var.Var.{Var}
use Rattle.p3l_body.specs.declared.ports.Ports.{Ports}
use Rattle.p3l_body.specs.Scope.{Names, named}
use Rattle.p3l_calls.specs.declared.index.Index.{Index}
use Rattle.p3l_calls.specs.declared.located.Located.{Located}
use Rattle.p3l_calls.specs.Port.{has_shape}
use Rattle.p3l_calls.specs.Plain.{first, after_first, in_order, is_plain, plain_rule, plain_out_rule, plain_ins, plain_outs, plain_call}
use Rattle.p3l_calls.specs.Stage.{fresh_out, fresh_outs, stage}
use Rattle.p3l_calls.specs.Condition.{condition_out, condition}
use Rattle.p3l_calls.specs.Index.{index_in, indices_in, are_indices, is_index, is_sized, is_free, free_count, stands_in, has_indices, member_rule, members_rule, size_rule, sizes_rule, first_size, second_size}
use Rattle.p3l_calls.specs.Located.{located}
use Rattle.p3l_calls.specs.Map.{dims_of, slice_of, leaves, map_out_rule, map_in_rule, map_out, map_outs, map_in, map_ins, indices_of, cut_of}
use Rattle.p3l_calls.specs.Reduce.{frees_first, is_rows, rows_rule, result_rule, is_operator, reduce_rule, folded, reduced, elements_of}
use Rattle.p3l_position_laws.specs.Forgetting.{forget}
use Rattle.p3l_position_laws.proofs.Forgetting.{passes, broken_passes, first_passes}
use Rattle.p3l_position_laws.proofs.Types.{map_length, sliced_same}
use Rattle.p3l_position_laws.proofs.Bodies.{one_passes}

-- plain arguments
plain_same : (name : List ℕ) (arg : Arg) → is_plain name (arg_unplaced arg) ≡ is_plain name arg
plain_same name arg = ap (λ n. bytes_eq name arg.at.name && n == 0) (map_length sub_unplaced arg.subs)

plain_passes : (var port : Option Var) (arg : Arg) → plain_rule var port (arg_unplaced arg) ≡ forget (plain_rule var port arg)
plain_passes None port arg = refl
plain_passes (Some var) port arg =
    passes _ _ _ _ (broken_passes (not (is_plain var.name arg)) _ Wiring arg.at.pos (ap not (plain_same var.name arg)))
    (λ x. broken_passes (not (has_shape port var.shape)) _ TypeDiffers arg.at.pos refl)

plain_out_passes : (var port : Option Var) (out : OutArg) → plain_out_rule var port (out_unplaced out) ≡ forget (plain_out_rule var port out)
plain_out_passes var port (Fresh fresh) = refl
plain_out_passes var port (Old arg) = plain_passes var port arg

order_passes : {A : Type 0} (rule : Option Var → Option Var → A → Verdict) (u : A → A) → ((var port : Option Var) (a : A) → rule var port (u a) ≡ forget (rule var port a))
    → (place : Pos) (vars ports : List Var) (entries : List A) → in_order rule nowhere vars ports (map u entries) ≡ forget (in_order rule place vars ports entries)
order_passes rule u h place vars ports [] = broken_passes (nat_lt 0 (length vars)) _ Wiring place refl
order_passes rule u h place vars ports (entry ∷ entries) =
    passes _ _ _ _ (h (first vars) (first ports) entry) (λ x. order_passes rule u h place (after_first vars) (after_first ports) entries)

ins_pass : (vars : List Var) (callee : Ports) (call : Call) → plain_ins vars callee (call_unplaced call) ≡ forget (plain_ins vars callee call)
ins_pass vars callee call = order_passes plain_rule arg_unplaced plain_passes call.at.pos vars callee.ins call.ins

outs_pass : (vars : List Var) (callee : Ports) (call : Call) → plain_outs vars callee (call_unplaced call) ≡ forget (plain_outs vars callee call)
outs_pass vars callee call = order_passes plain_out_rule out_unplaced plain_out_passes call.at.pos vars callee.outs call.outs

pub plain_call_passes : (taken back : List Var) (callee : Ports) (call : Call) → plain_call taken back callee (call_unplaced call) ≡ forget (plain_call taken back callee call)
plain_call_passes taken back callee call = passes _ _ _ _ (ins_pass taken callee call) (λ x. outs_pass back callee call)

-- stages
fresh_out_passes : (constants : Constants) (names : Names) (words : ℕ) (port : Option Var) (out : OutArg) → fresh_out constants names words port (out_unplaced out) ≡ forget (fresh_out constants names words port out)
fresh_out_passes constants names words port (Old arg) = refl
fresh_out_passes constants names words port (Fresh fresh) =
    passes _ _ _ _ (one_passes Twice constants names words fresh)
    (λ var. passes _ _ _ _ (broken_passes (not (has_shape port var.shape)) _ TypeDiffers fresh.at.pos refl) (λ x. refl))

fresh_outs_pass : (constants : Constants) (names : Names) (words : ℕ) (ports : List Var) (outs : List OutArg) → fresh_outs constants names words ports (map out_unplaced outs) ≡ forget (fresh_outs constants names words ports outs)
fresh_outs_pass constants names words ports [] = refl
fresh_outs_pass constants names words ports (out ∷ outs) =
    passes _ _ _ _ (fresh_out_passes constants names words (first ports) out)
    (λ var. passes _ _ _ _ (fresh_outs_pass constants (names ++ named false var ∷ []) (words + product var.shape.sizes) (after_first ports) outs)
    (λ vars. refl))

pub stage_passes : (constants : Constants) (names : Names) (taken : List Var) (callee : Ports) (call : Call) → stage constants names taken callee (call_unplaced call) ≡ forget (stage constants names taken callee call)
stage_passes constants names taken callee call =
    passes _ _ _ _ (ins_pass taken callee call) (λ x. fresh_outs_pass constants names 0 callee.outs call.outs)

-- conditions
condition_out_passes : (constants : Constants) (names : Names) (place : Pos) (ports : List Var) (outs : List OutArg) → condition_out constants names nowhere ports (map out_unplaced outs) ≡ forget (condition_out constants names place ports outs)
condition_out_passes constants names place [] outs = refl
condition_out_passes constants names place (port ∷ []) [] = refl
condition_out_passes constants names place (port ∷ []) (Fresh fresh ∷ []) =
    passes _ _ _ _
    (broken_passes (not (length fresh.sizes == 0 && length port.shape.sizes == 0)) _ LoopTypes place
    (ap (λ n. not (n == 0 && length port.shape.sizes == 0)) (map_length num_unplaced fresh.sizes)))
    (λ x. passes _ _ _ _ (one_passes Twice constants names 0 fresh) (λ var. refl))
condition_out_passes constants names place (port ∷ []) (Old arg ∷ []) = refl
condition_out_passes constants names place (port ∷ []) (Fresh fresh ∷ (out ∷ outs)) = refl
condition_out_passes constants names place (port ∷ []) (Old arg ∷ (out ∷ outs)) = refl
condition_out_passes constants names place (port ∷ (next ∷ ports)) outs = refl

pub condition_passes : (constants : Constants) (names : Names) (loop_outs : List Var) (callee : Ports) (call : Call) → condition constants names loop_outs callee (call_unplaced call) ≡ forget (condition constants names loop_outs callee call)
condition_passes constants names loop_outs callee call =
    passes _ _ _ _ (ins_pass loop_outs callee call) (λ x. condition_out_passes constants names call.at.pos callee.outs call.outs)

-- free indices
indices_same : (subs : List Sub) (sizes : List ℕ) → indices_in (map sub_unplaced subs) sizes ≡ indices_in subs sizes
indices_same subs [] = refl
indices_same [] (size ∷ sizes) = refl
indices_same (Whole ∷ subs) (size ∷ sizes) = indices_same subs sizes
indices_same (Free x ∷ subs) (size ∷ sizes) = ap (λ t. index_in (Free x) size ++ t) (indices_same subs sizes)

counted_same : (n : ℕ) (subs : List Sub) → fold (λ a sub. a + cond (is_free sub) 1 0) n (map sub_unplaced subs) ≡ fold (λ a sub. a + cond (is_free sub) 1 0) n subs
counted_same n [] = refl
counted_same n (Whole ∷ subs) = counted_same (n + 0) subs
counted_same n (Free x ∷ subs) = counted_same (n + 1) subs

count_same : (subs : List Sub) → free_count (map sub_unplaced subs) ≡ free_count subs
count_same subs = counted_same 0 subs

stands_same : (subs : List Sub) (name : List ℕ) → stands_in (map sub_unplaced subs) name ≡ stands_in subs name
stands_same [] name = refl
stands_same (Whole ∷ subs) name = let p = stands_same subs name in cc
stands_same (Free x ∷ subs) name = let p = stands_same subs name in cc

all_stand_same : (indices : List Index) (subs : List Sub) → list_all (λ (i : Index). stands_in (map sub_unplaced subs) i.name) indices ≡ list_all (λ (i : Index). stands_in subs i.name) indices
all_stand_same [] subs = refl
all_stand_same (i ∷ indices) subs = let p = stands_same subs i.name in let q = all_stand_same indices subs in cc

has_same : (indices : List Index) (subs : List Sub) → has_indices indices (map sub_unplaced subs) ≡ has_indices indices subs
has_same indices subs = let p = count_same subs in let q = all_stand_same indices subs in cc

member_passes : (indices : List Index) (before : List Sub) (sub : Sub) → member_rule indices (map sub_unplaced before) (sub_unplaced sub) ≡ forget (member_rule indices before sub)
member_passes indices before Whole = refl
member_passes indices before (Free spot) =
    broken_passes (not (is_index indices spot.name && not (stands_in before spot.name))) _ FreeIndex spot.pos
    (ap (λ b. not (is_index indices spot.name && not b)) (stands_same before spot.name))

members_pass : (indices : List Index) (before subs : List Sub) → members_rule indices (map sub_unplaced before) (map sub_unplaced subs) ≡ forget (members_rule indices before subs)
members_pass indices before [] = refl
members_pass indices before (sub ∷ subs) =
    passes _ _ _ _ (member_passes indices before sub)
    (λ x. ap (λ t. members_rule indices t (map sub_unplaced subs)) (sym (map-append sub_unplaced before (sub ∷ []))) ∙ members_pass indices (before ++ sub ∷ []) subs)

size_passes : (indices : List Index) (sub : Sub) (size : ℕ) → size_rule indices (sub_unplaced sub) size ≡ forget (size_rule indices sub size)
size_passes indices Whole size = refl
size_passes indices (Free spot) size = broken_passes (not (is_sized indices spot.name size)) _ FreeIndex spot.pos refl

sizes_pass : (indices : List Index) (subs : List Sub) (sizes : List ℕ) → sizes_rule indices (map sub_unplaced subs) sizes ≡ forget (sizes_rule indices subs sizes)
sizes_pass indices subs [] = refl
sizes_pass indices [] (size ∷ sizes) = refl
sizes_pass indices (sub ∷ subs) (size ∷ sizes) = passes _ _ _ _ (size_passes indices sub size) (λ x. sizes_pass indices subs sizes)

-- maps
dims_same : (indices : List Index) (subs : List Sub) (sizes : List ℕ) → dims_of indices (map sub_unplaced subs) sizes ≡ dims_of indices subs sizes
dims_same indices subs [] = refl
dims_same indices [] (size ∷ sizes) = refl
dims_same indices (Whole ∷ subs) (size ∷ sizes) = let p = dims_same indices subs sizes in cc
dims_same indices (Free x ∷ subs) (size ∷ sizes) = let p = dims_same indices subs sizes in cc

slice_same : (indices : List Index) (start : ℕ) (arg : Arg) (shape : Shape) → slice_of indices start (arg_unplaced arg) shape ≡ slice_of indices start arg shape
slice_same indices start arg shape = let p = dims_same indices arg.subs shape.sizes in cc

leaves_same : (port : Option Var) (subs : List Sub) (shape : Shape) → leaves port (map sub_unplaced subs) shape ≡ leaves port subs shape
leaves_same port subs shape = let p = sliced_same subs shape in cc

out_rule_passes : (indices : List Index) (var : Var) (port : Option Var) (arg : Arg) → map_out_rule indices var port (arg_unplaced arg) ≡ forget (map_out_rule indices var port arg)
out_rule_passes indices var port arg =
    first_passes _ _ _ _ (broken_passes (not (bytes_eq var.name arg.at.name)) _ Wiring arg.at.pos refl)
    (first_passes _ _ _ _ (broken_passes (not (length arg.subs == length var.shape.sizes)) _ TypeDiffers arg.at.pos
    (ap (λ n. not (n == length var.shape.sizes)) (map_length sub_unplaced arg.subs)))
    (first_passes _ _ _ _ (broken_passes (not (are_indices indices && has_indices indices arg.subs)) _ FreeIndex arg.at.pos
    (ap (λ b. not (are_indices indices && b)) (has_same indices arg.subs)))
    (first_passes _ _ _ _ (sizes_pass indices arg.subs var.shape.sizes)
    (first_passes _ _ _ _ (broken_passes (not (leaves port arg.subs var.shape)) _ TypeDiffers arg.at.pos (ap not (leaves_same port arg.subs var.shape)))
    refl))))

in_rule_passes : (indices : List Index) (array : Located) (port : Option Var) (arg : Arg) → map_in_rule indices array port (arg_unplaced arg) ≡ forget (map_in_rule indices array port arg)
in_rule_passes indices array port arg =
    first_passes _ _ _ _ (broken_passes (not (is_some (sliced arg.subs array.shape))) _ TypeDiffers arg.at.pos
    (ap (λ s. not (is_some s)) (sliced_same arg.subs array.shape)))
    (first_passes _ _ _ _ (members_pass indices [] arg.subs)
    (first_passes _ _ _ _ (sizes_pass indices arg.subs array.shape.sizes)
    (first_passes _ _ _ _ (broken_passes (not (leaves port arg.subs array.shape)) _ TypeDiffers arg.at.pos (ap not (leaves_same port arg.subs array.shape)))
    refl)))

map_out_passes : (indices : List Index) (start : ℕ) (var port : Option Var) (out : OutArg) → map_out indices start var port (out_unplaced out) ≡ forget (map_out indices start var port out)
map_out_passes indices start var port (Fresh fresh) = refl
map_out_passes indices start None port (Old arg) = refl
map_out_passes indices start (Some var) port (Old arg) =
    passes _ _ _ _ (out_rule_passes indices var port arg) (λ x. ap Ok (slice_same indices start arg var.shape))

map_outs_pass : (indices : List Index) (place : Pos) (start : ℕ) (vars ports : List Var) (outs : List OutArg) → map_outs indices nowhere start vars ports (map out_unplaced outs) ≡ forget (map_outs indices place start vars ports outs)
map_outs_pass indices place start vars ports [] =
    passes _ _ _ _ (broken_passes (nat_lt 0 (length vars)) _ Wiring place refl) (λ x. refl)
map_outs_pass indices place start vars ports (out ∷ outs) =
    passes _ _ _ _ (map_out_passes indices start (first vars) (first ports) out)
    (λ slice. passes _ _ _ _ (map_outs_pass indices place (start + array_size slice.dims) (after_first vars) (after_first ports) outs)
    (λ slices. refl))

map_in_passes : (indices : List Index) (array : Option Located) (port : Option Var) (arg : Arg) → map_in indices array port (arg_unplaced arg) ≡ forget (map_in indices array port arg)
map_in_passes indices None port arg = refl
map_in_passes indices (Some array) port arg =
    passes _ _ _ _ (in_rule_passes indices array port arg) (λ x. ap Ok (slice_same indices array.start arg array.shape))

map_ins_pass : (indices : List Index) (vars ports : List Var) (args : List Arg) → map_ins indices vars ports (map arg_unplaced args) ≡ forget (map_ins indices vars ports args)
map_ins_pass indices vars ports [] = refl
map_ins_pass indices vars ports (arg ∷ args) =
    passes _ _ _ _ (map_in_passes indices (located vars arg.at.name) (first ports) arg)
    (λ slice. passes _ _ _ _ (map_ins_pass indices vars (after_first ports) args) (λ slices. refl))

indices_of_same : (vars : List Var) (outs : List OutArg) → indices_of vars (map out_unplaced outs) ≡ indices_of vars outs
indices_of_same [] outs = refl
indices_of_same (var ∷ vars) [] = refl
indices_of_same (var ∷ vars) (Fresh fresh ∷ outs) = refl
indices_of_same (var ∷ vars) (Old arg ∷ outs) = indices_same arg.subs var.shape.sizes

abbrev cut_with : List Index → Ports → Ports → Call → Result Cut SourceRefusal
cut_with indices ports callee call =
    given (map_outs indices call.at.pos 0 ports.outs callee.outs call.outs)
    (λ outs. given (map_ins indices ports.ins callee.ins call.ins)
    (λ ins. Ok (record { first = first_size indices; second = second_size indices; ins = ins; outs = outs })))

cut_with_passes : (indices : List Index) (ports callee : Ports) (call : Call) → cut_with indices ports callee (call_unplaced call) ≡ forget (cut_with indices ports callee call)
cut_with_passes indices ports callee call =
    passes _ _ _ _ (map_outs_pass indices call.at.pos 0 ports.outs callee.outs call.outs)
    (λ outs. passes _ _ _ _ (map_ins_pass indices ports.ins callee.ins call.ins) (λ ins. refl))

pub cut_passes : (ports callee : Ports) (call : Call) → cut_of ports callee (call_unplaced call) ≡ forget (cut_of ports callee call)
cut_passes ports callee call =
    ap (λ indices. cut_with indices ports callee (call_unplaced call)) (indices_of_same ports.outs call.outs)
    ∙ cut_with_passes (indices_of ports.outs call.outs) ports callee call

-- reduces
frees_same : (subs : List Sub) → frees_first (map sub_unplaced subs) ≡ frees_first subs
frees_same [] = refl
frees_same (Whole ∷ subs) = refl
frees_same (Free x ∷ subs) = ap (λ n. n == 0) (count_same subs)

rows_same : (array : Var) (arg : Arg) → is_rows array (arg_unplaced arg) ≡ is_rows array arg
rows_same array arg = let p = frees_same arg.subs in let q = map_length sub_unplaced arg.subs in cc

rows_pass : (place : Pos) (array : Var) (args : List Arg) → rows_rule nowhere array (map arg_unplaced args) ≡ forget (rows_rule place array args)
rows_pass place array [] = refl
rows_pass place array (arg ∷ []) = broken_passes (not (is_rows array arg)) _ FreeIndex arg.at.pos (ap not (rows_same array arg))
rows_pass place array (arg ∷ (other ∷ args)) = refl

result_passes : (place : Pos) (out : Var) (outs : List OutArg) → result_rule nowhere out (map out_unplaced outs) ≡ forget (result_rule place out outs)
result_passes place out [] = refl
result_passes place out (Fresh fresh ∷ []) = refl
result_passes place out (Old arg ∷ []) = broken_passes (not (is_plain out.name arg)) _ Wiring arg.at.pos (ap not (plain_same out.name arg))
result_passes place out (Fresh fresh ∷ (other ∷ outs)) = refl
result_passes place out (Old arg ∷ (other ∷ outs)) = refl

reduce_passes : (array : Var) (element : List ℕ) (out : Var) (callee : Ports) (call : Call) → reduce_rule array element out callee (call_unplaced call) ≡ forget (reduce_rule array element out callee call)
reduce_passes array element out callee call =
    first_passes _ _ _ _ (rows_pass call.at.pos array call.ins)
    (first_passes _ _ _ _ (result_passes call.at.pos out call.outs)
    (first_passes _ _ _ _ (broken_passes (not (is_operator element callee && bytes_eq out.shape.sizes element)) _ BadOperator call.at.pos refl)
    refl))

folded_passes : (home : Pos) (array : Var) (sizes : List ℕ) (out : Var) (callee : Ports) (call : Call) → folded nowhere array sizes out callee (call_unplaced call) ≡ forget (folded home array sizes out callee call)
folded_passes home array [] out callee call = refl
folded_passes home array (len ∷ element) out callee call = passes _ _ _ _ (reduce_passes array element out callee call) (λ x. refl)

reduced_passes : (home : Pos) (ins outs : List Var) (callee : Ports) (call : Call) → reduced nowhere ins outs callee (call_unplaced call) ≡ forget (reduced home ins outs callee call)
reduced_passes home [] outs callee call = refl
reduced_passes home (array ∷ []) [] callee call = refl
reduced_passes home (array ∷ []) (out ∷ []) callee call = folded_passes home array array.shape.sizes out callee call
reduced_passes home (array ∷ []) (out ∷ (other ∷ outs)) callee call = refl
reduced_passes home (array ∷ (other ∷ ins)) outs callee call = refl

pub elements_pass : (home : Pos) (ports callee : Ports) (call : Call) → elements_of nowhere ports callee (call_unplaced call) ≡ forget (elements_of home ports callee call)
elements_pass home ports callee call = reduced_passes home ports.ins ports.outs callee call
