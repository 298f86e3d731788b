-- The rules of arguments never run out of memory: their refusals are faults.
use Rattle.std.proofs.Common.{◌≡◌, ℕ, Bool, ◌&&◌, not, true, false, List, [], ◌∷◌, ◌++◌, length, Option, Some, None, Err, refl, subst}
use Rattle.std.specs.Prelude.{nat_lt}
use Rattle.p3l_ast.specs.declared.position.Pos.{Pos}
use Rattle.p3l_ast.specs.declared.refusal.SourceRefusal.{SourceRefusal}
use Rattle.p3l_ast.specs.declared.refusal.Fault.{Fault}
use Rattle.p3l_ast.specs.declared.refusal.Fault.TheVariants.{FreeIndex, TypeDiffers, Wiring}
use Rattle.p3l_ast.specs.declared.call.Sub.{Sub}
use Rattle.p3l_ast.specs.declared.call.Sub.TheVariants.{Whole, Free}
use Rattle.p3l_ast.specs.declared.call.Arg.{Arg}
use Rattle.p3l_ast.specs.declared.call.OutArg.{OutArg}
use Rattle.p3l_ast.specs.declared.call.OutArg.TheVariants.{Fresh, Old}
use Rattle.p3l_ast.specs.declared.call.Call.{Call}
use Rattle.p3l_types.specs.Verdict.{Verdict, broken_if, first_of}
use Rattle.p3l_body.specs.declared.var.Var.{Var}
use Rattle.p3l_body.specs.declared.ports.Ports.{Ports}
use Rattle.p3l_body.proofs.Definite.{IsDefinite, ok_definite, at_definite, broken_definite, given_definite}
use Rattle.p3l_calls.specs.declared.index.Index.{Index}
use Rattle.p3l_calls.specs.Port.{has_shape}
use Rattle.p3l_calls.specs.Index.{is_index, is_sized, stands_in, member_rule, members_rule, size_rule, sizes_rule}
use Rattle.p3l_calls.specs.Plain.{first, after_first, in_order, is_plain, plain_rule, plain_out_rule, plain_ins, plain_outs, plain_call}

member_definite : (indices : List Index) (before : List Sub) (sub : Sub) → IsDefinite (member_rule indices before sub)
member_definite indices before Whole = ok_definite tt
member_definite indices before (Free spot) = broken_definite (not (is_index indices spot.name && not (stands_in before spot.name))) FreeIndex spot.pos

pub members_definite : (indices : List Index) (before subs : List Sub) → IsDefinite (members_rule indices before subs)
members_definite indices before [] = ok_definite tt
members_definite indices before (sub ∷ subs) =
    given_definite (member_rule indices before sub) (λ x. members_rule indices (before ++ sub ∷ []) subs) (member_definite indices before sub) (λ x. members_definite indices (before ++ sub ∷ []) subs)

size_definite : (indices : List Index) (sub : Sub) (size : ℕ) → IsDefinite (size_rule indices sub size)
size_definite indices Whole size = ok_definite tt
size_definite indices (Free spot) size = broken_definite (not (is_sized indices spot.name size)) FreeIndex spot.pos

pub sizes_definite : (indices : List Index) (subs : List Sub) (sizes : List ℕ) → IsDefinite (sizes_rule indices subs sizes)
sizes_definite indices [] [] = ok_definite tt
sizes_definite indices (sub ∷ subs) [] = ok_definite tt
sizes_definite indices [] (size ∷ sizes) = ok_definite tt
sizes_definite indices (sub ∷ subs) (size ∷ sizes) =
    given_definite (size_rule indices sub size) (λ x. sizes_rule indices subs sizes) (size_definite indices sub size) (λ x. sizes_definite indices subs sizes)

plain_definite : (var port : Option Var) (arg : Arg) → IsDefinite (plain_rule var port arg)
plain_definite None port arg = at_definite Wiring arg.at.pos
plain_definite (Some var) port arg =
    given_definite (broken_if (not (is_plain var.name arg)) Wiring arg.at.pos) (λ x. broken_if (not (has_shape port var.shape)) TypeDiffers arg.at.pos)
    (broken_definite (not (is_plain var.name arg)) Wiring arg.at.pos) (λ x. broken_definite (not (has_shape port var.shape)) TypeDiffers arg.at.pos)

plain_out_definite : (var port : Option Var) (out : OutArg) → IsDefinite (plain_out_rule var port out)
plain_out_definite var port (Fresh fresh) = at_definite Wiring fresh.at.pos
plain_out_definite var port (Old arg) = plain_definite var port arg

in_order_definite : {A : Type 0} (rule : Option Var → Option Var → A → Verdict) → ((var port : Option Var) (x : A) → IsDefinite (rule var port x)) →
    (place : Pos) (vars ports : List Var) (entries : List A) → IsDefinite (in_order rule place vars ports entries)
in_order_definite rule each place vars ports [] = broken_definite (nat_lt 0 (length vars)) Wiring place
in_order_definite rule each place vars ports (entry ∷ entries) =
    given_definite (rule (first vars) (first ports) entry) (λ x. in_order rule place (after_first vars) (after_first ports) entries)
    (each (first vars) (first ports) entry) (λ x. in_order_definite rule each place (after_first vars) (after_first ports) entries)

pub plain_ins_definite : (vars : List Var) (callee : Ports) (call : Call) → IsDefinite (plain_ins vars callee call)
plain_ins_definite vars callee call = in_order_definite plain_rule plain_definite call.at.pos vars callee.ins call.ins

pub plain_call_definite : (taken filled : List Var) (callee : Ports) (call : Call) → IsDefinite (plain_call taken filled callee call)
plain_call_definite taken filled callee call =
    given_definite (plain_ins taken callee call) (λ x. plain_outs filled callee call) (plain_ins_definite taken callee call)
    (λ x. in_order_definite plain_out_rule plain_out_definite call.at.pos filled callee.outs call.outs)

-- the fourth of rules, where three are kept
pub fourth_first : (a b c : Bool) (one two three : Fault) (pos : Pos) (v : Verdict) (rest : List Verdict) (refusal : SourceRefusal) → a ≡ true → b ≡ true → c ≡ true → Err refusal ≡ v →
    first_of (broken_if (not a) one pos ∷ (broken_if (not b) two pos ∷ (broken_if (not c) three pos ∷ (v ∷ rest)))) ≡ Err refusal
fourth_first false b c one two three pos v rest refusal p q r e = absurd cc
fourth_first true false c one two three pos v rest refusal p q r e = absurd cc
fourth_first true true false one two three pos v rest refusal p q r e = absurd cc
fourth_first true true true one two three pos v rest refusal p q r e = subst (λ (w : Verdict). first_of (w ∷ rest) ≡ Err refusal) e refl
