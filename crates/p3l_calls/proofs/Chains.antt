-- Calls that pass, in numbers of words.
use Rattle.std.proofs.Common.{◌≡◌, ℕ, ◌+◌, true, false, List, [], ◌∷◌, ◌++◌, length, Ok, Option, Some, None, refl, sym, ap, ◌∙◌, arith}
use Rattle.std.specs.Prelude.{bytes_eq, nat_lt, ◌==◌, ◌&&◌, not}
use Rattle.std.specs.Cmp.Lexicographic.{same_text}
use Rattle.std.proofs.lemmas.Bool.{eqb-true, ltb-false}
use Rattle.p3l_ast.specs.declared.position.Pos.{Pos}
use Rattle.p3l_ast.specs.declared.refusal.Fault.TheVariants.{Twice, TypeDiffers, Wiring, LoopTypes}
use Rattle.p3l_ast.specs.declared.call.Arg.{Arg}
use Rattle.p3l_ast.specs.declared.call.OutArg.{OutArg}
use Rattle.p3l_ast.specs.declared.call.OutArg.TheVariants.{Fresh, Old}
use Rattle.p3l_ast.specs.declared.call.Call.{Call}
use Rattle.p3l_types.specs.Verdict.{Verdict, broken_if}
use Rattle.p3l_types.specs.Constants.{Constants}
use Rattle.p3l_types.specs.Shape.{product}
use Rattle.p3l_body.specs.declared.var.Var.{Var}
use Rattle.p3l_body.specs.declared.ports.Ports.{Ports}
use Rattle.p3l_body.specs.Scope.{Names, named, declared_one}
use Rattle.p3l_calls.specs.Port.{total}
use Rattle.p3l_calls.specs.Plain.{is_plain, in_order, plain_rule, plain_out_rule, plain_ins, plain_call}
use Rattle.p3l_calls.specs.Stage.{fresh_out, fresh_outs, stage}
use Rattle.p3l_calls.specs.Condition.{condition_out, condition}
use Rattle.p3l_calls.proofs.Kept.{given-taken, kept-true, kept-false, both-right}

module _ {A : Type 0} (rule : Option Var → Option Var → A → Verdict)
    (none : (port : Option Var) (x : A) (u : Unit {0}) → rule None port x ≡ Ok u → ⊥)
    (same : (var port : Var) (x : A) (u : Unit {0}) → rule (Some var) (Some port) x ≡ Ok u → product port.shape.sizes ≡ product var.shape.sizes) where
  -- entries that pass have as many words on both sides
  in_order-total : (place : Pos) (vars ports : List Var) (xs : List A) (u : Unit {0}) → length xs ≡ length ports →
      in_order rule place vars ports xs ≡ Ok u → total ports ≡ total vars
  in_order-total place [] [] [] u n e = refl
  in_order-total place (var ∷ vars) [] [] u n e =
      let ended = ltb-false 0 (length (var ∷ vars)) (kept-false (nat_lt 0 (length (var ∷ vars))) Wiring place u e) in
      absurd (omega (arith, ended))
  in_order-total place vars (port ∷ ports) [] u n e = absurd (omega arith)
  in_order-total place vars [] (x ∷ xs) u n e = absurd (omega arith)
  in_order-total place [] (port ∷ ports) (x ∷ xs) u n e =
      let passed = given-taken (rule None (Some port) x) _ u e in
      absurd (none (Some port) x passed.0 passed.1)
  in_order-total place (var ∷ vars) (port ∷ ports) (x ∷ xs) u n e =
      let passed = given-taken (rule (Some var) (Some port) x) _ u e in
      let here = same var port x passed.0 passed.1 in
      let rest = in_order-total place vars ports xs u (omega arith) passed.2 in
      omega (arith, here, rest)

plain-none : (port : Option Var) (arg : Arg) (u : Unit {0}) → plain_rule None port arg ≡ Ok u → ⊥
plain-none port arg u e = cc

plain-same : (var port : Var) (arg : Arg) (u : Unit {0}) → plain_rule (Some var) (Some port) arg ≡ Ok u →
    product port.shape.sizes ≡ product var.shape.sizes
plain-same var port arg u e =
    let passed = given-taken (broken_if (not (is_plain var.name arg)) Wiring arg.at.pos) _ u e in
    ap product (same_text port.shape.sizes var.shape.sizes (sym (kept-true (bytes_eq port.shape.sizes var.shape.sizes) TypeDiffers arg.at.pos u passed.2)))

out-none : (port : Option Var) (out : OutArg) (u : Unit {0}) → plain_out_rule None port out ≡ Ok u → ⊥
out-none port (Fresh fresh) u e = cc
out-none port (Old arg) u e = plain-none port arg u e

out-same : (var port : Var) (out : OutArg) (u : Unit {0}) → plain_out_rule (Some var) (Some port) out ≡ Ok u →
    product port.shape.sizes ≡ product var.shape.sizes
out-same var port (Fresh fresh) u e = absurd cc
out-same var port (Old arg) u e = plain-same var port arg u e

-- the callee takes as many words as it is handed
pub plain_ins-total : (vars : List Var) (callee : Ports) (call : Call) (u : Unit {0}) → length call.ins ≡ length callee.ins →
    plain_ins vars callee call ≡ Ok u → total callee.ins ≡ total vars
plain_ins-total vars callee call u n e = in_order-total plain_rule plain-none plain-same call.at.pos vars callee.ins call.ins u n e

-- the numbers of a callee
pub record HasTotals (callee : Ports) (ins outs : ℕ) : Type 0 where
  pub takes : total callee.ins ≡ ins
  pub gives : total callee.outs ≡ outs

-- a farm, the body of a loop, the last call of a pipe or a comp
pub plain_call-totals : (taken filled : List Var) (callee : Ports) (call : Call) (u : Unit {0}) →
    length call.ins ≡ length callee.ins → length call.outs ≡ length callee.outs →
    plain_call taken filled callee call ≡ Ok u → HasTotals callee (total taken) (total filled)
plain_call-totals taken filled callee call u n m e =
    let passed = given-taken (plain_ins taken callee call) _ u e in
    record {
      takes = plain_ins-total taken callee call passed.0 n passed.1;
      gives = in_order-total plain_out_rule out-none out-same call.at.pos filled callee.outs call.outs u m passed.2;
    }

fresh-same : (constants : Constants) (names : Names) (words : ℕ) (port : Var) (out : OutArg) (var : Var) →
    fresh_out constants names words (Some port) out ≡ Ok var → product port.shape.sizes ≡ product var.shape.sizes
fresh-same constants names words port (Old arg) var e = absurd cc
fresh-same constants names words port (Fresh fresh) var e =
    let made = given-taken (declared_one Twice constants names words fresh) _ var e in
    let fits = given-taken _ _ var made.2 in
    let is : made.0 ≡ var = cc (fits.2) in
    ap product (same_text port.shape.sizes made.0.shape.sizes (sym (kept-true (bytes_eq port.shape.sizes made.0.shape.sizes) TypeDiffers fresh.at.pos fits.0 fits.1)))
    ∙ ap (λ (v : Var). product v.shape.sizes) is

fresh_outs-total : (constants : Constants) (names : Names) (words : ℕ) (ports : List Var) (outs : List OutArg) (vars : List Var) →
    length outs ≡ length ports → fresh_outs constants names words ports outs ≡ Ok vars → total ports ≡ total vars
fresh_outs-total constants names words [] [] vars n e = let is : [] ≡ vars = cc in ap total is
fresh_outs-total constants names words (port ∷ ports) [] vars n e = absurd (omega arith)
fresh_outs-total constants names words [] (out ∷ outs) vars n e = absurd (omega arith)
fresh_outs-total constants names words (port ∷ ports) (out ∷ outs) vars n e =
    let here = given-taken (fresh_out constants names words (Some port) out) _ vars e in
    let more = given-taken (fresh_outs constants (names ++ named false here.0 ∷ []) (words + product here.0.shape.sizes) ports outs) _ vars here.2 in
    let is : here.0 ∷ more.0 ≡ vars = cc (more.2) in
    let one = fresh-same constants names words port out here.0 here.1 in
    let rest = fresh_outs-total constants (names ++ named false here.0 ∷ []) (words + product here.0.shape.sizes) ports outs more.0 (omega arith) more.1 in
    let whole : total (port ∷ ports) ≡ total (here.0 ∷ more.0) = omega (arith, one, rest) in
    whole ∙ ap total is

-- each other call of a pipe or a comp
pub stage-totals : (constants : Constants) (names : Names) (taken : List Var) (callee : Ports) (call : Call) (vars : List Var) →
    length call.ins ≡ length callee.ins → length call.outs ≡ length callee.outs →
    stage constants names taken callee call ≡ Ok vars → HasTotals callee (total taken) (total vars)
stage-totals constants names taken callee call vars n m e =
    let passed = given-taken (plain_ins taken callee call) _ vars e in
    record {
      takes = plain_ins-total taken callee call passed.0 n passed.1;
      gives = fresh_outs-total constants names 0 callee.outs call.outs vars m passed.2;
    }

scalar : (sizes : List ℕ) → (length sizes == 0) ≡ true → product sizes ≡ 1
scalar [] e = refl
scalar (size ∷ sizes) e = absurd (omega (arith, eqb-true (length (size ∷ sizes)) 0 e))

condition_out-total : (constants : Constants) (names : Names) (place : Pos) (ports : List Var) (outs : List OutArg) (u : Unit {0}) →
    condition_out constants names place ports outs ≡ Ok u → total ports ≡ 1
condition_out-total constants names place (port ∷ []) (Fresh fresh ∷ []) u e =
    let passed = given-taken _ _ u e in
    let tests : (length fresh.sizes == 0 && length port.shape.sizes == 0) ≡ true = kept-true _ LoopTypes place passed.0 passed.1 in
    let one : product port.shape.sizes ≡ 1 = scalar port.shape.sizes (both-right (length fresh.sizes == 0) (length port.shape.sizes == 0) tests) in
    omega (arith, one)
condition_out-total constants names place ports outs u e = absurd cc

-- the condition of a loop
pub condition-totals : (constants : Constants) (names : Names) (loop_outs : List Var) (callee : Ports) (call : Call) (u : Unit {0}) →
    length call.ins ≡ length callee.ins → condition constants names loop_outs callee call ≡ Ok u → HasTotals callee (total loop_outs) 1
condition-totals constants names loop_outs callee call u n e =
    let passed = given-taken (plain_ins loop_outs callee call) _ u e in
    record {
      takes = plain_ins-total loop_outs callee call passed.0 n passed.1;
      gives = condition_out-total constants names call.at.pos callee.outs call.outs u passed.2;
    }
