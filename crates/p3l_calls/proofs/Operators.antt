-- A reduce whose call keeps the rules.
use Rattle.std.proofs.Common.{◌≡◌, ℕ, ◌+◌, ◌*◌, Bool, true, List, [], ◌∷◌, length, Ok, sym, ap, ◌∙◌, arith}
use Rattle.std.specs.Prelude.{bytes_eq, ◌&&◌, ◌==◌}
use Rattle.std.specs.Cmp.Lexicographic.{same_text}
use Rattle.std.proofs.lemmas.Bool.{eqb-true}
use Rattle.p3l_ast.specs.declared.position.Pos.{Pos}
use Rattle.p3l_ast.specs.declared.refusal.Fault.TheVariants.{BadOperator}
use Rattle.p3l_ast.specs.declared.call.Call.{Call}
use Rattle.p3l_types.specs.Shape.{product}
use Rattle.p3l_body.specs.declared.var.Var.{Var}
use Rattle.p3l_body.specs.declared.ports.Ports.{Ports}
use Rattle.p3l_calls.specs.declared.reduce.Elements.{Elements}
use Rattle.p3l_calls.specs.Port.{total}
use Rattle.p3l_calls.specs.Reduce.{rows_rule, result_rule, all_have, is_operator, reduce_rule, folded, reduced, elements_of}
use Rattle.p3l_calls.proofs.Kept.{given-taken, kept-true, first_of-first, first_of-after, both-left, both-right}

-- the operator and the out fit the elements
fitting : (array : Var) (element : List ℕ) (out : Var) (callee : Ports) (call : Call) (u : Unit {0}) →
    reduce_rule array element out callee call ≡ Ok u → (is_operator element callee && bytes_eq out.shape.sizes element) ≡ true
fitting array element out callee call u e =
    let rest = first_of-after (rows_rule call.at.pos array call.ins) _ u e in
    let last = first_of-after (result_rule call.at.pos out call.outs) _ u rest in
    let test : Bool = is_operator element callee && bytes_eq out.shape.sizes element in
    kept-true test BadOperator call.at.pos u (first_of-first _ [] u last)

pub out-fits : (array : Var) (element : List ℕ) (out : Var) (callee : Ports) (call : Call) (u : Unit {0}) →
    reduce_rule array element out callee call ≡ Ok u → product element ≡ product out.shape.sizes
out-fits array element out callee call u e =
    let same = both-right (is_operator element callee) (bytes_eq out.shape.sizes element) (fitting array element out callee call u e) in
    ap product (sym (same_text out.shape.sizes element (sym same)))

pub ruleset fits = (out-fits)

-- ports of one shape
all-total : (sizes : List ℕ) (ports : List Var) → all_have sizes ports ≡ true → total ports ≡ length ports * product sizes
all-total sizes [] e = omega arith
all-total sizes (port ∷ ports) e =
    let same : port.shape.sizes ≡ sizes = same_text port.shape.sizes sizes (sym (both-left (bytes_eq port.shape.sizes sizes) (all_have sizes ports) e)) in
    let here : product port.shape.sizes ≡ product sizes = ap product same in
    let rest : total ports ≡ length ports * product sizes = all-total sizes ports (both-right (bytes_eq port.shape.sizes sizes) (all_have sizes ports) e) in
    grind arith

-- the numbers of a reduce: it folds `len` elements of `elem` words to one
pub record IsFolding (elements : Elements) (ins outs : ℕ) (callee : Ports) : Type 0 where
  pub elements_fit : ins ≡ elements.len * elements.elem
  pub result : outs ≡ elements.elem
  pub takes : total callee.ins ≡ 2 * elements.elem
  pub gives : total callee.outs ≡ elements.elem

operator-ins : (element : List ℕ) (callee : Ports) → is_operator element callee ≡ true → total callee.ins ≡ 2 * product element
operator-ins element callee e =
    let three = both-left _ (all_have element callee.outs) e in
    let all : all_have element callee.ins ≡ true = both-right (length callee.ins == 2 && length callee.outs == 1) _ three in
    let two : length callee.ins ≡ 2 = eqb-true (length callee.ins) 2 (both-left _ (length callee.outs == 1) (both-left _ (all_have element callee.ins) three)) in
    all-total element callee.ins all ∙ ap (λ n. n * product element) two

operator-outs : (element : List ℕ) (callee : Ports) → is_operator element callee ≡ true → total callee.outs ≡ product element
operator-outs element callee e =
    let three = both-left _ (all_have element callee.outs) e in
    let all : all_have element callee.outs ≡ true = both-right (length callee.ins == 2 && length callee.outs == 1 && all_have element callee.ins) _ e in
    let one : length callee.outs ≡ 1 = eqb-true (length callee.outs) 1 (both-right (length callee.ins == 2) _ (both-left _ (all_have element callee.ins) three)) in
    let whole : total callee.outs ≡ 1 * product element = all-total element callee.outs all ∙ ap (λ n. n * product element) one in
    omega (arith, whole)

folded-fits : (home : Pos) (array : Var) (sizes : List ℕ) (out : Var) (callee : Ports) (call : Call) (elements : Elements) →
    folded home array sizes out callee call ≡ Ok elements →
    IsFolding elements (product sizes + 0) (product out.shape.sizes + 0) callee
folded-fits home array [] out callee call elements e = absurd cc
folded-fits home array (len ∷ element) out callee call elements e =
    let passed = given-taken (reduce_rule array element out callee call) _ elements e in
    let len_is : len ≡ elements.len = cc (passed.2) in
    let elem_is : product element ≡ elements.elem = cc (passed.2) in
    let operator : is_operator element callee ≡ true = both-left _ (bytes_eq out.shape.sizes element) (fitting array element out callee call passed.0 passed.1) in
    let result : product element ≡ product out.shape.sizes = out-fits array element out callee call passed.0 passed.1 in
    record {
      elements_fit = let whole : len * product element ≡ elements.len * elements.elem = ap (λ n. n * product element) len_is ∙ ap (λ n. elements.len * n) elem_is in omega (arith, whole);
      result = omega (arith, result, elem_is);
      takes = operator-ins element callee operator ∙ ap (λ n. 2 * n) elem_is;
      gives = operator-outs element callee operator ∙ elem_is;
    }

reduced-fits : (home : Pos) (ins outs : List Var) (callee : Ports) (call : Call) (elements : Elements) →
    reduced home ins outs callee call ≡ Ok elements → IsFolding elements (total ins) (total outs) callee
reduced-fits home (array ∷ []) (out ∷ []) callee call elements e = folded-fits home array array.shape.sizes out callee call elements e
reduced-fits home ins outs callee call elements e = absurd cc

-- a reduce that passes
pub elements-fit : (home : Pos) (ports callee : Ports) (call : Call) (elements : Elements) →
    elements_of home ports callee call ≡ Ok elements → IsFolding elements (total ports.ins) (total ports.outs) callee
elements-fit home ports callee call elements e = reduced-fits home ports.ins ports.outs callee call elements e
