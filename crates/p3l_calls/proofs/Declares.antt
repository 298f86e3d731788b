-- Ports that are declared keep the limits.
use Rattle.std.proofs.Common.{◌≡◌, ℕ, ◌+◌, ◌<◌, ◌≤◌, Bool, true, false, List, [], ◌∷◌, ◌++◌, map, length, Ok, ◌∙◌, subst, arith}
use Rattle.std.specs.Prelude.{nat_le, nat_lt, ◌&&◌}
use Rattle.std.specs.List.{All}
use Rattle.std.proofs.Math.Nat.{mul-le-mul_left}
use Rattle.std.proofs.lemmas.Bool.{leb-true, ltb-true, ltb-false}
use Rattle.std.proofs.lemmas.List.Elements.{All-nil, All-cons, All-head, All-tail}
use Rattle.p3l_ast.specs.declared.refusal.Fault.{Fault}
use Rattle.p3l_ast.specs.declared.refusal.Fault.TheVariants.{Twice}
use Rattle.p3l_ast.specs.declared.port.Num.{Num}
use Rattle.p3l_ast.specs.declared.port.Port.{Port}
use Rattle.p3l_skel.specs.Lawful.{IsSize}
use Rattle.p3l_types.specs.declared.shape.Shape.{Shape}
use Rattle.p3l_types.specs.Constants.{Constants, number_of, natural}
use Rattle.p3l_types.specs.Shape.{product, is_size, size_of, sizes_of, shape_of}
use Rattle.p3l_body.specs.declared.var.Var.{Var}
use Rattle.p3l_body.specs.declared.ports.Ports.{Ports}
use Rattle.p3l_body.specs.Scope.{Names, named, fresh, measured, declared_one, declared}
use Rattle.p3l_body.specs.Seq.{ports_of}
use Rattle.p3l_calls.specs.Port.{total, IsSized, AreSized}
use Rattle.p3l_calls.proofs.Kept.{given-taken, chosen, not_chosen, both-left, both-right}

size-sized : (constants : Constants) (k : ℕ) (num : Num) (size : ℕ) → size_of constants k num ≡ Ok size → IsSize size × (k < 3)
size-sized constants k num size e =
    let found = given-taken (number_of constants num) _ size e in
    let n : ℕ = natural found.0 in
    let tests = chosen (is_size n && nat_lt k 3) n size _ found.2 in
    let in_limits : is_size n ≡ true = both-left (is_size n) (nat_lt k 3) tests.0 in
    let low : 1 ≤ n = leb-true 1 n (both-left (nat_le 1 n) (nat_le n 65536) in_limits) in
    let high : n ≤ 65536 = leb-true n 65536 (both-right (nat_le 1 n) (nat_le n 65536) in_limits) in
    (subst (λ m. IsSize m) tests.1 (low, high), ltb-true k 3 (both-right (is_size n) (nat_lt k 3) tests.0))

sizes-sized : (constants : Constants) (k : ℕ) (nums : List Num) (sizes : List ℕ) → k ≤ 3 → sizes_of constants k nums ≡ Ok sizes →
    All IsSize sizes × (k + length sizes ≤ 3)
sizes-sized constants k [] sizes h e =
    let none : [] ≡ sizes = cc in
    subst (λ ss. All IsSize ss × (k + length ss ≤ 3)) none (All-nil IsSize, omega arith)
sizes-sized constants k (num ∷ nums) sizes h e =
    let here = given-taken (size_of constants k num) _ sizes e in
    let more = given-taken (sizes_of constants (k + 1) nums) _ sizes here.2 in
    let size = size-sized constants k num here.0 here.1 in
    let rest = sizes-sized constants (k + 1) nums more.0 (omega (arith, size.1)) more.1 in
    let all : here.0 ∷ more.0 ≡ sizes = cc (more.2) in
    subst (λ ss. All IsSize ss × (k + length ss ≤ 3)) all (All-cons IsSize here.0 more.0 size.0 rest.0, omega (arith, rest.1))

shape-sized : (constants : Constants) (port : Port) (shape : Shape) → shape_of constants port ≡ Ok shape → IsSized shape
shape-sized constants port shape e =
    let found = given-taken (sizes_of constants 0 port.sizes) _ shape e in
    let sized = sizes-sized constants 0 port.sizes found.0 (omega arith) found.1 in
    let made : Shape = record { sizes = found.0 } in
    let all : made ≡ shape = (chosen (nat_le (product found.0) 65536) made shape _ found.2).1 in
    let first : IsSized made = record { few = omega (arith, sized.1); sizes = sized.0 } in
    subst IsSized all first

one-sized : (fault : Fault) (constants : Constants) (names : Names) (words : ℕ) (port : Port) (var : Var) →
    declared_one fault constants names words port ≡ Ok var → IsSized var.shape × (words + product var.shape.sizes ≤ 65536)
one-sized fault constants names words port var e =
    let whole = given-taken (measured constants words port) _ var e in
    let named_so = given-taken (fresh fault constants names port.at) _ var whole.2 in
    let same : whole.0 ≡ var = cc (named_so.2) in
    let found = given-taken (shape_of constants port) _ whole.0 whole.1 in
    let made : Var = record { name = port.at.name; shape = found.0 } in
    let measure = not_chosen (nat_lt 65536 (words + product found.0.sizes)) made whole.0 _ found.2 in
    let few : words + product found.0.sizes ≤ 65536 = ltb-false 65536 (words + product found.0.sizes) measure.0 in
    subst (λ (v : Var). IsSized v.shape × (words + product v.shape.sizes ≤ 65536)) (measure.1 ∙ same) (shape-sized constants port found.0 found.1, few)

-- declarations after others of n words
pub declared-sized : (fault : Fault) (is_fixed : Bool) (constants : Constants) (names : Names) (words : ℕ) (ports : List Port) (vars : List Var) →
    words ≤ 65536 → declared fault is_fixed constants names words ports ≡ Ok vars →
    All (λ (v : Var). IsSized v.shape) vars × (words + total vars ≤ 65536)
declared-sized fault is_fixed constants names words [] vars h e =
    let none : [] ≡ vars = cc in
    subst (λ vs. All (λ (v : Var). IsSized v.shape) vs × (words + total vs ≤ 65536)) none (All-nil (λ (v : Var). IsSized v.shape), omega arith)
declared-sized fault is_fixed constants names words (port ∷ ports) vars h e =
    let here = given-taken (declared_one fault constants names words port) _ vars e in
    let more = given-taken (declared fault is_fixed constants (names ++ named is_fixed here.0 ∷ []) (words + product here.0.shape.sizes) ports) _ vars here.2 in
    let one = one-sized fault constants names words port here.0 here.1 in
    let rest = declared-sized fault is_fixed constants (names ++ named is_fixed here.0 ∷ []) (words + product here.0.shape.sizes) ports more.0 one.1 more.1 in
    let all : here.0 ∷ more.0 ≡ vars = cc (more.2) in
    subst (λ vs. All (λ (v : Var). IsSized v.shape) vs × (words + total vs ≤ 65536)) all
    (All-cons (λ (v : Var). IsSized v.shape) here.0 more.0 one.0 rest.0, omega (arith, rest.1))

-- the ports of a module
pub ports-sized : (constants : Constants) (in_ports out_ports : List Port) (ports : Ports) →
    ports_of constants in_ports out_ports ≡ Ok ports → AreSized ports.ins × AreSized ports.outs
ports-sized constants in_ports out_ports ports e =
    let ins = given-taken (declared Twice true constants [] 0 in_ports) _ ports e in
    let outs = given-taken (declared Twice false constants (map (named true) ins.0) 0 out_ports) _ ports ins.2 in
    let taken = declared-sized Twice true constants [] 0 in_ports ins.0 (omega arith) ins.1 in
    let given_back = declared-sized Twice false constants (map (named true) ins.0) 0 out_ports outs.0 (omega arith) outs.1 in
    let made : Ports = record { ins = ins.0; outs = outs.0 } in
    let same : made ≡ ports = cc (outs.2) in
    let first : AreSized made.ins = record { each = taken.0; few_words = omega (arith, taken.1) } in
    let second : AreSized made.outs = record { each = given_back.0; few_words = omega (arith, given_back.1) } in
    subst (λ (p : Ports). AreSized p.ins × AreSized p.outs) same (first, second)

-- arrays have words
product-some : (sizes : List ℕ) → All IsSize sizes → 1 ≤ product sizes
product-some [] h = omega arith
product-some (size ∷ sizes) h =
    let here = All-head IsSize size sizes h in
    let rest : 1 ≤ product sizes = product-some sizes (All-tail IsSize size sizes h) in
    omega (arith, here.0, mul-le-mul_left size rest)

pub total-some : (vars : List Var) → AreSized vars → 1 ≤ length vars → 1 ≤ total vars
total-some [] sized h = absurd (omega arith)
total-some (var ∷ vars) sized h =
    let here : IsSized var.shape = All-head (λ (v : Var). IsSized v.shape) var vars sized.each in
    omega (arith, product-some var.shape.sizes here.sizes)
